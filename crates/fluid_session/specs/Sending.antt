-- Replies that are sent.
use Rattle.std.specs.Prelude.{◌≡◌, ⊤, ℕ, ◌≤◌, List, [], ◌∷◌, ◌++◌, map, Result, Ok, Err}
use Rattle.std.specs.Option.{option_map}
use Rattle.fluid_io.specs.Causes.{Rose}
use Rattle.fluid_turn.specs.Entries.{IsPrefix}
use Rattle.fluid_codec.specs.declared.replies.Reply.{Reply}
use Rattle.fluid_codec.specs.Replies.{reply_printed}
use Rattle.fluid_lines.specs.declared.wire.WireText.{WireText}
use Rattle.fluid_lines.specs.declared.wire.WireText.TheVariants.{In, Out}
use Rattle.fluid_lines.specs.declared.wire.WireFault.{WireFault}
use Rattle.fluid_lines.specs.declared.wire.WireFault.TheVariants.{Failed, NoMemory}
use Rattle.fluid_lines.specs.Wires.{Wiring}

-- the texts of replies
abbrev pub out_texts : List Reply → List WireText
out_texts replies = map (λ r. Out (reply_printed r)) replies

-- these texts were added to the history, where the wire tells it
abbrev pub AddsAll : List WireText → Wiring → Wiring → Type 0
AddsAll texts old new = new.history ≡ option_map (λ history. history ++ texts) old.history

-- those of the texts that came in
abbrev pub ins_of : List WireText → List (List ℕ)
ins_of [] = []
ins_of (In text ∷ texts) = text ∷ ins_of texts
ins_of (Out text ∷ texts) = ins_of texts

-- the texts went out or came in, and nothing else was taken of those to come; no count fell
pub record Passes (texts : List WireText) (old new : Wiring) : Type 0 where
  pub adds : AddsAll texts old new
  pub taken : old.texts ≡ option_map (λ more. ins_of texts ++ more) new.texts
  pub quiets : old.quiets ≤ new.quiets
  pub faults : old.faults ≤ new.faults

-- a fault of a wire comes only where its count rose; want of memory is free
abbrev pub IsWireCause : Wiring → Wiring → WireFault → Type 0
IsWireCause old new Failed = Rose old.faults new.faults
IsWireCause old new NoMemory = ⊤

abbrev pub HasWireCause : Wiring → Wiring → Result (Unit {0}) WireFault → Type 0
HasWireCause old new (Ok done) = ⊤
HasWireCause old new (Err fault) = IsWireCause old new fault

-- all replies are sent, or a prefix of them
abbrev pub IsSent : Result (Unit {0}) WireFault → (sent replies : List Reply) → Type 0
IsSent (Ok done) sent replies = sent ≡ replies
IsSent (Err fault) sent replies = IsPrefix sent replies

pub record SendsAll (old new : Wiring) (replies : List Reply) (result : Result (Unit {0}) WireFault) : Type 0 where
  pub sent : List Reply
  pub is_sent : IsSent result sent replies
  pub passes : Passes (out_texts sent) old new
  pub cause : HasWireCause old new result

-- the same of one
abbrev pub sent_one : Reply → Result (Unit {0}) WireFault → List Reply
sent_one reply (Ok done) = reply ∷ []
sent_one reply (Err fault) = []

pub record SendsOne (old new : Wiring) (reply : Reply) (result : Result (Unit {0}) WireFault) : Type 0 where
  pub passes : Passes (out_texts (sent_one reply result)) old new
  pub cause : HasWireCause old new result
