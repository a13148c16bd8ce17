-- Edits laid over the channels one after another.
use Rattle.std.proofs.Common.{◌≡◌, ℕ, suc, ◌+◌, ◌<◌, ◌≤◌, Bool, List, [], ◌∷◌, ◌++◌, length, get_or, take, Option, Some, None, option_map, refl, sym, ap, ◌∙◌, arith}
use Rattle.std.proofs.Math.Seq.{take-suc}
use Rattle.std.proofs.lemmas.List.{take_all}
use Rattle.std.proofs.lemmas.List.Sums.{fold-append}
use Rattle.std.specs.List.{cons_option}
use Rattle.std.specs.Option.{option_or}
use Rattle.std.specs.FinMap.{get}
use Rattle.fluid_table.proofs.Places.{same_values}
use Rattle.fluid_edits.specs.declared.edit.ChannelKind.{ChannelKind}
use Rattle.fluid_edits.specs.declared.edit.Edit.{Edit}
use Rattle.fluid_edits.specs.Replay.{Channels, attached, after, replay_edits, replay}
use Rattle.fluid_types.specs.declared.messages.Message.{Message}
use Rattle.fluid_edits.specs.Forms.{edit_of}
use Rattle.fluid_edits.proofs.Replays.{replayed_on_law}
use Rattle.fluid_runtime.specs.App.{AnApp, StandsFor, after_any, after_message, left}
use Rattle.fluid_runtime.specs.Kinds.{first_attached}
use Rattle.fluid_runtime.specs.Slots.{Slots, each, settled_slot, IsSound}
use Rattle.fluid_runtime.specs.declared.slots.Slot.{Slot}
use Rattle.fluid_runtime.proofs.Each.{get_each, each_alike}
use Rattle.fluid_runtime.proofs.Told.{settled_alike}

pub pushed_take : {A : Type 0} (xs : List A) (n : ℕ) (x : A) → n < length xs → x ≡ get_or xs n x → take n xs ++ x ∷ [] ≡ take (n + 1) xs
pushed_take xs n x within is =
    let more : suc n ≡ n + 1 = omega arith in
    ap (λ y. take n xs ++ y ∷ []) is ∙ sym (take-suc xs n x within) ∙ ap (λ k. take k xs) more

pub laid_on : (channels so_far behind : Channels) (edits : List Edit) (n : ℕ) (edit : Edit) → so_far ≡ replay_edits channels (take n edits) → n < length edits
    → edit ≡ get_or edits n edit → behind ≡ after so_far edit → behind ≡ replay_edits channels (take (n + 1) edits)
laid_on channels so_far behind edits n edit first_ones within is laid =
    laid ∙ ap (λ c. after c edit) first_ones ∙ sym (fold-append after channels (take n edits) (edit ∷ [])) ∙ ap (replay_edits channels) (pushed_take edits n edit within is)

pub laid_all : (channels so_far : Channels) (edits : List Edit) (n : ℕ) → so_far ≡ replay_edits channels (take n edits) → length edits ≤ n → so_far ≡ replay_edits channels edits
laid_all channels so_far edits n is all = is ∙ ap (replay_edits channels) (take_all n edits all)

pub laid_both : (channels : Channels) (older newer : List Edit) → replay_edits (replay_edits channels older) newer ≡ replay_edits channels (older ++ newer)
laid_both channels older newer = sym (fold-append after channels older newer)

-- ---- one message more

one_message : (channels : Channels) (edit : Option Edit) → replay_edits channels (cons_option edit []) ≡ after_any channels edit
one_message channels None = refl
one_message channels (Some edit) = refl

pub stands_on : (base : Channels) (messages : List Message) (message : Message) (edits : List Edit) (own : Bool) (before behind : AnApp) → behind.channels ≡ after_message before.channels message
    → behind.pending ≡ left own message before.pending → StandsFor base messages edits before → StandsFor base (messages ++ message ∷ []) (left own message edits) behind
stands_on base messages message edits own before behind counted struck stands = record {
  channels =
      counted
      ∙ ap (λ c. after_message c message) stands.channels
      ∙ sym (one_message (replay base messages) (edit_of message)) ∙ sym (replayed_on_law base messages (message ∷ []));
  pending = struck ∙ ap (left own message) stands.pending;
}

-- ---- the first attach in one list or in the next

or_or : (one two three : Option ChannelKind) → option_or one (option_or two three) ≡ option_or (option_or one two) three
or_or None two three = refl
or_or (Some kind) two three = refl

pub attached_in_both : (at : List ℕ) (older newer : List Edit) → first_attached at (older ++ newer) ≡ option_or (first_attached at older) (first_attached at newer)
attached_in_both at [] newer = refl
attached_in_both at (edit ∷ older) newer =
    ap (option_or (attached at edit)) (attached_in_both at older newer) ∙ or_or (attached at edit) (first_attached at older) (first_attached at newer)

-- ---- a copy

itself : (found : Option Slot) → option_map (λ slot. slot) found ≡ found
itself None = refl
itself (Some slot) = refl

-- nothing is pending in what is kept, so a copy without it is the same
pub settled_same : (taken : ℕ) (slots : Slots) → IsSound taken slots → each settled_slot slots ≡ slots
settled_same taken slots sound =
    each_alike settled_slot (λ slot. slot) slots (λ at slot found. settled_alike taken slot (sound at slot found))
    ∙ same_values _ _ (λ at. get_each (λ slot. slot) slots at ∙ itself (get slots at))
