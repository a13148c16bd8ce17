-- The wire in memory: what it holds, and what each call of it answers.
use Rattle.std.specs.Prelude.{ℕ, ◌+◌, ◌==◌, Bool, List, [], ◌∷◌, ◌++◌, length, drop, Some, Result, Ok, Err, nat_lt, if◌then◌else◌}
use Rattle.std.specs.List.{list_any}
use Rattle.fluid_io.specs.Causes.{one_more}
use Rattle.fluid_io.specs.Plan.{Planned, next_fails}
use Rattle.fluid_io.specs.declared.lines.TheConstants.{LONGEST_TEXT}
use Rattle.fluid_lines.specs.declared.wire.WireText.{WireText}
use Rattle.fluid_lines.specs.declared.wire.WireText.TheVariants.{In}
use Rattle.fluid_lines.specs.declared.wire.Recv.{Recv}
use Rattle.fluid_lines.specs.declared.wire.Recv.TheVariants.{Text, Quiet, End, TooLong}
use Rattle.fluid_lines.specs.declared.wire.WireFault.{WireFault}
use Rattle.fluid_lines.specs.declared.wire.WireFault.TheVariants.{Failed}
use Rattle.fluid_lines.specs.Wires.{Wiring}

pub record MemoryWiring : Type 0 where
  -- the texts that came in and went out
  pub history : List WireText
  -- the texts that are still to come in
  pub texts : List (List ℕ)
  -- the plans by which receives and sends fail
  pub receives : Planned
  pub sends : Planned
  -- which receives are quiet, and how many were
  pub quiet : List ℕ
  pub quiets : ℕ

-- the wire in memory as a wire: it tells all, and its faults are those of both plans
abbrev pub memory_seen : MemoryWiring → Wiring
memory_seen w = record {
  history = Some w.history;
  texts = Some w.texts;
  quiets = w.quiets;
  faults = w.receives.faults + w.sends.faults;
}

-- whether the next receive is to be quiet; the first one has number 1
abbrev pub next_quiet : MemoryWiring → Bool
next_quiet w = list_any (λ number. number == one_more w.receives.calls) w.quiet

-- the answer by the texts to come
abbrev pub text_answer : List (List ℕ) → Recv
text_answer [] = End
text_answer (next ∷ more) = if nat_lt LONGEST_TEXT (length next) then TooLong (length next) else Text next

-- the answer to a receive, where there is memory for it: a planned fault first, and then a planned quiet answer
abbrev pub recv_answer : MemoryWiring → Result Recv WireFault
recv_answer w =
    if next_fails w.receives then Err Failed
    else (if next_quiet w then Ok Quiet else Ok (text_answer w.texts))

-- the texts to come after an answer: a text that is too long is passed over
abbrev pub texts_after : List (List ℕ) → Result Recv WireFault → List (List ℕ)
texts_after texts (Ok (Text text)) = drop 1 texts
texts_after texts (Ok Quiet) = texts
texts_after texts (Ok End) = texts
texts_after texts (Ok (TooLong size)) = drop 1 texts
texts_after texts (Err fault) = texts

-- the answer to a send, where there is memory for it
abbrev pub send_answer : MemoryWiring → Result (Unit {0}) WireFault
send_answer w = if next_fails w.sends then Err Failed else Ok tt

-- the history after a receive: a text that came in stands at its end
abbrev pub history_after : List WireText → Result Recv WireFault → List WireText
history_after history (Ok (Text text)) = history ++ In text ∷ []
history_after history (Ok Quiet) = history
history_after history (Ok End) = history
history_after history (Ok (TooLong size)) = history
history_after history (Err fault) = history
