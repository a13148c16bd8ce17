-- What `sequence` writes for an input, and what its status says.
use Rattle.std.specs.Prelude.{◌≡◌, ◌⊎◌, ℕ, List, [], ◌∷◌, ◌++◌, Option, Some, Result, Ok, Err, refl}
use Rattle.std.specs.List.{flat_map}
use Rattle.std.specs.Str.Lines.{lines}
use Rattle.fluid_io.specs.Causes.{Rose, Tells}
use Rattle.fluid_io.specs.Lines.{EndsInLineFeed}
use Rattle.fluid_io.specs.Streams.{Reading, Writing, Appends, AppendsPrefix}
use Rattle.fluid_json.specs.declared.memory.NoMemory.{NoMemory}
use Rattle.fluid_types.specs.Ledger.{Ledger}
use Rattle.fluid_types.specs.Printed.{verdict_line}
use Rattle.fluid_types.specs.declared.entries.Raw.{Raw}
use Rattle.fluid_types.specs.declared.verdicts.Verdict.{Verdict}
use Rattle.fluid_rules.specs.Rules.{ledger}
use Rattle.fluid_pipe.specs.Meaning.{Meaning, Accepts}
use Rattle.fluid_pipe.specs.Output.{IsWhole, IsRefused, IsBegun, IsInterrupted, IsCut, HasRefused, NoFault, ReadFailed, Wrote}
use Rattle.fluid_pipe.specs.declared.stop.Stop.{Stop}
use Rattle.fluid_pipe.specs.declared.stop.Stop.TheVariants as stop
use Rattle.fluid_rules.specs.declared.limits.Limits.{Limits}
use Rattle.fluidd.specs.declared.refusal.Why.{Why}
use Rattle.fluidd.specs.declared.status.Status.{Status}
use Rattle.fluidd.specs.declared.status.Status.TheVariants as status
use Rattle.fluidd.specs.Input.{records, text_refusal}
use Rattle.fluidd.specs.Refusals.{why_text}

-- the line of an entry's verdict, with its end
abbrev pub entry_line : Raw × Verdict → List ℕ
entry_line entry = verdict_line entry.0 entry.1 ++ 10 ∷ []

-- the verdict lines of a ledger
unfoldable pub verdict_lines : Ledger → List ℕ
verdict_lines l = flat_map entry_line l

-- the verdict lines for the raw entries that these lines spell
abbrev pub lines_for : List (List ℕ) → List ℕ
lines_for ls = verdict_lines (ledger (records ls))

pub lines-none : lines_for [] ≡ []
unfolding ledger records verdict_lines
lines-none = refl

-- what the lines of raw records mean to a document within these limits
abbrev pub meaning : Limits → Meaning Why
meaning limits = record {
  refusal = λ before text. text_refusal limits (ledger (records before)) text;
  words = why_text;
  output = lines_for;
  none = lines-none;
}

-- ---- statuses

-- the status with which a run ends
abbrev pub status_of : Result (Unit {0}) (Stop Why NoMemory) → Status
status_of (Ok done) = status.Done
status_of (Err (stop.Refused number why)) = status.Refused
status_of (Err stop.ReadFault) = status.ReadFault
status_of (Err stop.WriteFault) = status.WriteFault
status_of (Err stop.NoMemory) = status.NoMemory
status_of (Err (stop.Failed fault)) = status.NoMemory

-- the number of a status
abbrev pub code_of : Status → ℕ
code_of status.Done = 0
code_of status.Usage = 2
code_of status.Refused = 3
code_of status.ReadFault = 4
code_of status.WriteFault = 5
code_of status.NoMemory = 6
code_of status.KeeperFault = 7
code_of status.StoreFault = 8
code_of status.FrontFault = 9
code_of status.SpawnRefused = 10
code_of status.BadStored = 11

-- the count of faults of something didn't rise
abbrev pub IsQuiet : ℕ → ℕ → Type 0
IsQuiet before now = Rose before now → ⊥

-- there are these statuses alone
abbrev pub IsStatus : (status : ℕ) → Type 0
IsStatus status = (status ≡ 0) ⊎ ((status ≡ 3) ⊎ ((status ≡ 4) ⊎ ((status ≡ 5) ⊎ (status ≡ 6))))

-- where no line is refused and nothing failed, only memory can be wanting
abbrev pub Completes : Limits → Reading → Writing → Reading → Writing → (status : ℕ) → Type 0
Completes limits input output source sink status = (bytes : List ℕ) → input.left ≡ Some bytes → Accepts (meaning limits) [] (lines bytes) →
    IsQuiet input.faults source.faults → IsQuiet output.faults sink.faults → (status ≡ 0) ⊎ (status ≡ 6)

-- where a line is refused and nothing failed, that is told, unless memory is wanting
abbrev pub Refuses : Limits → Reading → Writing → Reading → Writing → (status : ℕ) → Type 0
Refuses limits input output source sink status = (bytes : List ℕ) → input.left ≡ Some bytes → HasRefused (meaning limits) bytes →
    IsQuiet input.faults source.faults → IsQuiet output.faults sink.faults → (status ≡ 3) ⊎ (status ≡ 6)

-- where a line that was read with its line feed is refused, that is told, unless memory is wanting or the sink failed
abbrev pub TellsRefused : Limits → Reading → Writing → Reading → Writing → (status : ℕ) → Type 0
TellsRefused limits input output source sink status = (whole part rest : List ℕ) → input.left ≡ Some (whole ++ (part ++ rest)) → source.left ≡ Some rest →
    EndsInLineFeed whole → HasRefused (meaning limits) whole → IsQuiet output.faults sink.faults → (status ≡ 3) ⊎ (status ≡ 6)

-- what the exit status of `sequence` says, of a run that began with this source and this sink and left them so
pub record Sequences (limits : Limits) (input : Reading) (output : Writing) (source : Reading) (sink : Writing) (status : ℕ) : Type 0 where
  -- 0: no line is refused, the output is the verdict lines for all of them, and nothing of the input is left
  pub whole : status ≡ 0 → Wrote (IsWhole (meaning limits)) input.left output.written sink.written × Tells source.left (λ bytes. bytes ≡ [])
  -- 3: the output is the verdict lines for the lines before the first refused one, and then the line of its fault
  pub refused : status ≡ 3 → Wrote (IsRefused (meaning limits)) input.left output.written sink.written
  -- 4: the source failed, and the sink didn't
  pub read_fault : status ≡ 4 → ReadFailed input output source sink
  -- 5: the sink failed
  pub write_fault : status ≡ 5 → Rose output.faults sink.faults
  -- 0, 3 and 6: neither failed
  pub no_fault : (status ≡ 0) ⊎ ((status ≡ 3) ⊎ (status ≡ 6)) → NoFault input output source sink
  -- 4: the output is the verdict lines for the whole lines that were read, and none of these is refused
  pub interrupted : status ≡ 4 → Wrote (IsInterrupted (meaning limits) source.left) input.left output.written sink.written
  -- 4 and 6: the output is a beginning of the whole that ends at a line's end
  pub begun : (status ≡ 4) ⊎ (status ≡ 6) → Wrote (IsBegun (meaning limits)) input.left output.written sink.written
  -- 5: it is a beginning of the whole
  pub cut : status ≡ 5 → Wrote (IsCut (meaning limits)) input.left output.written sink.written
  pub known : IsStatus status
  pub complete : Completes limits input output source sink status
  pub refuses : Refuses limits input output source sink status
  pub tells : TellsRefused limits input output source sink status

-- what the exit status says where a text is shown: this status, and the text was written and no write failed; or 5, and the
-- sink failed; or 6, and nothing was written
pub record Shows (shown : ℕ) (text : List ℕ) (output sink : Writing) (status : ℕ) : Type 0 where
  pub known : (status ≡ shown) ⊎ ((status ≡ 5) ⊎ (status ≡ 6))
  pub written : status ≡ shown → Appends text output.written sink.written
  pub no_fault : status ≡ shown → sink.faults ≡ output.faults
  pub write_fault : status ≡ 5 → Rose output.faults sink.faults
  pub cut : status ≡ 5 → AppendsPrefix text output.written sink.written
  pub nothing : status ≡ 6 → sink ≡ output
