-- What lines write, one after another.
use Rattle.std.specs.Prelude.{ℕ, ◌+◌, ◌==◌, List, [], ◌∷◌, ◌++◌, length, Option, Some, None, is_some, Result, Ok, Err, if◌then◌else◌, refl}
use Rattle.std.specs.List.{flat_map}
use Rattle.std.specs.FinMap.{insert}
use Rattle.fluid_types.specs.Ledger.{order}
use Rattle.fluid_rules.specs.Scribe.{last_ack}
use Rattle.fluid_rules.specs.declared.limits.Limits.{Limits}
use Rattle.fluid_runtime.specs.Shown.{shown}
use Rattle.fluid_pipe.specs.Meaning.{Meaning}
use Rattle.fluid_pipe.specs.declared.refusal.Refusal.{Refusal}
use Rattle.fluid_pipe.specs.declared.refusal.Refusal.TheVariants as pipe
use Rattle.fluid_steps.specs.Grammar.{step_spelled}
use Rattle.fluid_steps.specs.Refusals.{why_text}
use Rattle.fluid_steps.specs.declared.steps.Step.{Step}
use Rattle.fluid_loader.specs.declared.link.Pick.{Pick}
use Rattle.fluid_loader.specs.declared.link.Pick.TheVariants.{Empty, Latest}
use Rattle.fluid_steps.specs.declared.refusal.LineWhy.{LineWhy}
use Rattle.fluid_steps.specs.declared.refusal.LineWhy.TheVariants.{TooLong, NotUtf8, TooMany}
use Rattle.fluid_voice.specs.declared.refusals.ConnectRefusal.TheVariants.{TooManyDocuments}
use Rattle.fluid_voice.specs.Ends.{is_beyond}
use Rattle.fluid_transcript.specs.World.{Document, new_document, World, document, with_entries, farewells, is_open, ledger_of, Effect, says, Told, does}
use Rattle.fluid_transcript.specs.Lines.{turned_away_line, no_summary_line, bad_summary_line, shown_line}
use Rattle.fluid_transcript.specs.Containers.{Loading, turned_away, no_summary, bad_summary, loaded, visible, loading, joined_for}
use Rattle.fluid_transcript.specs.Steps.{refusal, about, effect, beyond}

-- ---- first uses

-- a document that is used is open: at its first use all that are joined leave
abbrev pub readied : World → List ℕ → World
readied w name =
    if is_open w name then w
    else record w {
      documents = insert w.documents name (with_entries (farewells w.moment (document w name)) (document w name));
      opened = w.opened ++ name ∷ [];
    }

-- ---- a step

-- a step on a document that is open
abbrev pub done_in : Limits → World → (name : List ℕ) → Step → Told
done_in limits w name step = does (effect limits w (document w name) step) (Some name) w

abbrev pub done_on : Limits → World → Option (List ℕ) → Step → Told
done_on limits w None step = does (effect limits w new_document step) None w
done_on limits w (Some name) step =
    if is_beyond w.opened name then does (beyond limits w name step) None w else done_in limits (readied w name) name step

-- the world behind a step, and what it writes
abbrev pub done : Limits → World → Step → Told
done limits w step = done_on limits w (about w step) step

-- ---- a line

-- the moment of a step is the number of its line
abbrev pub at_line : World → World
at_line w = record w { moment = w.moment + 1 }

abbrev pub done_as : Limits → World → Result Step LineWhy → Told
done_as limits w (Ok step) = done limits w step
done_as limits w (Err why) = record { world = w; lines = [] }

-- an empty line is passed over. A line that is refused isn't taken: what this says of one means nothing
abbrev pub taken : Limits → World → List ℕ → Told
taken limits w line = if length line == 0 then record { world = at_line w; lines = [] } else done_as limits (at_line w) (step_spelled line)

-- why a line is refused: it spells no step, or the step's name isn't what is wanted
abbrev pub refused_as : World → Result Step LineWhy → Option LineWhy
refused_as w (Ok step) = refusal w step
refused_as w (Err why) = Some why

abbrev pub text_refusal : World → List ℕ → Option LineWhy
text_refusal w line = if length line == 0 then None else refused_as w (step_spelled line)

-- ---- lines

-- the world behind lines
abbrev pub behind : Limits → World → List (List ℕ) → World
behind limits w [] = w
behind limits w (line ∷ lines) = behind limits (taken limits w line).world lines

-- what they write
abbrev pub lines_of : Limits → World → List (List ℕ) → List (List ℕ)
lines_of limits w [] = []
lines_of limits w (line ∷ lines) = (taken limits w line).lines ++ lines_of limits (taken limits w line).world lines

-- lines with their ends
abbrev pub written : List (List ℕ) → List ℕ
written lines = flat_map (λ line. line ++ 10 ∷ []) lines

abbrev pub transcript : Limits → World → List (List ℕ) → List ℕ
transcript limits w lines = written (lines_of limits w lines)

-- what the lines of a script mean, from a world on
abbrev pub meaning : Limits → World → Meaning LineWhy
meaning limits w = record {
  refusal = λ before line. text_refusal (behind limits w before) line;
  words = why_text;
  output = transcript limits w;
  none = refl;
}

-- the same of lines that are taken before a container is loaded: what they say isn't written
abbrev pub silent : Limits → World → Meaning LineWhy
silent limits w = record (meaning limits w) { output = λ lines. []; none = refl }

-- why a line is refused, where a line that isn't read is among the causes
abbrev pub why_of : Refusal LineWhy → LineWhy
why_of pipe.TooLong = TooLong
why_of pipe.NotUtf8 = NotUtf8
why_of pipe.TooManyLines = TooMany
why_of (pipe.Text why) = why

-- ---- the last container

-- the latest summary where the document has one
abbrev pub last_pick : Document → Pick
last_pick d = if is_some (last_ack (order (ledger_of d))) then Latest else Empty

-- what is written of a container that is loaded at the end: what it shows
abbrev pub shown_at_end : Limits → World → Document → (name : List ℕ) → Loading → List ℕ
shown_at_end limits w d name (turned_away refusal) = turned_away_line name refusal
shown_at_end limits w d name no_summary = no_summary_line name
shown_at_end limits w d name (bad_summary path) = bad_summary_line name path
shown_at_end limits w d name (loaded k) = shown_line name k.number (shown (visible (ledger_of (with_entries (joined_for limits w d) d)) k))

abbrev pub end_effect : Limits → World → (name : List ℕ) → Effect
end_effect limits w name =
    record (says w (shown_at_end limits w (document w name) name (loading limits w (document w name) name (last_pick (document w name))) ∷ [])) {
      entries = joined_for limits w (document w name);
    }

-- behind the last line a container with a name of its own is loaded, at the moment behind that of the last line
abbrev pub loaded_last_in : Limits → World → (name : List ℕ) → Told
loaded_last_in limits w name =
    if is_beyond w.opened name then does (says w (turned_away_line name TooManyDocuments ∷ [])) None w
    else does (end_effect limits (readied w name) name) (Some name) (readied w name)

abbrev pub loaded_last : Limits → World → (name : List ℕ) → Told
loaded_last limits w name = loaded_last_in limits (at_line w) name

-- the one line that is written behind these lines
abbrev pub last_line : Limits → World → (name : List ℕ) → List (List ℕ) → List ℕ
last_line limits w name lines = written (loaded_last limits (behind limits w lines) name).lines
