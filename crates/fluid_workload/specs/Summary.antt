-- What a workload writes: seven lines, read from the document and from its two containers.
use Rattle.std.specs.Prelude.{◌≡◌, ℕ, Bool, true, false, List, [], ◌∷◌, ◌++◌, length, count_by, codes, decimal, bytes_eq, Option, Some, None, if◌then◌else◌}
use Rattle.std.specs.FinMap.{get}
use Rattle.hex.specs.Hex.{encode_lower}
use Rattle.fluid_types.specs.declared.verdicts.Verdict.{Verdict}
use Rattle.fluid_types.specs.declared.verdicts.Verdict.TheVariants.{Absorbed}
use Rattle.fluid_types.specs.Ledger.{Ledger, order, seq}
use Rattle.fluid_rules.specs.Scribe.{acks}
use Rattle.fluid_rules.specs.declared.limits.Limits.{Limits}
use Rattle.fluid_edits.specs.Replay.{Channels, no_channels}
use Rattle.fluid_voice.specs.Replies.{is_dropped, is_nacked}
use Rattle.fluid_gen.specs.Acts.{acts as acts_of}
use Rattle.fluid_transcript.specs.World.{World, Name, connection, container, roamer, used_up}
use Rattle.fluid_transcript.specs.Containers.{channels, app_id}
use Rattle.fluid_transcript.specs.Sound.{ledger_in}
use Rattle.fluid_transcript.specs.Transcript.{written}
use Rattle.fluid_workload.specs.Working.{p, q, Workload, begun, work_ledger, behind_acts}

abbrev pub is_absorbed : Verdict → Bool
is_absorbed Absorbed = true
is_absorbed other = false

-- so many entries have such a verdict
abbrev pub count : (Verdict → Bool) → Ledger → ℕ
count is l = count_by (λ entry. is entry.1) l

-- the channels of a container; where none was loaded there are none
abbrev pub channels_of : World → Option Name → Channels
channels_of w None = no_channels
channels_of w (Some (connection voice)) = no_channels
channels_of w (Some (container k)) = channels (ledger_in w k.document) k
channels_of w (Some (roamer k)) = no_channels
channels_of w (Some used_up) = no_channels

-- the id of a container's app tree
abbrev pub state : Workload → (name : List ℕ) → List ℕ
state w name = app_id (channels_of w.world (get w.world.names name))

abbrev pub sameness : (one other : List ℕ) → List ℕ
sameness one other = if bytes_eq one other then codes "same" else codes "different"

-- a word, and a number behind it
abbrev pub counted : List ℕ → ℕ → List ℕ
counted word number = word ++ (codes " " ++ decimal number)

abbrev pub summary_of : Ledger → (p q : List ℕ) → List (List ℕ)
summary_of l p q =
    counted (codes "messages") (seq l)
    ∷ counted (codes "dropped") (count is_dropped l)
    ∷ counted (codes "absorbed") (count is_absorbed l)
    ∷ counted (codes "nacked") (count is_nacked l)
    ∷ counted (codes "summaries") (length (acks (order l)))
    ∷ (codes "state " ++ encode_lower p)
    ∷ (codes "loaded " ++ sameness p q)
    ∷ []

-- the lines behind a workload's acts
abbrev pub summary : Workload → List (List ℕ)
summary w = summary_of (work_ledger w) (state w p) (state w q)

-- behind all acts of the workload of this number, with so many clients and ops
abbrev pub behind_all : Limits → World → (number clients ops : ℕ) → Workload
behind_all limits w number clients ops = behind_acts limits (begun w) (acts_of number clients ops)

-- and what it writes
abbrev pub written_by : Limits → World → (number clients ops : ℕ) → List ℕ
written_by limits w number clients ops = written (summary (behind_all limits w number clients ops))

-- its two containers have the same state, so its last line is `loaded same`
abbrev pub LoadsSame : Limits → World → (number clients ops : ℕ) → Type 0
LoadsSame limits w number clients ops = state (behind_all limits w number clients ops) p ≡ state (behind_all limits w number clients ops) q
