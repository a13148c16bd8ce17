-- Over a desk on which nothing is kept no document comes to the end of its numbers, and nothing that is stored is refused.
use Rattle.std.proofs.Common.{◌≡◌, ◌⊎◌, inl, inr, ℕ, ◌+◌, ◌*◌, ◌≤◌, Bool, true, false, if◌then◌else◌, List, [], ◌∷◌, ◌++◌, length, Option, Some, None, arith, refl, sym, ap, subst, ◌∙◌}
use Rattle.std.specs.Prelude.{unwrap_or}
use Rattle.std.specs.FinMap.{empty, insert, get-empty}
use Rattle.fluid_table.specs.Table.{byte_order}
use Rattle.fluid_rules.specs.declared.limits.Limits.{Limits}
use Rattle.fluid_voice.specs.declared.refusals.ConnectRefusal.TheVariants.{TooManyDocuments}
use Rattle.fluid_voice.specs.Ends.{is_beyond}
use Rattle.fluid_transcript.specs.World.{Document, World, new_document, document, is_open, with_entries, farewells, first_world, says, does}
use Rattle.fluid_transcript.specs.Lines.{turned_away_line}
use Rattle.fluid_transcript.specs.Transcript.{readied, at_line, behind, end_effect, loaded_last}
use Rattle.fluid_transcript.proofs.Stepping.{moment_is_lines}
use Rattle.fluid_world.specs.Taking.{IsLong}
use Rattle.fluid_world.specs.Ending.{full, Outside, IsLongAtLast, GrowsLong}
use Rattle.fluid_load.specs.Ending.{IsNearlyFull}
use Rattle.fluid_words.specs.declared.command.Command.TheVariants.{Sequence, Script, Load, Workload, Serve, Help, Version}
use Rattle.fluidd.specs.Scripts.{Scripts}
use Rattle.fluidd.specs.Served.{IsServeStatus}
use Rattle.fluidd.specs.Tasks.{Task, Doing, Showing, Usage, UsesDesk, scripting}
use Rattle.fluidd.specs.Workloads.{IsBetween, Summarizes}
use Rattle.fluidd.proofs.Nothing.{no_entry}
use Rattle.fluidd.proofs.Short.{IsShort, AreShort, all_weaker, slack, behind_short, last_short}

-- ---- moments

readied_moment : (w : World) (name : List ℕ) → (readied w name).moment ≡ w.moment
readied_moment w name = by (is_open w name)
  where
    by : (b : Bool) → (if b then w else (record w {
      documents = insert w.documents name (with_entries (farewells w.moment (document w name)) (document w name));
      opened = w.opened ++ name ∷ [];
    })).moment ≡ w.moment
    by true = refl
    by false = refl

last_moment : (limits : Limits) (w : World) (name : List ℕ) → (loaded_last limits w name).world.moment ≡ w.moment + 1
last_moment limits w name = by (is_beyond (at_line w).opened name)
  where
    by : (b : Bool) → (if b then does (says (at_line w) (turned_away_line name TooManyDocuments ∷ [])) None (at_line w)
        else does (end_effect limits (readied (at_line w) name) name) (Some name) (readied (at_line w) name)).world.moment ≡ w.moment + 1
    by true = refl
    by false = readied_moment (at_line w) name

-- ---- the first world

first_short : (entries : ℕ) → AreShort entries 0 (first_world empty empty)
first_short entries name =
    subst (λ (d : Document). IsShort entries 0 d.raws) (sym (ap (λ o. unwrap_or o new_document) (get-empty byte_order name)))
    (record { counted = omega arith; few = omega arith })

-- each line brings so many others at most
slack_is : (lines : List (List ℕ)) (others : ℕ) → slack full others lines ≡ others + length lines * 8388610
slack_is [] others = omega arith
slack_is (line ∷ lines) others = omega (arith, slack_is lines (others + 4194305 + 4194305))

not_long : (w : World) (n : ℕ) → w.moment ≡ n → AreShort 4194304 (n * 8388610) w → IsLong w → ⊥
not_long w n is short long =
    let few : w.moment ≤ 16777218 = long.0 in
    let many : 9007199254740991 ≤ length (document w long.1.0).raws + w.moment + 1 = long.1.1 in
    absurd (omega (arith, is, few, many, (short long.1.0).counted, (short long.1.0).few))

pub never_long : (load input : Option (List ℕ)) → GrowsLong full (first_world empty empty) load input → ⊥
never_long load input g = by g.long
  where
    moment : (behind full (first_world empty empty) g.lines).moment ≡ length g.lines
    moment = moment_is_lines full (first_world empty empty) g.lines ∙ omega arith

    short : AreShort 4194304 (length g.lines * 8388610) (behind full (first_world empty empty) g.lines)
    short = all_weaker 4194304 (slack full 0 g.lines) (length g.lines * 8388610) (behind full (first_world empty empty) g.lines) (omega (arith, slack_is g.lines 0))
        (behind_short full 0 (first_world empty empty) g.lines (first_short 4194304))

    at : (load : Option (List ℕ)) → IsLongAtLast full (behind full (first_world empty empty) g.lines) load → ⊥
    at None h = h
    at (Some name) h =
        let w = behind full (first_world empty empty) g.lines in
        not_long (loaded_last full w name).world (length g.lines + 1) (last_moment full w name ∙ omega (arith, moment))
        (all_weaker 4194304 (length g.lines * 8388610 + 4194305 + 4194305) ((length g.lines + 1) * 8388610) (loaded_last full w name).world (omega arith)
        (last_short full (length g.lines * 8388610) w name short)) h

    by : IsLong (behind full (first_world empty empty) g.lines) ⊎ IsLongAtLast full (behind full (first_world empty empty) g.lines) load → ⊥
    by (inl h) = not_long (behind full (first_world empty empty) g.lines) (length g.lines) moment short h
    by (inr h) = at load h

-- so a script over such a desk never has the status of a worn document
pub never_worn : (load : Option (List ℕ)) (before now : Outside) (status : ℕ) → Scripts (Some (first_world empty empty)) load before now status → status ≡ 11 → ⊥
never_worn load before now status s is = never_long load before.source.left ((s.writes (first_world empty empty) refl).worn is).1

-- a workload adds far fewer entries than there are numbers
not_full : (clients ops : ℕ) → IsBetween 1 1000 clients → IsBetween 1 100000 ops → IsNearlyFull (first_world empty empty) clients ops → ⊥
not_full clients ops (one, few) (some, many) (name, full) = absurd (omega (arith, few, many, full, ap length (no_entry name)))

-- so no workload over such a desk has it
pub never_full : (number clients ops : ℕ) (before now : Outside) (status : ℕ) → IsBetween 1 1000 clients → IsBetween 1 100000 ops → Summarizes (Some (first_world empty empty)) number clients ops before now status → status ≡ 11 → ⊥
never_full number clients ops before now status few many s is = not_full clients ops few many ((s.writes (first_world empty empty) refl).worn is).1

-- `serve` has no such status
pub never_served : (status : ℕ) → IsServeStatus status → status ≡ 11 → ⊥
never_served status (inl is) eleven = absurd (omega (arith, is, eleven))
never_served status (inr (inl is)) eleven = absurd (omega (arith, is, eleven))
never_served status (inr (inr (inl is))) eleven = absurd (omega (arith, is, eleven))
never_served status (inr (inr (inr is))) eleven = absurd (omega (arith, is, eleven))

-- so none that uses the desk has
pub never_stored : (t : Task) (status : ℕ) → ((load : Option (List ℕ)) → t ≡ Doing (scripting load) → status ≡ 11 → ⊥) → ((number clients ops : ℕ) → t ≡ Doing (Workload number clients ops) → status ≡ 11 → ⊥)
    → ((port connections : ℕ) (lines : Bool) → t ≡ Doing (Serve port connections lines) → status ≡ 11 → ⊥) → UsesDesk t → status ≡ 11 → ⊥
never_stored (Doing Script) status script work serve uses is = script None refl is
never_stored (Doing (Load document)) status script work serve uses is = script (Some document) refl is
never_stored (Doing (Workload number clients ops)) status script work serve uses is = work number clients ops refl is
never_stored (Doing (Serve port connections lines)) status script work serve uses is = serve port connections lines refl is
never_stored (Doing Sequence) status script work serve uses is = absurd uses
never_stored (Doing (Help topic)) status script work serve uses is = absurd uses
never_stored (Doing Version) status script work serve uses is = absurd uses
never_stored (Showing text) status script work serve uses is = absurd uses
never_stored Usage status script work serve uses is = absurd uses
