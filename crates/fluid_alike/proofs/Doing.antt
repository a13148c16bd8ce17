-- What a step on the open document leaves.
use Rattle.std.proofs.Common.{◌≡◌, ℕ, ◌≤◌, true, false, cond, if◌then◌else◌, not, ◌&&◌, List, [], ◌∷◌, ◌++◌, length, All, Option, Some, None, IfSome, bytes_eq, refl, sym, ap, subst, ◌∙◌}
use Rattle.std.specs.Prelude.{is_some, nat_le}
use Rattle.std.specs.FinMap.{FinMap, get, insert}
use Rattle.std.proofs.lemmas.Slice.Eq.{bytes_eq-Decides}
use Rattle.fluid_table.specs.Table.{byte_order}
use Rattle.fluid_table.proofs.Places.{get_inserted}
use Rattle.fluid_types.specs.Ledger.{order}
use Rattle.fluid_types.specs.declared.entries.Raw.{Raw}
use Rattle.fluid_rules.specs.Rules.{ledger}
use Rattle.fluid_rules.specs.ScribeLaws.{AcksGrow}
use Rattle.fluid_rules.specs.declared.limits.Limits.{Limits}
use Rattle.fluid_steps.specs.declared.steps.Step.{Step}
use Rattle.fluid_steps.specs.declared.refusal.LineWhy.{LineWhy}
use Rattle.fluid_store.specs.Held.{Keeps}
use Rattle.fluid_store.specs.Laws.{GoesOnStanding}
use Rattle.fluid_voice.specs.Ends.{is_beyond}
use Rattle.fluid_transcript.specs.World.{Document, Name, World, document, is_open, ledger_of, with_entries, farewells, Effect, grown, changed, does, with_name}
use Rattle.fluid_transcript.specs.Sound.{ledger_in, IsSound}
use Rattle.fluid_transcript.specs.Steps.{refusal, about, effect, beyond}
use Rattle.fluid_transcript.specs.Transcript.{readied, done_in, done_on, done}
use Rattle.fluid_transcript.proofs.Sounds.{document_inserted}
use Rattle.fluid_transcript.proofs.Stepping.{done_leaves}
use Rattle.fluid_workload.specs.Working.{work, behind_step}
use Rattle.fluid_alike.specs.Alike.{IsReadable}
use Rattle.fluid_alike.proofs.Honest.{AllHonest, kept_honest}
use Rattle.fluid_alike.proofs.Plain.{raws_plain}
use Rattle.fluid_alike.proofs.Mild.{joins_in, IsNamedJoin, subject, joins_of, IsMildStep, mild_goes}

abbrev pub IsHonestIn : World → Type 0
IsHonestIn w = AllHonest w.store (order (ledger_in w work))

-- the document has at most one entry more, only this name changed, and what was honest is
pub record Goes (c : List ℕ) (joins : ℕ) (old new : World) : Type 0 where
  pub more : List Raw
  pub is : (document new work).raws ≡ (document old work).raws ++ more
  pub few : length more ≤ 1
  pub joining : joins_in more ≤ joins
  pub placed : All (IsNamedJoin (length (document old work).raws)) more
  pub names : (q : List ℕ) → bytes_eq q c ≡ false → get new.names q ≡ get old.names q
  pub keeps : Keeps old.store new.store
  pub honest : IsReadable old → IsHonestIn old → IsHonestIn new

-- ---- a mild step

keeps_behind : (limits : Limits) (w : World) (step : Step) → IsSound w → Keeps w.store (behind_step limits w step).store
keeps_behind limits w step sound = by (refusal w step) refl
  where
    by : (o : Option LineWhy) → refusal w step ≡ o → Keeps w.store (if is_some o then w else (done limits w step).world).store
    by None ok = (done_leaves limits w sound step ok).leaves.grows.held
    by (Some why) ok = λ id bytes has. has

pub mild_step : GoesOnStanding → AcksGrow → (limits : Limits) (w : World) (step : Step) → IsSound w → is_open w work ≡ true → IsMildStep step → Goes (subject step) (joins_of step) w (behind_step limits w step)
mild_step standing grow limits w step sound open_is mild =
    let goes = mild_goes limits w step mild open_is in
    let new = behind_step limits w step in
    record {
      more = goes.more;
      is = goes.is;
      few = goes.few;
      joining = goes.joining;
      placed = goes.placed;
      names = goes.names;
      keeps = keeps_behind limits w step sound;
      honest = λ readable was.
          subst (λ rs. AllHonest new.store (order (ledger rs))) (sym goes.is)
          (raws_plain standing grow new.store (document w work).raws goes.more goes.plain
          (kept_honest standing w.store new.store (keeps_behind limits w step sound) (order (ledger_in w work)) was));
    }

-- ---- any step on the document

readied_same : (w : World) (name : List ℕ) → is_open w name ≡ true → readied w name ≡ w
readied_same w name is =
    ap (λ b. if b then w else (record w { documents = insert w.documents name (with_entries (farewells w.moment (document w name)) (document w name)); opened = w.opened ++ name ∷ [] })) is

within : (w : World) (name : List ℕ) → is_open w name ≡ true → is_beyond w.opened name ≡ false
within w name is = ap (λ b. not b && nat_le 1024 (length w.opened)) is

pub step_done : (limits : Limits) (w : World) (step : Step) → is_open w work ≡ true → refusal w step ≡ None → about w step ≡ Some work → behind_step limits w step ≡ changed (effect limits w (document w work) step) (Some work) w
step_done limits w step open_is ok at =
    ap (λ o. if is_some o then w else (done limits w step).world) ok
    ∙ ap (λ o. (done_on limits w o step).world) at
    ∙ ap (λ b. (if b then does (beyond limits w work step) None w else done_in limits (readied w work) work step).world) (within w work open_is)
    ∙ ap (λ r. (done_in limits r work step).world) (readied_same w work open_is)

other_names : (names : FinMap byte_order Name) (c : List ℕ) (o : Option (List ℕ × Name)) → IfSome o (λ named. named.0 ≡ c) → (q : List ℕ) → bytes_eq q c ≡ false → get (with_name o names) q ≡ get names q
other_names names c None is q other = refl
other_names names c (Some named) is q other =
    get_inserted names named.0 named.1 q ∙ ap (λ b. cond b (Some named.1) (get names q)) (ap (bytes_eq q) is ∙ other)

-- by what its effect adds
pub effect_goes : (c : List ℕ) (joins : ℕ) (w : World) (e : Effect) → length e.entries ≤ 1 → joins_in e.entries ≤ joins → All (IsNamedJoin (length (document w work).raws)) e.entries → IfSome e.name (λ named. named.0 ≡ c) → Keeps w.store e.store
    → (IsReadable w → IsHonestIn w → AllHonest e.store (order (ledger ((document w work).raws ++ e.entries)))) → Goes c joins w (changed e (Some work) w)
effect_goes c joins w e few joining placed name keeps honest =
    let is : document (changed e (Some work) w) work ≡ grown e (document w work) =
    document_inserted w.documents work (grown e (document w work)) work ∙ ap (λ b. cond b (grown e (document w work)) (document w work)) ((bytes_eq-Decides work work).1 refl) in
    record {
      more = e.entries;
      is = ap (λ (d : Document). d.raws) is;
      few = few;
      joining = joining;
      placed = placed;
      names = other_names w.names c e.name name;
      keeps = keeps;
      honest = λ readable was. subst (λ (d : Document). AllHonest e.store (order (ledger_of d))) (sym is) (honest readable was);
    }
