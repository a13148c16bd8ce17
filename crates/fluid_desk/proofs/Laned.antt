-- A lane that goes on stands for the document that goes on.
use Rattle.std.proofs.Common.{◌≡◌, ℕ, arith, true, false, List, [], ◌∷◌, ◌++◌, length, Option, Some, None, refl, sym, ap, ap₂, subst, ◌∙◌, append-nil, length-append}
use Rattle.std.specs.Prelude.{is_some}
use Rattle.fluid_io.specs.Causes.{Tells}
use Rattle.fluid_types.specs.declared.entries.Raw.{Raw}
use Rattle.fluid_types.specs.declared.verdicts.Verdict.{Verdict}
use Rattle.fluid_log.specs.Keeping.{Content}
use Rattle.fluid_rules.specs.Rules.{verdict, ledger as ledger_by_rules}
use Rattle.fluid_rules.specs.declared.limits.Limits.{Limits}
use Rattle.fluid_rules.proofs.Legal.{ledger-push}
use Rattle.fluid_lane.specs.declared.steps.Step.{Step}
use Rattle.fluid_lane.specs.declared.steps.Step.TheVariants.{Entered}
use Rattle.fluid_lane.specs.Steps.{ledger, stored}
use Rattle.fluid_lane.specs.Standing.{Standing, IsTold, Goes}
use Rattle.fluid_lane.specs.Laws.{SaysOf}
use Rattle.fluid_lane.proofs.Listed.{ledger-append, stored-append}
use Rattle.fluid_lane.proofs.Says.{lane_says}
use Rattle.fluid_transcript.specs.World.{Document, ledger_of}
use Rattle.fluid_desk.specs.Stands.{IsLaneOf}

-- what is told holds of what is told
pub told_in : (P : Content → Type 0) (o : Option Content) (content : Content) → o ≡ Some content → Tells o P → P content
told_in P o content is h = subst (λ x. Tells x P) is h

pub some_there : (o : Option Content) → is_some o ≡ true → (content : Content) × (o ≡ Some content)
some_there None h = absurd (cc)
some_there (Some content) h = (content, refl)

module _ (limits : Limits) (old : Standing) (d : Document) (of : IsLaneOf limits old d) where
  pub is_told : IsTold old of.list of.content
  is_told = told_in (IsTold old of.list) old.keeping.content of.content of.told of.stands.told

  -- what it says of the document's ledger
  pub says : SaysOf old (ledger_of d)
  says = subst (SaysOf old) of.entries (told_in (λ _. SaysOf old (ledger of.list)) old.keeping.content of.content of.told (lane_says old of.list of.stands))

  -- it goes on with these steps, and so does the document
  pub goes_on : (new : Standing) (added : List Step) (raws : List Raw) (checkpoints : List ℕ) → Goes old new added → new.owed ≡ false
      → ledger_of d ++ ledger added ≡ ledger_by_rules (d.raws ++ raws) → stored added ≡ length checkpoints
      → IsLaneOf limits new (record { raws = d.raws ++ raws; checkpoints = d.checkpoints ++ checkpoints })
  goes_on new added raws checkpoints goes level entries count =
      let there = some_there new.keeping.content (goes.told ∙ ap is_some of.told) in
      let stands = goes.list of.list of.stands in
      let told = told_in (IsTold new (of.list ++ added)) new.keeping.content there.0 there.1 stands.told in
      record {
        list = of.list ++ added;
        stands = stands;
        entries = ledger-append of.list added ∙ ap (λ l. l ++ ledger added) of.entries ∙ entries;
        level = level;
        content = there.0;
        told = there.1;
        limits_are = goes.limits ∙ of.limits_are;
        checkpoints =
            omega (arith, told.checkpoints, is_told.checkpoints, goes.opened, stored-append of.list added, of.checkpoints, count, length-append d.checkpoints checkpoints);
      }

  -- steps beside the entries
  pub aside : (new : Standing) (added : List Step) (checkpoints : List ℕ) → Goes old new added → new.owed ≡ false → ledger added ≡ [] → stored added ≡ length checkpoints
      → IsLaneOf limits new (record { raws = d.raws ++ []; checkpoints = d.checkpoints ++ checkpoints })
  aside new added checkpoints goes level none count =
      goes_on new added [] checkpoints goes level (ap (λ l. ledger_of d ++ l) none ∙ append-nil (ledger_of d) ∙ ap ledger_by_rules (sym (append-nil d.raws))) count

  -- the same, where nothing is stored
  pub beside : (new : Standing) (added : List Step) → Goes old new added → new.owed ≡ false → ledger added ≡ [] → stored added ≡ 0 → IsLaneOf limits new d
  beside new added goes level none zero =
      subst (IsLaneOf limits new) (ap₂ (λ raws checkpoints. record { raws = raws; checkpoints = checkpoints }) (append-nil d.raws) (append-nil d.checkpoints)) (aside new added [] goes level none zero)

  -- one entry
  pub entered : (new : Standing) (raw : Raw) (v : Verdict) → Goes old new (Entered raw v ∷ []) → new.owed ≡ false → v ≡ verdict (ledger_of d) raw
      → IsLaneOf limits new (record { raws = d.raws ++ raw ∷ []; checkpoints = d.checkpoints ++ [] })
  entered new raw v goes level is =
      goes_on new (Entered raw v ∷ []) (raw ∷ []) [] goes level (ap (λ w. ledger_of d ++ (raw, w) ∷ []) is ∙ sym (ledger-push d.raws raw)) refl

  -- nothing
  pub same : IsLaneOf limits old (record { raws = d.raws ++ []; checkpoints = d.checkpoints ++ [] })
  same = subst (IsLaneOf limits old) (ap₂ (λ raws checkpoints. record { raws = raws; checkpoints = checkpoints }) (sym (append-nil d.raws)) (sym (append-nil d.checkpoints))) of
