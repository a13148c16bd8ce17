-- Steps whose words are read off the document.
use Rattle.std.proofs.Common.{◌≡◌, ℕ, ◌-◌, true, List, [], ◌∷◌, length, Some, None, refl, sym, ap, subst, ◌∙◌}
use Rattle.std.specs.Prelude.{if◌then◌else◌, is_some}
use Rattle.std.specs.List.{last_or}
use Rattle.fluid_tree.specs.declared.id.SummaryRef.{SummaryRef}
use Rattle.fluid_types.specs.Ledger.{order}
use Rattle.fluid_rules.specs.Scribe.{acks}
use Rattle.fluid_loader.specs.declared.link.Pick.{Pick}
use Rattle.fluid_loader.specs.declared.link.Pick.TheVariants.{Empty, Latest}
use Rattle.fluid_steps.specs.declared.steps.Step.TheVariants as step
use Rattle.fluid_transcript.specs.World.{document as the_document, ledger_of}
use Rattle.fluid_workload.specs.Working.{work, q, stepped}
use Rattle.fluid_turns.specs.declared.figures.Figures.{Figures}
use Rattle.fluid_load.specs.Standing.{AtWork, Works}
use Rattle.fluid_load.specs.Acting.{step_done, restarted, loaded_last, pick_of}
use Rattle.fluid_load.proofs.Parts.{Ended, as_works}
use Rattle.fluid_load.proofs.Moved.{Figured}

-- from the newest checkpoint
pub restart_works : (document : List ℕ) (number : ℕ) (f : Figures) (a zero b : AtWork) (r : Ended) → zero ≡ a → document ≡ work → number ≡ f.checkpoints - 1 → Figured f a → Works 1 (step_done (step.Restart document number)) zero b r
    → Works 1 restarted a b r
restart_works document number f a zero b r same at is figured works =
    as_works restarted (λ w good goes. ap (λ k. stepped a.lanes.limits w (step.Restart work k)) (is ∙ ap (λ k. k - 1) (figured w.world goes.stands.stands.desk goes.open_is).checkpoints))
    (subst (λ s. Works 1 (step_done (step.Restart work number)) s b r) same (subst (λ d. Works 1 (step_done (step.Restart d number)) zero b r) at works))

-- from the last summary, where there is one
some_last : (ack : SummaryRef) (more : List SummaryRef) → is_some (last_or (Some ack) more) ≡ true
some_last ack [] = refl
some_last ack (next ∷ more) = some_last next more

pick_is : (known : List SummaryRef) → pick_of (length known) ≡ (if is_some (last_or None known) then Latest else Empty)
pick_is [] = refl
pick_is (ack ∷ more) = sym (ap (λ b. if b then Latest else Empty) (some_last ack more))

pub load_last_works : (name document : List ℕ) (pick : Pick) (f : Figures) (a zero b : AtWork) (r : Ended) → zero ≡ a → name ≡ q → document ≡ work → pick ≡ pick_of f.summaries → Figured f a → Works 1 (step_done (step.Load name document pick)) zero b r
    → Works 1 loaded_last a b r
load_last_works name document pick f a zero b r same named at is figured works =
    as_works loaded_last (λ w good goes.
    ap (λ p. stepped a.lanes.limits w (step.Load q work p))
    (is ∙ ap pick_of (figured w.world goes.stands.stands.desk goes.open_is).summaries ∙ pick_is (acks (order (ledger_of (the_document w.world work))))))
    (subst (λ s. Works 1 (step_done (step.Load q work pick)) s b r) same (subst (λ d. Works 1 (step_done (step.Load q d pick)) zero b r) at (subst (λ n. Works 1 (step_done (step.Load n document pick)) zero b r) named works)))
