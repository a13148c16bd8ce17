-- Behind the leave of a roamer's last client.
use Rattle.std.proofs.Common.{◌≡◌, ℕ, ◌<◌, ◌≤◌, ◌^◌, arith, List, [], ◌∷◌, length, Option, sym, ap, subst, ◌∙◌, length-append}
use Rattle.fluid_types.specs.declared.entries.Raw.TheVariants.{Leave}
use Rattle.fluid_types.specs.declared.nacks.NackRule.{NackRule}
use Rattle.fluid_types.specs.Forms.{largest}
use Rattle.fluid_rules.specs.declared.limits.Limits.{Limits}
use Rattle.fluid_lane.specs.Standing.{Standing}
use Rattle.fluid_transcript.specs.World.{World, Document, Roamer as ARoamer, ledger_of, with_entries}
use Rattle.fluid_transcript.specs.Containers.{id_of}
use Rattle.fluid_transcript.specs.Roamers.{left}
use Rattle.fluid_holding.specs.Laws.{Stands, OthersLeave}
use Rattle.fluid_desk.specs.Stands.{IsLaneOf}
use Rattle.fluid_desk.proofs.Honest.{length_ledger}
use Rattle.fluid_desk.proofs.Laned.{says as lane_of}
use Rattle.fluid_roamers.specs.Behind.{IsBehindLeave}
use Rattle.fluid_roamers.specs.Entering.{HasEntered}
use Rattle.fluid_roamers.specs.Roaming.{IsRoamerIn}
use Rattle.fluid_roamers.specs.declared.roamer.Roamer.{Roamer}
use Rattle.fluid_roamers.proofs.Acts.{leave_stands}
use Rattle.fluid_roamers.proofs.Rejoined.{left_roams, left_here, left_later, left_stands}

module _ (limits : Limits) (w : World) (d : Document) (k : ARoamer) where
  pub leave_lane : (lane : Standing) (id : List ℕ) (moment : ℕ) (rule : Option NackRule) → id ≡ id_of k.client → w.moment ≡ moment → HasEntered limits d (Leave id moment) lane rule → IsLaneOf limits lane (left w d k)
  leave_lane lane id moment rule own at entered =
      subst (λ raw. IsLaneOf limits lane (with_entries (raw ∷ []) d)) (ap (λ i. Leave i moment) own ∙ ap (Leave (id_of k.client)) (sym at)) (leave_stands limits d id moment lane rule entered)

  few_left : (old : Standing) → IsLaneOf limits old d → old.entries.entered ≤ largest → length (left w d k).raws < 2 ^ 64
  few_left old of few = omega (arith, few, (lane_of limits old d of).entered, length_ledger d.raws, length-append d.raws (Leave (id_of k.client) w.moment ∷ []))

  pub left_by : (others : OthersLeave) (h : Roamer) → IsRoamerIn (ledger_of d) h k → Stands (ledger_of d) k.client → (old : Standing) → IsLaneOf limits old d → old.entries.entered ≤ largest → IsBehindLeave (ledger_of (left w d k)) (length (left w d k).raws) h k
  left_by others h is stands old of few = record {
    roams = left_roams others w d h k is stands;
    stands = left_stands others w d h k is stands;
    gone = left_here others w d h k is stands;
    later = left_later others w d h k is stands;
    fits = few_left old of few;
  }
