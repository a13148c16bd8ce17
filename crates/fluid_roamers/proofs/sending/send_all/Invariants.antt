use Rattle.std.proofs.Common.{◌≡◌, List, false}
use Rattle.fluid_edits.specs.declared.edit.Edit.{Edit}
use Rattle.fluid_rules.specs.declared.limits.Limits.{Limits}
use Rattle.fluid_transcript.specs.World.{World, Document, Roamer as ARoamer, ledger_of}
use Rattle.fluid_holding.specs.Laws.{Stands}
use Rattle.fluid_desk.specs.Stands.{IsLaneOf}
use Rattle.fluid_callers.specs.Ending.{LaneReads}
use Rattle.std.specs.Prelude.{Ok}
use Rattle.fluid_roamers.specs.Roaming.{IsRoaming}
use Rattle.fluid_roamers.specs.Taking.{IsSendable}
use Rattle.fluid_roamers.proofs.Sendings.{SentSo}
use Rattle.fluid_roamers.proofs.sending.send_all.Given as goal

-- so much was sent
abbrev pub invariant-loop : goal.invariant-loop
invariant-loop g l = record {
  sent : (limits : Limits) (w : World) (d : Document) (k : ARoamer) (rest : List Edit) → IsLaneOf limits l.fn.lane d → w.moment ≡ l.fn.moment → Stands (ledger_of d) k.client → k.is_lost ≡ false → IsRoaming (ledger_of d) l.fn.roamer k rest
      → SentSo limits w d k rest l.lane l.roamer;
  store : l.objects ≡ l.fn.objects;
  runs : LaneReads {A = Unit {0}} l.fn.lane l.lane (Ok tt);
  kept : IsSendable l.roamer.outbox;
}
