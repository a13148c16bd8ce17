use Rattle.std.proofs.Common.{refl}
use Rattle.fluid_roamers.proofs.Keeping.{kept_lost}
use Rattle.fluid_roamers.proofs.Roamed.{lost_by}
use Rattle.fluid_roamers.proofs.roamer.Roamer.lose.Goals as goal

pub returns-clause-does : goal.returns-clause-does
returns-clause-does c = λ past stands. record {
  same = record { document = refl; client = refl; edits = refl };
  app = refl;
  outbox = lost_by c.args.self.now.outbox c.lost.new.self past c.lost.ensures.stands stands;
}

pub returns-clause-kept : goal.returns-clause-kept
returns-clause-kept c = λ kept. kept_lost c.args.self.now.outbox c.lost.new.self kept c.lost.ensures.kept
