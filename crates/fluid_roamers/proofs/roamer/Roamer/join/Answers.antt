use Rattle.std.proofs.Common.{refl}
use Rattle.fluid_roamers.specs.Taking.{IsSendable, TakesClient}
use Rattle.fluid_roamers.proofs.Keeping.{kept_joined, kept_lost, none_then}
use Rattle.fluid_roamers.proofs.Roamed.{always, joined_by}
use Rattle.fluid_roamers.proofs.roamer.Roamer.join.Goals as goal

pub joined-requires : goal.joined-requires
joined-requires c = none_then c.args.self.now.outbox c.lost.new.self c.lost.ensures.kept

pub returns-clause-does : goal.returns-clause-does
returns-clause-does c = λ past stands fresh.
    always (TakesClient past c.args.client c.args.self.now _) c.joined.result (record {
      document = refl;
      client_is = refl;
      edits = refl;
      app = refl;
      outbox =
          joined_by c.args.self.now.outbox c.lost.new.self c.joined.new.self c.in_ok-own.own c.args.client past c.lost.ensures.stands c.joined.ensures.stands
          c.in_ok-own.ensures stands fresh;
    })

pub returns-clause-kept : goal.returns-clause-kept
returns-clause-kept c =
    always (IsSendable c.joined.new.self) c.joined.result
    (kept_joined c.lost.new.self c.joined.new.self c.in_ok-own.own (kept_lost c.args.self.now.outbox c.lost.new.self c.requires c.lost.ensures.kept) c.joined.ensures.kept)
