use Rattle.std.proofs.Common.{◌≡◌, inr, ap, subst, ◌∙◌}
use Rattle.fluid_doors.specs.Terms.{Doorway}
use Rattle.fluid_service.specs.Shelved.{AllServed, shelf_terms}
use Rattle.fluid_service.proofs.Named.{served_init}
use Rattle.fluid_service.proofs.Carrying.{lane_kept}
use Rattle.fluid_service.proofs.Endings.{last_out}
use Rattle.fluid_service.proofs.ending.close_last.Goals as goal

pub put_back-requires : goal.put_back-requires
put_back-requires g c = last_out (g.B.Shelves.seen c.args.shelves.now) c.args.visits.now.visits c.pop.new.self.visits c.in-Some.visit c.in-Some.name c.requires c.in-Some.ensures.0 c.in-Some.ensures.1

pub returns-in-Ok : goal.returns-in-Ok
returns-in-Ok g c =
    let served = (served_init (shelf_terms (g.B.Shelves.seen c.args.shelves.now) c.requires.limits) c.pop.new.self.visits c.in-Some.visit (subst (AllServed (shelf_terms (g.B.Shelves.seen c.args.shelves.now) c.requires.limits)) c.in-Some.ensures.0 c.requires.served)).1 in
    let door : c.in-Ok.door ≡ c.in-Some.visit.door = c.in-Ok.ensures.ok ∙ c.into_parts-door.ensures.parts.0 in
    inr (record {
      visit = c.in-Some.visit;
      last = c.in-Some.ensures.0;
      goes = inr (record {
        keeper = g.B.K.Keeper.seen c.close.result;
        back = rw (← c.in-Some.ensures.1) c.put_back.ensures.does;
        kept = λ told.
            lane_kept c.end.result c.end.ensures.stands.0 (g.B.K.Keeper.seen c.close.result) c.close.ensures.keeper
            (ap (λ t. t.told) c.end.ensures.terms ∙ ap (λ (d : Doorway). d.turn.fixed.told) door ∙ served.told told) (c.close.ensures.left c.end.ensures.stands.0 c.end.ensures.stands.1) c.close.ensures.sized;
      });
    })
