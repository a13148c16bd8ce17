use Rattle.std.proofs.Common.{Ok, sym, ap, subst}
use Rattle.fluid_voice.specs.declared.actions.Act.TheVariants as act
use Rattle.fluid_voice.specs.declared.ends.ActEnd.TheVariants.{Said}
use Rattle.fluid_ends.specs.Asking.{is_asked_of_store}
use Rattle.fluid_acts.specs.Parts.{DoesOnStore}
use Rattle.fluid_doors.specs.Looking.{IsLook}
use Rattle.fluid_connection.specs.Knowing.{knowing}
use Rattle.fluid_connection.specs.Hearing.{AsksAs}
use Rattle.fluid_connection.proofs.Questions.{asked_door, asked_nothing, asked_store}
use Rattle.fluid_connection.proofs.asking.ask.Goals as goal

pub look-requires-clause-act : goal.look-requires-clause-act
look-requires-clause-act g c = subst IsLook (sym c.in-Deltas.is) tt

pub look-requires-in-Summary-clause-act : goal.look-requires-in-Summary-clause-act
look-requires-in-Summary-clause-act g c = subst IsLook (sym c.in-Summary.is) tt

pub returns-in-Say-clause-does : goal.returns-in-Say-clause-does
returns-in-Say-clause-does g c =
    let p = knowing c.args.door.now.name c.args.pass in let s = g.O.Objects.seen c.args.objects.now in
    subst (λ a. AsksAs p p s s a (Ok Said)) (sym c.in-Say.is) (asked_nothing p s _)

pub returns-in-Deltas-clause-does : goal.returns-in-Deltas-clause-does
returns-in-Deltas-clause-does g c =
    asked_door _ _ (g.O.Objects.seen c.args.objects.now) c.args.act.now c.requires.act (ap is_asked_of_store c.in-Deltas.is) c.look.result.1 c.look.ensures.does

pub returns-in-Summary-clause-does : goal.returns-in-Summary-clause-does
returns-in-Summary-clause-does g c =
    asked_door _ _ (g.O.Objects.seen c.args.objects.now) c.args.act.now c.requires.act (ap is_asked_of_store c.in-Summary.is) c.look-in-Summary.result.1 c.look-in-Summary.ensures.does

pub returns-in-GetObject-clause-does : goal.returns-in-GetObject-clause-does
returns-in-GetObject-clause-does g c =
    let p = knowing c.args.door.now.name c.args.pass in
    let before = g.O.Objects.seen c.args.objects.now in let now = g.O.Objects.seen c.get_object.new.objects in
    subst (λ a. AsksAs p p before now a c.get_object.result) (sym c.in-GetObject.is) (asked_store p before now (act.GetObject c.in-GetObject.id) tt c.get_object.result c.get_object.ensures)

pub returns-in-PutObject-clause-does : goal.returns-in-PutObject-clause-does
returns-in-PutObject-clause-does g c =
    let p = knowing c.args.door.now.name c.args.pass in
    let before = g.O.Objects.seen c.args.objects.now in let now = g.O.Objects.seen c.put_object.new.objects in
    subst (λ a. AsksAs p p before now a c.put_object.result) (sym c.in-PutObject.is) (asked_store p before now (act.PutObject c.in-PutObject.bytes) tt c.put_object.result
    (subst (λ bytes. DoesOnStore (act.PutObject bytes) before now c.put_object.result) c.as_slice.ensures c.put_object.ensures))
