use Rattle.std.proofs.Common.{◌≡◌, ◌∙◌, Some, sym, ap, subst}
use Rattle.fluid_connection.specs.Knowing.{knowing}
use Rattle.fluid_connection.specs.Talked.{Talked, IsTalk, pass_of}
use Rattle.fluid_connection.specs.Hearing.{HearsActs}
use Rattle.fluid_connection.proofs.Hears.{hears_talk}
use Rattle.fluid_connection.proofs.talk.Talk.hear_connected.Goals as goal

pub invariant_of-self : goal.invariant_of-self
invariant_of-self g c =
    let before = g.O.Objects.seen c.args.objects.now in let now = g.O.Objects.seen c.do_acts-visit.new.objects in
    let some : c.self.inside.visit ≡ Some c.in-Some.visit = sym c.take.ensures.value ∙ c.in-Some.is in (
      hears_talk c.self.inside.voice c.do_acts-visit.new.voice c.self.inside.key c.in-Some.visit c.do_acts-visit.result.0 c.self.inside.handed before now c.args.acts c.do_acts-visit.result.1 c.do_acts-visit.result.2
          (subst (λ o. IsTalk (record { voice = c.self.inside.voice; key = c.self.inside.key; visit = o; handed = c.self.inside.handed })) some c.self.invariant.0)
          c.do_acts-visit.ensures.same c.do_acts-visit.ensures.few c.do_acts-visit.ensures.does,
      tt,
    )

pub returns : goal.returns
returns g c =
    let before = g.O.Objects.seen c.args.objects.now in let now = g.O.Objects.seen c.do_acts-visit.new.objects in
    let some : c.self.inside.visit ≡ Some c.in-Some.visit = sym c.take.ensures.value ∙ c.in-Some.is in
    let visit = c.do_acts-visit.result.0 in
    record {
      stays = record {
        voice = c.do_acts-visit.ensures.same ∙ ap (λ (t : Talked). t.voice) c.self.view_is;
        key = ap (λ (t : Talked). t.key) c.self.view_is;
        handed = ap (λ (t : Talked). t.handed) c.self.view_is;
      };
      does =
          subst (λ (t : Talked). HearsActs t.voice (pass_of t.visit) (knowing visit.door.name visit.pass) before now c.args.acts c.do_acts-visit.result.1 c.do_acts-visit.result.2) c.self.view_is
          (subst (λ o. HearsActs c.self.inside.voice (pass_of o) (knowing visit.door.name visit.pass) before now c.args.acts c.do_acts-visit.result.1 c.do_acts-visit.result.2) (sym some) c.do_acts-visit.ensures.does);
    }
