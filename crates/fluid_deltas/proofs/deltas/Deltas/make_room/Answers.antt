use Rattle.std.proofs.Common.{rules, ◌≡◌, ◌+◌, ◌-◌, ◌*◌, drop, length, ap, sym, subst, ◌∙◌, arith, length-drop}
use Rattle.std.specs.List.{All}
use Rattle.std.proofs.lemmas.List.Elements.{All-drop}
use Rattle.fluid_types.proofs.Numbers.{numbered_drop, numbered_same}
use Rattle.fluid_deltas.specs.Pushed.{IsKeepable, AreInOrder, DropsPage}
use Rattle.fluid_deltas.proofs.Slices.{told_dropped}
use Rattle.fluid_deltas.proofs.deltas.Deltas.make_room.Goals as goal

pub invariant_of-self : goal.invariant_of-self
invariant_of-self g c =
    let before = c.self.inside.before in
    let held = c.self.inside.pages.messages in
    let full : length held ≡ 4096 = subst (λ d. length d.held ≡ 4096) (sym c.self.view_is) c.requires.full in
    let next : before + 1 + 256 ≡ before + 256 + 1 = omega arith in
    rw c.drop_first.ensures.messages
    (record {
      numbered = numbered_same (drop 256 held) _ _ next (numbered_drop held (before + 1) 256 c.self.invariant.numbered);
      keepable = All-drop IsKeepable 256 held c.self.invariant.keepable;
      counted = omega (arith, full, c.self.invariant.counted, length-drop 256 held);
    })

pub returns-clause-stands : goal.returns-clause-stands
returns-clause-stands g c = λ order stands.
    let drops : DropsPage c.args.self.now _ = record { before = search rules; held = search rules; spare = search rules } in
    told_dropped c.args.self.now _ order (g.K.Keeper.seen c.put_up_to.new.keeper) (g.K.Keeper.sized c.put_up_to.new.keeper) drops c.requires.full (search rules)
    (c.in_ok-put_up_to.ensures.stands order stands)
