use Rattle.std.proofs.Common.{◌≡◌, arith, pos, w64, to_z}
use Rattle.std.proofs.lemmas.Int.{ints}
use Rattle.fluid_turns.proofs.Fitted.{fits_all_as}
use Rattle.fluid_turns.proofs.saying.within.Goals as goal

pub new-requires : goal.new-requires
new-requires c =
    let same : to_z w64 c.args.reference ≡ pos c.args.reference = omega (arith, ints, c.if-reference-gt-LARGEST.false) in
    fits_all_as c.args.number c.args.reference _ c.args.kind c.args.contents same c.if-number-gt-LARGEST.false c.if-reference-gt-LARGEST.false c.requires.nested c.requires.short
