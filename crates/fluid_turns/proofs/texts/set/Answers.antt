use Rattle.std.proofs.Common.{◌≡◌, arith, pos}
use Rattle.std.proofs.lemmas.Int.{to_z-of_z}
use Rattle.fluid_json.specs.Tree.{whole}
use Rattle.fluid_turns.proofs.Fitted.{set_short_as}
use Rattle.fluid_turns.proofs.texts.set.Goals as goal

pub returns-clause-short : goal.returns-clause-short
returns-clause-short c =
    let value : c.whole.result ≡ whole (pos c.args.value) = grind (arith, to_z-of_z) in
    set_short_as c.args.key c.args.value c.in_ok-map.map c.in_ok-key.key c.whole.result (omega (arith, c.ranges.key.fits)) (omega (arith, c.ranges.value.fits)) c.in_ok-map.ensures c.in_ok-key.ensures value
