use Rattle.std.proofs.Common.{◌≡◌, ◌-◌, ◌<◌, length, None, refl, rules}
use Rattle.std.specs.Prelude.{slice_index_or}
use Rattle.fluid_scribe.proofs.Waits.{back-is}
use Rattle.fluid_scribe.proofs.tail.Tail.minimum.Goals as goal

pub returns-in-Some : goal.returns-in-Some
returns-in-Some c =
    let there : 0 < length c.args.self.now.minima.items = search rules in
    let at : c.in-Some.change.now ≡ slice_index_or c.args.self.now.minima.items (length c.args.self.now.minima.items - 1) c.in-Some.change.now = search rules in
    rw (back-is None c.args.self.now.minima.items c.in-Some.change.now there at) refl
