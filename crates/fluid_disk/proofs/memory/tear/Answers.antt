use Rattle.std.proofs.Common.{◌≡◌, inr, ◌+◌, ◌-◌, length, take, drop, ap, ◌∙◌, arith, rules, length-drop}
use Rattle.std.proofs.lemmas.List.{length-take-le}
use Rattle.std.proofs.lemmas.Slice.{overwrites}
use Rattle.fluid_disk.specs.Memory.{Fits}
use Rattle.fluid_disk.proofs.Undoing.{torn_by}
use Rattle.fluid_disk.proofs.memory.tear.Goals as goal

pub returns-then-fits : goal.returns-then-fits
returns-then-fits c =
    let at = c.args.at in
    let k = at + c.args.torn - at in
    let fits : Fits c.len.result at c.args.count (length c.args.replaced.now) = c.fits.ensures c.if-fits.true in
    let sized : c.len.result ≡ length c.args.held.now.items = omega (arith, c.len.ensures, c.deref_mut.ensures.len, ap length c.deref_mut.ensures.value) in
    let same : k ≡ c.args.torn = omega arith in
    let there : length (take k (drop at c.deref_mut.result.now)) ≡ k =
    length-take-le k (drop at c.deref_mut.result.now) (omega (arith, length-drop at c.deref_mut.result.now, ap length c.deref_mut.ensures.value, sized, fits.within, c.requires)) in
    let count : length c.fill.new.self ≡ c.args.torn = c.fill.ensures.len ∙ there ∙ same in
    inr (torn_by _ at c.args.count c.args.torn k c.len.result c.args.replaced.now c.fill.new.self c.args.held.now.items (search (rules, overwrites)) fits sized count c.requires same)
