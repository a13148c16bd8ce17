use Rattle.std.proofs.Common.{◌≡◌, ◌+◌, ◌≤◌, length, ◌∙◌, ap, sym, subst}
use Rattle.fluid_deltas.specs.Pushed.{pushed}
use Rattle.fluid_deltas.specs.Flushes.{lacking, lacking_up_to, PutsAll}
use Rattle.fluid_deltas.proofs.Slices.{lacking_all, flush_whole}
use Rattle.fluid_deltas.proofs.deltas.Deltas.flush.Goals as goal

pub returns-clause-puts : goal.returns-clause-puts
returns-clause-puts g c =
    let d = c.args.self.now in
    let kept = (g.K.Keeper.seen c.args.keeper.now).deltas in
    let last : c.self.inside.last ≡ pushed d = c.self.invariant.counted ∙ ap pushed c.self.view_is in
    let all : lacking_up_to d kept c.self.inside.last ≡ lacking d kept = ap (lacking_up_to d kept) last ∙ lacking_all d kept c.requires in
    subst (λ ms. PutsAll ms (g.K.Keeper.seen c.args.keeper.now) (g.K.Keeper.seen c.put_up_to.new.keeper) c.put_up_to.result) all c.put_up_to.ensures.puts

pub returns-clause-whole : goal.returns-clause-whole
returns-clause-whole g c =
    let d = c.args.self.now in
    let kept = (g.K.Keeper.seen c.args.keeper.now).deltas in
    let last : c.self.inside.last ≡ pushed d = c.self.invariant.counted ∙ ap pushed c.self.view_is in
    let all : lacking_up_to d kept c.self.inside.last ≡ lacking d kept = ap (lacking_up_to d kept) last ∙ lacking_all d kept c.requires in
    flush_whole d (g.K.Keeper.seen c.args.keeper.now) (g.K.Keeper.seen c.put_up_to.new.keeper) c.put_up_to.result (g.K.Keeper.sized c.args.keeper.now)
    (subst (λ ms. PutsAll ms (g.K.Keeper.seen c.args.keeper.now) (g.K.Keeper.seen c.put_up_to.new.keeper) c.put_up_to.result) all c.put_up_to.ensures.puts)
