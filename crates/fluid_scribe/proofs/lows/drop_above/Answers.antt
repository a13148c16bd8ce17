use Rattle.std.proofs.Common.{rules, ◌≡◌, ◌-◌, ◌<◌, length, take, ap, ◌∙◌}
use Rattle.std.specs.Prelude.{slice_index_or}
use Rattle.fluid_scribe.specs.Waiting.{cut}
use Rattle.fluid_scribe.proofs.Lowest.{cut-on, cut-end}
use Rattle.fluid_scribe.proofs.lows.drop_above.Goals as goal

pub returns-then-low-reference-clause-list : goal.returns-then-low-reference-clause-list
returns-then-low-reference-clause-list c =
    let there : 0 < length c.loop-index.list.items = search rules in
    let at : c.in-Some.low.now ≡ slice_index_or c.loop-index.list.items (length c.loop-index.list.items - 1) c.in-Some.low.now = search rules in
    cut-end c.args.reference c.loop-index.list.items c.in-Some.low.now there at c.if-low-reference.true ∙ c.loop-index.invariant.cut

pub loop-index-preserved : goal.loop-index-preserved
loop-index-preserved c =
    let there : 0 < length c.loop-index.list.items = search rules in
    let at : c.in-Some.low.now ≡ slice_index_or c.loop-index.list.items (length c.loop-index.list.items - 1) c.in-Some.low.now = search rules in
    let rest : c.pop_back.new.self.items ≡ take (length c.loop-index.list.items - 1) c.loop-index.list.items = search rules in
    record {
      cut = ap (cut c.args.reference) rest ∙ cut-on c.args.reference c.loop-index.list.items c.in-Some.low.now there at c.if-low-reference.false ∙ c.loop-index.invariant.cut;
      len = search rules;
      capacity = search rules;
    }
