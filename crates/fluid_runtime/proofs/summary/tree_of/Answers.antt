use Rattle.std.proofs.Common.{◌≡◌, ap, ap₂, ◌∙◌}
use Rattle.fluid_tree.specs.Summary.{tree, children}
use Rattle.fluid_runtime.specs.AppTree.{channel_node, app_tree, answer, IsReadAsItself}
use Rattle.fluid_runtime.specs.Slots.{channel_of, channels_of}
use Rattle.fluid_runtime.proofs.Bounded.{each_pushed, all_at_end, slots_read_back}
use Rattle.fluid_runtime.proofs.Nodes.{listed, pushed_on, at_end, tree_whole}
use Rattle.fluid_runtime.proofs.summary.tree_of.Goals as goal

pub loop-address-preserved : goal.loop-address-preserved
loop-address-preserved c =
    let own : c.in_ok-name.name ≡ c.loop-address-item.result.0 = c.in_ok-name.ensures in
    let made : c.in_ok-node.node ≡ channel_node (channel_of c.loop-address-item.result.1) = c.in_ok-node.ensures.node in
    record {
      nodes =
          pushed_on (λ e. (e.0, channel_node (channel_of e.1))) c.as_slice-slice.result.now c.loop-address.nodes c.push.new.self c.loop-address.address-index c.loop-address-item.result _
          c.in_ok-push.ensures c.loop-address.invariant.nodes c.loop-address-test.true c.loop-address-item.is (ap₂ (λ k n. (k, n)) own made);
      read =
          each_pushed (λ e. IsReadAsItself (channel_of e.1)) c.as_slice-slice.result.now c.loop-address.address-index c.loop-address-item.result c.loop-address-test.true
          c.loop-address-item.is c.loop-address.invariant.read c.in_ok-node.ensures.reads_back;
    }

pub returns-clause-tree : goal.returns-clause-tree
returns-clause-tree c =
    c.tree.ensures
    ∙ ap (λ nodes. tree (children nodes))
    (tree_whole c.args.slots.now.values c.as_slice-slice.result.now c.loop-address.nodes (listed c.args.slots.now.values _ c.as_slice-slice.ensures)
    (at_end (λ e. (e.0, channel_node (channel_of e.1))) c.as_slice-slice.result.now c.loop-address.nodes c.loop-address.address-index c.loop-address.invariant.nodes c.loop-address-test.false))

pub returns-clause-reads_back : goal.returns-clause-reads_back
returns-clause-reads_back c = λ named bounded.
    let all = listed c.args.slots.now.values _ c.as_slice-slice.ensures in
    let node_is : c.tree.result ≡ app_tree (channels_of c.args.slots.now.values) =
    c.tree.ensures
    ∙ ap (λ nodes. tree (children nodes))
    (tree_whole c.args.slots.now.values c.as_slice-slice.result.now c.loop-address.nodes all
    (at_end (λ e. (e.0, channel_node (channel_of e.1))) c.as_slice-slice.result.now c.loop-address.nodes c.loop-address.address-index c.loop-address.invariant.nodes c.loop-address-test.false)) in
    ap answer node_is
    ∙ slots_read_back c.args.slots.now.values c.as_slice-slice.result.now all named bounded
    (all_at_end (λ e. IsReadAsItself (channel_of e.1)) c.as_slice-slice.result.now c.loop-address.address-index c.loop-address-test.false c.loop-address.invariant.read)
