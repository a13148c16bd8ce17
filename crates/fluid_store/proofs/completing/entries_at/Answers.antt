use Rattle.std.proofs.Common.{arith}
use Rattle.fluid_store.proofs.Looked.{blob_entries, tree_entries, tree_too_deep, nothing_there, no_grammar, no_object_there}
use Rattle.fluid_store.proofs.completing.entries_at.Goals as goal

pub returns-in-Ok-Blob : goal.returns-in-Ok-Blob
returns-in-Ok-Blob g c =
    blob_entries c.args.id.now (g.O.Objects.seen c.args.objects.now) (g.O.Objects.seen c.find.new.objects) c.args.trees c.in-Ok-Blob.field-0 c.in-Ok-Blob.field-0-0 c.new.result c.in-Ok-Blob.ensures c.in-Ok-Blob.field-0-is
    c.new.ensures

pub returns-then-trees-eq0 : goal.returns-then-trees-eq0
returns-then-trees-eq0 g c =
    tree_too_deep c.args.id.now (g.O.Objects.seen c.args.objects.now) (g.O.Objects.seen c.find.new.objects) c.args.trees c.in-Ok-Tree.field-0 c.in-Ok-Tree.entries c.if-trees-eq0.true c.in-Ok-Tree.ensures c.in-Ok-Tree.field-0-is

pub returns-in-Ok-Tree : goal.returns-in-Ok-Tree
returns-in-Ok-Tree g c =
    tree_entries c.args.id.now (g.O.Objects.seen c.args.objects.now) (g.O.Objects.seen c.find.new.objects) c.args.trees c.in-Ok-Tree.field-0 c.in-Ok-Tree.entries (omega arith) c.in-Ok-Tree.ensures c.in-Ok-Tree.field-0-is

pub returns-in-Err-Missing : goal.returns-in-Err-Missing
returns-in-Err-Missing g c =
    nothing_there c.args.id.now (g.O.Objects.seen c.args.objects.now) (g.O.Objects.seen c.find.new.objects) c.args.trees c.in-Err-Missing.field-0-0 (rw c.in-Err-Missing.field-0-is at c.in-Err-Missing.ensures)

pub returns-in-Err-BadObject : goal.returns-in-Err-BadObject
returns-in-Err-BadObject g c =
    no_grammar c.args.id.now (g.O.Objects.seen c.args.objects.now) (g.O.Objects.seen c.find.new.objects) c.args.trees c.in-Err-BadObject.field-0-0 c.in-Err-BadObject.field-0-1
    (rw c.in-Err-BadObject.field-0-is at c.in-Err-BadObject.ensures)

pub returns-in-Err-Tree : goal.returns-in-Err-Tree
returns-in-Err-Tree g c =
    no_object_there c.args.id.now (g.O.Objects.seen c.args.objects.now) (g.O.Objects.seen c.find.new.objects) c.args.trees c.in-Err-Tree.field-0-0 (rw c.in-Err-Tree.field-0-is at c.in-Err-Tree.ensures)
