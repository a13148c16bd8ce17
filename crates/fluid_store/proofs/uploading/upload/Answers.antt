use Rattle.std.proofs.Common.{option_map}
use Rattle.fluid_store.proofs.Lists.{upload_refused, upload_handed}
use Rattle.fluid_store.proofs.Resolving.{stands_told}
use Rattle.fluid_store.proofs.uploading.upload.Goals as goal

pub returns-in_err-part-clause-does : goal.returns-in_err-part-clause-does
returns-in_err-part-clause-does g c =
    let old = g.O.Objects.seen c.args.objects.now in
    let new = g.O.Objects.seen c.list_over.new.objects in
    let base = option_map (λ id. id.now) c.args.base in
    upload_handed base c.args.node.now old new c.from_residual.result c.in_err-part.field-0.0 c.from_residual.ensures.1
    (upload_refused base c.args.node.now old new c.in_err-part.field-0.0 c.in_err-part.ensures.reads.content c.in_err-part.ensures.says)

pub returns-clause-stands : goal.returns-clause-stands
returns-clause-stands g c =
    stands_told c.what_is_resolved_stands.ensures (option_map (λ id. id.now) c.args.base) c.args.node.now c.in_ok-part.part c.as_slice.result.now (g.O.Objects.seen c.args.objects.now).content
    (g.O.Objects.seen c.list_over.new.objects).content (g.O.Objects.seen c.store_objects.new.objects).content c.known_size.ensures c.in_ok-part.ensures.reads.content c.in_ok-part.ensures.says c.as_slice.ensures
    c.in_ok-store_objects.ensures.does
