use Rattle.std.specs.Prelude.{codes, string_bytes}
use Rattle.fluid_checkpoint.specs.Written.{first_part}
use Rattle.fluid_checkpoint.proofs.Whole.{four}
use Rattle.fluid_checkpoint.proofs.printing.put_first.Goals as goal

pub returns-clause-part : goal.returns-clause-part
unfolding first_part
returns-clause-part c =
    let acks = rw c.as_slice.ensures at c.in_ok-acks.ensures in
    let behind = rw c.as_slice-2.ensures at c.in_ok-behind.ensures in
    let by = four (string_bytes c.args.out.now) _ _ _ _ (codes "{\"acks\":") _ (codes ",\"base\":") _ (codes ",\"behind\":") _ (codes ",\"clients\":") _
    (rw acks at c.in_ok-put.ensures) (rw c.in_ok-base.ensures.text at c.in_ok-put-2.ensures) (rw behind at c.in_ok-put-3.ensures) (rw c.in_ok-clients.ensures at c.in_ok-put-4.ensures) in
    rw (← c.state.view_is) by

pub returns-clause-blobs : goal.returns-clause-blobs
returns-clause-blobs c = rw (← c.state.view_is) c.in_ok-base.ensures.blobs
