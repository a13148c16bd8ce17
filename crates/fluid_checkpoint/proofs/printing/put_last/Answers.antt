use Rattle.std.specs.Prelude.{codes, string_bytes}
use Rattle.fluid_checkpoint.specs.Written.{last_part}
use Rattle.fluid_checkpoint.proofs.Whole.{four_and_end}
use Rattle.fluid_checkpoint.proofs.printing.put_last.Goals as goal

pub returns : goal.returns
unfolding last_part
returns c =
    let pending = rw c.as_slice.ensures at c.in_ok-pending.ensures in
    let version = rw c.number.ensures at c.in_ok-version.ensures in
    let by = four_and_end (string_bytes c.args.out.now) _ _ _ _ _ (codes ",\"minimum\":") _ (codes ",\"pending\":") _ (codes ",\"sequence\":") _ (codes ",\"version\":") _ (codes "}")
    (rw c.in_ok-minimum.ensures at c.in_ok-put.ensures) (rw pending at c.in_ok-put-2.ensures) (rw c.in_ok-sequence.ensures at c.in_ok-put-3.ensures) (rw version at c.in_ok-put-4.ensures) c.in_ok-push_str.ensures.bytes in
    rw (← c.state.view_is) by
