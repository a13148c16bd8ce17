use Rattle.std.specs.Prelude.{codes, string_bytes}
use Rattle.fluid_checkpoint.specs.Written.{middle_part}
use Rattle.fluid_checkpoint.proofs.Whole.{four}
use Rattle.fluid_checkpoint.proofs.printing.put_middle.Goals as goal

pub returns : goal.returns
unfolding middle_part
returns c =
    let s = c.args.state.now in
    let heard = rw c.as_slice.ensures at c.in_ok-heard.ensures in
    let minima = rw c.as_slice-2.ensures at c.in_ok-minima.ensures in
    let by = four (string_bytes c.args.out.now) _ _ _ _ (codes ",\"counted\":") _ (codes ",\"entered\":") _ (codes ",\"heard\":") _ (codes ",\"minima\":") _
    (rw c.in_ok-counted.ensures at c.in_ok-put.ensures) (rw c.in_ok-entered.ensures at c.in_ok-put-2.ensures) (rw heard at c.in_ok-put-3.ensures) (rw minima at c.in_ok-put-4.ensures) in
    by
