use Rattle.std.proofs.Common.{◌≡◌, ◌+◌, ◌-◌, ℕ, List, [], ◌∷◌, ◌++◌, min, length, take, drop, ap, ◌∙◌, arith}
use Rattle.fluid_disk.specs.declared.call.Call.TheVariants.{Wrote}
use Rattle.fluid_disk.specs.Memory.{undone}
use Rattle.fluid_disk.proofs.History.{taken, undone_written}
use Rattle.fluid_disk.proofs.memory.overwrite.Goals as goal

pub returns-clause-kept : goal.returns-clause-kept
returns-clause-kept c =
    let n = length c.args.bytes.now in
    let at = c.args.at in
    let held = c.args.held.now.items in
    let replaced = c.in_ok-replaced.replaced in
    let within : c.min-within.result ≡ min n (length held - at) = omega (arith, c.min-within.ensures, c.len.ensures, c.deref.ensures.len, ap length c.deref.ensures.value) in
    let same : at + c.min-within.result - at ≡ c.min-within.result = omega arith in
    let is : replaced ≡ take n (drop at held) =
    c.in_ok-replaced.ensures ∙ ap (λ (l : List ℕ). take (at + c.min-within.result - at) (drop at l)) c.deref.ensures.value
    ∙ taken n at c.min-within.result (at + c.min-within.result - at) held within same in
    let calls = c.push_reserved.ensures.items ∙ ap (λ l. l ++ Wrote at n replaced ∷ []) c.in_ok-reserve.ensures.items in (
      replaced,
      calls,
      ap (λ (l : List ℕ). undone (Wrote at n replaced) l) c.in_ok-put_over.ensures.written
          ∙ ap (λ (l : List ℕ). undone (Wrote at n l) (take at held ++ c.args.bytes.now ++ drop (at + n) held)) is
          ∙ undone_written at c.args.bytes.now held c.requires,
    )
