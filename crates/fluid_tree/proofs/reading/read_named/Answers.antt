use Rattle.std.proofs.Common.{◌≡◌, List, ℕ, ◌+◌, ◌-◌, Option, Some, false, take, drop, length, refl, arith, lt-ltb, ap, ap₂, ◌∙◌}
use Rattle.std.proofs.lemmas.Bool.{false_from_ne_true}
use Rattle.std.proofs.lemmas.Str.{IsUtf8-from_is_utf8, is_utf8-from_IsUtf8}
use Rattle.std.specs.Str.{IsUtf8, is_utf8}
use Rattle.fluid_tree.specs.declared.object.ObjectEntry.{ObjectEntry}
use Rattle.fluid_tree.proofs.reading.read_named.Goals as goal

not_utf8 : (bs : List ℕ) → ¬ IsUtf8 bs → is_utf8 bs ≡ false
not_utf8 bs fails = false_from_ne_true (is_utf8 bs) (λ is. fails (IsUtf8-from_is_utf8 bs is))

pub returns-in_default-clause-entry : goal.returns-in_default-clause-entry
returns-in_default-clause-entry c =
    rw (← c.name_len-end.ensures.place, lt-ltb (c.name_len-end.result + 20) (length c.args.bytes.now) (omega arith), not_utf8 _ c.in_default.ensures.cases.0) refl

pub returns-clause-entry : goal.returns-clause-entry
returns-clause-entry c =
    let end = c.name_len-end.result in
    let twenty : end + 21 - (end + 1) ≡ 20 = omega arith in
    let made : List ℕ → List ℕ → Option ObjectEntry = λ n i. Some (record { name = n; tree = c.args.tree; id = i }) in
    rw (← c.name_len-end.ensures.place, lt-ltb (end + 20) (length c.args.bytes.now) (omega arith), is_utf8-from_IsUtf8 _ c.in-Ok.ensures.cases.1)
    (ap₂ made (c.in_ok-name.ensures ∙ c.in-Ok.ensures.cases.0) (c.copied-id.ensures ∙ ap (λ k. take k (drop (end + 1) c.args.bytes.now)) twenty))
