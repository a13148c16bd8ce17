use Rattle.std.proofs.Common.{◌∙◌, sym, ap, refl, inl, inr, Option, Result, Ok, Err, true≢false}
use Rattle.fluid_json.specs.Tree.{Tree}
use Rattle.fluid_json.specs.Unless.{IsUnless}
use Rattle.fluid_json.specs.Converted.{Makes}
use Rattle.fluid_json.specs.Spelled.{answer_within, whole_or}
use Rattle.fluid_json.specs.declared.fault.JsonFault.{JsonFault}
use Rattle.fluid_json.specs.declared.fault.JsonFault.TheVariants.{NoMemory}
use Rattle.fluid_json.proofs.reading.read_within.Goals as goal

of_cause : (o : Option Tree) (r : Result Tree JsonFault) → Makes (λ t. t) o r → IsUnless NoMemory r (whole_or o)
of_cause o (Ok t) h = inr (sym (ap whole_or h))
of_cause o (Err e) (inl h) = inl (ap Err h)
of_cause o (Err e) (inr h) = inr (ap Err h.0 ∙ sym (ap whole_or h.1))

pub returns-then-reaches : goal.returns-then-reaches
unfolding answer_within
returns-then-reaches c = inr (rw (sym c.reaches.ensures ∙ c.if-reaches.true) refl)

pub returns-in-Ok : goal.returns-in-Ok
unfolding answer_within
returns-in-Ok c = rw (sym c.reaches.ensures ∙ c.if-reaches.false, c.in-Ok.ensures.ok) (of_cause _ _ c.convert.ensures)

pub returns-else-is_memory : goal.returns-else-is_memory
unfolding answer_within
returns-else-is_memory c =
    let read_it = c.in-Err.ensures.err (λ m. true≢false (sym (c.is_memory.ensures.1 m) ∙ c.if-is_memory.false)) in
    inr (rw (sym c.reaches.ensures ∙ c.if-reaches.false, read_it) refl)
