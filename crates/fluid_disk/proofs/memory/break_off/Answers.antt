use Rattle.std.proofs.Common.{◌≡◌, ◌⊎◌, ◌+◌, ℕ, List, ◌∷◌, ◌++◌, take, drop, sym, subst}
use Rattle.fluid_disk.specs.declared.call.Call.{Call}
use Rattle.fluid_disk.specs.Disk.{Torn}
use Rattle.fluid_disk.specs.Memory.{MayLeave}
use Rattle.fluid_disk.proofs.Undoing.{left_torn, left_restored, left_uncut, one_of}
use Rattle.fluid_disk.proofs.memory.break_off.Goals as goal

pub returns-in-1 : goal.returns-in-1
returns-in-1 c = λ earlier.
    let held = c.args.held.now.items in
    let new = c.tear.new.held.items in
    let at = c.in-Wrote.at in
    let torn = subst (λ (r : List ℕ). (new ≡ held) ⊎ Torn at c.in-Wrote.count (take at held ++ r ++ drop (at + c.in-Wrote.count) held) new) c.as_slice.ensures c.tear.ensures in
    subst (λ (call : Call). MayLeave (call ∷ earlier) held new) (sym c.in-Wrote.is) (left_torn earlier at c.in-Wrote.count c.in-Wrote.replaced held new torn)

pub returns-in-2 : goal.returns-in-2
returns-in-2 c = λ earlier.
    let held = c.args.held.now.items in
    let new = c.tear-in-2.new.held.items in
    let at = c.in-Wrote.at in
    let torn = subst (λ (r : List ℕ). (new ≡ held) ⊎ Torn at c.in-Wrote.count (take at held ++ r ++ drop (at + c.in-Wrote.count) held) new) c.as_slice-in-2.ensures c.tear-in-2.ensures in
    subst (λ (call : Call). MayLeave (call ∷ earlier) held new) (sym c.in-Wrote.is) (left_torn earlier at c.in-Wrote.count c.in-Wrote.replaced held new torn)

pub returns-in-Wrote : goal.returns-in-Wrote
returns-in-Wrote c = λ earlier.
    let held = c.args.held.now.items in
    let new = c.restore.new.held.items in
    let at = c.in-Wrote.at in
    let back = subst (λ (r : List ℕ). (new ≡ held) ⊎ (new ≡ take at held ++ r ++ drop (at + c.in-Wrote.count) held)) c.as_slice-in_default.ensures c.restore.ensures in
    subst (λ (call : Call). MayLeave (call ∷ earlier) held new) (sym c.in-Wrote.is) (left_restored earlier at c.in-Wrote.count c.in-Wrote.replaced held new back)

pub returns-then-pick-gt1 : goal.returns-then-pick-gt1
returns-then-pick-gt1 c = λ earlier.
    let held = c.args.held.now.items in
    let new = c.extend_from_slice.new.self.items in
    let back = subst (λ (r : List ℕ). (new ≡ held) ⊎ (new ≡ held ++ r)) c.as_slice-then-pick-gt1.ensures
    (one_of _ new (held ++ c.as_slice-then-pick-gt1.result.now) held c.extend_from_slice.ensures.items) in
    subst (λ (call : Call). MayLeave (call ∷ earlier) held new) (sym c.in-CutOff.is) (left_uncut earlier c.in-CutOff.field-0 c.in-CutOff.removed held new back)
