-- The answers of the wire in memory to a receive that doesn't fail.
use Rattle.std.proofs.Common.{◌≡◌, ℕ, ◌==◌, List, Bool, true, false, Result, Ok, refl, sym, ap, ◌∙◌, subst, inr}
use Rattle.std.specs.List.{list_any}
use Rattle.fluid_io.specs.Causes.{one_more}
use Rattle.fluid_io.specs.Plan.{next_fails}
use Rattle.fluid_json.specs.Unless.{IsUnless}
use Rattle.fluid_lines.specs.declared.wire.Recv.{Recv}
use Rattle.fluid_lines.specs.declared.wire.Recv.TheVariants.{Quiet}
use Rattle.fluid_lines.specs.declared.wire.WireFault.{WireFault}
use Rattle.fluid_lines.specs.declared.wire.WireFault.TheVariants.{NoMemory}
use Rattle.fluid_lines.specs.Memory.{MemoryWiring, next_quiet, text_answer, recv_answer}

-- whether the next receive is quiet, from a search for its number
pub quiet_is : (s : MemoryWiring) (number : ℕ) (quiet : List ℕ) (found answer : Bool) → number ≡ one_more s.receives.calls → quiet ≡ s.quiet
    → found ≡ list_any (λ n. n == number) quiet → found ≡ answer → next_quiet s ≡ answer
quiet_is s number quiet found answer is_number is_quiet is_found is =
    sym (is_found ∙ ap (λ k. list_any (λ n. n == k) quiet) is_number ∙ ap (λ q. list_any (λ n. n == one_more s.receives.calls) q) is_quiet) ∙ is

pub answers_quiet : (s w : MemoryWiring) → s ≡ w → next_fails s.receives ≡ false → next_quiet s ≡ true
    → IsUnless NoMemory (Ok Quiet) (recv_answer w)
answers_quiet s w same well quiet =
    let P : MemoryWiring → Type 0 = λ v. IsUnless NoMemory (Ok Quiet) (recv_answer v) in
    let is : recv_answer s ≡ Ok Quiet = rw (well, quiet) refl in
    subst P same (inr (sym is))

pub answers_text : (s w : MemoryWiring) (result : Result Recv WireFault) → s ≡ w → next_fails s.receives ≡ false → next_quiet s ≡ false
    → IsUnless NoMemory result (Ok (text_answer s.texts)) → IsUnless NoMemory result (recv_answer w)
answers_text s w result same well loud answer =
    let P : MemoryWiring → Type 0 = λ v. IsUnless NoMemory result (recv_answer v) in
    let Q : Result Recv WireFault → Type 0 = λ e. IsUnless NoMemory result e in
    let is : recv_answer s ≡ Ok (text_answer s.texts) = rw (well, loud) refl in
    subst P same (subst Q (sym is) answer)
