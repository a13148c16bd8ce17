use Rattle.std.proofs.Common.{rules, ◌≡◌, ap, sym, ◌∙◌, ◌∷◌, unsigned_abs, FitsSigned, w64}
use Rattle.std.proofs.lemmas.Int.{to_z-of_z}
use Rattle.fluid_counter.specs.Counter.{shown}
use Rattle.fluid_counter.proofs.Sums.{amount-fits, total-fits, sum_kept-fits, left-fits, acknowledged-fits, kept-acknowledged, shown-acknowledged, stands_after, same_first}
use Rattle.fluid_counter.proofs.counter.SharedCounter.acknowledge.Goals as goal

pub overflow_sub-self : goal.overflow_sub-self
overflow_sub-self c =
    let taken : c.self.inside.pending.items ≡ c.unwrap-amount.result ∷ c.pop_front.new.self.items = search rules in
    let narrow : FitsSigned w64 c.unwrap-amount.result = search rules in
    let amount : c.from-2.result ≡ c.unwrap-amount.result = c.from-2.ensures ∙ to_z-of_z _ _ narrow in
    rw (amount, to_z-of_z _ _ (sum_kept-fits c.self.invariant), to_z-of_z _ _ (amount-fits narrow)) (left-fits _ _ taken c.self.invariant)

pub invariant_of-self : goal.invariant_of-self
invariant_of-self c =
    let taken : c.self.inside.pending.items ≡ c.unwrap-amount.result ∷ c.pop_front.new.self.items = search rules in
    let narrow : FitsSigned w64 c.unwrap-amount.result = search rules in
    let same = to_z-of_z _ _ narrow in
    let one = c.from.ensures ∙ same in
    let two = c.from-2.ensures ∙ same in
    let size = c.from-3.ensures ∙ c.unsigned_abs.ensures.value ∙ ap unsigned_abs same in
    rw (one, two, size, to_z-of_z _ _ (amount-fits narrow), to_z-of_z _ _ (total-fits c.self.invariant), to_z-of_z _ _ (sum_kept-fits c.self.invariant), to_z-of_z _ _ (acknowledged-fits _ _ taken c.self.invariant), to_z-of_z _ _ (left-fits _ _ taken c.self.invariant))
    (kept-acknowledged _ _ taken c.self.invariant)

pub returns-clause-shown : goal.returns-clause-shown
returns-clause-shown c =
    let taken : c.self.inside.pending.items ≡ c.unwrap-amount.result ∷ c.pop_front.new.self.items = search rules in
    let narrow : FitsSigned w64 c.unwrap-amount.result = search rules in
    let one = c.from.ensures ∙ to_z-of_z _ _ narrow in
    rw (one, to_z-of_z _ _ (amount-fits narrow), to_z-of_z _ _ (total-fits c.self.invariant), to_z-of_z _ _ (acknowledged-fits _ _ taken c.self.invariant))
    (shown-acknowledged _ _ taken c.self.invariant ∙ ap shown c.self.view_is)

pub returns-clause-stands : goal.returns-clause-stands
returns-clause-stands c = λ total amounts amount rest took is.
    let taken : c.self.inside.pending.items ≡ c.unwrap-amount.result ∷ c.pop_front.new.self.items = search rules in
    let narrow : FitsSigned w64 c.unwrap-amount.result = search rules in
    let one = c.from.ensures ∙ to_z-of_z _ _ narrow in
    let oldest : c.unwrap-amount.result ≡ amount = same_first (sym taken ∙ ap (λ s. s.pending) c.self.view_is ∙ took) in
    rw (one, to_z-of_z _ _ (amount-fits narrow), to_z-of_z _ _ (total-fits c.self.invariant), to_z-of_z _ _ (acknowledged-fits _ _ taken c.self.invariant), ← oldest)
    (stands_after total amounts c.unwrap-amount.result c.self.inside.acknowledged (ap (λ s. s.acknowledged) c.self.view_is ∙ is))
