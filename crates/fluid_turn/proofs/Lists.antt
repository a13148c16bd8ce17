-- Facts on prefixes, and on the entries of one seat.
use Rattle.std.proofs.Common.{◌≡◌, ◌≢◌, ℕ, eq-eqb, ne_eqb, false, List, [], ◌∷◌, ◌++◌, length, refl, sym, ap, ◌∙◌, append_assoc, append-nil, zero, suc, set, ◌<◌, ◌≤◌, arith}
use mathlib.Core.Option.{some, some-ne-none}
use lib.ListN.{get_elem?}
use Rattle.std.proofs.lemmas.List.{map-append}
use Rattle.std.proofs.lemmas.List.Elements.{filter-append}
use Rattle.fluid_turn.specs.declared.view.Numbered.{Numbered}
use Rattle.fluid_turn.specs.Entries.{IsPrefix, by_seat, of_nobody, entries, is_number, made_by, AllBySeats, IsSigned}
use Rattle.fluid_turn.specs.Rule.{EachPrefix}

module _ {X : Type 0} where
  pub prefix_refl : (l : List X) → IsPrefix l l
  prefix_refl l = ([], sym (append-nil l))

  pub prefix_trans : (a b c : List X) → IsPrefix a b → IsPrefix b c → IsPrefix a c
  prefix_trans a b c p q = (p.0 ++ q.0, q.1 ∙ ap (λ l. l ++ q.0) p.1 ∙ append_assoc a p.0 q.0)

  pub prefix-append : (a b more : List X) → IsPrefix a b → IsPrefix a (b ++ more)
  prefix-append a b more p = prefix_trans a b (b ++ more) p (more, refl)

  pub nil_of_append : (a b : List X) → a ++ b ≡ [] → a ≡ []
  nil_of_append [] b e = refl
  nil_of_append (x ∷ xs) b e = absurd (cc)

  pub at_here : (l : List X) (i : ℕ) (a b : X) → get_elem? l i ≡ some a → get_elem? (set l i b) i ≡ some b
  at_here [] i a b e = absurd (some-ne-none a (sym e))
  at_here (x ∷ xs) zero a b e = refl
  at_here (x ∷ xs) (suc i) a b e = at_here xs i a b e

  pub at_below : (l : List X) (i : ℕ) (a : X) → get_elem? l i ≡ some a → i < length l
  at_below [] i a e = absurd (some-ne-none a (sym e))
  at_below (x ∷ xs) zero a e = omega arith
  at_below (x ∷ xs) (suc i) a e = let r = at_below xs i a e in omega arith

  pub at_prefix : (l m : List X) (i : ℕ) (a : X) → i < length l → get_elem? (l ++ m) i ≡ some a → get_elem? l i ≡ some a
  at_prefix [] m i a h e = absurd (omega arith)
  at_prefix (x ∷ xs) m zero a h e = e
  at_prefix (x ∷ xs) m (suc i) a h e = at_prefix xs m i a (omega arith) e

module _ {E : Type 0} where
  pub each_prefix-append : (ls : List (List (Numbered E))) (l more : List (Numbered E)) → EachPrefix ls l → EachPrefix ls (l ++ more)
  each_prefix-append [] l more p = tt
  each_prefix-append (x ∷ xs) l more p = (prefix-append x l more p.0, each_prefix-append xs l more p.1)

  pub entries-append : (a b : List (Numbered E)) → entries (a ++ b) ≡ entries a ++ entries b
  entries-append a b = map-append (λ x. x.entry) a b

  pub entries-of_nobody : (l : List E) → entries (of_nobody l) ≡ l
  entries-of_nobody [] = refl
  entries-of_nobody (x ∷ xs) = ap (λ l. x ∷ l) (entries-of_nobody xs)

  pub made_by-append : (by : ℕ) (a b : List (Numbered E)) → made_by by (a ++ b) ≡ made_by by a ++ made_by by b
  made_by-append by a b = ap entries (filter-append (λ x. is_number by x.number) a b) ∙ entries-append _ _

  pub made_by-of_nobody : (by : ℕ) (l : List E) → made_by by (of_nobody l) ≡ []
  made_by-of_nobody by [] = refl
  made_by-of_nobody by (x ∷ xs) = made_by-of_nobody by xs

  pub made_by-own : (by : ℕ) (e : E) → made_by by (by_seat by e ∷ []) ≡ e ∷ []
  made_by-own by e = rw (eq-eqb by by refl) refl

  pub made_by-other : (by other : ℕ) (e : E) → by ≢ other → made_by by (by_seat other e ∷ []) ≡ []
  made_by-other by other e apart = rw (ne_eqb other by (λ same. apart (sym same))) refl

  -- a seat whose number no entry of the list bears has none in a prefix of it
  pub made_by-prefix : (by : ℕ) (prefix whole : List (Numbered E)) → IsPrefix prefix whole → made_by by whole ≡ [] → made_by by prefix ≡ []
  made_by-prefix by prefix whole p none = nil_of_append (made_by by prefix) (made_by by p.0) (sym (made_by-append by prefix p.0) ∙ ap (made_by by) (sym p.1) ∙ none)

  bearing_less : (seats by : ℕ) (l : List (Numbered E)) → seats ≤ by → AllBySeats seats l → made_by by l ≡ []
  bearing_less seats by [] le all = refl
  bearing_less seats by (x ∷ xs) le all =
      let n = all.0.0 in
      let below : n < seats = all.0.1 in
      let other : is_number by x.number ≡ false = ap (is_number by) all.0.2 ∙ ne_eqb n by (λ same. absurd (omega arith)) in
      rw other (bearing_less seats by xs le all.1)

  -- a seat that there isn't has entered nothing
  pub made_by-signed : (began : List E) (seats by : ℕ) (l : List (Numbered E)) → seats ≤ by → IsSigned began seats l → made_by by l ≡ []
  made_by-signed began seats by l le s =
      ap (made_by by) s.1 ∙ made_by-append by (of_nobody began) s.0 ∙ ap (λ k. k ++ made_by by s.0) (made_by-of_nobody by began) ∙ bearing_less seats by s.0 le s.2

  all_by_more : (seats more : ℕ) (l : List (Numbered E)) → seats ≤ more → AllBySeats seats l → AllBySeats more l
  all_by_more seats more [] le all = tt
  all_by_more seats more (x ∷ xs) le all = let n = all.0.0 in let below : n < seats = all.0.1 in ((n, omega arith, all.0.2), all_by_more seats more xs le all.1)

  all_by-push : (seats : ℕ) (l : List (Numbered E)) (number : ℕ) (e : E) → number < seats → AllBySeats seats l → AllBySeats seats (l ++ by_seat number e ∷ [])
  all_by-push seats [] number e below all = ((number, below, refl), tt)
  all_by-push seats (x ∷ xs) number e below all = (all.0, all_by-push seats xs number e below all.1)

  pub signed-more : (began : List E) (seats more : ℕ) (l : List (Numbered E)) → seats ≤ more → IsSigned began seats l → IsSigned began more l
  signed-more began seats more l le s = (s.0, s.1, all_by_more seats more s.0 le s.2)

  pub signed-push : (began : List E) (seats : ℕ) (l : List (Numbered E)) (number : ℕ) (e : E) → number < seats → IsSigned began seats l → IsSigned began seats (l ++ by_seat number e ∷ [])
  signed-push began seats l number e below s =
      let new = by_seat number e ∷ [] in
      (s.0 ++ new, ap (λ k. k ++ new) s.1 ∙ append_assoc (of_nobody began) s.0 new, all_by-push seats s.0 number e below s.2)

  pub signed-of_nobody : (began : List E) (seats : ℕ) → IsSigned began seats (of_nobody began)
  signed-of_nobody began seats = ([], sym (append-nil (of_nobody began)), tt)
