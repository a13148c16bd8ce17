-- Reading the items of a list, and what their numbers are.
use Rattle.std.specs.declared.cmp.Ordering.TheVariants.{Less}
use Rattle.std.proofs.Common.{◌≡◌, ℕ, ℤ, pos, negsuc, zero, suc, ◌≤◌, arith, Bool, true, false, cond, ◌&&◌, T, nat_le, List, [], ◌∷◌, ◌++◌, get_or, map, Option, Some, None, option_map, refl, sym, ap, subst, append_assoc}
use Rattle.std.specs.Prelude.{option_and_then, unwrap_or, IsUtf8}
use Rattle.std.specs.Str.{is_utf8}
use Rattle.std.proofs.lemmas.Str.{is_utf8-from_IsUtf8, IsUtf8-from_is_utf8}
use Rattle.std.specs.Cmp.{nat_cmp_total, ranked}
use Rattle.std.specs.Ordering.{nat_cmp}
use Rattle.std.specs.FinMap.Entries.{is_sorted}
use Rattle.std.proofs.lemmas.List.{length-map}
use Rattle.fluid_json.specs.Tree as json
use Rattle.fluid_json.specs.Tree.{Tree, Trees, no_trees, tree, trees, as_whole, as_text}
use Rattle.fluid_types.specs.Texts.{name_of}
use Rattle.fluid_types.specs.declared.fault.Field.TheVariants as field
use Rattle.fluid_types.specs.declared.quorum.Proposal.{Proposal}
use Rattle.fluid_table.proofs.Ordered.{rises}
use Rattle.fluid_quorum.specs.Lists.{AreRising, AreUpTo}
use Rattle.fluid_quorum.specs.Reading.{within, count_at, text_at, proposal_form, each, as_utf8}

-- ---- one item after another

module _ {A : Type 0} (form : Tree → Option A) where
  each_more : (done : List A) (a : A) (o : Option (List A)) → option_map (λ vs. done ++ vs) (option_and_then (λ bs. Some (a ∷ bs)) o) ≡ option_map (λ vs. (done ++ a ∷ []) ++ vs) o
  each_more done a None = refl
  each_more done a (Some bs) = ap Some (sym (append_assoc done (a ∷ []) bs))

  pub each_fails : (done : List A) (t : Tree) (ts : List Tree) → form t ≡ None → option_map (λ vs. done ++ vs) (each form (trees (t ∷ ts))) ≡ None
  each_fails done t ts is = rw is refl

-- ---- numbers within bounds

within_bound : (low high : ℕ) (z : ℤ) (n : ℕ) → within low high z ≡ Some n → n ≤ high
within_bound low high (pos k) n is = by_tests (nat_le low k) (nat_le k high) refl is
  where
    by_tests : (a b : Bool) → nat_le k high ≡ b → cond (a && b) (Some k) None ≡ Some n → n ≤ high
    by_tests true true le found = let same : k ≡ n = ap (λ o. unwrap_or o k) found in omega (arith, same, bounded k high le)
      where
        bounded : (x y : ℕ) → nat_le x y ≡ true → x ≤ y
        bounded x y h = grind arith
    by_tests true false le found = cc
    by_tests false b le found = cc
within_bound low high (negsuc k) n is = cc

whole_bound : (low high : ℕ) (z : Option ℤ) (n : ℕ) → option_and_then (within low high) z ≡ Some n → n ≤ high
whole_bound low high None n is = cc
whole_bound low high (Some z) n is = within_bound low high z n is

value_bound : (low high : ℕ) (v : Option Tree) (n : ℕ) → option_and_then (λ value. option_and_then (within low high) (as_whole value)) v ≡ Some n → n ≤ high
value_bound low high None n is = cc
value_bound low high (Some value) n is = whole_bound low high (as_whole value) n is

-- a proposal that is read has a number up to the last one
made_bound : (last : ℕ) (k : Option (List ℕ)) (c : Option ℕ) (v : Option Tree) (p : Proposal) → ((n : ℕ) → c ≡ Some n → n ≤ last)
    → option_and_then (λ key. option_and_then (λ number. option_and_then (λ value. Some (record { number = number; key = key; value = value })) v) c) k ≡ Some p → p.number ≤ last
made_bound last None c v p h is = cc
made_bound last (Some key) None v p h is = cc
made_bound last (Some key) (Some n) None p h is = cc
made_bound last (Some key) (Some n) (Some value) p h is =
    let same : n ≡ p.number = ap (λ (o : Option Proposal). unwrap_or (option_map (λ q. q.number) o) n) is in omega (arith, same, h n refl)

proposal_bound : (last : ℕ) (t : Tree) (p : Proposal) → proposal_form last t ≡ Some p → p.number ≤ last
proposal_bound last t p is =
    made_bound last (text_at field.Key t) (count_at field.SequenceNumber 1 last t) (json.find (name_of field.Value) t) p
    (λ n found. value_bound 1 last (json.find (name_of field.SequenceNumber) t) n found) is

first_bounded : (last : ℕ) (p : Proposal) (ps : List Proposal) → p.number ≤ last → AreUpTo last ps → AreUpTo last (p ∷ ps)
first_bounded last p ps le rest zero d lt = le
first_bounded last p ps le rest (suc k) d lt = rest k d (omega arith)

more_bounded : (last : ℕ) (first : Option Proposal) (rest : Option (List Proposal)) (ps : List Proposal) → ((p : Proposal) → first ≡ Some p → p.number ≤ last)
    → ((qs : List Proposal) → rest ≡ Some qs → AreUpTo last qs) → option_and_then (λ p. option_and_then (λ qs. Some (p ∷ qs)) rest) first ≡ Some ps → AreUpTo last ps
more_bounded last None rest ps h g is = cc
more_bounded last (Some p) None ps h g is = cc
more_bounded last (Some p) (Some qs) ps h g is =
    let same : p ∷ qs ≡ ps = ap (λ o. unwrap_or o (p ∷ qs)) is in subst (AreUpTo last) same (first_bounded last p qs (h p refl) (g qs refl))

each_bounded : (last : ℕ) (ts : Trees) (ps : List Proposal) → each (proposal_form last) ts ≡ Some ps → AreUpTo last ps
each_bounded last no_trees ps is = let same : [] ≡ ps = ap (λ o. unwrap_or o []) is in subst (AreUpTo last) same (λ k d lt. absurd (omega arith))
each_bounded last (tree t ts) ps is = more_bounded last (proposal_form last t) (each (proposal_form last) ts) ps (proposal_bound last t) (each_bounded last ts) is

abbrev by_number : Proposal → ℕ × Proposal
by_number p = (p.number, p)

read_mapped : (ps : List Proposal) (i : ℕ) (d : Proposal) → get_or (map by_number ps) i (by_number d) ≡ by_number (get_or ps i d)
read_mapped [] i d = refl
read_mapped (p ∷ ps) zero d = refl
read_mapped (p ∷ ps) (suc i) d = read_mapped ps i d

all_rising : (ps : List Proposal) → is_sorted nat_cmp (map by_number ps) ≡ true → AreRising ps
all_rising ps is i j d lt high =
    let less = rises nat_cmp_total (map by_number ps) i j (by_number d) (subst T (sym is) tt) lt (omega (arith, high, length-map ps by_number)) in
    let left = ap (λ (e : ℕ × Proposal). e.0) (read_mapped ps i d) in
    let right = ap (λ (e : ℕ × Proposal). e.0) (read_mapped ps j d) in
    let named = subst (λ n. nat_cmp n (get_or ps j d).number ≡ Less) left (subst (λ n. nat_cmp (get_or (map by_number ps) i (by_number d)).0 n ≡ Less) right less) in
    ranked (get_or ps i d).number (get_or ps j d).number Less (sym named)

-- proposals that are read, in the order of their numbers, are kept so
pub kept : (last : ℕ) (ts : Trees) (ps : List Proposal) → each (proposal_form last) ts ≡ Some ps → is_sorted nat_cmp (map by_number ps) ≡ true → AreRising ps × AreUpTo last ps
kept last ts ps read sorted = (all_rising ps sorted, each_bounded last ts ps read)

-- ---- texts

pub is_text : (s t : List ℕ) → t ≡ s → IsUtf8 s → Some t ≡ as_utf8 s
is_text s t same utf8 = rw (is_utf8-from_IsUtf8 s utf8) (ap Some same)

pub no_text : (s : List ℕ) → ¬ (IsUtf8 s) → None ≡ as_utf8 s
no_text s never =
    elim (is_utf8 s) as (λ b. is_utf8 s ≡ b → None ≡ cond b (Some s) None) [
      | true ↦ λ is. absurd (never (IsUtf8-from_is_utf8 s is))
      | false ↦ λ is. refl
    ] refl
