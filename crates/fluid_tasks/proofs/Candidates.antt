-- What each message makes of the candidates of a task.
use Rattle.std.proofs.Common.{◌≡◌, ℕ, ◌+◌, ◌<◌, ◌==◌, Bool, true, false, not, ◌&&◌, cond, List, [], ◌∷◌, ◌++◌, length, Option, Some, None, refl, sym, ◌∙◌, ap, ap₂, subst, arith, append-nil, nat_cmp, inl, inr, ◌⊎◌, bytes_eq}
use Rattle.std.specs.Prelude.{filter, is_none}
use Rattle.std.specs.List.{AllByRecursion}
use Rattle.std.specs.Map.{lookup, remove_entry}
use Rattle.std.specs.Ordering.{is_eq, match_ordering, MatchOrdering}
use Rattle.std.specs.declared.cmp.Ordering.{Ordering}
use Rattle.std.specs.declared.cmp.Ordering.TheVariants.{Less, Equal, Greater}
use Rattle.std.proofs.lemmas.Cmp.{ranked}
use Rattle.std.specs.BTreeMap.{is_at, insert_entry}
use Rattle.std.proofs.lemmas.Bool.{eqb-true, eq-eqb, false_from_ne_true, cases_Bool}
use Rattle.std.proofs.lemmas.List.Elements.{filter-append}
use Rattle.std.proofs.lemmas.Slice.Eq.{bytes_eq-Decides}
use Rattle.fluid_types.specs.declared.messages.Message.{Message}
use Rattle.fluid_rules.proofs.Ids.{own_id}
use Rattle.fluid_tasks.specs.declared.acts.Act.TheVariants.{Add, Acquire, Complete, Release, Volunteer, Abandon, Finish}
use Rattle.fluid_tasks.specs.Acts.{Said, Does, Leaves, Nothing, said}
use Rattle.fluid_tasks.specs.Past.{Past, is_text, is_number, volunteering, Volunteering, numbered, volunteerings, since_behind, standing_since, standing, candidates, holder}
use Rattle.fluid_tasks.specs.Kept.{IsNumbered, pairs}
use Rattle.fluid_tasks.proofs.Lists.{no_test, all-append, all-weaker, all-any, all-filter, filter-same, filter-none, filter-all, filter-both, self}
use Rattle.fluid_tasks.proofs.Facts.{number_is}

-- ---- one message more

pub since-step : (m : Message) (past : Past) (d : Said) → said m ≡ d → (u c : List ℕ) → standing_since (m ∷ past) u c ≡ since_behind m.number d u (holder past u) c (standing_since past u c)
unfolding standing_since holder candidates standing
since-step m past d is u c = rw is refl

pub volunteerings-step : (m : Message) (past : Past) (d : Said) → said m ≡ d → (u : List ℕ) → volunteerings (m ∷ past) u ≡ volunteerings past u ++ numbered m.number (volunteering u d)
unfolding volunteerings
volunteerings-step m past d is u = rw is refl

-- a volunteering of one that stands since then
abbrev pub stands : Past → List ℕ → Volunteering → Bool
stands past u v = is_number (standing_since past u v.client) v.number

pub standing-filter : (past : Past) (u : List ℕ) → standing past u ≡ filter (stands past u) (volunteerings past u)
unfolding standing
standing-filter past u = refl

-- ---- numbers

abbrev pub Numbered : ℕ → List Volunteering → Type 0
Numbered n vs = AllByRecursion (λ (v : Volunteering). v.number < n) vs

abbrev pub Rise : List Volunteering → Type 0
Rise [] = Unit {0}
Rise (v ∷ vs) = AllByRecursion (λ (w : Volunteering). v.number < w.number) vs × Rise vs

number_below : (n k : ℕ) (o : Option (List ℕ)) → n < k → Numbered k (numbered n o)
number_below n k None lt = tt
number_below n k (Some c) lt = (lt, tt)

pub volunteered_below : (past : Past) → IsNumbered past → (u : List ℕ) → Numbered (length past + 1) (volunteerings past u)
unfolding volunteerings
volunteered_below [] h u = tt
volunteered_below (m ∷ past) h u =
    all-append (λ (v : Volunteering). v.number < length (m ∷ past) + 1) (volunteerings past u) (numbered m.number (volunteering u (said m)))
    (all-weaker (λ (v : Volunteering). v.number < length past + 1) (λ (v : Volunteering). v.number < length (m ∷ past) + 1) (λ v lt. omega (arith, lt)) (volunteerings past u) (volunteered_below past h.1 u))
    (number_below m.number (length (m ∷ past) + 1) (volunteering u (said m)) (omega (arith, h.0)))

rise-push : (vs : List Volunteering) (w : Volunteering) → Rise vs → Numbered w.number vs → Rise (vs ++ w ∷ [])
rise-push [] w rise below = (tt, tt)
rise-push (v ∷ vs) w rise below = (all-append (λ (x : Volunteering). v.number < x.number) vs (w ∷ []) rise.0 (below.0, tt), rise-push vs w rise.1 below.1)

pub volunteered_rise : (past : Past) → IsNumbered past → (u : List ℕ) → Rise (volunteerings past u)
unfolding volunteerings
volunteered_rise [] h u = tt
volunteered_rise (m ∷ past) h u = of (volunteering u (said m)) (volunteered_rise past h.1 u)
  where
    of : (o : Option (List ℕ)) → Rise (volunteerings past u) → Rise (volunteerings past u ++ numbered m.number o)
    of None before = subst Rise (sym (append-nil (volunteerings past u))) before
    of (Some c) before = rise-push (volunteerings past u) (record { number = m.number; client = c }) before (subst (λ n. Numbered n (volunteerings past u)) (sym h.0) (volunteered_below past h.1 u))

rise-filter : (p : Volunteering → Bool) (vs : List Volunteering) → Rise vs → Rise (filter p vs)
rise-filter p [] rise = tt
rise-filter p (v ∷ vs) rise = of (p v) (rise-filter p vs rise.1)
  where
    of : (b : Bool) → Rise (filter p vs) → Rise (cond b (v ∷ filter p vs) (filter p vs))
    of true rest = (all-filter (λ (w : Volunteering). v.number < w.number) (λ (w : Volunteering). v.number < w.number) p (λ w lt is. lt) vs rise.0, rest)
    of false rest = rest

pub standing_rise : (past : Past) → IsNumbered past → (u : List ℕ) → Rise (standing past u)
unfolding standing
standing_rise past h u = rise-filter (stands past u) (volunteerings past u) (volunteered_rise past h u)

pub standing_below : (past : Past) → IsNumbered past → (u : List ℕ) → Numbered (length past + 1) (standing past u)
unfolding standing
standing_below past h u =
    all-filter (λ (v : Volunteering). v.number < length past + 1) (λ (v : Volunteering). v.number < length past + 1) (stands past u) (λ v lt is. lt) (volunteerings past u) (volunteered_below past h u)

-- each candidate stands since its number
pub standing_stand : (past : Past) (u : List ℕ) → AllByRecursion (λ (v : Volunteering). standing_since past u v.client ≡ Some v.number) (standing past u)
unfolding standing
standing_stand past u =
    all-filter (λ (v : Volunteering). Unit {0}) (λ (v : Volunteering). standing_since past u v.client ≡ Some v.number) (stands past u)
    (λ v h is. number_is (standing_since past u v.client) v.number is) (volunteerings past u) (all-any (λ (v : Volunteering). Unit {0}) (λ v. tt) (volunteerings past u))

-- ---- who stands volunteered

-- a client volunteered with this number
abbrev pub Among : ℕ → List ℕ → List Volunteering → Type 0
Among k c [] = ⊥
Among k c (v ∷ vs) = ((v.number ≡ k) × (v.client ≡ c)) ⊎ Among k c vs

among-prefix : (k : ℕ) (c : List ℕ) (vs ws : List Volunteering) → Among k c vs → Among k c (vs ++ ws)
among-prefix k c [] ws is = absurd is
among-prefix k c (v ∷ vs) ws (inl is) = inl is
among-prefix k c (v ∷ vs) ws (inr is) = inr (among-prefix k c vs ws is)

among-last : (k : ℕ) (c : List ℕ) (vs : List Volunteering) → Among k c (vs ++ record { number = k; client = c } ∷ [])
among-last k c [] = inl (refl, refl)
among-last k c (v ∷ vs) = inr (among-last k c vs)

pub some_is : {X : Type 0} (x y : X) → Some x ≡ Some y → x ≡ y
some_is x y is = cc

-- what stood behind a message and is not left out stood before it
left_in : (b : Bool) (o : Option ℕ) (k : ℕ) → cond b None o ≡ Some k → o ≡ Some k
left_in true o k is = absurd (cc)
left_in false o k is = is

pub stood_among : (past : Past) (u c : List ℕ) (k : ℕ) → standing_since past u c ≡ Some k → Among k c (volunteerings past u)
unfolding standing_since
stood_among [] u c k is = absurd (cc)
stood_among (m ∷ past) u c k is = subst (Among k c) (sym (volunteerings-step m past (said m) refl u)) (of (λ at. stood_among past u c k at) (said m) refl)
  where
    Before : Type 0
    Before = standing_since past u c ≡ Some k → Among k c (volunteerings past u)

    step : (d : Said) → said m ≡ d → since_behind m.number d u (holder past u) c (standing_since past u c) ≡ Some k
    step d at = sym (since-step m past d at u c) ∙ is

    prefix : Before → standing_since past u c ≡ Some k → (ws : List Volunteering) → Among k c (volunteerings past u ++ ws)
    prefix before at ws = among-prefix k c (volunteerings past u) ws (before at)

    -- a volunteering of this client, where it didn't stand, and another one
    began : Before → (e : List ℕ) (o : Option ℕ) → standing_since past u c ≡ o → bytes_eq e c ≡ true → cond (is_none o) (Some m.number) o ≡ Some k → Among k c (volunteerings past u ++ record { number = m.number; client = e } ∷ [])
    began before e None at same now =
        let number_is : m.number ≡ k = cc in
        let client_is : e ≡ c = (bytes_eq-Decides e c).0 same in
        subst (λ n. Among n c (volunteerings past u ++ record { number = m.number; client = e } ∷ [])) number_is
        (subst (λ d. Among m.number d (volunteerings past u ++ record { number = m.number; client = e } ∷ [])) client_is (among-last m.number e (volunteerings past u)))
    began before e (Some j) at same now = prefix before (at ∙ now) _

    volunteered : Before → (e own : List ℕ) (a b : Bool) → bytes_eq own u ≡ a → bytes_eq e c ≡ b → cond (a && (b && is_none (standing_since past u c))) (Some m.number) (standing_since past u c) ≡ Some k
        → Among k c (volunteerings past u ++ numbered m.number (cond a (Some e) None))
    volunteered before e own true true at same now = began before e (standing_since past u c) refl same now
    volunteered before e own true false at same now = prefix before now _
    volunteered before e own false b at same now = prefix before now _

    of : Before → (d : Said) → said m ≡ d → Among k c (volunteerings past u ++ numbered m.number (volunteering u d))
    of before (Does e (Add q v)) at = prefix before (step _ at) _
    of before (Does e (Acquire q)) at = prefix before (step _ at) _
    of before (Does e (Complete q i)) at = prefix before (step _ at) _
    of before (Does e (Release q i)) at = prefix before (step _ at) _
    of before (Does e (Volunteer own)) at = volunteered before e own (bytes_eq own u) (bytes_eq e c) refl refl (step _ at)
    of before (Does e (Abandon own)) at = prefix before (left_in (bytes_eq own u && bytes_eq e c) _ k (step _ at)) _
    of before (Does e (Finish own)) at = prefix before (left_in (bytes_eq own u && is_text (holder past u) e) _ k (step _ at)) _
    of before (Leaves e) at = prefix before (left_in (bytes_eq e c) _ k (step _ at)) _
    of before Nothing at = prefix before (step _ at) _

-- a client stands since a number that was given
pub stood_below : (past : Past) → IsNumbered past → (u c : List ℕ) (k : ℕ) → standing_since past u c ≡ Some k → k < length past + 1
stood_below past h u c k is = of (volunteerings past u) (volunteered_below past h u) (stood_among past u c k is)
  where
    of : (vs : List Volunteering) → Numbered (length past + 1) vs → Among k c vs → k < length past + 1
    of [] all at = absurd at
    of (v ∷ vs) all (inl at) = let number_is = at.0 in omega (arith, number_is, all.0)
    of (v ∷ vs) all (inr at) = of vs all.1 at

-- ---- entries under their numbers

pub eq-cmp : (k n : ℕ) → is_eq (nat_cmp k n) ≡ (k == n)
eq-cmp k n = of (nat_cmp k n) (ranked k n (nat_cmp k n) refl)
  where
    of : (r : Ordering) → MatchOrdering r (k < n) (k ≡ n) (n < k) → is_eq r ≡ (k == n)
    of Less lt = sym (false_from_ne_true (k == n) (λ same. let is = eqb-true k n same in omega (arith, is, lt)))
    of Equal is = sym (eq-eqb k n is)
    of Greater gt = sym (false_from_ne_true (k == n) (λ same. let is = eqb-true k n same in omega (arith, is, gt)))

greater : (n k : ℕ) → k < n → nat_cmp n k ≡ Greater
greater n k lt = of (nat_cmp n k) refl (ranked n k (nat_cmp n k) refl)
  where
    of : (r : Ordering) → nat_cmp n k ≡ r → MatchOrdering r (n < k) (n ≡ k) (k < n) → nat_cmp n k ≡ Greater
    of Less at less = absurd (omega (arith, less, lt))
    of Equal at is = absurd (omega (arith, is, lt))
    of Greater at gt = at

-- the greatest number stands last
pub insert-last : {X : Type 0} (es : List (ℕ × X)) (n : ℕ) (x : X) → AllByRecursion (λ e. e.0 < n) es → insert_entry nat_cmp es n x ≡ es ++ (n, x) ∷ []
insert-last [] n x all = refl
insert-last (e ∷ es) n x all = ap (λ r. match_ordering r ((n, x) ∷ e ∷ es) ((e.0, x) ∷ es) (e ∷ insert_entry nat_cmp es n x)) (greater n e.0 all.0) ∙ ap (λ l. e ∷ l) (insert-last es n x all.1)

pub pairs-append : (vs ws : List Volunteering) → pairs (vs ++ ws) ≡ pairs vs ++ pairs ws
pairs-append [] ws = refl
pairs-append (v ∷ vs) ws = ap (λ l. (v.number, v.client) ∷ l) (pairs-append vs ws)

pub pairs-below : (n : ℕ) (vs : List Volunteering) → Numbered n vs → AllByRecursion (λ e. e.0 < n) (pairs vs)
pairs-below n [] all = tt
pairs-below n (v ∷ vs) all = (all.0, pairs-below n vs all.1)

-- what is found under a number stands among them
pub found_in : (P : Volunteering → Type 0) (vs : List Volunteering) → AllByRecursion P vs → (k : ℕ) (c : List ℕ) → lookup (is_at (nat_cmp k)) (pairs vs) ≡ Some c → P (record { number = k; client = c })
found_in P [] all k c is = absurd (cc)
found_in P (v ∷ vs) all k c is = elim (cases_Bool (k == v.number)) [
  | inl same ↦
      let number_is : k ≡ v.number = eqb-true k v.number same in
      let client_is : v.client ≡ c = some_is v.client c (sym (ap (λ b. cond b (Some v.client) (lookup (is_at (nat_cmp k)) (pairs vs))) (eq-cmp k v.number ∙ same)) ∙ is) in
      subst (λ n. P (record { number = n; client = c })) (sym number_is) (subst (λ d. P (record { number = v.number; client = d })) client_is all.0)
  | inr other ↦ found_in P vs all.1 k c (sym (ap (λ b. cond b (Some v.client) (lookup (is_at (nat_cmp k)) (pairs vs))) (eq-cmp k v.number ∙ other)) ∙ is)
]

above_among : (n k : ℕ) (c : List ℕ) (vs : List Volunteering) → AllByRecursion (λ (w : Volunteering). n < w.number) vs → Among k c vs → n < k
above_among n k c [] all at = absurd at
above_among n k c (v ∷ vs) all (inl at) = let is = at.0 in omega (arith, is, all.0)
above_among n k c (v ∷ vs) all (inr at) = above_among n k c vs all.1 at

-- one that stands among them is found under its number
pub found_there : (k : ℕ) (c : List ℕ) (vs : List Volunteering) → Rise vs → Among k c vs → lookup (is_at (nat_cmp k)) (pairs vs) ≡ Some c
found_there k c [] rise at = absurd at
found_there k c (v ∷ vs) rise (inl at) =
    ap (λ b. cond b (Some v.client) (lookup (is_at (nat_cmp k)) (pairs vs))) (eq-cmp k v.number ∙ eq-eqb k v.number (sym at.0)) ∙ ap Some at.1
found_there k c (v ∷ vs) rise (inr at) =
    let above = above_among v.number k c vs rise.0 at in
    ap (λ b. cond b (Some v.client) (lookup (is_at (nat_cmp k)) (pairs vs)))
    (eq-cmp k v.number ∙ false_from_ne_true (k == v.number) (λ same. let is = eqb-true k v.number same in omega (arith, is, above)))
    ∙ found_there k c vs rise.1 at

among-filter : (p : Volunteering → Bool) (k : ℕ) (c : List ℕ) (vs : List Volunteering) → p (record { number = k; client = c }) ≡ true → Among k c vs → Among k c (filter p vs)
among-filter p k c [] own at = absurd at
among-filter p k c (v ∷ vs) own (inl at) = of (p v) refl
  where
    its : p v ≡ true
    its = subst (λ n. p (record { number = n; client = v.client }) ≡ true) (sym at.0) (subst (λ d. p (record { number = k; client = d }) ≡ true) (sym at.1) own)

    of : (b : Bool) → p v ≡ b → Among k c (cond b (v ∷ filter p vs) (filter p vs))
    of true is = inl at
    of false is = absurd (no_test (p v) its is)
among-filter p k c (v ∷ vs) own (inr at) = of (p v) (among-filter p k c vs own at)
  where
    of : (b : Bool) → Among k c (filter p vs) → Among k c (cond b (v ∷ filter p vs) (filter p vs))
    of true rest = inr rest
    of false rest = rest

-- a client stands since a number exactly where it is found under it
pub stood_found : (past : Past) → IsNumbered past → (u c : List ℕ) (k : ℕ) → standing_since past u c ≡ Some k → lookup (is_at (nat_cmp k)) (pairs (standing past u)) ≡ Some c
stood_found past h u c k is =
    found_there k c (standing past u) (standing_rise past h u)
    (subst (Among k c) (sym (standing-filter past u))
    (among-filter (stands past u) k c (volunteerings past u) (ap (λ o. is_number o k) is ∙ eq-eqb k k refl) (stood_among past u c k is)))

pub found_stands : (past : Past) (u c : List ℕ) (k : ℕ) → lookup (is_at (nat_cmp k)) (pairs (standing past u)) ≡ Some c → standing_since past u c ≡ Some k
found_stands past u c k is = found_in (λ (v : Volunteering). standing_since past u v.client ≡ Some v.number) (standing past u) (standing_stand past u) k c is

-- ---- what a message changes

standing-step : (m : Message) (past : Past) (d : Said) → said m ≡ d → (u : List ℕ) → standing (m ∷ past) u ≡ filter (stands (m ∷ past) u) (volunteerings past u ++ numbered m.number (volunteering u d))
standing-step m past d is u = standing-filter (m ∷ past) u ∙ ap (filter (stands (m ∷ past) u)) (volunteerings-step m past d is u)

quiet : (m : Message) (past : Past) (d : Said) → said m ≡ d → (u : List ℕ) → volunteering u d ≡ None → standing (m ∷ past) u ≡ filter (stands (m ∷ past) u) (volunteerings past u)
quiet m past d is u none =
    standing-step m past d is u ∙ ap (filter (stands (m ∷ past) u)) (ap (λ o. volunteerings past u ++ numbered m.number o) none ∙ append-nil (volunteerings past u))

module _ (m : Message) (past : Past) (d : Said) (is : said m ≡ d) (u : List ℕ) (none : volunteering u d ≡ None) where
  pub standing-kept : ((c : List ℕ) → standing_since (m ∷ past) u c ≡ standing_since past u c) → standing (m ∷ past) u ≡ standing past u
  standing-kept same =
      quiet m past d is u none
      ∙ filter-same (stands past u) (stands (m ∷ past) u) (volunteerings past u)
      (all-any (λ (v : Volunteering). stands (m ∷ past) u v ≡ stands past u v) (λ v. ap (λ o. is_number o v.number) (same v.client)) (volunteerings past u))
      ∙ sym (standing-filter past u)

  -- one client stands no longer
  pub standing-left : (c : List ℕ) → ((e : List ℕ) → standing_since (m ∷ past) u e ≡ cond (bytes_eq c e) None (standing_since past u e))
      → standing (m ∷ past) u ≡ filter (λ (v : Volunteering). not (bytes_eq c v.client)) (standing past u)
  standing-left c behind =
      quiet m past d is u none
      ∙ filter-same (λ (v : Volunteering). stands past u v && not (bytes_eq c v.client)) (stands (m ∷ past) u) (volunteerings past u)
      (all-any (λ (v : Volunteering). stands (m ∷ past) u v ≡ (stands past u v && not (bytes_eq c v.client)))
      (λ v. ap (λ o. is_number o v.number) (behind v.client) ∙ of (bytes_eq c v.client) (standing_since past u v.client) v.number) (volunteerings past u))
      ∙ filter-both (stands past u) (λ (v : Volunteering). not (bytes_eq c v.client)) (volunteerings past u)
      ∙ ap (filter (λ (v : Volunteering). not (bytes_eq c v.client))) (sym (standing-filter past u))
    where
      none_and : (b : Bool) → false ≡ (b && false)
      none_and true = refl
      none_and false = refl

      all_and : (b : Bool) → b ≡ (b && true)
      all_and true = refl
      all_and false = refl

      of : (b : Bool) (o : Option ℕ) (n : ℕ) → is_number (cond b None o) n ≡ (is_number o n && not b)
      of true o n = none_and (is_number o n)
      of false o n = all_and (is_number o n)

  pub standing-done : ((e : List ℕ) → standing_since (m ∷ past) u e ≡ None) → standing (m ∷ past) u ≡ []
  standing-done gone =
      quiet m past d is u none
      ∙ filter-none (stands (m ∷ past) u) (volunteerings past u)
      (all-any (λ (v : Volunteering). stands (m ∷ past) u v ≡ false) (λ v. ap (λ o. is_number o v.number) (gone v.client)) (volunteerings past u))

module _ (m : Message) (past : Past) (c own : List ℕ) (is : said m ≡ Does c (Volunteer own)) (numbered_so : IsNumbered (m ∷ past)) where
  -- since when clients stand behind a volunteering for this task
  since-volunteered : (u e : List ℕ) (a b : Bool) → bytes_eq own u ≡ a → bytes_eq c e ≡ b →
      standing_since (m ∷ past) u e ≡ cond (a && (b && is_none (standing_since past u e))) (Some m.number) (standing_since past u e)
  since-volunteered u e a b at same =
      since-step m past _ is u e ∙ ap₂ (λ x y. cond (x && (y && is_none (standing_since past u e))) (Some m.number) (standing_since past u e)) at same

  pub stood_already : (k : ℕ) → standing_since past own c ≡ Some k → (u e : List ℕ) → standing_since (m ∷ past) u e ≡ standing_since past u e
  stood_already k stood u e = of (bytes_eq own u) (bytes_eq c e) refl refl
    where
      of : (a b : Bool) → bytes_eq own u ≡ a → bytes_eq c e ≡ b → standing_since (m ∷ past) u e ≡ standing_since past u e
      of true true at same =
          let its : standing_since past u e ≡ Some k = subst (λ w. standing_since past w e ≡ Some k) ((bytes_eq-Decides own u).0 at) (subst (λ w. standing_since past own w ≡ Some k) ((bytes_eq-Decides c e).0 same) stood) in
          since-volunteered u e true true at same ∙ ap (λ o. cond (is_none o) (Some m.number) (standing_since past u e)) its
      of true false at same = since-volunteered u e true false at same
      of false b at same = since-volunteered u e false b at same

  -- who stands already stands on
  pub standing-again : (k : ℕ) → standing_since past own c ≡ Some k → (u : List ℕ) → standing (m ∷ past) u ≡ standing past u
  standing-again k stood u =
      standing-step m past _ is u
      ∙ filter-append (stands (m ∷ past) u) (volunteerings past u) (numbered m.number (cond (bytes_eq own u) (Some c) None))
      ∙ ap₂ (λ a b. a ++ b)
      (filter-same (stands past u) (stands (m ∷ past) u) (volunteerings past u)
      (all-any (λ (v : Volunteering). stands (m ∷ past) u v ≡ stands past u v) (λ v. ap (λ o. is_number o v.number) (stood_already k stood u v.client)) (volunteerings past u)))
      (of (bytes_eq own u) refl)
      ∙ append-nil (filter (stands past u) (volunteerings past u)) ∙ sym (standing-filter past u)
    where
      of : (b : Bool) → bytes_eq own u ≡ b → filter (stands (m ∷ past) u) (numbered m.number (cond b (Some c) None)) ≡ []
      of true at =
          let its : standing_since past u c ≡ Some k = subst (λ w. standing_since past w c ≡ Some k) ((bytes_eq-Decides own u).0 at) stood in
          let earlier : k < length past + 1 = stood_below past numbered_so.1 u c k its in
          let other : (k == m.number) ≡ false = false_from_ne_true (k == m.number) (λ same. let number_is = eqb-true k m.number same in omega (arith, number_is, earlier, numbered_so.0)) in
          ap (λ b. cond b (record { number = m.number; client = c } ∷ []) []) (ap (λ o. is_number o m.number) (stood_already k stood u c ∙ its) ∙ other)
      of false at = refl

  -- who doesn't stands last
  pub stood_first : standing_since past own c ≡ None → (u e : List ℕ) → standing_since (m ∷ past) u e ≡ cond (bytes_eq own u && bytes_eq c e) (Some m.number) (standing_since past u e)
  stood_first not_yet u e = of (bytes_eq own u) (bytes_eq c e) refl refl
    where
      of : (a b : Bool) → bytes_eq own u ≡ a → bytes_eq c e ≡ b → standing_since (m ∷ past) u e ≡ cond (a && b) (Some m.number) (standing_since past u e)
      of true true at same =
          let its : standing_since past u e ≡ None = subst (λ w. standing_since past w e ≡ None) ((bytes_eq-Decides own u).0 at) (subst (λ w. standing_since past own w ≡ None) ((bytes_eq-Decides c e).0 same) not_yet) in
          since-volunteered u e true true at same ∙ ap (λ o. cond (is_none o) (Some m.number) (standing_since past u e)) its
      of true false at same = since-volunteered u e true false at same
      of false b at same = since-volunteered u e false b at same

  pub standing-new : standing_since past own c ≡ None → (u : List ℕ) → standing (m ∷ past) u ≡ standing past u ++ cond (bytes_eq own u) (record { number = m.number; client = c } ∷ []) []
  standing-new not_yet u =
      standing-step m past _ is u
      ∙ filter-append (stands (m ∷ past) u) (volunteerings past u) (numbered m.number (cond (bytes_eq own u) (Some c) None))
      ∙ ap₂ (λ a b. a ++ b)
      (filter-same (stands past u) (stands (m ∷ past) u) (volunteerings past u)
      (all-weaker (λ (v : Volunteering). v.number < length past + 1) (λ (v : Volunteering). stands (m ∷ past) u v ≡ stands past u v)
      (λ v lt. ap (λ o. is_number o v.number) (stood_first not_yet u v.client) ∙ old v.client v.number lt (bytes_eq own u) (bytes_eq c v.client) refl refl)
      (volunteerings past u) (volunteered_below past numbered_so.1 u)))
      (of (bytes_eq own u) refl)
      ∙ ap (λ l. l ++ cond (bytes_eq own u) (record { number = m.number; client = c } ∷ []) []) (sym (standing-filter past u))
    where
      old : (e : List ℕ) (n : ℕ) → n < length past + 1 → (a b : Bool) → bytes_eq own u ≡ a → bytes_eq c e ≡ b → is_number (cond (a && b) (Some m.number) (standing_since past u e)) n ≡ is_number (standing_since past u e) n
      old e n lt true true at same =
          let its : standing_since past u e ≡ None = subst (λ w. standing_since past w e ≡ None) ((bytes_eq-Decides own u).0 at) (subst (λ w. standing_since past own w ≡ None) ((bytes_eq-Decides c e).0 same) not_yet) in
          false_from_ne_true (m.number == n) (λ one. let number_is = eqb-true m.number n one in omega (arith, number_is, lt, numbered_so.0)) ∙ sym (ap (λ o. is_number o n) its)
      old e n lt true false at same = refl
      old e n lt false b at same = refl

      of : (b : Bool) → bytes_eq own u ≡ b → filter (stands (m ∷ past) u) (numbered m.number (cond b (Some c) None)) ≡ cond b (record { number = m.number; client = c } ∷ []) []
      of true at =
          ap (λ b. cond b (record { number = m.number; client = c } ∷ []) [])
          (ap (λ o. is_number o m.number) (stood_first not_yet u c ∙ ap₂ (λ a b. cond (a && b) (Some m.number) (standing_since past u c)) at (own_id c)) ∙ self m.number)
      of false at = refl

-- ---- leaving one out

-- the entries without those of a client: without the one under this number, where each entry of the client has this number
pub remove-filter : (c : List ℕ) (k : ℕ) (vs : List Volunteering) → Rise vs → AllByRecursion (λ (v : Volunteering). bytes_eq c v.client ≡ (k == v.number)) vs
    → remove_entry (is_at (nat_cmp k)) (pairs vs) ≡ pairs (filter (λ (v : Volunteering). not (bytes_eq c v.client)) vs)
remove-filter c k [] rise all = refl
remove-filter c k (v ∷ vs) rise all = of (k == v.number) refl (remove-filter c k vs rise.1 all.1)
  where
    others : k ≡ v.number → AllByRecursion (λ (w : Volunteering). not (bytes_eq c w.client) ≡ true) vs
    others is = both vs rise.0 all.1
      where
        both : (ws : List Volunteering) → AllByRecursion (λ (w : Volunteering). v.number < w.number) ws → AllByRecursion (λ (w : Volunteering). bytes_eq c w.client ≡ (k == w.number)) ws
            → AllByRecursion (λ (w : Volunteering). not (bytes_eq c w.client) ≡ true) ws
        both [] above its = tt
        both (w ∷ ws) above its = (
          ap not (its.0 ∙ false_from_ne_true (k == w.number) (λ same. let one = eqb-true k w.number same in omega (arith, one, is, above.0))),
          both ws above.1 its.1,
        )

    of : (b : Bool) → (k == v.number) ≡ b → remove_entry (is_at (nat_cmp k)) (pairs vs) ≡ pairs (filter (λ (w : Volunteering). not (bytes_eq c w.client)) vs)
        → remove_entry (is_at (nat_cmp k)) ((v.number, v.client) ∷ pairs vs) ≡ pairs (filter (λ (w : Volunteering). not (bytes_eq c w.client)) (v ∷ vs))
    of true at rest =
        ap (λ b. cond b (pairs vs) ((v.number, v.client) ∷ remove_entry (is_at (nat_cmp k)) (pairs vs))) (eq-cmp k v.number ∙ at)
        ∙ sym (ap (λ b. pairs (cond (not b) (v ∷ filter (λ (w : Volunteering). not (bytes_eq c w.client)) vs) (filter (λ (w : Volunteering). not (bytes_eq c w.client)) vs))) (all.0 ∙ at)
        ∙ ap pairs (filter-all (λ (w : Volunteering). not (bytes_eq c w.client)) vs (others (eqb-true k v.number at))))
    of false at rest =
        ap (λ b. cond b (pairs vs) ((v.number, v.client) ∷ remove_entry (is_at (nat_cmp k)) (pairs vs))) (eq-cmp k v.number ∙ at)
        ∙ ap (λ l. (v.number, v.client) ∷ l) rest
        ∙ sym (ap (λ b. pairs (cond (not b) (v ∷ filter (λ (w : Volunteering). not (bytes_eq c w.client)) vs) (filter (λ (w : Volunteering). not (bytes_eq c w.client)) vs))) (all.0 ∙ at))
