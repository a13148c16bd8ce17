-- Of a past: the joined ids, and the minimum in terms of what is said of each client.
use Rattle.std.proofs.Common.{◌≡◌, ℕ, ◌≤◌, min, Bool, true, false, ◌&&◌, ◌||◌, List, [], ◌∷◌, map, fold, refl, sym, ◌∙◌, ap, bytes_eq, inl, inr, arith, Option, Some, None, is_some}
use Rattle.std.specs.Option.{option_map}
use Rattle.fluid_types.specs.declared.entries.Raw.TheVariants.{Join, Leave, Submit, Report}
use Rattle.fluid_types.specs.declared.entries.Scopes.{Scopes}
use Rattle.fluid_types.specs.declared.verdicts.Verdict.TheVariants.{Sequenced, Nacked, Dropped, Absorbed}
use Rattle.fluid_types.specs.Ledger.{order, seq}
use Rattle.fluid_rules.specs.Past.{Past, Client, IsLeast, has_id, AreInOrder, least_or, membership, is_joined, ever_joined, joined, entered_at, minimum, reference, client}
use Rattle.fluid_rules.proofs.Ids.{same_id, own_id, and_false, put_id-has, put_id-in_order, filter-has, filter-in_order}
use Rattle.fluid_rules.proofs.Least.{IsLeastOf, least_of, own_among, more_among}

-- ---- who joined

join_at : (b : Bool) (c id : List ℕ) (scopes : Scopes) (detail : _) (moment : ℕ) (m : _) (past : Past) → bytes_eq id c ≡ b →
    (is_joined past c ≡ true → has_id c (ever_joined past) ≡ true) →
    is_joined ((Join id scopes detail moment, Sequenced m) ∷ past) c ≡ true →
    has_id c (ever_joined ((Join id scopes detail moment, Sequenced m) ∷ past)) ≡ true
unfolding ever_joined membership
join_at true c id scopes detail moment m past h rest is =
    let same : id ≡ c = same_id id c h in
    rw (put_id-has c id (ever_joined past), same, own_id c) refl
join_at false c id scopes detail moment m past h rest is =
    rw (put_id-has c id (ever_joined past), rest (rw h at is)) (or_true (bytes_eq c id))
  where
    or_true : (b : Bool) → (b || true) ≡ true
    or_true true = refl
    or_true false = refl

leave_at : (b : Bool) (c id : List ℕ) (moment : ℕ) (m : _) (past : Past) → bytes_eq id c ≡ b →
    (is_joined past c ≡ true → has_id c (ever_joined past) ≡ true) →
    is_joined ((Leave id moment, Sequenced m) ∷ past) c ≡ true → has_id c (ever_joined past) ≡ true
unfolding membership
leave_at true c id moment m past h rest is = absurd (let no : false ≡ true = rw h at is in cc)
leave_at false c id moment m past h rest is = rest (rw h at is)

ever_joined-has : (past : Past) (c : List ℕ) → is_joined past c ≡ true → has_id c (ever_joined past) ≡ true
unfolding ever_joined membership
ever_joined-has [] c is = absurd (cc)
ever_joined-has ((Join id scopes detail moment, Sequenced m) ∷ past) c is =
    join_at (bytes_eq id c) c id scopes detail moment m past refl (ever_joined-has past c) is
ever_joined-has ((Join id scopes detail moment, Nacked n) ∷ past) c is = ever_joined-has past c is
ever_joined-has ((Join id scopes detail moment, Dropped) ∷ past) c is = ever_joined-has past c is
ever_joined-has ((Join id scopes detail moment, Absorbed) ∷ past) c is = ever_joined-has past c is
ever_joined-has ((Leave id moment, Sequenced m) ∷ past) c is =
    leave_at (bytes_eq id c) c id moment m past refl (ever_joined-has past c) is
ever_joined-has ((Leave id moment, Nacked n) ∷ past) c is = ever_joined-has past c is
ever_joined-has ((Leave id moment, Dropped) ∷ past) c is = ever_joined-has past c is
ever_joined-has ((Leave id moment, Absorbed) ∷ past) c is = ever_joined-has past c is
ever_joined-has ((Submit id submission moment, Sequenced m) ∷ past) c is = ever_joined-has past c is
ever_joined-has ((Submit id submission moment, Nacked n) ∷ past) c is = ever_joined-has past c is
ever_joined-has ((Submit id submission moment, Dropped) ∷ past) c is = ever_joined-has past c is
ever_joined-has ((Submit id submission moment, Absorbed) ∷ past) c is = ever_joined-has past c is
ever_joined-has ((Report summary found moment, Sequenced m) ∷ past) c is = ever_joined-has past c is
ever_joined-has ((Report summary found moment, Nacked n) ∷ past) c is = ever_joined-has past c is
ever_joined-has ((Report summary found moment, Dropped) ∷ past) c is = ever_joined-has past c is
ever_joined-has ((Report summary found moment, Absorbed) ∷ past) c is = ever_joined-has past c is

joined_at : (b : Bool) (past : Past) (c : List ℕ) → is_joined past c ≡ b → (has_id c (ever_joined past) && is_joined past c) ≡ is_joined past c
joined_at true past c h = rw (h, ever_joined-has past c h) refl
joined_at false past c h = rw h (and_false (has_id c (ever_joined past)))

-- an id is among the joined ids exactly where its client is joined
pub joined-has : (past : Past) (c : List ℕ) → has_id c (joined past) ≡ is_joined past c
unfolding joined
joined-has past c = filter-has (is_joined past) c (ever_joined past) ∙ joined_at (is_joined past c) past c refl

pub ever_joined-in_order : (past : Past) → AreInOrder (ever_joined past)
unfolding ever_joined
ever_joined-in_order [] = tt
ever_joined-in_order ((Join id scopes detail moment, Sequenced m) ∷ past) = put_id-in_order id (ever_joined past) (ever_joined-in_order past)
ever_joined-in_order ((Join id scopes detail moment, Nacked n) ∷ past) = ever_joined-in_order past
ever_joined-in_order ((Join id scopes detail moment, Dropped) ∷ past) = ever_joined-in_order past
ever_joined-in_order ((Join id scopes detail moment, Absorbed) ∷ past) = ever_joined-in_order past
ever_joined-in_order ((Leave id moment, verdict) ∷ past) = ever_joined-in_order past
ever_joined-in_order ((Submit id submission moment, verdict) ∷ past) = ever_joined-in_order past
ever_joined-in_order ((Report summary found moment, verdict) ∷ past) = ever_joined-in_order past

-- the joined ids stand in byte order, each once
pub joined-in_order : (past : Past) → AreInOrder (joined past)
unfolding joined
joined-in_order past = filter-in_order (is_joined past) (ever_joined past) (ever_joined-in_order past)

-- ---- joined, and what is said

is_some-map : {A B : Type 0} (f : A → B) (o : Option A) → is_some (option_map f o) ≡ is_some o
is_some-map f None = refl
is_some-map f (Some a) = refl

-- something is said of the joined clients alone
pub client-joined : (past : Past) (c : List ℕ) → is_some (client past c) ≡ is_joined past c
unfolding client
client-joined past c = is_some-map _ (membership past c)

-- ---- the minimum

minimum-map : (past : Past) → minimum past ≡ least_or (seq past) (map (reference past) (joined past))
unfolding minimum reference entered_at joined ever_joined seq order
minimum-map [] = refl
minimum-map (entry ∷ past) = refl

pub some_of : {A : Type 0} (o : Option A) → is_some o ≡ true → (a : A) × (o ≡ Some a)
some_of None h = absurd (cc)
some_of (Some a) h = (a, refl)

pub none_of : {A : Type 0} (o : Option A) → is_some o ≡ false → o ≡ None
none_of None h = refl
none_of (Some a) h = absurd (cc)

pub some_same : {A : Type 0} (a b : A) → Some a ≡ Some b → a ≡ b
some_same a b h = cc

-- each client of whom something is said is among the ids, and its reference is the one that f names
record Tells (said : List ℕ → Option Client) (f : List ℕ → ℕ) (ids : List (List ℕ)) : Type 0 where
  has : (c : List ℕ) → has_id c ids ≡ is_some (said c)
  is : (c : List ℕ) (client : Client) → said c ≡ Some client → f c ≡ client.reference

below_at : (f : List ℕ → ℕ) (id : List ℕ) (ids : List (List ℕ)) (least : ℕ) → IsLeastOf f ids (f id) least →
    (c : List ℕ) (same : Bool) → bytes_eq c id ≡ same → (same || has_id c ids) ≡ true → least ≤ f c
below_at f id ids least rest c true h has =
    let at : f c ≡ f id = ap f (same_id c id h) in
    omega (arith, rest.at_first)
below_at f id ids least rest c false h has = rest.at_each c has

named : (said : List ℕ → Option Client) (f : List ℕ → ℕ) (ids : List (List ℕ)) (least : ℕ) → Tells said f ids →
    (c : List ℕ) → has_id c ids ≡ true → least ≡ f c →
    (c : List ℕ) × ((client : Client) × ((said c ≡ Some client) × (least ≡ client.reference)))
named said f ids least tells c h at =
    let found = some_of (said c) (sym (tells.has c) ∙ h) in
    (c, (found.0, (found.1, at ∙ tells.is c found.0 found.1)))

least_or-is : (said : List ℕ → Option Client) (f : List ℕ → ℕ) (ids : List (List ℕ)) (sequence : ℕ) → Tells said f ids →
    IsLeast said sequence (least_or sequence (map f ids))
least_or-is said f [] sequence tells = record {
  below = λ c client h. absurd (let no : false ≡ true = tells.has c ∙ ap is_some h in cc);
  reached = inr (λ c. none_of (said c) (sym (tells.has c)), refl);
}
least_or-is said f (id ∷ ids) sequence tells =
    let least = least_of f ids (f id) in
    record {
      below = λ c client h.
          let there : has_id c (id ∷ ids) ≡ true = tells.has c ∙ ap is_some h in
          let bound : fold min (f id) (map f ids) ≤ f c = below_at f id ids _ least c (bytes_eq c id) refl there in
          let at : f c ≡ client.reference = tells.is c client h in
          omega arith;
      reached = inl (elim least.reached [
        | inl at ↦ named said f (id ∷ ids) _ tells id (own_among id ids) at
        | inr found ↦ named said f (id ∷ ids) _ tells found.0 (more_among found.0 id ids found.1.0) found.1.1
      ]);
    }

client-reference : (past : Past) (c : List ℕ) (held : Option Scopes) → membership past c ≡ held → (said : Client) → client past c ≡ Some said →
    reference past c ≡ said.reference
unfolding client
client-reference past c None held said h = absurd (let no : None ≡ Some said = rw held at h in cc)
client-reference past c (Some scopes) held said h = ap (λ r. r.reference) (some_same _ said (rw held at h))

-- the minimum of a past
pub minimum-least : (past : Past) → IsLeast (client past) (seq past) (minimum past)
minimum-least past =
    rw (minimum-map past)
    (least_or-is (client past) (reference past) (joined past) (seq past)
    (record {
      has = λ c. joined-has past c ∙ sym (client-joined past c);
      is = λ c said h. client-reference past c (membership past c) refl said h;
    }))
