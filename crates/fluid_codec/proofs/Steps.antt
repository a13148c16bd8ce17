-- What a step of a reader means: each form reads exactly the values that spell.
use Rattle.std.proofs.Common.{◌≡◌, ◌≤◌, ℕ, ℤ, pos, negsuc, ◌≤ℤ◌, List, [], ◌∷◌, Bool, true, false, cond, ◌&&◌, Option, Some, None, Ok, Err, T, IsSomeAnd, find, map, bytes_eq, refl, ap, ap₂, sym, ◌∙◌, subst, nat_le, int_le, unwrap_or, MatchOption}
use Rattle.std.specs.Option.{ok_or}
use Rattle.std.specs.Bool.{passes}
use Rattle.std.specs.Int.Signed.{le_z_yes}
use Rattle.std.proofs.lemmas.Bool.{and_parts, leb-true, le-leb}
use Rattle.std.specs.Cmp.Derive.{both_true}
use Rattle.std.proofs.lemmas.Slice.Eq.{bytes_eq-Decides}
use Rattle.fluid_json.specs.Tree as json
use Rattle.fluid_json.specs.Tree.{Tree, null, boolean, whole, text, list, object, Trees, no_trees, tree, trees, as_boolean, as_whole, as_text, as_trees, as_members}
use Rattle.fluid_types.specs.Names.{is_name}
use Rattle.fluid_types.specs.Texts.{name_of}
use Rattle.fluid_types.specs.Forms.{Read, ◌>>=◌, Form, a_truth, a_whole, a_text, a_list, present, required, given, optional, any, within, counted, count, name, name_or_null, one_of, texts, largest}
use Rattle.fluid_types.specs.Spellings.{Has, MayHave, SpellsOrMissing, IsMember, SpellsText, SpellsTruth, SpellsName, SpellsNameOrNull, SpellsCount, SpellsReference}
use Rattle.fluid_types.specs.declared.fault.Field.{Field}
use Rattle.fluid_types.specs.declared.fault.CodecFault.{CodecFault}

-- ---- steps

-- two steps that answer a value: the first does, and the second of its value
pub bind_ok : {A B : Type 0} (m : Read A) (k : A → Read B) (b : B) → (m >>= k) ≡ Ok b → (a : A) × (m ≡ Ok a) × (k a ≡ Ok b)
bind_ok (Ok a) k b h = (a, refl, h)
bind_ok (Err e) k b h = cc

pub ok_same : {A : Type 0} (x a : A) (r : Read A) → r ≡ Ok x → r ≡ Ok a → x ≡ a
ok_same x a r p q = cc

pub ok_or-ok : {A : Type 0} (o : Option A) (e : CodecFault) (a : A) → ok_or o e ≡ Ok a → o ≡ Some a
ok_or-ok None e a h = cc
ok_or-ok (Some b) e a h = cc

pub test_ok : {A : Type 0} (b : Bool) (x a : A) (e : CodecFault) → cond b (Ok x) (Err e) ≡ Ok a → (b ≡ true) × (x ≡ a)
test_ok true x a e h = (refl, cc)
test_ok false x a e h = cc

-- ---- forms

-- the form reads exactly the values that spell
pub record Reads {A : Type 0} (form : Form A) (Spells : A → Tree → Type 0) : Type 0 where
  pub spelled : (f : Field) (t : Tree) (a : A) → form f t ≡ Ok a → Spells a t
  pub read : (f : Field) (t : Tree) (a : A) → Spells a t → form f t ≡ Ok a

as_text-some : (t : Tree) (s : List ℕ) → as_text t ≡ Some s → t ≡ text s
as_text-some (text s) u h = cc
as_text-some t u h = cc

as_whole-some : (t : Tree) (n : ℤ) → as_whole t ≡ Some n → t ≡ whole n
as_whole-some (whole m) n h = cc
as_whole-some t n h = cc

as_boolean-some : (t : Tree) (b : Bool) → as_boolean t ≡ Some b → t ≡ boolean b
as_boolean-some (boolean a) b h = cc
as_boolean-some t b h = cc

as_trees-some : (t : Tree) (ts : Trees) → as_trees t ≡ Some ts → t ≡ list ts
as_trees-some (list us) ts h = cc
as_trees-some t ts h = cc

pub a_text-reads : Reads a_text SpellsText
a_text-reads = record { spelled = λ f t s h. as_text-some t s (ok_or-ok _ _ _ h); read = λ f t s h. rw h refl }

pub a_truth-reads : Reads a_truth SpellsTruth
a_truth-reads = record { spelled = λ f t b h. as_boolean-some t b (ok_or-ok _ _ _ h); read = λ f t b h. rw h refl }

pub a_whole-ok : (f : Field) (t : Tree) (n : ℤ) → a_whole f t ≡ Ok n → t ≡ whole n
a_whole-ok f t n h = as_whole-some t n (ok_or-ok _ _ _ h)

pub a_list-ok : (f : Field) (t : Tree) (ts : Trees) → a_list f t ≡ Ok ts → t ≡ list ts
a_list-ok f t ts h = as_trees-some t ts (ok_or-ok _ _ _ h)

name_spelled : (f : Field) (t : Tree) (s : List ℕ) → name f t ≡ Ok s → SpellsName s t
name_spelled f t s h =
    let step = bind_ok (a_text f t) _ _ h in
    let test = test_ok (is_name step.0) _ _ _ step.2 in
    let same : step.0 ≡ s = test.1 in
    let is : t ≡ text step.0 = a_text-reads.spelled f t step.0 step.1 in
    record { spelled = is ∙ ap text same; name = subst (λ w. is_name w ≡ true) same test.0 }

name_read : (f : Field) (t : Tree) (s : List ℕ) → SpellsName s t → name f t ≡ Ok s
name_read f t s h = rw (h.spelled, h.name) refl

pub name-reads : Reads name SpellsName
name-reads = record { spelled = name_spelled; read = name_read }

counted_spelled : (low : ℕ) (f : Field) (z : ℤ) (n : ℕ) → counted low f z ≡ Ok n → (z ≡ pos n) × (low ≤ n) × (n ≤ largest)
counted_spelled low f (pos m) n h =
    let test = test_ok (nat_le low m && nat_le m largest) _ _ _ h in
    let parts = and_parts (nat_le low m) (nat_le m largest) test.0 in
    let same : m ≡ n = test.1 in
    (ap pos same, subst (λ k. low ≤ k) same (leb-true low m parts.0), subst (λ k. k ≤ largest) same (leb-true m largest parts.1))
counted_spelled low f (negsuc m) n h = cc

count_spelled : (low : ℕ) (f : Field) (t : Tree) (n : ℕ) → count low f t ≡ Ok n → SpellsCount low n t
count_spelled low f t n h =
    let step = bind_ok (a_whole f t) _ _ h in
    let number = counted_spelled low f step.0 n step.2 in
    record { spelled = a_whole-ok f t step.0 step.1 ∙ ap whole number.0; least = number.1; most = number.2 }

count_read : (low : ℕ) (f : Field) (t : Tree) (n : ℕ) → SpellsCount low n t → count low f t ≡ Ok n
count_read low f t n h = rw (h.spelled, both_true (le-leb low n h.least) (le-leb n largest h.most)) refl

pub count-reads : (low : ℕ) → Reads (count low) (SpellsCount low)
count-reads low = record { spelled = count_spelled low; read = count_read low }

reference_spelled : (f : Field) (t : Tree) (n : ℤ) → within (negsuc 0) f t ≡ Ok n → SpellsReference n t
reference_spelled f t n h =
    let step = bind_ok (a_whole f t) _ _ h in
    let test = test_ok (int_le (negsuc 0) step.0 && int_le step.0 (pos largest)) _ _ _ step.2 in
    let parts = and_parts (int_le (negsuc 0) step.0) (int_le step.0 (pos largest)) test.0 in
    let same : step.0 ≡ n = test.1 in
    record {
      spelled = a_whole-ok f t step.0 step.1 ∙ ap whole same;
      least = subst (λ k. negsuc 0 ≤ℤ k) same (le_z_yes (passes _ parts.0));
      most = subst (λ k. k ≤ℤ pos largest) same (le_z_yes (passes _ parts.1));
    }

pub T_true : (b : Bool) → T b → b ≡ true
T_true true h = refl
T_true false h = absurd h

le_z_true : (a b : ℤ) → a ≤ℤ b → int_le a b ≡ true
le_z_true a b h = T_true (int_le a b) h.le

reference_read : (f : Field) (t : Tree) (n : ℤ) → SpellsReference n t → within (negsuc 0) f t ≡ Ok n
reference_read f t n h =
    rw (h.spelled, both_true (le_z_true (negsuc 0) n h.least) (le_z_true n (pos largest) h.most)) refl

pub reference-reads : Reads (within (negsuc 0)) SpellsReference
reference-reads = record { spelled = reference_spelled; read = reference_read }

-- ---- words

pub find-passes : {A : Type 0} (p : A → Bool) (xs : List A) (a : A) → find p xs ≡ Some a → p a ≡ true
find-passes p [] a h = cc
find-passes p (x ∷ xs) a h = first (p x) refl (find-passes p xs a) h
  where
    first : (b : Bool) → p x ≡ b → (find p xs ≡ Some a → p a ≡ true) → cond b (Some x) (find p xs) ≡ Some a → p a ≡ true
    first true e later h = let same : x ≡ a = cc in subst (λ y. p y ≡ true) same e
    first false e later h = later h

pub one_of_spelled : {A : Type 0} (word : A → List ℕ) (all : List A) (f : Field) (t : Tree) (a : A) → one_of word all f t ≡ Ok a → t ≡ text (word a)
one_of_spelled word all f t a h =
    let step = bind_ok (a_text f t) _ _ h in
    let found = find-passes (λ b. bytes_eq step.0 (word b)) all a (ok_or-ok _ _ _ step.2) in
    let is : t ≡ text step.0 = a_text-reads.spelled f t step.0 step.1 in
    is ∙ ap text ((bytes_eq-Decides step.0 (word a)).0 found)

pub one_of_read : {A : Type 0} (word : A → List ℕ) (all : List A) (f : Field) (t : Tree) (a : A) → find (λ b. bytes_eq (word a) (word b)) all ≡ Some a → t ≡ text (word a) → one_of word all f t ≡ Ok a
one_of_read word all f t a found h = rw (h, found) refl

-- ---- members

pub name_or_null_spelled : (f : Field) (t : Tree) (s : Option (List ℕ)) → name_or_null f t ≡ Ok s → SpellsNameOrNull s t
name_or_null_spelled f t s h = by_null (json.is_null t) refl h
  where
    null-is_null : (t : Tree) → json.is_null t ≡ true → t ≡ null
    null-is_null null e = refl
    null-is_null t e = cc

    by_null : (b : Bool) → json.is_null t ≡ b → cond b (Ok None) (name f t >>= λ s. Ok (Some s)) ≡ Ok s → SpellsNameOrNull s t
    by_null true e h = let same : None ≡ s = cc in subst (λ o. SpellsNameOrNull o t) same (null-is_null t e)
    by_null false e h =
        let step = bind_ok (name f t) _ _ h in
        let same : Some step.0 ≡ s = cc in
        subst (λ o. SpellsNameOrNull o t) same (name-reads.spelled f t step.0 step.1)

pub name_or_null_read : (f : Field) (t : Tree) (s : Option (List ℕ)) → SpellsNameOrNull s t → name_or_null f t ≡ Ok s
name_or_null_read f t None h = rw h refl
name_or_null_read f t (Some s) h = rw (h.spelled, h.name) refl

pub name_or_null-reads : Reads name_or_null SpellsNameOrNull
name_or_null-reads = record { spelled = name_or_null_spelled; read = name_or_null_read }

-- a member that must be there is read exactly where it is there and spells
pub required_spelled : {A : Type 0} (form : Form A) (Spells : A → Tree → Type 0) → Reads form Spells → (t : Tree) (f : Field) (a : A) → required t f form ≡ Ok a → Has t f Spells a
required_spelled form Spells reads t f a h = of (json.find (name_of f) t) h
  where
    of : (o : Option Tree) → (present f o >>= form f) ≡ Ok a → IsSomeAnd o (Spells a)
    of None h = cc
    of (Some v) h = reads.spelled f v a h

pub required_read : {A : Type 0} (form : Form A) (Spells : A → Tree → Type 0) → Reads form Spells → (t : Tree) (f : Field) (a : A) → Has t f Spells a → required t f form ≡ Ok a
required_read form Spells reads t f a h = of (json.find (name_of f) t) h
  where
    of : (o : Option Tree) → IsSomeAnd o (Spells a) → (present f o >>= form f) ≡ Ok a
    of None h = absurd h
    of (Some v) h = reads.read f v a h

pub optional_spelled : {A : Type 0} (form : Form A) (Spells : A → Tree → Type 0) → Reads form Spells → (t : Tree) (f : Field) (a : Option A) → optional t f form ≡ Ok a → MayHave t f Spells a
optional_spelled form Spells reads t f a h = of (json.find (name_of f) t) h
  where
    of : (o : Option Tree) → given f form o ≡ Ok a → SpellsOrMissing Spells a o
    of None h = let same : None ≡ a = cc in subst (λ b. SpellsOrMissing Spells b None) same refl
    of (Some v) h =
        let step = bind_ok (form f v) _ _ h in
        let same : Some step.0 ≡ a = cc in
        subst (λ b. SpellsOrMissing Spells b (Some v)) same (reads.spelled f v step.0 step.1)

pub optional_read : {A : Type 0} (form : Form A) (Spells : A → Tree → Type 0) → Reads form Spells → (t : Tree) (f : Field) (a : Option A) → MayHave t f Spells a → optional t f form ≡ Ok a
optional_read form Spells reads t f a h = of a (json.find (name_of f) t) h
  where
    of : (a : Option _) (o : Option Tree) → SpellsOrMissing Spells a o → given f form o ≡ Ok a
    of None o h = rw h refl
    of (Some a) None h = absurd h
    of (Some a) (Some v) h = rw (reads.read f v a h) refl

pub any_member : (t : Tree) (f : Field) (v : Tree) → any t f ≡ v → IsMember t f v
any_member t f v h = of (json.find (name_of f) t) h
  where
    of : (o : Option Tree) → unwrap_or o null ≡ v → MatchOption o (v ≡ null) (λ w. v ≡ w)
    of None h = sym h
    of (Some w) h = sym h

pub member_any : (t : Tree) (f : Field) (v : Tree) → IsMember t f v → any t f ≡ v
member_any t f v h = of (json.find (name_of f) t) h
  where
    of : (o : Option Tree) → MatchOption o (v ≡ null) (λ w. v ≡ w) → unwrap_or o null ≡ v
    of None h = sym h
    of (Some w) h = sym h

-- ---- lists of texts

pub texts_spelled : (f : Field) (ts : Trees) (words : List (List ℕ)) → texts f ts ≡ Ok words → ts ≡ trees (map text words)
unfolding texts
texts_spelled f no_trees words h = let same : [] ≡ words = cc in ap (λ ws. trees (map text ws)) same
texts_spelled f (tree t ts) words h =
    let step = bind_ok (a_text f t) _ _ h in
    let more = bind_ok (texts f ts) _ _ step.2 in
    let same : step.0 ∷ more.0 ≡ words = cc in
    let is : t ≡ text step.0 = a_text-reads.spelled f t step.0 step.1 in
    let are = texts_spelled f ts more.0 more.1 in
    ap₂ tree is are ∙ ap (λ ws. trees (map text ws)) same

pub texts_read : (f : Field) (words : List (List ℕ)) → texts f (trees (map text words)) ≡ Ok words
unfolding texts
texts_read f [] = refl
texts_read f (w ∷ ws) = rw (texts_read f ws) refl
