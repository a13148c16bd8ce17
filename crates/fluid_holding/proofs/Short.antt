-- The contents of an edit that is read are no longer and no deeper than the text's value.
use Rattle.std.proofs.Common.{◌≡◌, ℕ, ◌+◌, ◌≤◌, max, ℤ, Bool, true, false, cond, if◌then◌else◌, List, [], ◌∷◌, ◌++◌, length, length-append, Option, Some, None, option_and_then, option_map, Result, Ok, Err, bytes_eq, codes, refl, sym, ap, subst, ◌∙◌, arith}
use Rattle.std.specs.List.{AllByRecursion}
use Rattle.std.specs.Ordering.{is_eq}
use Rattle.std.proofs.lemmas.Map.Text.{is_eq-slice_cmp}
use Rattle.std.proofs.lemmas.Slice.Eq.{bytes_eq-Decides}
use Rattle.json.specs.Print.{quoted}
use Rattle.serde_json.specs.Read.{read}
use Rattle.fluid_json.specs.Tree as json
use Rattle.fluid_json.specs.Tree.{Tree, null, boolean, whole, text, list, object, Members, no_members, member, members, depth, members_depth, find_member, as_text, as_whole, IsBelowAll, IsCanonical, HasCanonical, AreAscending}
use Rattle.fluid_json.specs.Printed.{printed, printed_members, printed_more_members}
use Rattle.fluid_json.specs.Spelled.{reaches, answer, answer_within, json_or}
use Rattle.fluid_json.specs.declared.fault.JsonFault.{JsonFault}
use Rattle.fluid_json.specs.declared.fault.JsonFault.TheVariants.{NotJson, NotWhole, TooDeep, NoMemory}
use Rattle.fluid_json.specs.declared.nesting.Place.TheVariants.{Outside}
use Rattle.fluid_types.specs.Names.{is_name}
use Rattle.fluid_edits.specs.declared.edit.ChannelKind.{ChannelKind}
use Rattle.fluid_edits.specs.declared.edit.ChannelKind.TheVariants.{Map, Counter}
use Rattle.fluid_edits.specs.declared.edit.Edit.{Edit}
use Rattle.fluid_edits.specs.declared.edit.Edit.TheVariants.{Attach, Set, Delete, Clear, Increment}
use Rattle.fluid_edits.specs.Forms.{kind_word, kind_named, verb_named, text_at, name_at, is_attach, attaching, plain, plain_value, setting, deleting, incrementing, by_verb, spoken, speaking, edit_in, to_channel, typed, contents_of}
use Rattle.fluid_readback.proofs.Values.{read_below}
use Rattle.fluid_steps.specs.Ops.{held_back, op_of, op_spelled}
use Rattle.fluid_holding.specs.Laws.{OpsAreShort}

-- ---- a value under another one

-- it is no longer and no deeper, and in order where that is
record Under (small big : Tree) : Type 0 where
  short : length (printed small) ≤ length (printed big)
  shallow : depth small ≤ depth big
  canonical : IsCanonical big → IsCanonical small

under_itself : (t : Tree) → Under t t
under_itself t = record { short = omega arith; shallow = omega arith; canonical = λ is. is }

under_same : (a b : Tree) → a ≡ b → Under a b
under_same a b same = subst (Under a) same (under_itself a)

-- a member of an object has such a value in another one
record Row (t : Tree) (row : List ℕ × Tree) : Type 0 where
  value : Tree
  at : json.find row.0 t ≡ Some value
  under : Under row.1 value

-- ---- members

-- those but the first of this key
without : List ℕ → Members → Members
without k no_members = no_members
without k (member l t ms) = if bytes_eq k l then ms else member l t (without k ms)

apart : true ≡ false → ⊥
apart same = cc

none_some : (t : Tree) → ◌≡◌ {A = Option Tree} None (Some t) → ⊥
none_some t same = cc

some_same : {A : Type 0} (a b : A) → ◌≡◌ {A = Option A} (Some a) (Some b) → a ≡ b
some_same a b same = cc

abbrev size_of : List ℕ → Tree → ℕ
size_of k t = 2 + (length (quoted k) + length (printed t))

more_size : (k : List ℕ) (t : Tree) (ms : Members) → length (printed_more_members (member k t ms)) ≡ size_of k t + length (printed_more_members ms)
more_size k t ms =
    omega (arith, length-append (quoted k) (codes ":" ++ (printed t ++ printed_more_members ms)), length-append (printed t) (printed_more_members ms))

first_size : (k : List ℕ) (t : Tree) (ms : Members) → length (printed (object (member k t ms))) ≡ 1 + length (printed_more_members (member k t ms))
first_size k t ms =
    omega (arith, more_size k t ms, length-append (printed_members (member k t ms)) (codes "}"), length-append (quoted k) (codes ":" ++ (printed t ++ printed_more_members ms)), length-append (printed t) (printed_more_members ms))

-- a member that is found
found_size : (k : List ℕ) (ms : Members) (v : Tree) → find_member k ms ≡ Some v → length (printed_more_members ms) ≡ size_of k v + length (printed_more_members (without k ms))
unfolding without
found_size k no_members v at = absurd (none_some v at)
found_size k (member l t ms) v at = by (found_size k ms v) (bytes_eq k l) refl at
  where
    by : (find_member k ms ≡ Some v → length (printed_more_members ms) ≡ size_of k v + length (printed_more_members (without k ms))) → (b : Bool) → bytes_eq k l ≡ b → cond b (Some t) (find_member k ms) ≡ Some v
        → length (printed_more_members (member l t ms)) ≡ size_of k v + length (printed_more_members (cond b ms (member l t (without k ms))))
    by later true own is =
        let name : k ≡ l = (bytes_eq-Decides k l).0 own in
        let value : t ≡ v = some_same t v is in
        omega (arith, more_size l t ms, ap (λ x. length (quoted x)) name, ap (λ x. length (printed x)) value)
    by later false own is = omega (arith, more_size l t ms, more_size l t (without k ms), later is)

differs : (k j : List ℕ) → bytes_eq k j ≡ false → bytes_eq j k ≡ false
differs k j no_same = by (bytes_eq j k) refl
  where
    by : (b : Bool) → bytes_eq j k ≡ b → b ≡ false
    by true is = absurd (apart (sym ((bytes_eq-Decides k j).1 (sym ((bytes_eq-Decides j k).0 is))) ∙ no_same))
    by false is = refl

found_other : (k j : List ℕ) (ms : Members) → bytes_eq k j ≡ false → find_member j (without k ms) ≡ find_member j ms
unfolding without
found_other k j no_members no_same = refl
found_other k j (member l t ms) no_same = by (found_other k j ms no_same) (bytes_eq k l) refl
  where
    by : find_member j (without k ms) ≡ find_member j ms → (b : Bool) → bytes_eq k l ≡ b → find_member j (cond b ms (member l t (without k ms))) ≡ (if bytes_eq j l then Some t else find_member j ms)
    by again true own = ap (λ b. if b then Some t else find_member j ms) (sym (differs k j no_same) ∙ ap (bytes_eq j) ((bytes_eq-Decides k l).0 own))
    by again false own = ap (λ o. if bytes_eq j l then Some t else o) again

found_depth : (k : List ℕ) (ms : Members) (v : Tree) → find_member k ms ≡ Some v → depth v ≤ members_depth ms
found_depth k no_members v at = absurd (none_some v at)
found_depth k (member l t ms) v at = by (found_depth k ms v) (bytes_eq k l) at
  where
    by : (find_member k ms ≡ Some v → depth v ≤ members_depth ms) → (b : Bool) → cond b (Some t) (find_member k ms) ≡ Some v → depth v ≤ max (depth t) (members_depth ms)
    by later true is = omega (arith, ap depth (some_same t v is))
    by later false is = omega (arith, later is)

found_canonical : (k : List ℕ) (ms : Members) (v : Tree) → find_member k ms ≡ Some v → HasCanonical ms → IsCanonical v
found_canonical k no_members v at all = absurd (none_some v at)
found_canonical k (member l t ms) v at all = by (λ is. found_canonical k ms v is all.1.1) (bytes_eq k l) at
  where
    by : (find_member k ms ≡ Some v → IsCanonical v) → (b : Bool) → cond b (Some t) (find_member k ms) ≡ Some v → IsCanonical v
    by later true is = subst IsCanonical (some_same t v is) all.1.0
    by later false is = later is

-- ---- an object whose members have values in another one

abbrev Rows : Type 0
Rows = List (List ℕ × Tree)

-- the same of members
record In (ms : Members) (row : List ℕ × Tree) : Type 0 where
  value : Tree
  at : find_member row.0 ms ≡ Some value
  under : Under row.1 value

below_others : (k : List ℕ) (rows : Rows) (ms : Members) → IsBelowAll k (members rows) → AllByRecursion (In ms) rows → AllByRecursion (In (without k ms)) rows
below_others k [] ms below all = tt
below_others k (r ∷ rs) ms below all =
    let no_same : bytes_eq k r.0 ≡ false = sym (is_eq-slice_cmp k r.0) ∙ ap is_eq below.0 in
    (record { value = all.0.value; at = found_other k r.0 ms no_same ∙ all.0.at; under = all.0.under }, below_others k rs ms below.1 all.1)

rows_short : (rows : Rows) (ms : Members) → AreAscending (members rows) → AllByRecursion (In ms) rows → length (printed_more_members (members rows)) ≤ length (printed_more_members ms)
rows_short [] ms order all = omega arith
rows_short (r ∷ rs) ms order all =
    omega (arith, more_size r.0 r.1 (members rs), found_size r.0 ms all.0.value all.0.at, all.0.under.short, rows_short rs (without r.0 ms) order.1 (below_others r.0 rs ms order.0 all.1))

rows_shallow : (rows : Rows) (ms : Members) → AllByRecursion (In ms) rows → members_depth (members rows) ≤ members_depth ms
rows_shallow [] ms all = omega arith
rows_shallow (r ∷ rs) ms all = omega (arith, found_depth r.0 ms all.0.value all.0.at, all.0.under.shallow, rows_shallow rs ms all.1)

rows_canonical : (rows : Rows) (ms : Members) → AreAscending (members rows) → AllByRecursion (In ms) rows → HasCanonical ms → HasCanonical (members rows)
rows_canonical [] ms order all is = tt
rows_canonical (r ∷ rs) ms order all is = (order.0, (all.0.under.canonical (found_canonical r.0 ms all.0.value all.0.at is), rows_canonical rs ms order.1 all.1 is))

in_members : (ms : Members) (rows : Rows) → AllByRecursion (Row (object ms)) rows → AllByRecursion (In ms) rows
in_members ms [] all = tt
in_members ms (r ∷ rs) all = (record { value = all.0.value; at = all.0.at; under = all.0.under }, in_members ms rs all.1)

object_under : (r : List ℕ × Tree) (rs : Rows) (t : Tree) → AreAscending (members (r ∷ rs)) → AllByRecursion (Row t) (r ∷ rs) → Under (object (members (r ∷ rs))) t
object_under r rs null order all = absurd (none_some all.0.value all.0.at)
object_under r rs (boolean b) order all = absurd (none_some all.0.value all.0.at)
object_under r rs (whole n) order all = absurd (none_some all.0.value all.0.at)
object_under r rs (text s) order all = absurd (none_some all.0.value all.0.at)
object_under r rs (list ts) order all = absurd (none_some all.0.value all.0.at)
object_under r rs (object no_members) order all = absurd (none_some all.0.value all.0.at)
object_under r rs (object (member k t ms)) order all =
    let own = in_members (member k t ms) (r ∷ rs) all in
    record {
      short = omega (arith, first_size r.0 r.1 (members rs), first_size k t ms, rows_short (r ∷ rs) (member k t ms) order own);
      shallow = omega (arith, rows_shallow (r ∷ rs) (member k t ms) own);
      canonical = λ is. rows_canonical (r ∷ rs) (member k t ms) order own is;
    }

-- ---- what is found in a value

then_some : {A B : Type 0} (f : A → Option B) (o : Option A) (b : B) → option_and_then f o ≡ Some b → (a : A) × ((o ≡ Some a) × (f a ≡ Some b))
then_some f None b h = absurd (cc)
then_some f (Some a) b h = (a, (refl, h))

as_text_is : (t : Tree) (s : List ℕ) → as_text t ≡ Some s → text s ≡ t
as_text_is null s h = absurd (cc)
as_text_is (boolean b) s h = absurd (cc)
as_text_is (whole n) s h = absurd (cc)
as_text_is (text x) s h = ap text (sym (some_same x s h))
as_text_is (list ts) s h = absurd (cc)
as_text_is (object ms) s h = absurd (cc)

as_whole_is : (t : Tree) (n : ℤ) → as_whole t ≡ Some n → whole n ≡ t
as_whole_is null n h = absurd (cc)
as_whole_is (boolean b) n h = absurd (cc)
as_whole_is (whole m) n h = ap whole (sym (some_same m n h))
as_whole_is (text x) n h = absurd (cc)
as_whole_is (list ts) n h = absurd (cc)
as_whole_is (object ms) n h = absurd (cc)

text_row : (k : List ℕ) (t : Tree) (s : List ℕ) → text_at k t ≡ Some s → Row t (k, text s)
text_row k t s h =
    let there = then_some as_text (json.find k t) s h in
    record { value = there.0; at = there.1.0; under = under_same (text s) there.0 (as_text_is there.0 s there.1.1) }

-- a text that is this word
word_row : (k : List ℕ) (t : Tree) (s word : List ℕ) → text_at k t ≡ Some s → bytes_eq s word ≡ true → Row t (k, text word)
word_row k t s word h is = subst (λ x. Row t (k, text x)) ((bytes_eq-Decides s word).0 is) (text_row k t s h)

same_if : (b : Bool) (s x : List ℕ) → (if b then Some s else None) ≡ Some x → s ≡ x
same_if true s x h = some_same s x h
same_if false s x h = absurd (cc)

name_row : (k : List ℕ) (t : Tree) (s : List ℕ) → name_at k t ≡ Some s → Row t (k, text s)
name_row k t s h =
    let there = then_some (λ x. if is_name x then Some x else None) (text_at k t) s h in
    subst (λ x. Row t (k, text x)) (same_if (is_name there.0) there.0 s there.1.1) (text_row k t there.0 there.1.0)

object_row : (k : List ℕ) (t v : Tree) (r : List ℕ × Tree) (rs : Rows) → json.find k t ≡ Some v → Under (object (members (r ∷ rs))) v → Row t (k, object (members (r ∷ rs)))
object_row k t v r rs at under = record { value = v; at = at; under = under }

-- ---- the five forms

kind_of_word : (word : List ℕ) (kind : ChannelKind) → kind_named word ≡ Some kind → bytes_eq word (kind_word kind) ≡ true
kind_of_word word kind h = by (bytes_eq word (kind_word Map)) (bytes_eq word (kind_word Counter)) refl refl h
  where
    by : (a b : Bool) → bytes_eq word (kind_word Map) ≡ a → bytes_eq word (kind_word Counter) ≡ b → cond a (Some Map) (cond b (Some Counter) None) ≡ Some kind → bytes_eq word (kind_word kind) ≡ true
    by true b is other h = subst (λ k. bytes_eq word (kind_word k) ≡ true) (some_same Map kind h) is
    by false true is other h = subst (λ k. bytes_eq word (kind_word k) ≡ true) (some_same Counter kind h) other
    by false false is other h = absurd (cc)

-- `is_word` of the forms, for the word of an attach
abbrev is_word_of : Option (List ℕ) → Bool
is_word_of None = false
is_word_of (Some s) = bytes_eq s (codes "attach")

module _ (t : Tree) (address : List ℕ) (named : Row t (codes "address", text address)) where
  attached : (edit : Edit) → is_attach t ≡ true → attaching address t ≡ Some edit → Under (contents_of edit) t
  unfolding contents_of
  attached edit is h =
      let word = then_some (λ w. option_and_then (λ kind. Some (Attach address kind)) (kind_named w)) (text_at (codes "kind") t) edit h in
      let kind = then_some (λ k. Some (Attach address k)) (kind_named word.0) edit word.1.1 in
      let own : Row t (codes "type", text (codes "attach")) = by_type (text_at (codes "type") t) refl is in
      subst (λ e. Under (contents_of e) t) (some_same (Attach address kind.0) edit kind.1.1)
      (object_under (codes "address", text address) ((codes "kind", text (kind_word kind.0)) ∷ (codes "type", text (codes "attach")) ∷ []) t ((refl, (refl, tt)), ((refl, tt), (tt, tt)))
      (named, (word_row (codes "kind") t word.0 (kind_word kind.0) word.1.0 (kind_of_word word.0 kind.0 kind.1.0), (own, tt))))
    where
      by_type : (o : Option (List ℕ)) → text_at (codes "type") t ≡ o → is_word_of o ≡ true → Row t (codes "type", text (codes "attach"))
      by_type None at h = absurd (cc)
      by_type (Some s) at h = word_row (codes "type") t s (codes "attach") at h

  -- an op to a channel
  module _ (c : Tree) (inside : json.find (codes "contents") t ≡ Some c) where
    channel_under : (r : List ℕ × Tree) (rs : Rows) → AreAscending (members (r ∷ rs)) → AllByRecursion (Row c) (r ∷ rs) → Under (to_channel address (r ∷ rs)) t
    channel_under r rs order all =
        object_under (codes "address", text address) ((codes "contents", object (members (r ∷ rs))) ∷ []) t ((refl, tt), (tt, tt))
        (named, (object_row (codes "contents") t c r rs inside (object_under r rs c order all), tt))

    set_under : (edit : Edit) → Row c (typed (codes "set")) → setting address c ≡ Some edit → Under (contents_of edit) t
    unfolding contents_of
    set_under edit type h =
        let key = then_some (λ k. option_and_then (λ v. Some (Set address k v)) (plain_value c)) (text_at (codes "key") c) edit h in
        let value = then_some (λ v. Some (Set address key.0 v)) (plain_value c) edit key.1.1 in
        let holder = then_some plain (json.find (codes "value") c) value.0 value.1.0 in
        let word = then_some (λ w. if bytes_eq w (codes "Plain") then json.find (codes "value") holder.0 else None) (text_at (codes "type") holder.0) value.0 holder.1.1 in
        let is = by_word (bytes_eq word.0 (codes "Plain")) (json.find (codes "value") holder.0) value.0 word.1.1 in
        let inner = object_under (codes "type", text (codes "Plain")) ((codes "value", value.0) ∷ []) holder.0 ((refl, tt), (tt, tt))
        (word_row (codes "type") holder.0 word.0 (codes "Plain") word.1.0 is.0, (record { value = value.0; at = is.1; under = under_itself value.0 }, tt)) in
        subst (λ e. Under (contents_of e) t) (some_same (Set address key.0 value.0) edit value.1.1)
        (channel_under (codes "key", text key.0) (typed (codes "set") ∷ (codes "value", object (members (typed (codes "Plain") ∷ (codes "value", value.0) ∷ []))) ∷ [])
        ((refl, (refl, tt)), ((refl, tt), (tt, tt)))
        (text_row (codes "key") c key.0 key.1.0, (type, (object_row (codes "value") c holder.0 (typed (codes "Plain")) ((codes "value", value.0) ∷ []) holder.1.0 inner, tt))))
      where
        by_word : (b : Bool) (o : Option Tree) (v : Tree) → (if b then o else None) ≡ Some v → (b ≡ true) × (o ≡ Some v)
        by_word true o v h = (refl, h)
        by_word false o v h = absurd (none_some v h)

    delete_under : (edit : Edit) → Row c (typed (codes "delete")) → deleting address c ≡ Some edit → Under (contents_of edit) t
    unfolding contents_of
    delete_under edit type h =
        let key = then_some (λ k. Some (Delete address k)) (text_at (codes "key") c) edit h in
        subst (λ e. Under (contents_of e) t) (some_same (Delete address key.0) edit key.1.1)
        (channel_under (codes "key", text key.0) (typed (codes "delete") ∷ []) ((refl, tt), (tt, tt)) (text_row (codes "key") c key.0 key.1.0, (type, tt)))

    clear_under : (edit : Edit) → Row c (typed (codes "clear")) → Some (Clear address) ≡ Some edit → Under (contents_of edit) t
    unfolding contents_of
    clear_under edit type h =
        subst (λ e. Under (contents_of e) t) (some_same (Clear address) edit h) (channel_under (typed (codes "clear")) [] (tt, tt) (type, tt))

    increment_under : (edit : Edit) → Row c (typed (codes "increment")) → incrementing address c ≡ Some edit → Under (contents_of edit) t
    unfolding contents_of
    increment_under edit type h =
        let value = then_some (λ v. option_and_then (λ n. Some (Increment address n)) (as_whole v)) (json.find (codes "incrementAmount") c) edit h in
        let amount = then_some (λ n. Some (Increment address n)) (as_whole value.0) edit value.1.1 in
        subst (λ e. Under (contents_of e) t) (some_same (Increment address amount.0) edit amount.1.1)
        (channel_under (codes "incrementAmount", whole amount.0) (typed (codes "increment") ∷ []) ((refl, tt), (tt, tt))
        (record { value = value.0; at = value.1.0; under = under_same (whole amount.0) value.0 (as_whole_is value.0 amount.0 amount.1.0) }, (type, tt)))

    spoken_under : (edit : Edit) → spoken address c ≡ Some edit → Under (contents_of edit) t
    spoken_under edit h =
        let word = then_some (λ w. option_and_then (λ v. by_verb address c v) (verb_named w)) (text_at (codes "type") c) edit h in
        by word.0 word.1.0 word.1.1 (bytes_eq word.0 (codes "set")) (bytes_eq word.0 (codes "delete")) (bytes_eq word.0 (codes "clear")) (bytes_eq word.0 (codes "increment")) refl refl refl refl
      where
        by : (word : List ℕ) → text_at (codes "type") c ≡ Some word → option_and_then (λ v. by_verb address c v) (verb_named word) ≡ Some edit → (p q r s : Bool)
            → bytes_eq word (codes "set") ≡ p → bytes_eq word (codes "delete") ≡ q → bytes_eq word (codes "clear") ≡ r → bytes_eq word (codes "increment") ≡ s → Under (contents_of edit) t
        by word at h true q r s one two three four =
            let k : setting address c ≡ Some edit = rw one at h in set_under edit (word_row (codes "type") c word (codes "set") at one) k
        by word at h false true r s one two three four =
            let k : deleting address c ≡ Some edit = rw (one, two) at h in delete_under edit (word_row (codes "type") c word (codes "delete") at two) k
        by word at h false false true s one two three four =
            let k : Some (Clear address) ≡ Some edit = rw (one, two, three) at h in clear_under edit (word_row (codes "type") c word (codes "clear") at three) k
        by word at h false false false true one two three four =
            let k : incrementing address c ≡ Some edit = rw (one, two, three, four) at h in increment_under edit (word_row (codes "type") c word (codes "increment") at four) k
        by word at h false false false false one two three four =
            let k : None ≡ Some edit = rw (one, two, three, four) at h in absurd (cc)

  body_under : (b : Bool) (edit : Edit) → is_attach t ≡ b → (if b then attaching address t else speaking address t) ≡ Some edit → Under (contents_of edit) t
  body_under true edit is h = attached edit is h
  body_under false edit is h = let c = then_some (spoken address) (json.find (codes "contents") t) edit h in spoken_under c.0 c.1.0 edit c.1.1

edit_under : (t : Tree) (edit : Edit) → edit_in t ≡ Some edit → Under (contents_of edit) t
unfolding edit_in
edit_under t edit h =
    let address = then_some (λ a. if is_attach t then attaching a t else speaking a t) (name_at (codes "address") t) edit h in
    body_under t address.0 (name_row (codes "address") t address.0 address.1.0) (is_attach t) edit refl address.1.1

-- ---- a text

-- its value is that of contents, and isn't too deep
record IsContents (s : List ℕ) (edit : Edit) : Type 0 where
  tree : Tree
  reads : json_or (read s) ≡ Ok tree
  shallow : reaches 99 Outside 0 s ≡ false
  is : edit_in tree ≡ Some edit

ok_fault : (fault : JsonFault) (edit : Edit) → ◌≡◌ {A = Option (Result Edit JsonFault)} (Some (Err fault)) (Some (Ok edit)) → ⊥
ok_fault fault edit same = cc

mapped : (o : Option Edit) (edit : Edit) → ◌≡◌ {A = Option (Result Edit JsonFault)} (option_map Ok o) (Some (Ok edit)) → o ≡ Some edit
mapped None edit h = absurd (cc)
mapped (Some e) edit h = let same : e ≡ edit = cc in ap Some same

unless_deep : (b : Bool) (r : Result Tree JsonFault) (t : Tree) → cond b (Err TooDeep) r ≡ Ok t → r ≡ Ok t
unless_deep true r t h = absurd (cc)
unless_deep false r t h = h

answered : (s : List ℕ) (t : Tree) → answer s ≡ Ok t → json_or (read s) ≡ Ok t
unfolding answer_within
answered s t h = unless_deep (reaches 101 Outside 0 s) (json_or (read s)) t h

contents_of_text : (s : List ℕ) (edit : Edit) → op_spelled s ≡ Some (Ok edit) → IsContents s edit
contents_of_text s edit h = by (reaches 99 Outside 0 s) (answer s) refl refl h
  where
    by : (b : Bool) (r : Result Tree JsonFault) → reaches 99 Outside 0 s ≡ b → answer s ≡ r → op_of (held_back b r) ≡ Some (Ok edit) → IsContents s edit
    by true (Ok t) deep is h = absurd (ok_fault TooDeep edit h)
    by false (Ok t) deep is h = record { tree = t; reads = answered s t is; shallow = deep; is = mapped (edit_in t) edit h }
    by b (Err NotJson) deep is h = absurd (ok_fault NotJson edit h)
    by true (Err NotWhole) deep is h = absurd (ok_fault TooDeep edit h)
    by false (Err NotWhole) deep is h = absurd (ok_fault NotWhole edit h)
    by b (Err TooDeep) deep is h = absurd (ok_fault TooDeep edit h)
    by b (Err NoMemory) deep is h = absurd (ok_fault NoMemory edit h)

pub ops_are_short : OpsAreShort
ops_are_short s edit h few =
    let is = contents_of_text s edit h in
    let value = read_below 99 s is.tree (omega arith) is.shallow is.reads in
    let under = edit_under is.tree edit is.is in
    (record { canonical = under.canonical value.canonical; shallow = omega (arith, under.shallow, value.shallow) }, omega (arith, under.short, value.short, few))
