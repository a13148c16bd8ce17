-- The entries that are read from a value are nested less deep than it, and their records are a little longer at most.
use Rattle.std.proofs.Common.{◌≡◌, ℕ, zero, suc, ◌+◌, ◌*◌, ◌≤◌, ℤ, pos, negsuc, List, [], ◌∷◌, ◌++◌, length, length-append, Bool, true, false, cond, nat_le, int_le, Option, Some, None, IsSomeAnd, IfSome, MatchOption, Ok, bytes_eq, All, inl, inr, refl, ap, sym, ◌∙◌, subst, arith}
use Rattle.std.specs.Prelude.{⊤, codes, get_or}
use Rattle.std.specs.List.{list_all}
use Rattle.std.proofs.lemmas.Bool.{and_parts, leb-true}
use Rattle.std.proofs.lemmas.Fmt.{length-decimal-le}
use Rattle.std.proofs.lemmas.List.Elements.{All-nil, All-cons, All-append}
use Rattle.std.proofs.lemmas.Slice.Eq.{bytes_eq-Decides}
use Rattle.json.specs.Print.{quoted, escape, escape_byte}
use Rattle.fluid_json.specs.Printed.{printed, printed_items, printed_more_items, printed_members, printed_more_members}
use Rattle.fluid_json.specs.Tree.{Tree, null, whole, list, object, Trees, no_trees, tree, Members, no_members, member, members, depth, trees_depth, members_depth, IsCanonical, AreCanonical, HasCanonical, find_member, find}
use Rattle.fluid_json.specs.Spelled.{answer}
use Rattle.fluid_types.specs.Names.{is_name_byte, is_within, is_name, IsName}
use Rattle.fluid_types.specs.Texts.{name_of}
use Rattle.fluid_types.specs.Forms.{largest}
use Rattle.fluid_types.specs.Fits.{Fits, longest_record}
use Rattle.fluid_types.specs.Words.{offered_word}
use Rattle.fluid_types.specs.Printed.{Row, count_tree, scopes_tree, submission_rows, submission_tree, raw_rows, raw_printed}
use Rattle.fluid_types.specs.Spellings.{Has, IsMember, SpellsName, SpellsCount, SpellsReference, SpellsSubmission, SpellsRaw}
use Rattle.fluid_types.specs.declared.fault.Field.{Field}
use Rattle.fluid_types.specs.declared.fault.Field.TheVariants as field
use Rattle.fluid_types.specs.declared.entries.Scopes.{Scopes}
use Rattle.fluid_types.specs.declared.entries.Offered.{Offered}
use Rattle.fluid_types.specs.declared.entries.Offered.TheVariants as offered
use Rattle.fluid_types.specs.declared.entries.Submission.{Submission}
use Rattle.fluid_types.specs.declared.entries.Raw.{Raw}
use Rattle.fluid_types.specs.declared.entries.Raw.TheVariants.{Join, Leave, Submit, Report}
use Rattle.fluid_codec.specs.Items.{nth, item}
use Rattle.fluid_codec.specs.declared.events.Event.TheVariants.{Connect, SubmitOp}
use Rattle.fluid_codec.specs.Laws.{IsNested, IsReference, IsSubmission}
use Rattle.fluid_codec.specs.EventSpellings.{HasItem, SpellEach, SpellsPart, joined, SpellsBatches, SpellsConnection}
use Rattle.fluid_codec.proofs.Spelled.{records_are_spelled}
use Rattle.fluid_codec.proofs.Steps.{T_true}
use Rattle.fluid_codec.proofs.Heard.{events_are_spelled}
use Rattle.fluid_codec.proofs.ReadBack.{records_are_read_back}
use Rattle.fluid_readback.specs.Laws.{longest_text, ReadRecordsFit, ReadJoinsFit, HeardConnectsFit, HeardSubmissionsFit}
use Rattle.fluid_readback.proofs.Lexing.{escape_short}
use Rattle.fluid_readback.proofs.Values.{values_are_bounded}

-- ---- what stands inside a value

pub record IsBounded (bytes deep : ℕ) (t : Tree) : Type 0 where
  pub canonical : IsCanonical t
  pub shallow : depth t ≤ deep
  pub short : length (printed t) ≤ bytes

-- the bytes of members' keys and values
abbrev pub bytes_of : Members → ℕ
bytes_of no_members = 0
bytes_of (member k t ms) = length (quoted k) + (length (printed t) + bytes_of ms)

more_members : (ms : Members) → bytes_of ms ≤ length (printed_more_members ms)
more_members no_members = omega arith
more_members (member k t ms) = omega (arith, more_members ms, length-append (quoted k) (codes ":" ++ (printed t ++ printed_more_members ms)), length-append (printed t) (printed_more_members ms))

all_members : (ms : Members) → bytes_of ms ≤ length (printed_members ms)
all_members no_members = omega arith
all_members (member k t ms) = omega (arith, more_members ms, length-append (quoted k) (codes ":" ++ (printed t ++ printed_more_members ms)), length-append (printed t) (printed_more_members ms))

pub object_bytes : (ms : Members) → bytes_of ms + 2 ≤ length (printed (object ms))
object_bytes ms = omega (arith, all_members ms, length-append (printed_members ms) (codes "}"))

record IsInMembers (ms : Members) (v : Tree) : Type 0 where
  pub canonical : HasCanonical ms → IsCanonical v
  pub shallow : depth v ≤ members_depth ms
  pub short : length (printed v) + 2 ≤ bytes_of ms

in_members : (k : List ℕ) (ms : Members) (v : Tree) → find_member k ms ≡ Some v → IsInMembers ms v
in_members k no_members v h = cc
in_members k (member l t ms) v h = of (bytes_eq k l) h (in_members k ms v)
  where
    of : (b : Bool) → cond b (Some t) (find_member k ms) ≡ Some v → (find_member k ms ≡ Some v → IsInMembers ms v) → IsInMembers (member l t ms) v
    of true h again =
        let same : t ≡ v = cc in
        subst (IsInMembers (member l t ms)) same (record { canonical = λ c. c.1.0; shallow = omega arith; short = omega (arith, length-append (escape l) (34 ∷ [])) })
    of false h again = let g = again h in record { canonical = λ c. g.canonical c.1.1; shallow = omega (arith, g.shallow); short = omega (arith, g.short) }

pub member_bounded : (bytes deep : ℕ) (k : List ℕ) (t v : Tree) → IsBounded bytes (suc deep) t → find k t ≡ Some v → IsBounded bytes deep v
member_bounded bytes deep k (object ms) v h f =
    let g = in_members k ms v f in
    record { canonical = g.canonical h.canonical; shallow = omega (arith, g.shallow, h.shallow); short = omega (arith, g.short, object_bytes ms, h.short) }
member_bounded bytes deep k t v h f = cc

-- two members at different keys
two_members : (k l : List ℕ) (ms : Members) (v w : Tree) → (k ≡ l → ⊥) → find_member k ms ≡ Some v → find_member l ms ≡ Some w → length (printed v) + length (printed w) ≤ bytes_of ms
two_members k l no_members v w differ h g = cc
two_members k l (member m t ms) v w differ h g = of (bytes_eq k m) (bytes_eq l m) refl refl h g (two_members k l ms v w differ)
  where
    of : (a b : Bool) → bytes_eq k m ≡ a → bytes_eq l m ≡ b → cond a (Some t) (find_member k ms) ≡ Some v → cond b (Some t) (find_member l ms) ≡ Some w
        → (find_member k ms ≡ Some v → find_member l ms ≡ Some w → length (printed v) + length (printed w) ≤ bytes_of ms) → length (printed v) + length (printed w) ≤ bytes_of (member m t ms)
    of true true p q h g again = absurd (differ ((bytes_eq-Decides k m).0 p ∙ sym ((bytes_eq-Decides l m).0 q)))
    of true false p q h g again = let same : t ≡ v = cc in omega (arith, ap (λ u. length (printed u)) same, (in_members l ms w g).short)
    of false true p q h g again = let same : t ≡ w = cc in omega (arith, ap (λ u. length (printed u)) same, (in_members k ms v h).short)
    of false false p q h g again = omega (arith, again h g)

two_bounded : (k l : List ℕ) (t v w : Tree) → (k ≡ l → ⊥) → find k t ≡ Some v → find l t ≡ Some w → length (printed v) + length (printed w) ≤ length (printed t)
two_bounded k l (object ms) v w differ h g = omega (arith, two_members k l ms v w differ h g, object_bytes ms)
two_bounded k l t v w differ h g = cc

-- items of a list
abbrev AreBounded : ℕ → ℕ → Trees → Type 0
AreBounded bytes deep no_trees = ⊤
AreBounded bytes deep (tree t ts) = IsBounded bytes deep t × AreBounded bytes deep ts

more_items_bounded : (bytes deep : ℕ) (ts : Trees) → AreCanonical ts → trees_depth ts ≤ deep → length (printed_more_items ts) ≤ bytes → AreBounded bytes deep ts
more_items_bounded bytes deep no_trees c d s = tt
more_items_bounded bytes deep (tree t ts) c d s =
    let long = length-append (printed t) (printed_more_items ts) in
    (record { canonical = c.0; shallow = omega arith; short = omega (arith, long) }, more_items_bounded bytes deep ts c.1 (omega arith) (omega (arith, long)))

items_bounded : (bytes deep : ℕ) (ts : Trees) → IsBounded bytes (suc deep) (list ts) → AreBounded bytes deep ts
items_bounded bytes deep no_trees h = tt
items_bounded bytes deep (tree t ts) h =
    let long = length-append (printed t) (printed_more_items ts) in
    let whole = length-append (printed_items (tree t ts)) (codes "]") in (
      record { canonical = h.canonical.0; shallow = omega (arith, h.shallow); short = omega (arith, long, whole, h.short) },
      more_items_bounded bytes deep ts h.canonical.1 (omega (arith, h.shallow)) (omega (arith, long, whole, h.short)),
    )

nth_bounded : (bytes deep n : ℕ) (ts : Trees) (v : Tree) → AreBounded bytes deep ts → nth n ts ≡ Some v → IsBounded bytes deep v
nth_bounded bytes deep n no_trees v h e = cc
nth_bounded bytes deep zero (tree t ts) v h e = let same : t ≡ v = cc in subst (IsBounded bytes deep) same h.0
nth_bounded bytes deep (suc n) (tree t ts) v h e = nth_bounded bytes deep n ts v h.1 e

item_bounded : (bytes deep n : ℕ) (t v : Tree) → IsBounded bytes (suc deep) t → item n t ≡ Some v → IsBounded bytes deep v
item_bounded bytes deep n (list ts) v h e = nth_bounded bytes deep n ts v (items_bounded bytes deep ts h) e
item_bounded bytes deep n t v h e = cc

-- ---- members of any form

null_bounded : (bytes deep : ℕ) → 4 ≤ bytes → IsBounded bytes deep null
null_bounded bytes deep h = record { canonical = tt; shallow = omega arith; short = omega (arith, h) }

pub any_bounded : (bytes deep : ℕ) (f : Field) (t v : Tree) → 4 ≤ bytes → IsBounded bytes (suc deep) t → IsMember t f v → IsBounded bytes deep v
any_bounded bytes deep f t v some h m = of (find (name_of f) t) refl m
  where
    of : (o : Option Tree) → find (name_of f) t ≡ o → MatchOption o (v ≡ null) (λ w. v ≡ w) → IsBounded bytes deep v
    of None e m = subst (IsBounded bytes deep) (sym m) (null_bounded bytes deep some)
    of (Some w) e m = subst (IsBounded bytes deep) (sym m) (member_bounded bytes deep (name_of f) t w h e)

pub has_bounded : {A : Type 0} (bytes deep : ℕ) (f : Field) (Spells : A → Tree → Type 0) (a : A) (t : Tree) → IsBounded bytes (suc deep) t → Has t f Spells a → (v : Tree) × IsBounded bytes deep v × Spells a v
has_bounded bytes deep f Spells a t h m = of (find (name_of f) t) refl m
  where
    of : (o : Option Tree) → find (name_of f) t ≡ o → IsSomeAnd o (Spells a) → (v : Tree) × IsBounded bytes deep v × Spells a v
    of None e m = absurd m
    of (Some v) e m = (v, member_bounded bytes deep (name_of f) t v h e, m)

has_item : (bytes deep n : ℕ) (Is : Tree → Type 0) (t : Tree) → IsBounded bytes (suc deep) t → HasItem t n Is → (v : Tree) × IsBounded bytes deep v × Is v
has_item bytes deep n Is t h m = of (item n t) refl m
  where
    of : (o : Option Tree) → item n t ≡ o → IsSomeAnd o Is → (v : Tree) × IsBounded bytes deep v × Is v
    of None e m = absurd m
    of (Some v) e m = (v, item_bounded bytes deep n t v h e, m)

pub nested : (bytes deep : ℕ) (t : Tree) → IsBounded bytes deep t → IsNested deep t
nested bytes deep t h = record { canonical = h.canonical; shallow = h.shallow }

-- ---- the bytes of a record's parts

name_of_member : {A : Type 0} (Spells : A → Tree → Type 0) (P : A → Type 0) → ((a : A) (t : Tree) → Spells a t → P a) → (t : Tree) (f : Field) (a : A) → Has t f Spells a → P a
name_of_member Spells P k t f a h = of (find (name_of f) t) h
  where
    of : (o : Option Tree) → IsSomeAnd o (Spells a) → P a
    of None h = absurd h
    of (Some v) h = k a v h

pub is_name_of : (t : Tree) (f : Field) (id : List ℕ) → Has t f SpellsName id → IsName id
is_name_of t f id h = name_of_member SpellsName IsName (λ a v s. s.name) t f id h

pub is_count_of : (low : ℕ) (t : Tree) (f : Field) (n : ℕ) → Has t f (SpellsCount low) n → (low ≤ n) × (n ≤ largest)
is_count_of low t f n h = name_of_member (SpellsCount low) (λ k. (low ≤ k) × (k ≤ largest)) (λ a v s. (s.least, s.most)) t f n h

pub is_reference_of : (t : Tree) (f : Field) (n : ℤ) → Has t f SpellsReference n → IsReference n
is_reference_of t f n h = name_of_member SpellsReference IsReference (λ a v s. record { least = s.least; most = s.most }) t f n h

pub quoted_short : (s : List ℕ) → length (quoted s) ≤ 2 + 6 * length s
quoted_short s = omega (arith, escape_short s, length-append (escape s) (34 ∷ []))

pub name_short : (id : List ℕ) → IsName id → length (quoted id) ≤ 386
unfolding is_name
name_short id h =
    let range = (and_parts (is_within 1 64 (length id)) (list_all is_name_byte id) h).0 in
    let most = leb-true (length id) 64 (and_parts (nat_le 1 (length id)) (nat_le (length id) 64) range).1 in
    omega (arith, quoted_short id, most)

pub count_short : (n : ℕ) → n ≤ largest → length (printed (count_tree n)) ≤ 16
count_short n h = length-decimal-le 16 n (omega arith) (omega arith) (omega arith)

pub reference_short : (n : ℤ) → IsReference n → length (printed (whole n)) ≤ 17
reference_short (pos n) h = let most : n ≤ largest = leb-true n largest (T_true (int_le (pos n) (pos largest)) h.most.le) in omega (arith, count_short n most)
reference_short (negsuc n) h = let none : n ≤ 0 = leb-true n 0 (T_true (int_le (negsuc 0) (negsuc n)) h.least.le) in
    omega (arith, length-decimal-le 1 (suc n) (omega arith) (omega (arith, none)) (omega (arith, none)))

offered_short : (k : Offered) → length (quoted (offered_word k)) ≤ 11
unfolding escape_byte
offered_short offered.Op = omega arith
offered_short offered.Noop = omega arith
offered_short offered.Propose = omega arith
offered_short offered.Reject = omega arith
offered_short offered.Summarize = omega arith

held_short : (a b c : Bool) → length (printed (scopes_tree (record { read = a; write = b; summary = c }))) ≤ 100
unfolding escape_byte
held_short true true true = omega arith
held_short true true false = omega arith
held_short true false true = omega arith
held_short true false false = omega arith
held_short false true true = omega arith
held_short false true false = omega arith
held_short false false true = omega arith
held_short false false false = omega arith

scopes_short : (s : Scopes) → length (printed (scopes_tree s)) ≤ 100
scopes_short s = held_short s.read s.write s.summary

-- the bytes of rows with their separators
abbrev pub rows_bytes : List Row → ℕ
rows_bytes [] = 0
rows_bytes (r ∷ rs) = length (quoted r.0) + (length (printed r.1) + (2 + rows_bytes rs))

more_rows : (rs : List Row) → length (printed_more_members (members rs)) ≤ rows_bytes rs
more_rows [] = omega arith
more_rows (r ∷ rs) = omega (arith, more_rows rs, length-append (quoted r.0) (codes ":" ++ (printed r.1 ++ printed_more_members (members rs))), length-append (printed r.1) (printed_more_members (members rs)))

pub rows_short : (rs : List Row) → length (printed (object (members rs))) ≤ 2 + rows_bytes rs
rows_short [] = omega arith
rows_short (r ∷ rs) =
    omega (arith, more_rows rs, length-append (quoted r.0) (codes ":" ++ (printed r.1 ++ printed_more_members (members rs))), length-append (printed r.1) (printed_more_members (members rs)), length-append (printed_members (members (r ∷ rs))) (codes "}"))

-- ---- the records

abbrev bytes : ℕ
bytes = 2097152

join_bytes : (id : List ℕ) (scopes : Scopes) (detail : Tree) (moment : ℕ) → IsName id → length (printed detail) ≤ bytes → moment ≤ largest → length (raw_printed (Join id scopes detail moment)) ≤ longest_record
unfolding raw_rows name_of escape_byte
join_bytes id scopes detail moment n d m =
    omega (arith, rows_short (raw_rows (Join id scopes detail moment)), name_short id n, d, count_short moment m, scopes_short scopes)

pub leave_bytes : (id : List ℕ) (moment : ℕ) → IsName id → moment ≤ largest → length (raw_printed (Leave id moment)) ≤ longest_record
unfolding raw_rows name_of escape_byte
leave_bytes id moment n m = omega (arith, rows_short (raw_rows (Leave id moment)), name_short id n, count_short moment m)

pub report_bytes : (summary : ℕ) (found : Bool) (moment : ℕ) → summary ≤ largest → moment ≤ largest → length (raw_printed (Report summary found moment)) ≤ longest_record
unfolding raw_rows name_of escape_byte
report_bytes summary true moment s m = omega (arith, rows_short (raw_rows (Report summary true moment)), count_short summary s, count_short moment m)
report_bytes summary false moment s m = omega (arith, rows_short (raw_rows (Report summary false moment)), count_short summary s, count_short moment m)

submission_bytes : (n : ℕ) (z : ℤ) (k : Offered) (c : Tree) (o : Option Tree) → n ≤ largest → IsReference z
    → (let s : Submission = record { client_number = n; reference = z; kind = k; contents = c; metadata = o } in
    MatchOption o (length (printed c) ≤ bytes) (λ m. length (printed c) + length (printed m) ≤ bytes) → length (printed (submission_tree s)) ≤ 1000 + bytes)
unfolding submission_rows name_of escape_byte
submission_bytes n z k c None h r b =
    let s : Submission = record { client_number = n; reference = z; kind = k; contents = c; metadata = None } in
    omega (arith, rows_short (submission_rows s), count_short n h, reference_short z r, offered_short k, b)
submission_bytes n z k c (Some m) h r b =
    let s : Submission = record { client_number = n; reference = z; kind = k; contents = c; metadata = Some m } in
    omega (arith, rows_short (submission_rows s), count_short n h, reference_short z r, offered_short k, b)

submit_bytes : (id : List ℕ) (s : Submission) (moment : ℕ) → IsName id → length (printed (submission_tree s)) ≤ 1000 + bytes → moment ≤ largest → length (raw_printed (Submit id s moment)) ≤ longest_record
unfolding raw_rows name_of escape_byte
submit_bytes id s moment n b m = omega (arith, rows_short (raw_rows (Submit id s moment)), name_short id n, b, count_short moment m)

first_letters : (c m : ℕ) → c ≡ 99 → m ≡ 109 → c ≡ m → ⊥
first_letters c m p q e = omega arith

-- the two names begin with different letters
names_differ : name_of field.Contents ≡ name_of field.Metadata → ⊥
unfolding name_of
names_differ same = first_letters 99 109 refl refl (ap (λ s. get_or s 0 0) same)

-- ---- submissions

beside_null : (t m : Tree) → find (name_of field.Metadata) t ≡ Some m → length (printed null) + length (printed m) ≤ length (printed t)
beside_null (object ms) m e = omega (arith, (in_members (name_of field.Metadata) ms m e).short, object_bytes ms)
beside_null t m e = cc

-- the contents and the metadata stand side by side in the submission
both_bytes : (c : Tree) (m : Option Tree) (t : Tree) → IsBounded bytes 99 t → IsMember t field.Contents c → m ≡ find (name_of field.Metadata) t
    → MatchOption m (length (printed c) ≤ bytes) (λ m. length (printed c) + length (printed m) ≤ bytes)
both_bytes c None t h is e = (any_bounded bytes 98 field.Contents t c (omega arith) h is).short
both_bytes c (Some m) t h is e = of (find (name_of field.Contents) t) refl is
  where
    beside : (v : Tree) → find (name_of field.Contents) t ≡ Some v → length (printed v) + length (printed m) ≤ bytes
    beside v f = omega (arith, two_bounded (name_of field.Contents) (name_of field.Metadata) t v m names_differ f (sym e), h.short)

    of : (o : Option Tree) → find (name_of field.Contents) t ≡ o → MatchOption o (c ≡ null) (λ w. c ≡ w) → length (printed c) + length (printed m) ≤ bytes
    of None f is =
        let k = beside_null t m (sym e) in
        omega (arith, k, h.short, ap (λ u. length (printed u)) is)
    of (Some v) f is = let k = beside v f in omega (arith, k, ap (λ u. length (printed u)) is)

metadata_nested : (m : Option Tree) (t : Tree) → IsBounded bytes 99 t → m ≡ find (name_of field.Metadata) t → IfSome m (IsNested 98)
metadata_nested None t h e = tt
metadata_nested (Some m) t h e = nested bytes 98 m (member_bounded bytes 98 (name_of field.Metadata) t m h (sym e))

submission_fits : (id : List ℕ) (s : Submission) (moment : ℕ) (t : Tree) → IsName id → moment ≤ largest → IsBounded bytes 99 t → SpellsSubmission s t → Fits (Submit id s moment)
submission_fits id s moment t n m h is =
    let number = (is_count_of 0 t field.ClientSequenceNumber s.client_number is.its_client_number).1 in
    let reference = is_reference_of t field.ReferenceSequenceNumber s.reference is.its_reference in
    let contents = any_bounded bytes 98 field.Contents t s.contents (omega arith) h is.its_contents in
    let operation : IsSubmission s = record {
      client_number = number;
      reference = reference;
      contents = nested bytes 98 s.contents contents;
      metadata = metadata_nested s.metadata t h is.its_metadata;
    } in
    let long = submission_bytes s.client_number s.reference s.kind s.contents s.metadata number reference (both_bytes s.contents s.metadata t h is.its_contents is.its_metadata) in
    record {
      short = submit_bytes id s moment n long m;
      read_back = records_are_read_back (Submit id s moment) (record { name = n; operation = operation; bound = m });
    }

join_fits : (id : List ℕ) (scopes : Scopes) (detail : Tree) (moment : ℕ) → IsName id → moment ≤ largest → IsBounded bytes 99 detail → Fits (Join id scopes detail moment)
join_fits id scopes detail moment n m h = record {
  short = join_bytes id scopes detail moment n h.short m;
  read_back = records_are_read_back (Join id scopes detail moment) (record { name = n; nested = nested bytes 99 detail h; bound = m });
}

-- ---- raw records

raw_fits : (r : Raw) (t : Tree) → IsBounded bytes 100 t → SpellsRaw r t → Fits r
raw_fits (Join id scopes detail moment) t h is =
    join_fits id scopes detail moment (is_name_of t field.ClientId id is.its_id) (is_count_of 0 t field.Moment moment is.its_moment).1 (any_bounded bytes 99 field.Detail t detail (omega arith) h is.its_detail)
raw_fits (Leave id moment) t h is =
    let n = is_name_of t field.ClientId id is.its_id in
    let m = (is_count_of 0 t field.Moment moment is.its_moment).1 in
    record { short = leave_bytes id moment n m; read_back = records_are_read_back (Leave id moment) (record { name = n; bound = m }) }
raw_fits (Submit id s moment) t h is =
    let o = has_bounded bytes 99 field.Operation SpellsSubmission s t h is.its_operation in
    submission_fits id s moment o.0 (is_name_of t field.ClientId id is.its_id) (is_count_of 0 t field.Moment moment is.its_moment).1 o.1 o.2
raw_fits (Report summary found moment) t h is =
    let n = is_count_of 1 t field.Summary summary is.its_summary in
    let m = (is_count_of 0 t field.Moment moment is.its_moment).1 in
    record { short = report_bytes summary found moment n.1 m; read_back = records_are_read_back (Report summary found moment) (record { least = n.0; most = n.1; bound = m }) }

read_bounded : (s : List ℕ) (t : Tree) → length s ≤ longest_text → answer s ≡ Ok t → IsBounded bytes 100 t
read_bounded s t long h = let r = values_are_bounded s t h in record { canonical = r.canonical; shallow = r.shallow; short = omega (arith, r.short, long) }

pub read_records_fit : ReadRecordsFit
read_records_fit s raw long h =
    let v = (records_are_spelled s raw).0 h in
    raw_fits raw v.0 (read_bounded s v.0 long v.1) v.2

pub read_joins_fit : ReadJoinsFit
read_joins_fit s id scopes detail moment long h other name =
    let v = (records_are_spelled s (Join id scopes detail moment)).0 h in
    let t : Tree = v.0 in
    let is = v.2 in
    join_fits other scopes detail moment name (is_count_of 0 t field.Moment moment is.its_moment).1
    (any_bounded bytes 99 field.Detail t detail (omega arith) (read_bounded s t long v.1) is.its_detail)

-- ---- events

less_deep : (deep most : ℕ) (t : Tree) → IsBounded bytes deep t → deep ≤ most → IsBounded bytes most t
less_deep deep most t h k = record { canonical = h.canonical; shallow = omega (arith, h.shallow, k); short = h.short }

pub heard_connects_fit : HeardConnectsFit
heard_connects_fit s name write scopes client long h id moment n m =
    let v = (events_are_spelled s (Connect name write scopes client)).0 h in
    let asked = has_item bytes 99 1 (SpellsConnection name write scopes client) v.0 (read_bounded s v.0 long v.1) v.2.its_connection in
    join_fits id scopes client moment n m (less_deep 98 99 client (any_bounded bytes 98 field.Client asked.0 client (omega arith) asked.1 asked.2.its_client) (omega arith))

-- the submission fits under this id at any moment
abbrev FitsUnder : List ℕ → ℕ → Submission → Type 0
FitsUnder id moment s = Fits (Submit id s moment)

each_fits : (id : List ℕ) (moment : ℕ) → IsName id → moment ≤ largest → (ss : List Submission) (ts : Trees) → AreBounded bytes 99 ts → SpellEach SpellsSubmission ss ts → All (FitsUnder id moment) ss
each_fits id moment n m [] no_trees b h = All-nil (FitsUnder id moment)
each_fits id moment n m [] (tree t ts) b h = absurd h
each_fits id moment n m (s ∷ ss) no_trees b h = absurd h
each_fits id moment n m (s ∷ ss) (tree t ts) b h = All-cons (FitsUnder id moment) s ss (submission_fits id s moment t n m b.0 h.0) (each_fits id moment n m ss ts b.1 h.1)

part_fits : (id : List ℕ) (moment : ℕ) → IsName id → moment ≤ largest → (part : List Submission) (t : Tree) → IsBounded bytes 99 t → SpellsPart part t → All (FitsUnder id moment) part
part_fits id moment n m part t b (inl h) =
    subst (λ p. All (FitsUnder id moment) p) (sym h.part_is) (All-cons (FitsUnder id moment) h.one [] (submission_fits id h.one moment t n m b h.spelled) (All-nil (FitsUnder id moment)))
part_fits id moment n m part t b (inr h) =
    let inside : IsBounded bytes 100 (list h.items) = less_deep 99 100 (list h.items) (subst (IsBounded bytes 99) h.spelled b) (omega arith) in
    each_fits id moment n m part h.items (items_bounded bytes 99 h.items inside) h.each

parts_fit : (id : List ℕ) (moment : ℕ) → IsName id → moment ≤ largest → (parts : List (List Submission)) (ts : Trees) → AreBounded bytes 99 ts → SpellEach SpellsPart parts ts
    → All (FitsUnder id moment) (joined parts)
parts_fit id moment n m [] no_trees b h = All-nil (FitsUnder id moment)
parts_fit id moment n m [] (tree t ts) b h = absurd h
parts_fit id moment n m (p ∷ ps) no_trees b h = absurd h
parts_fit id moment n m (p ∷ ps) (tree t ts) b h =
    All-append (FitsUnder id moment) p (joined ps) (part_fits id moment n m p t b.0 h.0) (parts_fit id moment n m ps ts b.1 h.1)

pub heard_submissions_fit : HeardSubmissionsFit
heard_submissions_fit s id submissions long h moment m =
    let v = (events_are_spelled s (SubmitOp id submissions)).0 h in
    let whole = read_bounded s v.0 long v.1 in
    let named = has_item bytes 99 1 (SpellsName id) v.0 whole v.2.its_id in
    let messages = has_item bytes 99 2 (SpellsBatches submissions) v.0 whole v.2.its_messages in
    let is = messages.2 in
    let inside : IsBounded bytes 100 (list is.items) = less_deep 99 100 (list is.items) (subst (IsBounded bytes 99) is.spelled messages.1) (omega arith) in
    subst (λ ss. All (FitsUnder id moment) ss) (sym is.in_order) (parts_fit id moment named.2.name m is.parts is.items (items_bounded bytes 99 is.items inside) is.each)
