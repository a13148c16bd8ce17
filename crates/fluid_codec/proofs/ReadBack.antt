-- What is printed is read back as itself.
use Rattle.std.specs.declared.cmp.Ordering.{Ordering}
use Rattle.std.specs.declared.cmp.Ordering.TheVariants.{Less, Equal, Greater}
use Rattle.std.specs.Ordering.{nat_cmp, is_lt}
use Rattle.std.specs.Cmp.Lexicographic.{slice_cmp}
use Rattle.std.proofs.lemmas.Bool.{and_parts, leb-true}
use Rattle.std.proofs.Common.{◌&&◌, leb, option_map, ◌≡◌, ◌<◌, ◌≤◌, ◌^◌, ℕ, suc, ℤ, pos, negsuc, List, [], ◌∷◌, ◌++◌, Bool, true, false, Option, Some, None, IfSome, Ok, map, refl, arith}
use Rattle.fluid_json.specs.Tree.{Tree, boolean, whole, text, object, trees, members, depth, members_depth, trees_depth, HasCanonical, AreCanonical, IsSigned, IsBelowAll}
use Rattle.fluid_json.specs.Printed as json
use Rattle.fluid_json.proofs.ReadBack.{answers_itself}
use Rattle.fluid_types.specs.Names.{IsName}
use Rattle.fluid_types.specs.Texts.{name_of}
use Rattle.fluid_types.specs.Forms.{Read, ◌>>=◌, a_value, largest}
use Rattle.fluid_types.specs.Records.{raw_record, scopes_of}
use Rattle.fluid_types.specs.Messages.{message}
use Rattle.fluid_types.specs.Printed.{Row, row_if_any, or_null, scope_words, scopes_tree, submission_rows, submission_tree, raw_rows, raw_tree, message_rows, message_tree}
use Rattle.fluid_types.specs.Spellings.{SpellsName, SpellsNameOrNull, SpellsCount, SpellsReference, SpellsScopes, SpellsSubmission, SpellsRaw, SpellsMessage}
use Rattle.fluid_types.specs.Words.{raw_word, offered_word, kind_word}
use Rattle.fluid_types.specs.declared.words.RawKind.TheVariants as raw
use Rattle.fluid_types.specs.declared.fault.Field.{Field}
use Rattle.fluid_types.specs.declared.fault.Field.TheVariants as field
use Rattle.fluid_types.specs.declared.entries.Scopes.{Scopes}
use Rattle.fluid_types.specs.declared.entries.Offered.{Offered}
use Rattle.fluid_types.specs.declared.entries.Submission.{Submission}
use Rattle.fluid_types.specs.declared.entries.Raw.{Raw}
use Rattle.fluid_types.specs.declared.entries.Raw.TheVariants.{Join, Leave, Submit, Report}
use Rattle.fluid_types.specs.declared.messages.Kind.{Kind}
use Rattle.fluid_types.specs.declared.messages.Message.{Message}
use Rattle.fluid_codec.specs.Laws.{IsNested, IsReference, IsSubmission, IsInGrammar, IsMessage, RecordsAreReadBack, ShortRecordsFit, MessagesAreReadBack}
use Rattle.fluid_codec.proofs.Spelled.{raw_record_read, message_read}
use Rattle.fluid_codec.proofs.Steps.{T_true}

-- ---- a printed value spells what it was printed for

scopes_held : (a b c : Bool) → (let s : Scopes = record { read = a; write = b; summary = c } in s) ≡ scopes_of (scope_words (record { read = a; write = b; summary = c }))
scopes_held true true true = refl
scopes_held true true false = refl
scopes_held true false true = refl
scopes_held true false false = refl
scopes_held false true true = refl
scopes_held false true false = refl
scopes_held false false true = refl
scopes_held false false false = refl

scopes_spelled : (s : Scopes) → SpellsScopes s (scopes_tree s)
scopes_spelled s = record { words = scope_words s; spelled = refl; held = scopes_held s.read s.write s.summary }

count_spelled : (low n : ℕ) → low ≤ n → n ≤ largest → SpellsCount low n (whole (pos n))
count_spelled low n h k = record { spelled = refl; least = h; most = k }

reference_spelled : (n : ℤ) → IsReference n → SpellsReference n (whole n)
reference_spelled n h = record { spelled = refl; least = h.least; most = h.most }

name_spelled : (id : List ℕ) → IsName id → SpellsName id (text id)
name_spelled id h = record { spelled = refl; name = h }

name_or_null_spelled : (o : Option (List ℕ)) → IfSome o IsName → SpellsNameOrNull o (or_null text o)
name_or_null_spelled None h = refl
name_or_null_spelled (Some id) h = name_spelled id h

submission_spelled : (n : ℕ) (z : ℤ) (k : Offered) (c : Tree) (o : Option Tree) → n ≤ largest → IsReference z
    → (let s : Submission = record { client_number = n; reference = z; kind = k; contents = c; metadata = o } in SpellsSubmission s (submission_tree s))
unfolding submission_rows name_of
submission_spelled n z k c None h r = record {
  its_client_number = count_spelled 0 n (omega arith) h;
  its_contents = refl;
  its_metadata = refl;
  its_reference = reference_spelled z r;
  its_kind = refl;
}
submission_spelled n z k c (Some m) h r = record {
  its_client_number = count_spelled 0 n (omega arith) h;
  its_contents = refl;
  its_metadata = refl;
  its_reference = reference_spelled z r;
  its_kind = refl;
}

raw_spelled_by : (r : Raw) → IsInGrammar r → SpellsRaw r (raw_tree r)
unfolding raw_rows name_of
raw_spelled_by (Join id scopes detail moment) h = record {
  its_raw = refl;
  its_id = name_spelled id h.name;
  its_detail = refl;
  its_moment = count_spelled 0 moment (omega arith) h.bound;
  its_scopes = scopes_spelled scopes;
}
raw_spelled_by (Leave id moment) h = record {
  its_raw = refl;
  its_id = name_spelled id h.name;
  its_moment = count_spelled 0 moment (omega arith) h.bound;
}
raw_spelled_by (Submit id s moment) h = record {
  its_raw = refl;
  its_id = name_spelled id h.name;
  its_moment = count_spelled 0 moment (omega arith) h.bound;
  its_operation = submission_spelled s.client_number s.reference s.kind s.contents s.metadata h.operation.client_number h.operation.reference;
}
raw_spelled_by (Report summary found moment) h = record {
  its_raw = refl;
  its_found = refl;
  its_moment = count_spelled 0 moment (omega arith) h.bound;
  its_summary = count_spelled 1 summary h.least h.most;
}

message_spelled_by : (client : Option (List ℕ)) (client_number reference : ℤ) (number minimum : ℕ) (kind : Kind) (contents : Tree)
    (system : Option (List ℕ)) (metadata : Option Tree) (moment : ℕ)
    → (let m : Message = record {
      client = client;
      client_number = client_number;
      reference = reference;
      number = number;
      minimum = minimum;
      kind = kind;
      contents = contents;
      system = system;
      metadata = metadata;
      moment = moment;
    } in IsMessage m → SpellsMessage m (message_tree m))
unfolding message_rows name_of
message_spelled_by c n r s m k t None None at h = record {
  its_client = name_or_null_spelled c h.client;
  its_client_number = reference_spelled n h.client_number;
  its_contents = refl;
  its_system = refl;
  its_metadata = refl;
  its_minimum = count_spelled 0 m (omega arith) h.minimum;
  its_reference = reference_spelled r h.reference;
  its_number = count_spelled 0 s (omega arith) h.number;
  its_moment = count_spelled 0 at (omega arith) h.moment;
  its_kind = refl;
}
message_spelled_by c n r s m k t None (Some d) at h = record {
  its_client = name_or_null_spelled c h.client;
  its_client_number = reference_spelled n h.client_number;
  its_contents = refl;
  its_system = refl;
  its_metadata = refl;
  its_minimum = count_spelled 0 m (omega arith) h.minimum;
  its_reference = reference_spelled r h.reference;
  its_number = count_spelled 0 s (omega arith) h.number;
  its_moment = count_spelled 0 at (omega arith) h.moment;
  its_kind = refl;
}
message_spelled_by c n r s m k t (Some y) None at h = record {
  its_client = name_or_null_spelled c h.client;
  its_client_number = reference_spelled n h.client_number;
  its_contents = refl;
  its_system = refl;
  its_metadata = refl;
  its_minimum = count_spelled 0 m (omega arith) h.minimum;
  its_reference = reference_spelled r h.reference;
  its_number = count_spelled 0 s (omega arith) h.number;
  its_moment = count_spelled 0 at (omega arith) h.moment;
  its_kind = refl;
}
message_spelled_by c n r s m k t (Some y) (Some d) at h = record {
  its_client = name_or_null_spelled c h.client;
  its_client_number = reference_spelled n h.client_number;
  its_contents = refl;
  its_system = refl;
  its_metadata = refl;
  its_minimum = count_spelled 0 m (omega arith) h.minimum;
  its_reference = reference_spelled r h.reference;
  its_number = count_spelled 0 s (omega arith) h.number;
  its_moment = count_spelled 0 at (omega arith) h.moment;
  its_kind = refl;
}

-- ---- a printed value has its keys in order, its numbers in range, and is at most 100 deep

lt_less : (o : Ordering) → is_lt o ≡ true → o ≡ Less
lt_less Less h = refl
lt_less Equal h = cc
lt_less Greater h = cc

abbrev below_all : List ℕ → List Row → Bool
below_all k [] = true
below_all k (r ∷ rs) = is_lt (slice_cmp nat_cmp k r.0) && below_all k rs

-- the names of these members stand in byte order, each once
abbrev in_order : List Row → Bool
in_order [] = true
in_order (r ∷ rs) = below_all r.0 rs && in_order rs

below_all-IsBelowAll : (k : List ℕ) (rs : List Row) → below_all k rs ≡ true → IsBelowAll k (members rs)
below_all-IsBelowAll k [] h = tt
below_all-IsBelowAll k (r ∷ rs) h =
    let parts = and_parts (is_lt (slice_cmp nat_cmp k r.0)) (below_all k rs) h in (lt_less (slice_cmp nat_cmp k r.0) parts.0, below_all-IsBelowAll k rs parts.1)

abbrev AllNested : ℕ → List Row → Type 0
AllNested n [] = Unit {0}
AllNested n (r ∷ rs) = IsNested n r.1 × AllNested n rs

members_canonical : (n : ℕ) (rs : List Row) → in_order rs ≡ true → AllNested n rs → HasCanonical (members rs)
members_canonical n [] h k = tt
members_canonical n (r ∷ rs) h k =
    let parts = and_parts (below_all r.0 rs) (in_order rs) h in
    (below_all-IsBelowAll r.0 rs parts.0, (k.0.canonical, members_canonical n rs parts.1 k.1))

members_shallow : (n : ℕ) (rs : List Row) → AllNested n rs → members_depth (members rs) ≤ n
members_shallow n [] k = omega arith
members_shallow n (r ∷ rs) k = let more = members_shallow n rs k.1 in let this : depth r.1 ≤ n = k.0.shallow in omega arith

object_nested : (n : ℕ) (rs : List Row) → in_order rs ≡ true → AllNested n rs → IsNested (suc n) (object (members rs))
object_nested n rs h k = record { canonical = members_canonical n rs h k; shallow = let d = members_shallow n rs k in omega arith }

-- one level of room more
looser : (n : ℕ) (t : Tree) → IsNested n t → IsNested (suc n) t
looser n t h = record { canonical = h.canonical; shallow = let d : depth t ≤ n = h.shallow in omega arith }

small : (n : ℕ) → n ≤ largest → n < 2 ^ 63
small n h = omega arith

count_nested : (k n : ℕ) → n ≤ largest → IsNested k (whole (pos n))
count_nested k n h = record { canonical = small n h; shallow = omega arith }

signed : (n : ℤ) → IsReference n → IsSigned n
signed (pos n) h = small n (leb-true n largest (T_true (leb n largest) h.most.le))
signed (negsuc n) h = small n (let z : n ≤ 0 = leb-true n 0 (T_true (leb n 0) h.least.le) in omega arith)

reference_nested : (k : ℕ) (n : ℤ) → IsReference n → IsNested k (whole n)
reference_nested k n h = record { canonical = signed n h; shallow = omega arith }

text_nested : (k : ℕ) (s : List ℕ) → IsNested k (text s)
text_nested k s = record { canonical = tt; shallow = omega arith }

boolean_nested : (k : ℕ) (b : Bool) → IsNested k (boolean b)
boolean_nested k b = record { canonical = tt; shallow = omega arith }

client_nested : (k : ℕ) (o : Option (List ℕ)) → IsNested k (or_null text o)
client_nested k None = record { canonical = tt; shallow = omega arith }
client_nested k (Some id) = text_nested k id

scopes_nested : (s : Scopes) → IsNested 99 (scopes_tree s)
scopes_nested s = record { canonical = texts_canonical (scope_words s); shallow = let d = texts_shallow (scope_words s) in omega arith }
  where
    texts_canonical : (ss : List (List ℕ)) → AreCanonical (trees (map text ss))
    texts_canonical [] = tt
    texts_canonical (s ∷ ss) = (tt, texts_canonical ss)

    texts_shallow : (ss : List (List ℕ)) → trees_depth (trees (map text ss)) ≤ 0
    texts_shallow [] = omega arith
    texts_shallow (s ∷ ss) = let d = texts_shallow ss in omega arith

submission_nested : (n : ℕ) (z : ℤ) (k : Offered) (c : Tree) (o : Option Tree)
    → (let s : Submission = record { client_number = n; reference = z; kind = k; contents = c; metadata = o } in IsSubmission s → IsNested 99 (submission_tree s))
unfolding submission_rows name_of
submission_nested n z k c None h =
    object_nested 98 (submission_rows (record { client_number = n; reference = z; kind = k; contents = c; metadata = None })) refl
    (count_nested 98 n h.client_number, (h.contents, (reference_nested 98 z h.reference, (text_nested 98 (offered_word k), tt))))
submission_nested n z k c (Some m) h =
    object_nested 98 (submission_rows (record { client_number = n; reference = z; kind = k; contents = c; metadata = Some m })) refl
    (count_nested 98 n h.client_number, (h.contents, (h.metadata, (reference_nested 98 z h.reference, (text_nested 98 (offered_word k), tt)))))

raw_nested : (r : Raw) → IsInGrammar r → IsNested 100 (raw_tree r)
unfolding raw_rows name_of
raw_nested (Join id scopes detail moment) h =
    object_nested 99 (raw_rows (Join id scopes detail moment)) refl
    (text_nested 99 id, (h.nested, (count_nested 99 moment h.bound, (text_nested 99 (raw_word raw.Join), (scopes_nested scopes, tt)))))
raw_nested (Leave id moment) h =
    object_nested 99 (raw_rows (Leave id moment)) refl
    (text_nested 99 id, (count_nested 99 moment h.bound, (text_nested 99 (raw_word raw.Leave), tt)))
raw_nested (Submit id s moment) h =
    object_nested 99 (raw_rows (Submit id s moment)) refl (
      text_nested 99 id,
      (
        count_nested 99 moment h.bound,
        (submission_nested s.client_number s.reference s.kind s.contents s.metadata h.operation, (text_nested 99 (raw_word raw.Submit), tt)),
      ),
    )
raw_nested (Report summary found moment) h =
    object_nested 99 (raw_rows (Report summary found moment)) refl
    (boolean_nested 99 found, (count_nested 99 moment h.bound, (text_nested 99 (raw_word raw.Report), (count_nested 99 summary h.most, tt))))

message_in_order : (c : Option (List ℕ)) (n r : ℤ) (s m : ℕ) (k : Kind) (t : Tree) (y : Option (List ℕ)) (d : Option Tree) (at : ℕ)
    → in_order (message_rows (record { client = c; client_number = n; reference = r; number = s; minimum = m; kind = k; contents = t; system = y; metadata = d; moment = at })) ≡ true
unfolding message_rows name_of
message_in_order c n r s m k t None None at = refl
message_in_order c n r s m k t None (Some d) at = refl
message_in_order c n r s m k t (Some y) None at = refl
message_in_order c n r s m k t (Some y) (Some d) at = refl

all_if_any : (n : ℕ) (f : Field) (o : Option Tree) (rs : List Row) → IfSome o (IsNested n) → AllNested n rs → AllNested n (row_if_any f o ++ rs)
all_if_any n f None rs h k = k
all_if_any n f (Some t) rs h k = (h, k)

system_nested : (o : Option (List ℕ)) → IfSome (option_map text o) (IsNested 99)
system_nested None = tt
system_nested (Some s) = text_nested 99 s

message_all_nested : (m : Message) → IsMessage m → AllNested 99 (message_rows m)
unfolding message_rows
message_all_nested m h = (
  client_nested 99 m.client,
  (
    reference_nested 99 m.client_number h.client_number,
    (
      h.contents,
      all_if_any 99 field.Data (option_map text m.system) _ (system_nested m.system) (
          all_if_any 99 field.Metadata m.metadata _ h.metadata (
            count_nested 99 m.minimum h.minimum,
            (
              reference_nested 99 m.reference h.reference,
              (
                count_nested 99 m.number h.number,
                (count_nested 99 m.moment h.moment, (text_nested 99 (kind_word m.kind), tt)),
              ),
            ),
          )),
    ),
  ),
)

message_nested : (m : Message) → IsMessage m → IsNested 100 (message_tree m)
message_nested m h =
    object_nested 99 (message_rows m) (message_in_order m.client m.client_number m.reference m.number m.minimum m.kind m.contents m.system m.metadata m.moment)
    (message_all_nested m h)

-- ---- so its text is read back

read_back : {A : Type 0} (read : Tree → Read A) (t : Tree) (a : A) → IsNested 100 t → read t ≡ Ok a → (a_value (json.printed t) >>= read) ≡ Ok a
unfolding a_value
read_back read t a h k = rw (answers_itself 101 t h.canonical (let d : depth t ≤ 100 = h.shallow in omega arith) (let d : depth t ≤ 100 = h.shallow in omega arith)) k

pub records_are_read_back : RecordsAreReadBack
records_are_read_back r h = read_back raw_record (raw_tree r) r (raw_nested r h) (raw_record_read (raw_tree r) r (raw_spelled_by r h))

pub short_records_fit : ShortRecordsFit
short_records_fit r h k = record { short = k; read_back = records_are_read_back r h }

pub message_is : (m : Message) → IsMessage m → message field.Message (message_tree m) ≡ Ok m
message_is m h =
    message_read field.Message (message_tree m) m (message_spelled_by m.client m.client_number m.reference m.number m.minimum m.kind m.contents m.system m.metadata m.moment h)

pub messages_are_read_back : MessagesAreReadBack
messages_are_read_back m h = read_back (message field.Message) (message_tree m) m (message_nested m h) (message_is m h)
