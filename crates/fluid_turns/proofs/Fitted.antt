-- What clients submit fits a log.
use Rattle.std.proofs.Common.{◌≡◌, ℕ, suc, ◌+◌, ◌<◌, ◌≤◌, ◌^◌, ℤ, pos, negsuc, List, [], ◌∷◌, length, codes, decimal, None, sym, subst, arith, FitsSigned, w64}
use Rattle.std.proofs.lemmas.Int.{ints}
use Rattle.std.proofs.lemmas.Fmt.{length-decimal-le}
use Rattle.json.specs.Print.{quoted, escape_byte}
use Rattle.fluid_json.specs.Printed.{printed}
use Rattle.fluid_json.specs.Tree.{Tree, null, whole, text, object, members, IsSigned}
use Rattle.fluid_types.specs.Names.{IsName}
use Rattle.fluid_types.specs.Forms.{largest}
use Rattle.fluid_types.specs.Texts.{name_of}
use Rattle.fluid_types.specs.Words.{offered_word}
use Rattle.fluid_types.specs.Fits.{longest_record}
use Rattle.fluid_types.specs.Printed.{Row, submission_rows, submission_tree, raw_rows, raw_printed}
use Rattle.fluid_types.specs.declared.entries.Raw.TheVariants.{Submit}
use Rattle.fluid_types.specs.declared.entries.Offered.{Offered}
use Rattle.fluid_types.specs.declared.entries.Offered.TheVariants as offered
use Rattle.fluid_codec.specs.Laws.{IsNested, IsReference}
use Rattle.fluid_codec.proofs.ReadBack.{records_are_read_back}
use Rattle.fluid_readback.proofs.Entries.{name_short, count_short, reference_short, quoted_short, rows_short}
use Rattle.fluid_edits.specs.declared.edit.Edit.TheVariants as edit
use Rattle.fluid_edits.specs.Forms.{contents_of}
use Rattle.fluid_loader.specs.Fitting.{most_contents}
use Rattle.fluid_loader.specs.Submitting.{numbered}
use Rattle.fluid_workload.specs.Working.{m, n, key_of}
use Rattle.fluid_turns.specs.Saying.{FitsAll, IsShort}

-- ---- any submission

offered_short : (k : Offered) → length (quoted (offered_word k)) ≤ 11
unfolding escape_byte
offered_short offered.Op = omega arith
offered_short offered.Noop = omega arith
offered_short offered.Propose = omega arith
offered_short offered.Reject = omega arith
offered_short offered.Summarize = omega arith

is_reference : (reference : ℕ) → reference ≤ largest → IsReference (pos reference)
is_reference reference h = record { least = search arith; most = search (arith, h) }

operation_bytes : (number reference : ℕ) (k : Offered) (c : Tree) → number ≤ largest → reference ≤ largest → length (printed c) ≤ most_contents
    → length (printed (submission_tree (numbered number reference k c))) ≤ 1000 + most_contents
unfolding submission_rows name_of escape_byte
operation_bytes number reference k c h r b =
    omega (arith, rows_short (submission_rows (numbered number reference k c)), count_short number h, reference_short (pos reference) (is_reference reference r), offered_short k, b)

record_bytes : (id : List ℕ) (number reference : ℕ) (k : Offered) (c : Tree) → IsName id → number ≤ largest → reference ≤ largest → length (printed c) ≤ most_contents
    → length (raw_printed (Submit id (numbered number reference k c) 0)) ≤ longest_record
unfolding raw_rows name_of escape_byte
record_bytes id number reference k c name h r b =
    omega (arith, rows_short (raw_rows (Submit id (numbered number reference k c) 0)), name_short id name, operation_bytes number reference k c h r b, count_short 0 (omega arith))

pub fits_all : (number reference : ℕ) (k : Offered) (c : Tree) → number ≤ largest → reference ≤ largest → IsNested 98 c → length (printed c) ≤ most_contents → FitsAll (numbered number reference k c)
fits_all number reference k c h r nested b id name = record {
  short = record_bytes id number reference k c name h r b;
  read_back =
      records_are_read_back (Submit id (numbered number reference k c) 0) (record {
        name = name;
        operation = record { client_number = h; reference = is_reference reference r; contents = nested; metadata = tt };
        bound = omega arith;
      });
}

pub fits_all_as : (number reference : ℕ) (z : ℤ) (k : Offered) (c : Tree) → z ≡ pos reference → number ≤ largest → reference ≤ largest → IsNested 98 c → length (printed c) ≤ most_contents
    → FitsAll (record { client_number = number; reference = z; kind = k; contents = c; metadata = None })
fits_all_as number reference z k c same h r nested b = subst (λ z. FitsAll (record { client_number = number; reference = z; kind = k; contents = c; metadata = None })) (sym same) (fits_all number reference k c h r nested b)

pub null_nested : IsNested 98 null
null_nested = record { canonical = tt; shallow = omega arith }

pub null_short : length (printed null) ≤ most_contents
null_short = omega arith

-- ---- the edits of clients

decimal_short : (n : ℕ) → n < 2 ^ 32 → length (decimal n) ≤ 10
decimal_short n h = length-decimal-le 10 n (omega arith) (omega arith) (omega (arith, h))

key_short : (key : ℕ) → key < 2 ^ 32 → length (quoted (key_of key)) ≤ 100
key_short key h = omega (arith, quoted_short (key_of key), decimal_short key h)

-- a row that says what a value is
abbrev typed : List ℕ → Row
typed word = (codes "type", text word)

-- a value of a set
abbrev plain : ℕ → List Row
plain value = typed (codes "Plain") ∷ (codes "value", whole (pos value)) ∷ []

plain_short : (value : ℕ) → value < 2 ^ 32 → length (printed (object (members (plain value)))) ≤ 100
unfolding escape_byte
plain_short value v = omega (arith, rows_short (plain value), decimal_short value v)

-- what is said to a channel
abbrev said : (address : List ℕ) → List Row → List Row
said address rows = (codes "address", text address) ∷ (codes "contents", object (members rows)) ∷ []

said_short : (rows : List Row) → length (printed (object (members rows))) ≤ 1000 → (address : List ℕ) → length (quoted address) ≤ 10 → length (printed (object (members (said address rows)))) ≤ most_contents
unfolding escape_byte
said_short rows h address a = omega (arith, rows_short (said address rows), h, a)

abbrev setting : (key value : ℕ) → List Row
setting key value = (codes "key", text (key_of key)) ∷ typed (codes "set") ∷ (codes "value", object (members (plain value))) ∷ []

setting_short : (key value : ℕ) → key < 2 ^ 32 → value < 2 ^ 32 → length (printed (object (members (setting key value)))) ≤ 1000
unfolding escape_byte
setting_short key value k v = omega (arith, rows_short (setting key value), key_short key k, plain_short value v)

abbrev deleting : (key : ℕ) → List Row
deleting key = (codes "key", text (key_of key)) ∷ typed (codes "delete") ∷ []

deleting_short : (key : ℕ) → key < 2 ^ 32 → length (printed (object (members (deleting key)))) ≤ 1000
unfolding escape_byte
deleting_short key k = omega (arith, rows_short (deleting key), key_short key k)

abbrev incrementing : (amount : ℤ) → List Row
incrementing amount = (codes "incrementAmount", whole amount) ∷ typed (codes "increment") ∷ []

amount_short : (amount : ℤ) → IsSigned amount → length (printed (whole amount)) ≤ 20
amount_short (pos k) h = omega (arith, length-decimal-le 19 k (omega arith) (omega arith) (omega (arith, h)))
amount_short (negsuc k) h = omega (arith, length-decimal-le 19 (suc k) (omega arith) (omega arith) (omega (arith, h)))

incrementing_short : (amount : ℤ) → IsSigned amount → length (printed (object (members (incrementing amount)))) ≤ 1000
unfolding escape_byte
incrementing_short amount h = omega (arith, rows_short (incrementing amount), amount_short amount h)

m_short : length (quoted m) ≤ 10
unfolding escape_byte
m_short = omega arith

n_short : length (quoted n) ≤ 10
unfolding escape_byte
n_short = omega arith

pub set_short : (key value : ℕ) → key < 2 ^ 32 → value < 2 ^ 32 → IsShort (edit.Set m (key_of key) (whole (pos value)))
unfolding contents_of
set_short key value k v = record { nested = record { canonical = search arith; shallow = omega arith }; short = said_short (setting key value) (setting_short key value k v) m m_short }

pub delete_short : (key : ℕ) → key < 2 ^ 32 → IsShort (edit.Delete m (key_of key))
unfolding contents_of
delete_short key k = record { nested = record { canonical = search arith; shallow = omega arith }; short = said_short (deleting key) (deleting_short key k) m m_short }

pub increment_short : (amount : ℤ) → IsSigned amount → IsShort (edit.Increment n amount)
unfolding contents_of
increment_short amount h = record { nested = record { canonical = search (arith, h); shallow = omega arith }; short = said_short (incrementing amount) (incrementing_short amount h) n n_short }

-- the same of edits that are made of these

pub set_short_as : (key value : ℕ) (address own : List ℕ) (json : Tree) → key < 2 ^ 32 → value < 2 ^ 32 → address ≡ m → own ≡ key_of key → json ≡ whole (pos value) → IsShort (edit.Set address own json)
set_short_as key value address own json k v a t j = subst (λ x. IsShort (edit.Set x own json)) (sym a) (subst (λ x. IsShort (edit.Set m x json)) (sym t) (subst (λ x. IsShort (edit.Set m (key_of key) x)) (sym j) (set_short key value k v)))

pub delete_short_as : (key : ℕ) (address own : List ℕ) → key < 2 ^ 32 → address ≡ m → own ≡ key_of key → IsShort (edit.Delete address own)
delete_short_as key address own k a t = subst (λ x. IsShort (edit.Delete x own)) (sym a) (subst (λ x. IsShort (edit.Delete m x)) (sym t) (delete_short key k))

signed_of : (z : ℤ) → FitsSigned w64 z → IsSigned z
signed_of (pos k) h = omega (arith, ints, h.sfits)
signed_of (negsuc k) h = omega (arith, ints, h.sfits)

pub increment_short_as : (amount other : ℤ) (address : List ℕ) → FitsSigned w64 amount → address ≡ n → other ≡ amount → IsShort (edit.Increment address other)
increment_short_as amount other address h a same = subst (λ x. IsShort (edit.Increment x other)) (sym a) (subst (λ z. IsShort (edit.Increment n z)) (sym same) (increment_short amount (signed_of amount h)))
