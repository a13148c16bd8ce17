-- The acknowledgements of an order are in the form of a checkpoint: each has a handle of twenty bytes and the reference of a summarize.
use Rattle.std.proofs.Common.{◌≡◌, ℕ, zero, suc, ◌+◌, ◌-◌, ◌*◌, ◌/◌, ◌%◌, ◌<◌, ◌≤◌, ◌==◌, ℤ, pos, negsuc, Bool, true, false, ◌&&◌, List, [], ◌∷◌, ◌++◌, length, Option, Some, None, Result, Ok, Err, IfOk, IfSome, IsTrue, refl, sym, subst, ◌∙◌, arith, All}
use Rattle.std.specs.Prelude.{nat_le, if◌then◌else◌, find, option_to_list, not, int_le, ◌≤ℤ◌}
use Rattle.std.specs.List.{list_all, list_any}
use Rattle.std.specs.Result.{result_ok}
use Rattle.std.proofs.lemmas.Bool.{leb-true, eqb-true}
use Rattle.std.proofs.lemmas.Option.{none-some, same_Some, MatchOption-at_some}
use Rattle.std.proofs.lemmas.List.Folds.{find_at}
use Rattle.std.proofs.lemmas.List.Elements.{All-nil, All-cons, All-head, All-tail, All-append}
use Rattle.hex.specs.Hex.{hex_digit_value, digit_or_error, value_at, pair_value, decode_pairs, decode_sized, IsBytes, ◌>>=◌}
use Rattle.hex.specs.declared.error.FromHexError.{FromHexError}
use Rattle.hex.specs.declared.error.FromHexError.TheVariants.{OddLength, InvalidStringLength}
use Rattle.fluid_json.specs.Tree as json
use Rattle.fluid_json.specs.Tree.{Tree, as_text}
use Rattle.fluid_types.specs.Forms.{largest}
use Rattle.fluid_types.specs.Texts.{name_of}
use Rattle.fluid_types.specs.declared.fault.Field.TheVariants as field
use Rattle.fluid_types.specs.declared.messages.Message.{Message}
use Rattle.fluid_tree.specs.Ids.{id_read, is_lower_digit}
use Rattle.fluid_tree.specs.declared.id.SummaryRef.{SummaryRef}
use Rattle.fluid_codec.specs.Laws.{IsMessage}
use Rattle.fluid_codec.proofs.Steps.{T_true}
use Rattle.fluid_rules.specs.Past.{count_of}
use Rattle.fluid_rules.specs.Scribe.{is_ack, is_summarize, handling, answered_by, answers, unanswered, acknowledged, ack_of, acks_behind, acks}
use Rattle.fluid_checkpoint.specs.Laws.{IsAck}
use Rattle.fluid_document.proofs.Orders.{all-there}

-- ---- digits

range : (low high less c v : ℕ) (a b : Bool) → nat_le c high ≡ b → (rest : Option ℕ) → (rest ≡ Some v → v < 16) → high - less < 16 → (if a && b then Some (c - less) else rest) ≡ Some v → v < 16
range low high less c v true true q rest other small is = subst (λ n. n < 16) (same_Some _ _ is) (omega (arith, leb-true c high q, small))
range low high less c v a b q rest other small is = other is

digit_small : (c v : ℕ) → hex_digit_value c ≡ Some v → v < 16
digit_small c v is =
    range 65 70 55 c v (nat_le 65 c) (nat_le c 70) refl _
    (range 97 102 87 c v (nat_le 97 c) (nat_le c 102) refl _ (range 48 57 48 c v (nat_le 48 c) (nat_le c 57) refl None (λ none. absurd (none-some _ none)) (omega arith)) (omega arith))
    (omega arith) is

says_then : {A B : Type 0} (P : A → Type 0) (Q : B → Type 0) (r : Result A FromHexError) (f : A → Result B FromHexError) → IfOk r P → ((a : A) → P a → IfOk (f a) Q) → IfOk (r >>= f) Q
says_then P Q (Ok a) f p each = each a p
says_then P Q (Err fault) f p each = tt

digit_says : (c i : ℕ) → IfOk (value_at c i) (λ v. v < 16)
digit_says c i = by (hex_digit_value c) refl
  where
    by : (o : Option ℕ) → hex_digit_value c ≡ o → IfOk (digit_or_error c i o) (λ v. v < 16)
    by None is = tt
    by (Some v) is = digit_small c v is

pair_says : (high low i : ℕ) → IfOk (pair_value high low i) (λ b. b < 256)
pair_says high low i =
    says_then (λ v. v < 16) (λ b. b < 256) (value_at high i) _ (digit_says high i)
    (λ h hs. says_then (λ v. v < 16) (λ b. b < 256) (value_at low (i + 1)) _ (digit_says low (i + 1)) (λ l ls. omega (arith, hs, ls)))

record IsDecoded (digits : ℕ) (bytes : List ℕ) : Type 0 where
  size : 2 * length bytes ≡ digits
  bytes_are : IsBytes bytes

more_bytes : (b : ℕ) (bytes : List ℕ) → b < 256 → IsBytes bytes → IsBytes (b ∷ bytes)
more_bytes b bytes small are zero = small
more_bytes b bytes small are (suc i) = are i

no_bytes : IsBytes []
no_bytes i = omega arith

decoded : (i : ℕ) (digits : List ℕ) → IfOk (decode_pairs i digits) (IsDecoded (length digits))
unfolding decode_pairs
decoded i [] = record { size = refl; bytes_are = no_bytes }
decoded i (digit ∷ []) = tt
decoded i (high ∷ low ∷ rest) =
    says_then (λ b. b < 256) (IsDecoded (length (high ∷ low ∷ rest))) (pair_value high low i) _ (pair_says high low i)
    (λ b small. says_then (IsDecoded (length rest)) (IsDecoded (length (high ∷ low ∷ rest))) (decode_pairs (i + 2) rest) _ (decoded (i + 2) rest)
    (λ bytes is. record { size = omega (arith, is.size); bytes_are = more_bytes b bytes small is.bytes_are }))

-- ---- ids

abbrev IsHandle : List ℕ → Type 0
IsHandle id = (length id ≡ 20) × IsBytes id

of_decoded : (digits : ℕ) (r : Result (List ℕ) FromHexError) → digits / 2 ≡ 20 → IfOk r (IsDecoded digits) → IfSome (result_ok r) IsHandle
of_decoded digits (Ok bytes) half is = (half_size (length bytes) digits is.size half, is.bytes_are)
  where
    half_size : (n d : ℕ) → 2 * n ≡ d → d / 2 ≡ 20 → n ≡ 20
    half_size n d twice half = omega (arith, twice, half)
of_decoded digits (Err fault) half is = tt

id_gives : (s : List ℕ) → IfSome (id_read s) IsHandle
unfolding id_read
id_gives s = by (list_all is_lower_digit s)
  where
    sized : (b : Bool) → (length s / 2 == 20) ≡ b → IfSome (result_ok (if b then decode_pairs 0 s else Err InvalidStringLength)) IsHandle
    sized true half = of_decoded (length s) (decode_pairs 0 s) (eqb-true (length s / 2) 20 half) (decoded 0 s)
    sized false half = tt

    even : (b : Bool) → IfSome (result_ok (if b then Err OddLength else (if length s / 2 == 20 then decode_pairs 0 s else Err InvalidStringLength))) IsHandle
    even true = tt
    even false = sized (length s / 2 == 20) refl

    by : (b : Bool) → IfSome (if b then result_ok (decode_sized s 20) else None) IsHandle
    by true = even (length s % 2 == 1)
    by false = tt

-- ---- one acknowledgement

-- one step after another, as the scribe's definitions have them
abbrev and_then : {A B : Type 0} → Option A → (A → Option B) → Option B
and_then None f = None
and_then (Some a) f = f a

gives_then : {A B : Type 0} (Q : B → Type 0) (o : Option A) (f : A → Option B) → ((a : A) → o ≡ Some a → IfSome (f a) Q) → IfSome (and_then o f) Q
gives_then Q None f each = tt
gives_then Q (Some a) f each = each a refl

handle_given : (t : Tree) (handle : List ℕ) → handling t ≡ Some handle → IsHandle handle
handle_given t handle is =
    MatchOption-at_some _ IsHandle handle is
    (gives_then IsHandle (json.find (name_of field.Handle) t) _ (λ value _. gives_then IsHandle (as_text value) id_read (λ digits _. id_gives digits)))

small_count : (n : ℤ) → n ≤ℤ pos largest → count_of n ≤ largest
small_count (pos n) le = leb-true n largest (T_true (int_le (pos n) (pos largest)) le.le)
small_count (negsuc n) le = omega arith

-- they are among the others, and summarizes
pub waits_all : (P : Message → Type 0) (ms : List Message) → All P ms → All (λ m. P m × IsTrue (is_summarize m.kind)) (unanswered ms)
unfolding unanswered
waits_all P [] all = All-nil (λ m. P m × IsTrue (is_summarize m.kind))
waits_all P (m ∷ ms) all = by (is_summarize m.kind) refl (not (list_any (answers m.number) ms)) (waits_all P ms (All-tail P m ms all))
  where
    by : (b : Bool) → is_summarize m.kind ≡ b → (c : Bool) → All (λ x. P x × IsTrue (is_summarize x.kind)) (unanswered ms) → All (λ x. P x × IsTrue (is_summarize x.kind)) ((if b && c then m ∷ [] else []) ++ unanswered ms)
    by true is true rest = All-cons (λ x. P x × IsTrue (is_summarize x.kind)) m (unanswered ms) (All-head P m ms all, is) rest
    by b is c rest = rest

ack_given : (before : List Message) (m : Message) → All IsMessage before → IfSome (ack_of before m) IsAck
unfolding ack_of
ack_given before m all = by (is_ack m.kind)
  where
    made : IfSome (acknowledged before m) IsAck
    made =
        gives_then IsAck (handling m.contents) _
        (λ handle h. gives_then IsAck (answered_by m) _
        (λ number n. gives_then IsAck (find (λ s. s.number == number) (unanswered before)) _
        (λ summarize found.
        let it = handle_given m.contents handle h in
        let is = all-there (λ m. IsMessage m × IsTrue (is_summarize m.kind)) (unanswered before) _ summarize (sym (find_at (λ s. s.number == number) (unanswered before)) ∙ found) (waits_all IsMessage before all) in
        record { size = it.0; bytes = it.1; number = small_count summarize.reference is.0.reference.most })))

    by : (b : Bool) → IfSome (if b then acknowledged before m else None) IsAck
    by true = made
    by false = tt

one_or_none : (o : Option SummaryRef) → IfSome o IsAck → All IsAck (option_to_list o)
one_or_none None is = All-nil IsAck
one_or_none (Some ack) is = All-cons IsAck ack [] is (All-nil IsAck)

acks_given : (before ms : List Message) → All IsMessage before → All IsMessage ms → All IsAck (acks_behind before ms)
unfolding acks_behind
acks_given before [] first all = All-nil IsAck
acks_given before (m ∷ ms) first all =
    All-append IsAck (option_to_list (ack_of before m)) (acks_behind (before ++ m ∷ []) ms) (one_or_none (ack_of before m) (ack_given before m first))
    (acks_given (before ++ m ∷ []) ms (All-append IsMessage before (m ∷ []) first (All-cons IsMessage m [] (All-head IsMessage m ms all) (All-nil IsMessage))) (All-tail IsMessage m ms all))

pub acks_in_form : (ms : List Message) → All IsMessage ms → All IsAck (acks ms)
unfolding acks
acks_in_form ms all = acks_given [] ms (All-nil IsMessage) all
