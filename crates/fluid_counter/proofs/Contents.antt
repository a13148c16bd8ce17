-- The content of a total is JSON, is read as that total, and only it is.
use Rattle.std.proofs.Common.{◌≡◌, refl, sym, ap, subst, ◌∙◌, ℕ, suc, ◌≤◌, ◌⊎◌, inl, inr, ◌++◌, List, [], ◌∷◌, ℤ, pos, negsuc, Bool, true, false, ◌&&◌, if◌then◌else◌, nat_le, bytes_eq, Result, Ok, Err, codes, unsigned_abs, option_and_then, arith}
use Rattle.std.specs.Option.{unwrap_or}
use Rattle.std.specs.Result.{result_ok}
use Rattle.std.specs.Fmt.{decimal, signed_decimal}
use Rattle.std.specs.Str.Parse.{AllDigits, signed_digits_value}
use Rattle.std.proofs.lemmas.List.{append-nil, append_assoc}
use Rattle.std.proofs.lemmas.Option.{same_Some}
use Rattle.std.proofs.lemmas.Slice.Eq.{bytes_eq-Decides}
use Rattle.std.proofs.lemmas.Str.Parse.{digit_from_value}
use Rattle.std.proofs.lemmas.Fmt.{decimal_is_IsNumeral_wide}
use Rattle.json.specs.Print.{escape, escape_byte}
use Rattle.json.proofs.Printed.Strings.{escape_byte_plain}
use Rattle.fluid_json.specs.Tree.{Tree, text, object, no_members, member, find, as_text}
use Rattle.fluid_json.specs.Printed.{printed}
use Rattle.fluid_json.specs.Spelled as json
use Rattle.fluid_json.specs.Unless.{IsUnless}
use Rattle.fluid_json.proofs.ReadBack.{answers_itself}
use Rattle.fluid_types.specs.declared.fault.BlobFault.{BlobFault}
use Rattle.fluid_types.specs.declared.fault.BlobFault.TheVariants.{NoMemory as no_memory}
use Rattle.fluid_counter.specs.Counter.{Shared, greatest_size}
use Rattle.fluid_counter.specs.Content.{content, IsStorable, total_in, is_content, bad_content, answer, greatest_total}
use Rattle.fluid_counter.proofs.Decimals.{value-signed_decimal}

-- ---- the content is what is printed for an object

digits_plain : (digits : List ℕ) → AllDigits 10 digits → escape digits ≡ digits
digits_plain [] d = refl
digits_plain (c ∷ cs) d =
    let range = digit_from_value c d.0 in
    ap (λ l. l ++ escape cs) (escape_byte_plain c (λ e. omega (arith, range)) (λ e. omega (arith, range)) (omega (arith, range))) ∙ ap (λ l. c ∷ l) (digits_plain cs d.1)

plain : (total : ℤ) → unsigned_abs total ≤ greatest_size → escape (signed_decimal total) ≡ signed_decimal total
plain (pos n) small = digits_plain _ (decimal_is_IsNumeral_wide n (omega arith)).0.1
plain (negsuc n) small =
    ap (λ l. l ++ escape (decimal (suc n))) (escape_byte_plain 45 (λ e. omega arith) (λ e. omega arith) (omega arith)) ∙ ap (λ l. 45 ∷ l) (digits_plain (decimal (suc n)) (decimal_is_IsNumeral_wide (suc n) (omega arith)).0.1)

closed : (digits escaped : List ℕ) → escaped ≡ digits → ((escaped ++ codes "\"") ++ []) ++ codes "}" ≡ digits ++ codes "\"}"
closed digits escaped is =
    ap (λ l. ((l ++ codes "\"") ++ []) ++ codes "}") is ∙ ap (λ l. l ++ codes "}") (append-nil (digits ++ codes "\"")) ∙ append_assoc digits (codes "\"") (codes "}")

abbrev object_of : ℤ → Tree
object_of total = object (member (codes "value") (text (signed_decimal total)) no_members)

pub content-printed : (total : ℤ) → unsigned_abs total ≤ greatest_size → content total ≡ printed (object_of total)
unfolding content escape_byte
content-printed total small = ap (λ l. codes "{\"value\":\"" ++ l) (sym (closed (signed_decimal total) (escape (signed_decimal total)) (plain total small)))

-- ---- so it is read as that total

spelled : (total : ℤ) → IsStorable total → json.answer (content total) ≡ Ok (object_of total)
spelled total small = ap json.answer (content-printed total (omega (arith, small))) ∙ answers_itself 101 (object_of total) (tt, (tt, tt)) (omega arith) (omega arith)

total_in-content : (total : ℤ) → IsStorable total → total_in (content total) ≡ total
unfolding total_in
total_in-content total small =
    ap (λ read. signed_digits_value 10 (unwrap_or (option_and_then as_text (option_and_then (find (codes "value")) (result_ok read))) [])) (spelled total small)
    ∙ value-signed_decimal total small

bytes_eq-refl : (s : List ℕ) → bytes_eq s s ≡ true
bytes_eq-refl s = (bytes_eq-Decides s s).1 refl

le-nat_le : (a b : ℕ) → a ≤ b → nat_le a b ≡ true
le-nat_le a b h = grind arith

pub content-answer : (total : ℤ) → IsStorable total → answer (content total) ≡ Ok (record { acknowledged = total; pending = [] })
content-answer total small = rw (total_in-content total small, bytes_eq-refl (content total), le-nat_le (unsigned_abs total) greatest_total small) refl

pub read_whole : (blob : List ℕ) (total : ℤ) → blob ≡ content total → IsStorable total
    → (answer blob ≡ Ok (record { acknowledged = total; pending = [] })) × (blob ≡ content total) × IsStorable total
read_whole blob total is small = (ap answer is ∙ content-answer total small, is, small)

-- ---- and nothing else is read

is_true_both : (x y : Bool) → x && y ≡ true → (x ≡ true) × (y ≡ true)
is_true_both true y is = (refl, is)
is_true_both false y is = cc

nat_le-le : (a b : ℕ) → nat_le a b ≡ true → a ≤ b
nat_le-le a b h = grind arith

text_of : (blob : List ℕ) → is_content blob ≡ true → (blob ≡ content (total_in blob)) × IsStorable (total_in blob)
text_of blob is =
    let parts = is_true_both (bytes_eq blob (content (total_in blob))) (nat_le (unsigned_abs (total_in blob)) greatest_total) is in
    ((bytes_eq-Decides blob (content (total_in blob))).0 parts.0, nat_le-le (unsigned_abs (total_in blob)) greatest_total parts.1)

abbrev read_where : List ℕ → Bool → Result Shared BlobFault
read_where blob b = if b then Ok (record { acknowledged = total_in blob; pending = [] }) else Err bad_content

refuse : (blob : List ℕ) (b : Bool) → is_content blob ≡ b → ((total : ℤ) → IsStorable total → blob ≡ content total → ⊥) → read_where blob b ≡ Err bad_content
refuse blob true is none = absurd (none (total_in blob) (text_of blob is).1 (text_of blob is).0)
refuse blob false is none = refl

-- want of memory, or the fault of a text that is no content
pub refused : (fault : BlobFault) (blob : List ℕ) → (fault ≡ no_memory) ⊎ (fault ≡ bad_content) → ((total : ℤ) → IsStorable total → blob ≡ content total → ⊥) → IsUnless no_memory (Err fault) (answer blob)
refused fault blob (inl is) none = inl (ap Err is)
refused fault blob (inr is) none = inr (ap Err is ∙ sym (refuse blob (is_content blob) refl none))

pub only_content : (blob : List ℕ) (shared : Shared) (b : Bool) → is_content blob ≡ b → read_where blob b ≡ Ok shared
    → (blob ≡ content shared.acknowledged) × (shared.pending ≡ []) × IsStorable shared.acknowledged
only_content blob shared true is read =
    let same : record { acknowledged = total_in blob; pending = [] } ≡ shared = same_Some _ shared (ap result_ok read) in
    let found = text_of blob is in
    (found.0 ∙ ap (λ s. content s.acknowledged) same, sym (ap (λ s. s.pending) same), subst (λ s. IsStorable s.acknowledged) same found.1)
only_content blob shared false is read = cc
