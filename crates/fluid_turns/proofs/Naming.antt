-- Names that are read.
use Rattle.std.proofs.Common.{◌≡◌, ◌⊎◌, inl, inr, ℕ, ◌<◌, ◌≤◌, ◌^◌, Bool, true, false, if◌then◌else◌, List, [], ◌∷◌, length, Result, Ok, Err, refl, arith, nat_le, decimal, All, le-leb}
use Rattle.std.specs.Int.{IsInRange}
use Rattle.std.specs.List.{list_all}
use Rattle.std.proofs.lemmas.Bool.Decides.{nat_tests}
use Rattle.std.proofs.lemmas.List.Elements.{All-from_get_or, All-head, All-tail}
use Rattle.std.proofs.lemmas.Fmt.{decimal_is_IsNumeral, length-decimal-le}
use Rattle.std.proofs.lemmas.Str.Parse.{digit_at}
use Rattle.fluid_types.specs.declared.names.NameFault.{NameFault}
use Rattle.fluid_types.specs.declared.names.NameFault.TheVariants.{BadName, NoMemory}
use Rattle.fluid_types.specs.Names.{is_name, IsName}
use Rattle.fluid_steps.specs.Names.{is_script_byte, is_script_name, IsScriptName}
use Rattle.fluid_workload.specs.Working as of_work

-- ---- a text that is a name

abbrev Read : (is : Bool) → List ℕ → Result (List ℕ) NameFault → Type 0
Read is text result = (result ≡ Err NoMemory) ⊎ (result ≡ (if is then Ok text else Err BadName))

pub read_as : (is : Bool) (text name : List ℕ) → is ≡ true → Read is text (Ok name) → name ≡ text
read_as true text name is (inl memory) = absurd (cc)
read_as true text name is (inr same) = cc
read_as false text name is read = absurd (cc)

pub wants_memory : (is : Bool) (text : List ℕ) (fault : NameFault) → is ≡ true → Read is text (Err fault) → fault ≡ NoMemory
wants_memory true text fault is (inl memory) = cc
wants_memory true text fault is (inr same) = absurd (cc)
wants_memory false text fault is read = absurd (cc)

-- ---- a number as a name

digit_is_byte : (b : ℕ) → IsInRange 48 57 b → is_script_byte b ≡ true
digit_is_byte b h = grind (arith, nat_tests)

digits_are_bytes : (digits : List ℕ) → All (IsInRange 48 57) digits → list_all is_script_byte digits ≡ true
digits_are_bytes [] h = refl
digits_are_bytes (d ∷ digits) h = rw (digit_is_byte d (All-head (IsInRange 48 57) d digits h)) (digits_are_bytes digits (All-tail (IsInRange 48 57) d digits h))

decimal_digits : (n : ℕ) → n < 2 ^ 64 → All (IsInRange 48 57) (decimal n)
decimal_digits n fits = All-from_get_or (IsInRange 48 57) (decimal n) 0 λ i h. digit_at (decimal n) i (decimal_is_IsNumeral n fits).0.1 h

name_of_digits : (digits : List ℕ) → 1 ≤ length digits → length digits ≤ 16 → list_all is_script_byte digits ≡ true → IsScriptName digits
unfolding is_script_name
name_of_digits digits some short h =
    let least : nat_le 1 (length digits) ≡ true = le-leb 1 (length digits) some in
    let most : nat_le (length digits) 16 ≡ true = le-leb (length digits) 16 short in
    rw (least, most) h

pub decimal_is_name : (n : ℕ) → n < 2 ^ 32 → IsScriptName (decimal n)
decimal_is_name n fits =
    let wide : n < 2 ^ 64 = omega (arith, fits) in
    let ten : length (decimal n) ≤ 10 = length-decimal-le 10 n (omega arith) (omega arith) (omega (arith, fits)) in
    name_of_digits (decimal n) (decimal_is_IsNumeral n wide).0.0 (omega (arith, ten)) (digits_are_bytes (decimal n) (decimal_digits n wide))

-- ---- the names of a workload

pub work_is_name : is_name of_work.work ≡ true
unfolding is_name
work_is_name = refl

pub m_is_name : IsName of_work.m
unfolding is_name
m_is_name = refl

pub n_is_name : IsName of_work.n
unfolding is_name
n_is_name = refl

pub p_is_name : IsScriptName of_work.p
unfolding is_script_name
p_is_name = refl

pub q_is_name : IsScriptName of_work.q
unfolding is_script_name
q_is_name = refl
