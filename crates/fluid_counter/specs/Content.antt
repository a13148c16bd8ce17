-- A counter's text in a summary: the printed JSON object of one member (RFC 8259), its total in decimal as a text.
use Rattle.std.specs.Prelude.{ℕ, ◌^◌, ◌≤◌, nat_le, ℤ, unsigned_abs, Bool, ◌&&◌, if◌then◌else◌, List, [], ◌++◌, codes, Result, Ok, Err, bytes_eq, option_and_then}
use Rattle.std.specs.Option.{unwrap_or}
use Rattle.std.specs.Result.{result_ok}
use Rattle.std.specs.Fmt.{signed_decimal}
use Rattle.std.specs.Str.Parse.{signed_digits_value}
use Rattle.fluid_json.specs.Tree.{find, as_text}
use Rattle.fluid_json.specs.Spelled as json
use Rattle.fluid_types.specs.Texts.{name_of}
use Rattle.fluid_types.specs.declared.fault.Field.TheVariants as field
use Rattle.fluid_types.specs.declared.fault.BlobFault.{BlobFault}
use Rattle.fluid_types.specs.declared.fault.BlobFault.TheVariants.{BadBlob}
use Rattle.fluid_counter.specs.Counter.{Shared}

-- an object of one member: the total in decimal, with a minus before a negative one
unfoldable pub content : ℤ → List ℕ
content total = codes "{\"value\":\"" ++ (signed_decimal total ++ codes "\"}")

-- the greatest size of a total that is read
abbrev pub greatest_total : ℕ
greatest_total = 2 ^ 120

-- a total that is read back: one within plus or minus 2^120, both of them inside
abbrev pub IsStorable : ℤ → Type 0
IsStorable total = unsigned_abs total ≤ greatest_total

-- ---- reading

-- the text under "value" in the object that a text spells; no text where it spells none
abbrev pub text_in : List ℕ → List ℕ
text_in blob = unwrap_or (option_and_then as_text (option_and_then (find (codes "value")) (result_ok (json.answer blob)))) []

-- the total that this text has in decimal
unfoldable pub total_in : List ℕ → ℤ
total_in blob = signed_digits_value 10 (text_in blob)

-- a text that is the content of the total in it, one that is read back
abbrev pub is_content : List ℕ → Bool
is_content blob = bytes_eq blob (content (total_in blob)) && nat_le (unsigned_abs (total_in blob)) greatest_total

-- the fault of a blob "content" outside its form
abbrev pub bad_content : BlobFault
bad_content = BadBlob (name_of field.Content)

-- a text is read as the counter whose content it is, with nothing pending
abbrev pub answer : List ℕ → Result Shared BlobFault
answer blob = if is_content blob then Ok (record { acknowledged = total_in blob; pending = [] }) else Err bad_content
