-- Raw records: which value is read as which raw entry, and which fault comes first. `raw` is looked at first, then the
-- others in byte order of their names. Members that no table names are passed over.
use Rattle.std.specs.Prelude.{ℕ, negsuc, List, Bool, Ok, bytes_eq}
use Rattle.std.specs.List.{list_any}
use Rattle.fluid_json.specs.Tree.{Tree}
use Rattle.fluid_types.specs.Forms.{Read, a_value, ◌>>=◌, Form, a_truth, a_list, an_object, required, any, if_any, within, count, name, one_of, texts}
use Rattle.fluid_types.specs.Words.{raw_word, raw_kinds, offered_word, offered_kinds, read_word, write_word, summary_word}
use Rattle.fluid_types.specs.declared.words.RawKind.{RawKind}
use Rattle.fluid_types.specs.declared.words.RawKind.TheVariants as raw
use Rattle.fluid_types.specs.declared.fault.Field.TheVariants as field
use Rattle.fluid_types.specs.declared.entries.Scopes.{Scopes}
use Rattle.fluid_types.specs.declared.entries.Submission.{Submission}
use Rattle.fluid_types.specs.declared.entries.Raw.{Raw}
use Rattle.fluid_types.specs.declared.entries.Raw.TheVariants.{Join, Leave, Submit, Report}

-- ---- scopes: a list of texts; one that is no scope is passed over

abbrev pub is_among : List (List ℕ) → List ℕ → Bool
is_among words word = list_any (bytes_eq word) words

abbrev pub scopes_of : List (List ℕ) → Scopes
scopes_of words = record {
  read = is_among words read_word;
  write = is_among words write_word;
  summary = is_among words summary_word;
}

abbrev pub held_scopes : Form Scopes
held_scopes f t = do
  ts ← a_list f t
  words ← texts f ts
  Ok (scopes_of words)

-- ---- a submission

unfoldable pub submission : Form Submission
submission f t = do
  o ← an_object f t
  number ← required o field.ClientSequenceNumber (count 0)
  let contents = any o field.Contents
  let metadata = if_any o field.Metadata
  reference ← required o field.ReferenceSequenceNumber (within (negsuc 0))
  kind ← required o field.«Type» (one_of offered_word offered_kinds)
  Ok (record { client_number = number; reference = reference; kind = kind; contents = contents; metadata = metadata })

-- ---- raw records

unfoldable pub join : Tree → Read Raw
join o = do
  id ← required o field.ClientId name
  let detail = any o field.Detail
  moment ← required o field.Moment (count 0)
  scopes ← required o field.Scopes held_scopes
  Ok (Join id scopes detail moment)

unfoldable pub leave : Tree → Read Raw
leave o = do
  id ← required o field.ClientId name
  moment ← required o field.Moment (count 0)
  Ok (Leave id moment)

unfoldable pub submit : Tree → Read Raw
submit o = do
  id ← required o field.ClientId name
  moment ← required o field.Moment (count 0)
  operation ← required o field.Operation submission
  Ok (Submit id operation moment)

unfoldable pub report : Tree → Read Raw
report o = do
  found ← required o field.Found a_truth
  moment ← required o field.Moment (count 0)
  summary ← required o field.Summary (count 1)
  Ok (Report summary found moment)

-- the record of this kind
abbrev pub record_of : RawKind → Tree → Read Raw
record_of raw.Join = join
record_of raw.Leave = leave
record_of raw.Submit = submit
record_of raw.Report = report

unfoldable pub raw_record : Tree → Read Raw
raw_record t = do
  o ← an_object field.Raw t
  kind ← required o field.Raw (one_of raw_word raw_kinds)
  record_of kind o

-- ---- texts

-- the raw entry that a text spells, or the first fault of a text that spells none
abbrev pub raw_spelled : List ℕ → Read Raw
raw_spelled s = do
  t ← a_value s
  raw_record t
