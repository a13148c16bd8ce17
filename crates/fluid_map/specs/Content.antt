-- A map's text in a summary: the printed JSON object of its keys and values (RFC 8259), keys in byte order.
use Rattle.std.specs.Prelude.{ℕ, List, [], Bool, ◌&&◌, Result, Ok, Err, if◌then◌else◌, bytes_eq, option_map, option_and_then}
use Rattle.std.specs.Option.{unwrap_or}
use Rattle.std.specs.Result.{result_ok}
use Rattle.std.specs.Str.{is_utf8}
use Rattle.std.specs.FinMap.{empty, entries, insert}
use Rattle.fluid_json.specs.Tree.{Tree, object, as_members, Members, no_members, member, members}
use Rattle.fluid_json.specs.Printed.{printed}
use Rattle.fluid_json.specs.Spelled as json
use Rattle.fluid_types.specs.Texts.{name_of}
use Rattle.fluid_types.specs.declared.fault.Field.TheVariants as field
use Rattle.fluid_types.specs.declared.fault.BlobFault.{BlobFault}
use Rattle.fluid_types.specs.declared.fault.BlobFault.TheVariants.{BadBlob}
use Rattle.fluid_map.specs.Replay.{Values, Shared}

-- the object of a map's keys and values
abbrev pub object_of : Values → Tree
object_of values = object (members (entries values))

abbrev pub content : Values → List ℕ
content values = printed (object_of values)

-- ---- reading

-- the values that an object's members give their keys
abbrev pub values_of : Members → Values
values_of no_members = empty
values_of (member key value ms) = insert (values_of ms) key value

-- the values of the object that a text spells; no values where it spells none
abbrev pub values_in : List ℕ → Values
values_in blob = unwrap_or (option_map values_of (option_and_then as_members (result_ok (json.answer blob)))) empty

-- a text in UTF-8 that is the content of the values in it
abbrev pub is_content : List ℕ → Bool
is_content blob = is_utf8 blob && bytes_eq blob (content (values_in blob))

-- the fault of a blob "content" outside its form
abbrev pub bad_content : BlobFault
bad_content = BadBlob (name_of field.Content)

-- a text is read as the map whose content it is, with nothing pending
abbrev pub answer : List ℕ → Result Shared BlobFault
answer blob = if is_content blob then Ok (record { acknowledged = values_in blob; pending = [] }) else Err bad_content
