-- The join of a container's client fits.
use Rattle.std.proofs.Common.{ℕ, ◌≤◌, List, length, arith}
use Rattle.json.specs.Print.{escape_byte}
use Rattle.fluid_json.specs.Printed.{printed}
use Rattle.fluid_json.specs.Tree.{null}
use Rattle.fluid_types.specs.Names.{IsName}
use Rattle.fluid_types.specs.Forms.{largest}
use Rattle.fluid_types.specs.Texts.{name_of}
use Rattle.fluid_types.specs.Fits.{Fits, longest_record}
use Rattle.fluid_types.specs.Printed.{scopes_tree, raw_rows, raw_printed}
use Rattle.fluid_types.specs.declared.entries.Raw.TheVariants.{Join}
use Rattle.fluid_codec.proofs.ReadBack.{records_are_read_back}
use Rattle.fluid_readback.proofs.Entries.{name_short, count_short, rows_short}
use Rattle.fluid_transcript.specs.Containers.{all_scopes}

all_short : length (printed (scopes_tree all_scopes)) ≤ 100
unfolding escape_byte
all_short = omega arith

join_bytes : (id : List ℕ) (moment : ℕ) → IsName id → moment ≤ largest → length (raw_printed (Join id all_scopes null moment)) ≤ longest_record
unfolding raw_rows name_of escape_byte
join_bytes id moment name le = omega (arith, rows_short (raw_rows (Join id all_scopes null moment)), name_short id name, count_short moment le, all_short)

pub join_fits : (id : List ℕ) (moment : ℕ) → IsName id → moment ≤ largest → Fits (Join id all_scopes null moment)
join_fits id moment name le = record {
  short = join_bytes id moment name le;
  read_back = records_are_read_back (Join id all_scopes null moment) (record { name = name; nested = record { canonical = tt; shallow = omega arith }; bound = le });
}
