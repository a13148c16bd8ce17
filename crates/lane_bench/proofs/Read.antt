-- What is read from a record of a line is taken by a lane.
use Rattle.std.proofs.Common.{◌≡◌, ℕ, ◌≤◌, List, length, Ok, inl, inr, sym}
use Rattle.fluid_json.specs.Unless.{IsUnless}
use Rattle.fluid_types.specs.Forms.{Read}
use Rattle.fluid_types.specs.Names.{entry_name}
use Rattle.fluid_types.specs.Records.{raw_spelled}
use Rattle.fluid_types.specs.declared.fault.CodecFault.TheVariants.{NoMemory}
use Rattle.fluid_types.specs.declared.entries.Raw.{Raw}
use Rattle.fluid_types.specs.declared.entries.Raw.TheVariants.{Join, Leave, Submit, Report}
use Rattle.fluid_types.proofs.EntryNames.{entry_name-is_name}
use Rattle.fluid_readback.specs.Laws.{longest_text}
use Rattle.fluid_readback.proofs.Entries.{read_records_fit, read_joins_fit}
use Rattle.lane_bench.specs.Fitting.{FitsLane}

spelled_fits : (s : List ℕ) (raw : Raw) → length s ≤ longest_text → raw_spelled s ≡ Ok raw → FitsLane raw
spelled_fits s (Join id scopes detail moment) short is = λ n few. read_joins_fit s id scopes detail moment short is (entry_name n) (entry_name-is_name n few)
spelled_fits s (Leave id moment) short is = read_records_fit s (Leave id moment) short is
spelled_fits s (Submit id submission moment) short is = read_records_fit s (Submit id submission moment) short is
spelled_fits s (Report summary found moment) short is = read_records_fit s (Report summary found moment) short is

is_spelled : (raw : Raw) (spelled : Read Raw) → IsUnless NoMemory (Ok raw) spelled → spelled ≡ Ok raw
is_spelled raw spelled read = elim read [
  | inl refused ↦ absurd (cc)
  | inr is ↦ sym is
]

pub read_fits_lane : (s : List ℕ) (raw : Raw) → length s ≤ longest_text → IsUnless NoMemory (Ok raw) (raw_spelled s) → FitsLane raw
read_fits_lane s raw short read = spelled_fits s raw short (is_spelled raw (raw_spelled s) read)
