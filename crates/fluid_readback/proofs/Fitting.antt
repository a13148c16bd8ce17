-- A raw entry that fits is in the grammar: its record spells it, and so its members are in range and nested less deep than the record.
use Rattle.std.proofs.Common.{◌≡◌, ℕ, suc, ◌+◌, ◌*◌, ◌≤◌, List, length, Option, Some, None, IfSome, Ok, sym, arith}
use Rattle.fluid_json.specs.Tree.{Tree, find}
use Rattle.fluid_types.specs.Texts.{name_of}
use Rattle.fluid_types.specs.Fits.{Fits}
use Rattle.fluid_types.specs.Printed.{raw_printed}
use Rattle.fluid_types.specs.Records.{raw_spelled}
use Rattle.fluid_types.specs.Spellings.{SpellsSubmission, SpellsRaw}
use Rattle.fluid_types.specs.declared.fault.Field.TheVariants as field
use Rattle.fluid_types.specs.declared.entries.Submission.{Submission}
use Rattle.fluid_types.specs.declared.entries.Raw.{Raw}
use Rattle.fluid_types.specs.declared.entries.Raw.TheVariants.{Join, Leave, Submit, Report}
use Rattle.fluid_codec.specs.Laws.{IsNested, IsSubmission, IsInGrammar}
use Rattle.fluid_codec.proofs.Spelled.{records_are_spelled}
use Rattle.fluid_codec.proofs.ReadBack.{records_are_read_back}
use Rattle.fluid_readback.specs.Laws.{FittingIsInGrammar, SpelledFit, LeavesFit, ReportsFit}
use Rattle.fluid_readback.proofs.Values.{values_are_bounded}
use Rattle.fluid_readback.proofs.Entries.{IsBounded, member_bounded, any_bounded, has_bounded, nested, is_name_of, is_count_of, is_reference_of, leave_bytes, report_bytes}

metadata_nested : (bytes deep : ℕ) (m : Option Tree) (t : Tree) → IsBounded bytes (suc deep) t → m ≡ find (name_of field.Metadata) t → IfSome m (IsNested deep)
metadata_nested bytes deep None t h e = tt
metadata_nested bytes deep (Some m) t h e = nested bytes deep m (member_bounded bytes deep (name_of field.Metadata) t m h (sym e))

submission_in_grammar : (bytes : ℕ) (s : Submission) (t : Tree) → 4 ≤ bytes → IsBounded bytes 99 t → SpellsSubmission s t → IsSubmission s
submission_in_grammar bytes s t some h is = record {
  client_number = (is_count_of 0 t field.ClientSequenceNumber s.client_number is.its_client_number).1;
  reference = is_reference_of t field.ReferenceSequenceNumber s.reference is.its_reference;
  contents = nested bytes 98 s.contents (any_bounded bytes 98 field.Contents t s.contents some h is.its_contents);
  metadata = metadata_nested bytes 98 s.metadata t h is.its_metadata;
}

raw_in_grammar : (bytes : ℕ) (raw : Raw) (t : Tree) → 4 ≤ bytes → IsBounded bytes 100 t → SpellsRaw raw t → IsInGrammar raw
raw_in_grammar bytes (Join id scopes detail moment) t some h is = record {
  name = is_name_of t field.ClientId id is.its_id;
  nested = nested bytes 99 detail (any_bounded bytes 99 field.Detail t detail some h is.its_detail);
  bound = (is_count_of 0 t field.Moment moment is.its_moment).1;
}
raw_in_grammar bytes (Leave id moment) t some h is = record {
  name = is_name_of t field.ClientId id is.its_id;
  bound = (is_count_of 0 t field.Moment moment is.its_moment).1;
}
raw_in_grammar bytes (Submit id s moment) t some h is =
    let o = has_bounded bytes 99 field.Operation SpellsSubmission s t h is.its_operation in
    record {
      name = is_name_of t field.ClientId id is.its_id;
      operation = submission_in_grammar bytes s o.0 some o.1 o.2;
      bound = (is_count_of 0 t field.Moment moment is.its_moment).1;
    }
raw_in_grammar bytes (Report summary found moment) t some h is =
    let n = is_count_of 1 t field.Summary summary is.its_summary in
    record { least = n.0; most = n.1; bound = (is_count_of 0 t field.Moment moment is.its_moment).1 }

-- ---- texts of any length

pub spelled_in_grammar : (s : List ℕ) (raw : Raw) → raw_spelled s ≡ Ok raw → IsInGrammar raw
spelled_in_grammar s raw h =
    let v = (records_are_spelled s raw).0 h in
    let r = values_are_bounded s v.0 v.1 in
    raw_in_grammar (4 + 2 * length s) raw v.0 (omega arith) (record { canonical = r.canonical; shallow = r.shallow; short = omega (arith, r.short) }) v.2

pub spelled_fit : SpelledFit
spelled_fit s raw h short = record { short = short; read_back = records_are_read_back raw (spelled_in_grammar s raw h) }

pub fits_in_grammar : (raw : Raw) → Fits raw → IsInGrammar raw
fits_in_grammar raw fits = spelled_in_grammar (raw_printed raw) raw fits.read_back

pub fitting_is_in_grammar : FittingIsInGrammar
fitting_is_in_grammar raw = (
  λ fits. record { in_grammar = fits_in_grammar raw fits; short = fits.short },
  λ is. record { short = is.short; read_back = records_are_read_back raw is.in_grammar },
)

-- ---- leaves and reports

pub leaves_fit : LeavesFit
leaves_fit id moment n m = record {
  short = leave_bytes id moment n m;
  read_back = records_are_read_back (Leave id moment) (record { name = n; bound = m });
}

pub reports_fit : ReportsFit
reports_fit summary found moment low s m = record {
  short = report_bytes summary found moment s m;
  read_back = records_are_read_back (Report summary found moment) (record { least = low; most = s; bound = m });
}
