-- The raw entries of records: which ones fit, and what a record decodes as.
use Rattle.std.proofs.Common.{◌≡◌, ◌≤◌, Bool, true, false, List, ℕ, length, Some, None, Ok, Err, refl, subst, le-leb}
use Rattle.std.specs.Prelude.{nat_le, if◌then◌else◌}
use Rattle.std.specs.Str.{is_utf8}
use Rattle.std.proofs.lemmas.Bool.{leb-true}
use Rattle.std.proofs.lemmas.Option.{none-some, cond_some}
use Rattle.fluid_types.specs.Forms.{Read}
use Rattle.fluid_types.specs.Fits.{Fits, longest_record}
use Rattle.fluid_types.specs.Printed.{raw_printed}
use Rattle.fluid_types.specs.Records.{raw_spelled}
use Rattle.fluid_types.specs.declared.entries.Raw.{Raw}
use Rattle.fluid_readback.specs.Laws.{longest_text}
use Rattle.fluid_readback.proofs.Entries.{read_records_fit}
use Rattle.fluid_readback.proofs.Fitting.{spelled_fit}
use Rattle.fluid_document.specs.Loading.{record_in, fitting}

-- a raw entry that a short text spells fits
pub short_spelled : (s : List ℕ) (raw : Raw) → length s ≤ longest_text → raw_spelled s ≡ Ok raw → Some raw ≡ fitting (raw_spelled s)
short_spelled s raw short is = rw (is, le-leb (length (raw_printed raw)) longest_record (read_records_fit s raw short is).short) refl

pub record_fits : (bytes : List ℕ) (raw : Raw) → record_in bytes ≡ Some raw → Fits raw
unfolding record_in
record_fits bytes raw is = of_read (raw_spelled bytes) refl (of_text (is_utf8 bytes) is)
  where
    of_text : (b : Bool) → (if b then fitting (raw_spelled bytes) else None) ≡ Some raw → fitting (raw_spelled bytes) ≡ Some raw
    of_text true is = is
    of_text false is = absurd (none-some _ is)

    of_read : (r : Read Raw) → raw_spelled bytes ≡ r → fitting r ≡ Some raw → Fits raw
    of_read (Ok x) at is = let fit = cond_some (nat_le (length (raw_printed x)) longest_record) x raw is in subst Fits fit.1 (spelled_fit bytes x at (leb-true _ _ fit.0))
    of_read (Err fault) at is = absurd (none-some _ is)
