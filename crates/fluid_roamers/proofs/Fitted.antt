-- What a roamer submits fits a log.
use Rattle.std.proofs.Common.{ℕ, ◌+◌, ◌≤◌, pos, List, length, sym, subst, arith}
use Rattle.json.specs.Print.{quoted, escape_byte}
use Rattle.fluid_json.specs.Printed.{printed}
use Rattle.fluid_json.specs.Tree.{Tree}
use Rattle.fluid_types.specs.Names.{IsName}
use Rattle.fluid_types.specs.Forms.{largest}
use Rattle.fluid_types.specs.Texts.{name_of}
use Rattle.fluid_types.specs.Words.{offered_word}
use Rattle.fluid_types.specs.Fits.{Fits, longest_record}
use Rattle.fluid_types.specs.Printed.{submission_rows, submission_tree, raw_rows, raw_printed}
use Rattle.fluid_types.specs.declared.entries.Raw.TheVariants.{Submit}
use Rattle.fluid_types.specs.declared.entries.Submission.{Submission}
use Rattle.fluid_types.specs.declared.entries.Offered.TheVariants as offered
use Rattle.fluid_codec.specs.Laws.{IsNested, IsReference}
use Rattle.fluid_codec.proofs.ReadBack.{records_are_read_back}
use Rattle.fluid_readback.proofs.Entries.{name_short, count_short, reference_short, rows_short}
use Rattle.fluid_edits.specs.Forms.{contents_of}
use Rattle.fluid_loader.specs.Fitting.{most_contents}
use Rattle.fluid_outbox.specs.Past.{op_with}
use Rattle.fluid_roamers.specs.Taking.{IsShortOp}

op_short : length (quoted (offered_word offered.Op)) ≤ 11
unfolding escape_byte
op_short = omega arith

is_reference : (reference : ℕ) → reference ≤ largest → IsReference (pos reference)
is_reference reference h = record { least = search arith; most = search (arith, h) }

operation_bytes : (number reference : ℕ) (c : Tree) → number ≤ largest → reference ≤ largest → length (printed c) ≤ most_contents
    → length (printed (submission_tree (op_with number reference c))) ≤ 1000 + most_contents
unfolding submission_rows name_of escape_byte
operation_bytes number reference c h r b =
    omega (arith, rows_short (submission_rows (op_with number reference c)), count_short number h, reference_short (pos reference) (is_reference reference r), op_short, b)

record_bytes : (id : List ℕ) (number reference moment : ℕ) (c : Tree) → IsName id → number ≤ largest → reference ≤ largest → moment ≤ largest → length (printed c) ≤ most_contents
    → length (raw_printed (Submit id (op_with number reference c) moment)) ≤ longest_record
unfolding raw_rows name_of escape_byte
record_bytes id number reference moment c name h r m b =
    omega (arith, rows_short (raw_rows (Submit id (op_with number reference c) moment)), name_short id name, operation_bytes number reference c h r b, count_short moment m)

op_fits : (id : List ℕ) (number reference moment : ℕ) (c : Tree) → IsName id → number ≤ largest → reference ≤ largest → moment ≤ largest → IsNested 98 c → length (printed c) ≤ most_contents
    → Fits (Submit id (op_with number reference c) moment)
op_fits id number reference moment c name h r m nested b = record {
  short = record_bytes id number reference moment c name h r m b;
  read_back =
      records_are_read_back (Submit id (op_with number reference c) moment) (record {
        name = name;
        operation = record { client_number = h; reference = is_reference reference r; contents = nested; metadata = tt };
        bound = m;
      });
}

pub short_fits : (id : List ℕ) (s : Submission) (moment : ℕ) → IsName id → moment ≤ largest → s.client_number ≤ largest → IsShortOp s → Fits (Submit id s moment)
short_fits id s moment name m number short =
    subst (λ x. Fits (Submit id x moment)) (sym short.is)
    (op_fits id s.client_number short.reference moment (contents_of short.edit) name number short.within m short.short.nested short.short.short)
