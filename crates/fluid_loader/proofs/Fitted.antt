-- The next submission of a container fits.
use Rattle.std.proofs.Common.{◌≡◌, ℕ, ◌+◌, ◌<◌, ◌≤◌, pos, List, [], ◌∷◌, ◌++◌, length, length-append, Option, Some, None, IfSome, codes, decimal, arith}
use Rattle.std.proofs.lemmas.Fmt.{length-decimal-le}
use Rattle.json.specs.Print.{quoted, escape_byte}
use Rattle.hex.specs.Hex.{encode_lower, lower_digits}
use Rattle.hex.proofs.HexLemmas.{length-encode_with}
use Rattle.fluid_json.specs.Printed.{printed}
use Rattle.fluid_json.specs.Tree.{Tree, null, text, list, trees}
use Rattle.fluid_types.specs.Names.{IsName}
use Rattle.fluid_types.specs.Forms.{largest}
use Rattle.fluid_types.specs.Texts.{name_of}
use Rattle.fluid_types.specs.Words.{offered_word}
use Rattle.fluid_types.specs.Fits.{longest_record}
use Rattle.fluid_types.specs.Printed.{submission_rows, submission_tree, raw_rows, raw_printed}
use Rattle.fluid_types.specs.declared.entries.Raw.TheVariants.{Submit}
use Rattle.fluid_types.specs.declared.entries.Offered.{Offered}
use Rattle.fluid_types.specs.declared.entries.Offered.TheVariants as offered
use Rattle.fluid_codec.specs.Laws.{IsNested, IsReference}
use Rattle.fluid_codec.proofs.ReadBack.{records_are_read_back}
use Rattle.fluid_readback.proofs.Entries.{name_short, count_short, reference_short, quoted_short, rows_short}
use Rattle.fluid_loader.specs.Container.{AContainer}
use Rattle.fluid_loader.specs.Fitting.{most_contents, MaySubmit}
use Rattle.fluid_loader.specs.Link.{Fits}
use Rattle.fluid_loader.specs.Submitting.{numbered, head_text, parents_of, summarize_tree}

-- ---- any submission

offered_short : (k : Offered) → length (quoted (offered_word k)) ≤ 11
unfolding escape_byte
offered_short offered.Op = omega arith
offered_short offered.Noop = omega arith
offered_short offered.Propose = omega arith
offered_short offered.Reject = omega arith
offered_short offered.Summarize = omega arith

is_reference : (n : ℕ) → n ≤ largest → IsReference (pos n)
is_reference n h = record { least = search arith; most = search (arith, h) }

operation_bytes : (n reference : ℕ) (k : Offered) (c : Tree) → n ≤ largest → reference ≤ largest → length (printed c) ≤ most_contents
    → length (printed (submission_tree (numbered n reference k c))) ≤ 1000 + most_contents
unfolding submission_rows name_of escape_byte
operation_bytes n reference k c h r b =
    omega (arith, rows_short (submission_rows (numbered n reference k c)), count_short n h, reference_short (pos reference) (is_reference reference r), offered_short k, b)

record_bytes : (id : List ℕ) (n reference : ℕ) (k : Offered) (c : Tree) (moment : ℕ) → IsName id → n ≤ largest → reference ≤ largest → length (printed c) ≤ most_contents → moment ≤ largest
    → length (raw_printed (Submit id (numbered n reference k c) moment)) ≤ longest_record
unfolding raw_rows name_of escape_byte
record_bytes id n reference k c moment name h r b m =
    omega (arith, rows_short (raw_rows (Submit id (numbered n reference k c) moment)), name_short id name, operation_bytes n reference k c h r b, count_short moment m)

submission_fits : (client : List ℕ) (n reference : ℕ) (k : Offered) (c : Tree) → IsName client → n ≤ largest → reference ≤ largest → IsNested 98 c → length (printed c) ≤ most_contents
    → Fits client (numbered n reference k c)
submission_fits client n reference k c name h r nested b = record {
  number = omega (arith, h);
  entry = λ moment lt.
      let m : moment ≤ largest = omega (arith, lt) in
      record {
        short = record_bytes client n reference k c moment name h r b m;
        read_back = records_are_read_back (Submit client (numbered n reference k c) moment) (record {
          name = name;
          operation = record { client_number = h; reference = is_reference reference r; contents = nested; metadata = tt };
          bound = m;
        });
      };
}

-- ---- a summarize

abbrev IsIdIf : Option (List ℕ) → Type 0
IsIdIf head = IfSome head (λ id. length id ≡ 20)

hex_short : (id : List ℕ) → length id ≡ 20 → length (quoted (encode_lower id)) ≤ 242
hex_short id long = omega (arith, long, quoted_short (encode_lower id), length-encode_with lower_digits id)

head_short : (head : Option (List ℕ)) → IsIdIf head → length (quoted (head_text head)) ≤ 242
head_short None h = omega arith
head_short (Some id) h = hex_short id h

parents_short : (head : Option (List ℕ)) → IsIdIf head → length (printed (list (trees (parents_of head)))) ≤ 244
parents_short None h = omega arith
parents_short (Some id) h = omega (arith, hex_short id h, length-append (quoted (encode_lower id) ++ []) (codes "]"), length-append (quoted (encode_lower id)) [])

message_short : (n : ℕ) → n ≤ largest → length (quoted (codes "summary at " ++ decimal n)) ≤ 200
message_short n h = omega (arith, quoted_short (codes "summary at " ++ decimal n), length-append (codes "summary at ") (decimal n), length-decimal-le 16 n (omega arith) (omega arith) (omega (arith, h)))

summarize_short : (id : List ℕ) (head : Option (List ℕ)) (n : ℕ) → length id ≡ 20 → IsIdIf head → n ≤ largest → length (printed (summarize_tree id head n)) ≤ most_contents
unfolding escape_byte
summarize_short id head n long is le =
    let rows : List (List ℕ × Tree) = (codes "handle", text (encode_lower id)) ∷ (codes "head", text (head_text head)) ∷ (codes "message", text (codes "summary at " ++ decimal n)) ∷ (codes "parents", list (trees (parents_of head))) ∷ [] in
    omega (arith, rows_short rows, hex_short id long, head_short head is, message_short n le, parents_short head is)

summarize_nested : (id : List ℕ) (head : Option (List ℕ)) (n : ℕ) → IsNested 98 (summarize_tree id head n)
summarize_nested id None n = record { canonical = search arith; shallow = omega arith }
summarize_nested id (Some h) n = record { canonical = search arith; shallow = omega arith }

pub next_fits : (c : AContainer) → c.last < largest → c.number ≤ largest → IsIdIf c.head → MaySubmit c
next_fits c few le head client name = record {
  noop = submission_fits client (c.last + 1) c.number offered.Noop null name (omega (arith, few)) le (record { canonical = tt; shallow = omega arith }) (omega arith);
  summarize = λ id long.
      submission_fits client (c.last + 1) c.number offered.Summarize (summarize_tree id c.head c.number) name (omega (arith, few)) le (summarize_nested id c.head c.number) (summarize_short id c.head c.number long head le);
  op = λ edit nested short. submission_fits client (c.last + 1) c.number offered.Op _ name (omega (arith, few)) le nested short;
}
