-- Which line of an input is refused, and which raw entries the other lines spell.
use Rattle.std.specs.Prelude.{ℕ, ◌==◌, ◌&&◌, nat_le, List, length, Option, Some, None, Result, Ok, Err, if◌then◌else◌}
use Rattle.std.specs.List.{filter_map}
use Rattle.fluid_types.specs.Ledger.{Ledger}
use Rattle.fluid_types.specs.declared.entries.Raw.{Raw}
use Rattle.fluid_types.specs.declared.fault.CodecFault.{CodecFault}
use Rattle.fluid_types.specs.Records.{raw_spelled}
use Rattle.fluid_rules.specs.Rules.{joined, ledger}
use Rattle.fluid_rules.specs.Counted.{is_counted, counted, is_new_client}
use Rattle.fluid_rules.specs.declared.limits.Limits.{Limits}
use Rattle.fluidd.specs.declared.refusal.Why.{Why}
use Rattle.fluidd.specs.declared.refusal.Why.TheVariants.{Unreadable, DocumentFull, TooManyClients}

-- ---- what the lines spell

abbrev pub raw_of : Result Raw CodecFault → Option Raw
raw_of (Ok raw) = Some raw
raw_of (Err fault) = None

-- the raw entry that a line spells; an empty line is passed over. That `raw_spelled` gives the raw entry that the text's JSON
-- value spells, member by member, is the law `answers_are_spelled` of fluid_codec
unfoldable pub entry_of : List ℕ → Option Raw
entry_of line = if length line == 0 then None else raw_of (raw_spelled line)

-- the raw entries that these lines spell, in order
unfoldable pub records : List (List ℕ) → List Raw
records lines = filter_map entry_of lines

-- ---- the limits of a document

-- the document is full where this entry counts and as many as may be are counted; there are too many clients where
-- this is a new one and as many as may be are joined
unfoldable pub limit_refusal : Limits → Ledger → Raw → Option Why
limit_refusal limits l raw =
    if is_counted raw && nat_le limits.entries (counted l) then Some DocumentFull
    else (if is_new_client l raw && nat_le limits.clients (length (joined l)) then Some TooManyClients else None)

-- ---- which line is refused

abbrev pub record_refusal : Limits → Ledger → Result Raw CodecFault → Option Why
record_refusal limits l (Ok raw) = limit_refusal limits l raw
record_refusal limits l (Err fault) = Some (Unreadable fault)

-- why a text is refused behind the entries of this ledger; an empty one isn't
unfoldable pub text_refusal : Limits → Ledger → List ℕ → Option Why
text_refusal limits l text = if length text == 0 then None else record_refusal limits l (raw_spelled text)
