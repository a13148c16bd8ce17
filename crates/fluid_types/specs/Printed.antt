-- The one text that is printed for a raw entry, a message, a nack and a verdict. Each value is the table of its members in byte
-- order of their names.
use Rattle.std.specs.Prelude.{ℕ, pos, List, [], ◌∷◌, ◌++◌, Bool, true, Option, Some, None, option_map, map, if◌then◌else◌}
use Rattle.fluid_json.specs.Tree.{Tree, null, boolean, whole, text, list, object, trees, members}
use Rattle.fluid_json.specs.Printed as json
use Rattle.fluid_types.specs.Texts.{name_of}
use Rattle.fluid_types.specs.Words.{raw_word, offered_word, kind_word, read_word, write_word, summary_word}
use Rattle.fluid_types.specs.declared.words.RawKind.TheVariants as raw
use Rattle.fluid_types.specs.Texts.{kind_of, code_of, kind_name, rule_text}
use Rattle.fluid_types.specs.declared.fault.Field.{Field}
use Rattle.fluid_types.specs.declared.fault.Field.TheVariants as field
use Rattle.fluid_types.specs.declared.entries.Scopes.{Scopes}
use Rattle.fluid_types.specs.declared.entries.Submission.{Submission}
use Rattle.fluid_types.specs.declared.entries.Raw.{Raw}
use Rattle.fluid_types.specs.declared.entries.Raw.TheVariants.{Join, Leave, Submit, Report}
use Rattle.fluid_types.specs.declared.messages.Message.{Message}
use Rattle.fluid_types.specs.declared.nacks.NackRule.{NackRule}
use Rattle.fluid_types.specs.declared.nacks.Nack.{Nack}
use Rattle.fluid_types.specs.declared.verdicts.Verdict.{Verdict}
use Rattle.fluid_types.specs.declared.verdicts.Verdict.TheVariants.{Sequenced, Nacked, Dropped, Absorbed}

-- ---- members

-- a member: its name and its value
abbrev pub Row : Type 0
Row = List ℕ × Tree

abbrev pub row : Field → Tree → Row
row f t = (name_of f, t)

-- a member that stands only where there is a value
abbrev pub row_if_any : Field → Option Tree → List Row
row_if_any f None = []
row_if_any f (Some t) = row f t ∷ []

abbrev pub count_tree : ℕ → Tree
count_tree n = whole (pos n)

-- ---- raw records

abbrev pub word_if : Bool → List ℕ → List (List ℕ)
word_if b word = if b then word ∷ [] else []

-- the words of the held scopes
abbrev pub scope_words : Scopes → List (List ℕ)
scope_words s = word_if s.read read_word ++ (word_if s.write write_word ++ word_if s.summary summary_word)

abbrev pub scopes_tree : Scopes → Tree
scopes_tree s = list (trees (map text (scope_words s)))

unfoldable pub submission_rows : Submission → List Row
submission_rows s =
    row field.ClientSequenceNumber (count_tree s.client_number)
    ∷ row field.Contents s.contents
    ∷ (row_if_any field.Metadata s.metadata
    ++ row field.ReferenceSequenceNumber (whole s.reference)
    ∷ row field.«Type» (text (offered_word s.kind))
    ∷ [])

abbrev pub submission_tree : Submission → Tree
submission_tree s = object (members (submission_rows s))

unfoldable pub raw_rows : Raw → List Row
raw_rows (Join id scopes detail moment) =
    row field.ClientId (text id)
    ∷ row field.Detail detail
    ∷ row field.Moment (count_tree moment)
    ∷ row field.Raw (text (raw_word raw.Join))
    ∷ row field.Scopes (scopes_tree scopes)
    ∷ []
raw_rows (Leave id moment) =
    row field.ClientId (text id)
    ∷ row field.Moment (count_tree moment)
    ∷ row field.Raw (text (raw_word raw.Leave))
    ∷ []
raw_rows (Submit id submission moment) =
    row field.ClientId (text id)
    ∷ row field.Moment (count_tree moment)
    ∷ row field.Operation (submission_tree submission)
    ∷ row field.Raw (text (raw_word raw.Submit))
    ∷ []
raw_rows (Report summary found moment) =
    row field.Found (boolean found)
    ∷ row field.Moment (count_tree moment)
    ∷ row field.Raw (text (raw_word raw.Report))
    ∷ row field.Summary (count_tree summary)
    ∷ []

abbrev pub raw_tree : Raw → Tree
raw_tree raw = object (members (raw_rows raw))

-- the text of a raw entry in a log
abbrev pub raw_printed : Raw → List ℕ
raw_printed raw = json.printed (raw_tree raw)

-- ---- messages

-- null stands for a missing value
abbrev pub or_null : {A : Type 0} → (A → Tree) → Option A → Tree
or_null tree None = null
or_null tree (Some a) = tree a

unfoldable pub message_rows : Message → List Row
message_rows m =
    row field.ClientId (or_null text m.client)
    ∷ row field.ClientSequenceNumber (whole m.client_number)
    ∷ row field.Contents m.contents
    ∷ (row_if_any field.Data (option_map text m.system)
    ++ (row_if_any field.Metadata m.metadata
    ++ row field.MinimumSequenceNumber (count_tree m.minimum)
    ∷ row field.ReferenceSequenceNumber (whole m.reference)
    ∷ row field.SequenceNumber (count_tree m.number)
    ∷ row field.Timestamp (count_tree m.moment)
    ∷ row field.«Type» (text (kind_word m.kind))
    ∷ []))

abbrev pub message_tree : Message → Tree
message_tree m = object (members (message_rows m))

abbrev pub message_printed : Message → List ℕ
message_printed m = json.printed (message_tree m)

-- ---- nacks

unfoldable pub content_rows : NackRule → List Row
content_rows rule =
    row field.Code (count_tree (code_of (kind_of rule)))
    ∷ row field.Message (text (rule_text rule))
    ∷ row field.«Type» (text (kind_name (kind_of rule)))
    ∷ []

abbrev pub content_tree : NackRule → Tree
content_tree rule = object (members (content_rows rule))

unfoldable pub nack_rows : Nack → List Row
nack_rows n =
    row field.Content (content_tree n.rule)
    ∷ row field.Operation (or_null submission_tree n.operation)
    ∷ row field.SequenceNumber (whole n.minimum)
    ∷ []

abbrev pub nack_tree : Nack → Tree
nack_tree n = object (members (nack_rows n))

-- ---- verdict lines

-- the client of a raw entry; a report has none
abbrev pub client_of : Raw → Option (List ℕ)
client_of (Join id scopes detail moment) = Some id
client_of (Leave id moment) = Some id
client_of (Submit id submission moment) = Some id
client_of (Report summary found moment) = None

unfoldable pub verdict_rows : Raw → Verdict → List Row
verdict_rows raw (Sequenced m) = row field.Sequenced (message_tree m) ∷ []
verdict_rows raw (Nacked n) = row field.ClientId (or_null text (client_of raw)) ∷ row field.Nacked (nack_tree n) ∷ []
verdict_rows raw Dropped = row field.Dropped (boolean true) ∷ []
verdict_rows raw Absorbed = row field.Absorbed (boolean true) ∷ []

abbrev pub verdict_tree : Raw → Verdict → Tree
verdict_tree raw verdict = object (members (verdict_rows raw verdict))

-- the line of an entry's verdict, without its end
abbrev pub verdict_line : Raw → Verdict → List ℕ
verdict_line raw verdict = json.printed (verdict_tree raw verdict)
