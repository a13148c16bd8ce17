-- The lines of a script's steps, without their ends.
use Rattle.std.specs.Prelude.{ℕ, List, ◌++◌, length, codes, decimal}
use Rattle.hex.specs.Hex.{encode_lower}
use Rattle.fluid_json.specs.Tree.{Tree}
use Rattle.fluid_json.specs.Printed.{printed}
use Rattle.fluid_types.specs.Ledger.{Ledger, order, seq}
use Rattle.fluid_types.specs.Texts.{kind_of, code_of, rule_text}
use Rattle.fluid_types.specs.declared.nacks.NackRule.{NackRule}
use Rattle.fluid_rules.specs.Rules.{minimum}
use Rattle.fluid_rules.specs.Scribe as scribe
use Rattle.fluid_rules.specs.declared.answers.Answer.{Answer}
use Rattle.fluid_rules.specs.declared.answers.Answer.TheVariants.{Dropped, Ack, Refused}
use Rattle.fluid_codec.specs.Replies.{reply_printed}
use Rattle.fluid_codec.specs.declared.replies.Reply.{Reply}
use Rattle.fluid_tasks.specs.Past as tasks
use Rattle.fluid_tasks.specs.Printed.{print}
use Rattle.fluid_runtime.specs.declared.fault.EditFault.{EditFault}
use Rattle.fluid_runtime.specs.declared.fault.EditFault.TheVariants.{NoChannel, WrongKind, OutOfRange, Exists, NoMemory}
use Rattle.fluid_voice.specs.Refusals.{refusal_code, refusal_text}
use Rattle.fluid_voice.specs.declared.refusals.ConnectRefusal.{ConnectRefusal}

-- ---- parts

-- a name, and what is said of it
abbrev pub of_name : List ℕ → List ℕ → List ℕ
of_name name said = name ++ (codes " " ++ said)

-- E entries, number S, minimum M
abbrev pub numbers : Ledger → List ℕ
numbers l = decimal (length l) ++ (codes " entries, number " ++ (decimal (seq l) ++ (codes ", minimum " ++ decimal (minimum l))))

-- refused CODE: TEXT
abbrev pub refused_with : ℕ → List ℕ → List ℕ
refused_with code text = codes "refused " ++ (decimal code ++ (codes ": " ++ text))

-- with the code and the text of a nack
abbrev pub refused_line : List ℕ → NackRule → List ℕ
refused_line name rule = of_name name (refused_with (code_of (kind_of rule)) (rule_text rule))

-- with those of a connect that is refused
abbrev pub turned_away_line : List ℕ → ConnectRefusal → List ℕ
turned_away_line name refusal = of_name name (refused_with (refusal_code refusal) (refusal_text refusal))

-- other bytes are held under this id
abbrev pub clash_text : List ℕ → List ℕ
clash_text id = codes "clash " ++ encode_lower id

-- ---- connections

abbrev pub reply_line : List ℕ → Reply → List ℕ
reply_line c reply = of_name c (codes "< " ++ reply_printed reply)

abbrev pub clash_line : List ℕ → List ℕ → List ℕ
clash_line name id = of_name name (clash_text id)

abbrev pub closed_line : List ℕ → List ℕ
closed_line c = of_name c (codes "closed")

-- ---- documents

abbrev pub idle_line : List ℕ → List ℕ
idle_line d = of_name d (codes "scribe idle")

-- the answer to the summarize of this number
abbrev pub answered : ℕ → Answer → List ℕ
answered summary Dropped = codes "scribe idle"
answered summary (Ack handle) = codes "scribe ack " ++ decimal summary
answered summary (Refused rule) = codes "scribe nack " ++ (decimal summary ++ (codes ": " ++ scribe.rule_text rule))

abbrev pub answer_line : List ℕ → ℕ → Answer → List ℕ
answer_line d summary answer = of_name d (answered summary answer)

abbrev pub scribe_clash_line : List ℕ → List ℕ → List ℕ
scribe_clash_line d id = of_name d (codes "scribe " ++ clash_text id)

abbrev pub stored_line : List ℕ → (checkpoint entries : ℕ) → List ℕ
stored_line d checkpoint entries = of_name d (codes "checkpoint " ++ (decimal checkpoint ++ (codes " at " ++ decimal entries)))

abbrev pub full_line : List ℕ → List ℕ
full_line d = of_name d (codes "checkpoints full")

abbrev pub large_line : List ℕ → (bytes : ℕ) → List ℕ
large_line d bytes = of_name d (codes "checkpoint too large: " ++ (decimal bytes ++ codes " bytes"))

abbrev pub restarted_line : List ℕ → (checkpoint : ℕ) → Ledger → List ℕ
restarted_line d checkpoint l = of_name d (codes "restarted from " ++ (decimal checkpoint ++ (codes ": " ++ numbers l)))

abbrev pub no_checkpoint_line : List ℕ → (checkpoint stored : ℕ) → List ℕ
no_checkpoint_line d checkpoint stored = of_name d (codes "no checkpoint " ++ (decimal checkpoint ++ (codes " of " ++ decimal stored)))

abbrev pub reopened_line : List ℕ → Ledger → List ℕ
reopened_line d l = of_name d (codes "reopened: " ++ numbers l)

abbrev pub swept_line : List ℕ → (id : List ℕ) → List ℕ
swept_line d id = of_name d (codes "swept " ++ id)

abbrev pub nobody_swept_line : List ℕ → List ℕ
nobody_swept_line d = of_name d (codes "swept none")

abbrev pub count_line : List ℕ → Ledger → List ℕ
count_line d l = of_name d (numbers l)

-- tasks at S: what the messages make of queues and tasks
abbrev pub tasks_line : List ℕ → Ledger → List ℕ
tasks_line d l = of_name d (codes "tasks at " ++ (decimal (seq l) ++ (codes ": " ++ print (tasks.past_of (order l)))))

-- ---- containers

abbrev pub loaded_line : List ℕ → List ℕ → ℕ → List ℕ
loaded_line p d number = of_name p (codes "loaded " ++ (d ++ (codes " at " ++ decimal number)))

abbrev pub no_summary_line : List ℕ → List ℕ
no_summary_line p = of_name p (codes "no summary")

abbrev pub bad_summary_line : List ℕ → (path : List ℕ) → List ℕ
bad_summary_line p path = of_name p (codes "bad summary " ++ path)

abbrev pub pumped_line : List ℕ → ℕ → List ℕ
pumped_line p number = of_name p (codes "at " ++ decimal number)

abbrev pub edited_line : List ℕ → List ℕ
edited_line p = of_name p (codes "edited")

abbrev pub fault_name : EditFault → List ℕ
fault_name NoChannel = codes "NoChannel"
fault_name WrongKind = codes "WrongKind"
fault_name OutOfRange = codes "OutOfRange"
fault_name Exists = codes "Exists"
fault_name NoMemory = codes "NoMemory"

abbrev pub edit_fault_line : List ℕ → EditFault → List ℕ
edit_fault_line p fault = of_name p (codes "edit fault " ++ fault_name fault)

abbrev pub beat_line : List ℕ → ℕ → List ℕ
beat_line p number = of_name p (codes "beats at " ++ decimal number)

abbrev pub summarized_line : List ℕ → ℕ → List ℕ
summarized_line p number = of_name p (codes "summarized at " ++ decimal number)

-- ---- roamers

-- as a client of this id, at this number
abbrev pub client_at : (id : List ℕ) → ℕ → List ℕ
client_at id number = codes "as " ++ (id ++ (codes " at " ++ decimal number))

abbrev pub roams_line : (r d id : List ℕ) → ℕ → List ℕ
roams_line r d id number = of_name r (codes "roams " ++ (d ++ (codes " " ++ client_at id number)))

abbrev pub said_line : (r : List ℕ) → (edit : ℕ) → List ℕ
said_line r edit = of_name r (codes "said " ++ decimal edit)

abbrev pub lost_line : (r : List ℕ) → List ℕ
lost_line r = of_name r (codes "lost")

abbrev pub back_line : (r id : List ℕ) → ℕ → List ℕ
back_line r id number = of_name r (codes "back " ++ client_at id number)

-- so many of its edits stand, of so many
abbrev pub acked_line : (r : List ℕ) → (stood edits : ℕ) → List ℕ
acked_line r stood edits = of_name r (codes "acked " ++ (decimal stood ++ (codes " of " ++ decimal edits)))

-- ---- what is shown

-- what is shown, at this number
abbrev pub shown_line : List ℕ → ℕ → Tree → List ℕ
shown_line p number shown = of_name p (codes "at " ++ (decimal number ++ (codes ": " ++ printed shown)))
