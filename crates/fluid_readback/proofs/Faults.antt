-- No definition of a reader has want of memory as a fault: none of its steps has.
use Rattle.std.proofs.Common.{◌≢◌, ◌&&◌, ℕ, ℤ, pos, negsuc, List, Bool, true, false, cond, nat_le, int_le, Option, Some, None, Result, Ok, Err, IfErr, find, bytes_eq, refl}
use Rattle.std.specs.Option.{ok_or}
use Rattle.serde_json.specs.Data as serde
use Rattle.serde_json.specs.Read.{read}
use Rattle.fluid_json.specs.Tree as json
use Rattle.fluid_json.specs.Tree.{Tree, Trees, no_trees, tree, is_null, as_boolean, as_whole, as_text, as_trees, as_members}
use Rattle.fluid_json.specs.Spelled.{of_data, reaches, whole_or, json_or, answer, answer_within}
use Rattle.fluid_json.specs.declared.fault.JsonFault.{JsonFault}
use Rattle.fluid_json.specs.declared.fault.JsonFault.TheVariants as unread
use Rattle.fluid_json.specs.declared.nesting.Place.TheVariants.{Outside}
use Rattle.fluid_types.specs.Names.{is_name}
use Rattle.fluid_types.specs.Texts.{name_of}
use Rattle.fluid_types.specs.Forms.{Read, ◌>>=◌, Form, read_as, a_value, a_truth, a_whole, a_text, a_list, an_object, present, required, given, optional, within, counted, count, name, name_or_null, one_of, texts, largest}
use Rattle.fluid_types.specs.Words.{raw_word, raw_kinds, offered_word, offered_kinds, kind_word, kinds}
use Rattle.fluid_types.specs.Records.{held_scopes, submission, join, leave, submit, report, record_of, raw_record}
use Rattle.fluid_types.specs.Messages.{message}
use Rattle.fluid_types.specs.declared.words.RawKind.{RawKind}
use Rattle.fluid_types.specs.declared.words.RawKind.TheVariants as raw
use Rattle.fluid_types.specs.declared.fault.Field.{Field}
use Rattle.fluid_types.specs.declared.fault.Field.TheVariants as field
use Rattle.fluid_types.specs.declared.fault.What.{What}
use Rattle.fluid_types.specs.declared.fault.CodecFault.TheVariants.{UnknownEvent, BadField, NoMemory}
use Rattle.fluid_codec.specs.Items.{item, argument}
use Rattle.fluid_codec.specs.EventWords.{mode_word, modes, latest}
use Rattle.fluid_codec.specs.Events.{lower_hex, an_id, hex_bytes, asked, each, alone, batch_of, batch, batches, connect_document, submit_op, get_deltas, get_summary, get_object, put_object, event_of, event_named, event_name, event}
use Rattle.fluid_codec.specs.declared.names.EventName.{EventName}
use Rattle.fluid_codec.specs.declared.names.EventName.TheVariants as heard
use Rattle.fluid_readback.specs.Laws.{ValuesWantNoMemory, WantsNoMemory, RecordsWantNoMemory, MessagesWantNoMemory, EventsWantNoMemory}

-- ---- values

whole_wants : (o : Option Tree) → IfErr (whole_or o) (λ fault. fault ≢ unread.NoMemory)
whole_wants None = λ h. cc
whole_wants (Some t) = tt

json_wants : (o : Option serde.Data) → IfErr (json_or o) (λ fault. fault ≢ unread.NoMemory)
json_wants None = λ h. cc
json_wants (Some d) = whole_wants (of_data d)

shallow_wants : (b : Bool) (r : Result Tree JsonFault) → IfErr r (λ fault. fault ≢ unread.NoMemory) → IfErr (cond b (Err unread.TooDeep) r) (λ fault. fault ≢ unread.NoMemory)
shallow_wants true r h = λ is. cc
shallow_wants false r h = h

pub values_want_no_memory : ValuesWantNoMemory
unfolding answer_within
values_want_no_memory top s = shallow_wants (reaches top Outside 0 s) (json_or (read s)) (json_wants (read s))

read_wants : (r : Result Tree JsonFault) → IfErr r (λ fault. fault ≢ unread.NoMemory) → WantsNoMemory (read_as r)
read_wants (Ok t) h = tt
read_wants (Err unread.NotJson) h = λ is. cc
read_wants (Err unread.NotWhole) h = λ is. cc
read_wants (Err unread.TooDeep) h = λ is. cc
read_wants (Err unread.NoMemory) h = absurd (h refl)

value_wants : (s : List ℕ) → WantsNoMemory (a_value s)
unfolding a_value
value_wants s = read_wants (answer s) (values_want_no_memory 101 s)

-- ---- steps

bad_field : (f : Field) (w : What) → BadField f w ≢ NoMemory
bad_field f w = λ is. cc

then : {A B : Type 0} (r : Read A) (k : A → Read B) → WantsNoMemory r → ((a : A) → WantsNoMemory (k a)) → WantsNoMemory (r >>= k)
then (Ok a) k h g = g a
then (Err e) k h g = h

or_field : {A : Type 0} (o : Option A) (f : Field) (w : What) → WantsNoMemory (ok_or o (BadField f w))
or_field None f w = bad_field f w
or_field (Some a) f w = tt

tested : {A : Type 0} (b : Bool) (a : A) (f : Field) (w : What) → WantsNoMemory (cond b (Ok a) (Err (BadField f w)))
tested true a f w = tt
tested false a f w = bad_field f w

-- a form each of whose faults names a member
abbrev Names : {A : Type 0} → Form A → Type 0
Names form = (f : Field) (t : Tree) → WantsNoMemory (form f t)

object_wants : Names an_object
object_wants f (json.object ms) = tt
object_wants f t = bad_field f _

required_wants : {A : Type 0} (t : Tree) (f : Field) (form : Form A) → Names form → WantsNoMemory (required t f form)
required_wants t f form h = then (present f (json.find (name_of f) t)) (form f) (or_field (json.find (name_of f) t) f _) (h f)

given_wants : {A : Type 0} (f : Field) (form : Form A) (o : Option Tree) → Names form → WantsNoMemory (given f form o)
given_wants f form None h = tt
given_wants f form (Some t) h = then (form f t) _ (h f t) (λ a. tt)

argument_wants : {A : Type 0} (t : Tree) (n : ℕ) (f : Field) (form : Form A) → Names form → WantsNoMemory (argument t n f form)
argument_wants t n f form h = then (present f (item n t)) (form f) (or_field (item n t) f _) (h f)

-- ---- forms

truth_wants : Names a_truth
truth_wants f t = or_field (as_boolean t) f _

whole_form_wants : Names a_whole
whole_form_wants f t = or_field (as_whole t) f _

text_wants : Names a_text
text_wants f t = or_field (as_text t) f _

list_wants : Names a_list
list_wants f t = or_field (as_trees t) f _

within_wants : (low : ℤ) → Names (within low)
within_wants low f t = then (a_whole f t) _ (whole_form_wants f t) (λ n. tested (int_le low n && int_le n (pos largest)) n f _)

counted_wants : (low : ℕ) (f : Field) (n : ℤ) → WantsNoMemory (counted low f n)
counted_wants low f (pos n) = tested (nat_le low n && nat_le n largest) n f _
counted_wants low f (negsuc n) = bad_field f _

count_wants : (low : ℕ) → Names (count low)
count_wants low f t = then (a_whole f t) _ (whole_form_wants f t) (counted_wants low f)

name_wants : Names name
name_wants f t = then (a_text f t) _ (text_wants f t) (λ s. tested (is_name s) s f _)

null_or : (b : Bool) (r : Read (Option (List ℕ))) → WantsNoMemory r → WantsNoMemory (cond b (Ok None) r)
null_or true r h = tt
null_or false r h = h

name_or_null_wants : Names name_or_null
name_or_null_wants f t = null_or (is_null t) _ (then (name f t) _ (name_wants f t) (λ s. tt))

one_of_wants : {A : Type 0} (word : A → List ℕ) (all : List A) → Names (one_of word all)
one_of_wants word all f t = then (a_text f t) _ (text_wants f t) (λ s. or_field (find (λ a. bytes_eq s (word a)) all) f _)

texts_wants : (f : Field) (ts : Trees) → WantsNoMemory (texts f ts)
unfolding texts
texts_wants f no_trees = tt
texts_wants f (tree t ts) = then (a_text f t) _ (text_wants f t) (λ s. then (texts f ts) _ (texts_wants f ts) (λ ss. tt))

scopes_wants : Names held_scopes
scopes_wants f t = then (a_list f t) _ (list_wants f t) (λ ts. then (texts f ts) _ (texts_wants f ts) (λ words. tt))

-- ---- records

submission_wants : Names submission
unfolding submission
submission_wants f t =
    then (an_object f t) _ (object_wants f t) (λ o.
    then (required o field.ClientSequenceNumber (count 0)) _ (required_wants o _ (count 0) (count_wants 0)) (λ number.
    then (required o field.ReferenceSequenceNumber (within (negsuc 0))) _ (required_wants o _ (within (negsuc 0)) (within_wants (negsuc 0))) (λ reference.
    then (required o field.«Type» (one_of offered_word offered_kinds)) _ (required_wants o _ (one_of offered_word offered_kinds) (one_of_wants offered_word offered_kinds)) (λ kind. tt))))

join_wants : (o : Tree) → WantsNoMemory (join o)
unfolding join
join_wants o =
    then (required o field.ClientId name) _ (required_wants o _ name name_wants) (λ id.
    then (required o field.Moment (count 0)) _ (required_wants o _ (count 0) (count_wants 0)) (λ moment.
    then (required o field.Scopes held_scopes) _ (required_wants o _ held_scopes scopes_wants) (λ scopes. tt)))

leave_wants : (o : Tree) → WantsNoMemory (leave o)
unfolding leave
leave_wants o =
    then (required o field.ClientId name) _ (required_wants o _ name name_wants) (λ id.
    then (required o field.Moment (count 0)) _ (required_wants o _ (count 0) (count_wants 0)) (λ moment. tt))

submit_wants : (o : Tree) → WantsNoMemory (submit o)
unfolding submit
submit_wants o =
    then (required o field.ClientId name) _ (required_wants o _ name name_wants) (λ id.
    then (required o field.Moment (count 0)) _ (required_wants o _ (count 0) (count_wants 0)) (λ moment.
    then (required o field.Operation submission) _ (required_wants o _ submission submission_wants) (λ operation. tt)))

report_wants : (o : Tree) → WantsNoMemory (report o)
unfolding report
report_wants o =
    then (required o field.Found a_truth) _ (required_wants o _ a_truth truth_wants) (λ found.
    then (required o field.Moment (count 0)) _ (required_wants o _ (count 0) (count_wants 0)) (λ moment.
    then (required o field.Summary (count 1)) _ (required_wants o _ (count 1) (count_wants 1)) (λ summary. tt)))

record_wants : (kind : RawKind) (o : Tree) → WantsNoMemory (record_of kind o)
record_wants raw.Join o = join_wants o
record_wants raw.Leave o = leave_wants o
record_wants raw.Submit o = submit_wants o
record_wants raw.Report o = report_wants o

raw_wants : (t : Tree) → WantsNoMemory (raw_record t)
unfolding raw_record
raw_wants t =
    then (an_object field.Raw t) _ (object_wants field.Raw t) (λ o.
    then (required o field.Raw (one_of raw_word raw_kinds)) _ (required_wants o _ (one_of raw_word raw_kinds) (one_of_wants raw_word raw_kinds)) (λ kind. record_wants kind o))

pub records_want_no_memory : RecordsWantNoMemory
records_want_no_memory s = then (a_value s) _ (value_wants s) raw_wants

-- ---- messages

message_wants : Names message
unfolding message
message_wants f t =
    then (an_object f t) _ (object_wants f t) (λ o.
    then (required o field.ClientId name_or_null) _ (required_wants o _ name_or_null name_or_null_wants) (λ client.
    then (required o field.ClientSequenceNumber (within (negsuc 0))) _ (required_wants o _ (within (negsuc 0)) (within_wants (negsuc 0))) (λ client_number.
    then (optional o field.Data a_text) _ (given_wants field.Data a_text (json.find (name_of field.Data) o) text_wants) (λ system.
    then (required o field.MinimumSequenceNumber (count 0)) _ (required_wants o _ (count 0) (count_wants 0)) (λ minimum.
    then (required o field.ReferenceSequenceNumber (within (negsuc 0))) _ (required_wants o _ (within (negsuc 0)) (within_wants (negsuc 0))) (λ reference.
    then (required o field.SequenceNumber (count 0)) _ (required_wants o _ (count 0) (count_wants 0)) (λ number.
    then (required o field.Timestamp (count 0)) _ (required_wants o _ (count 0) (count_wants 0)) (λ moment.
    then (required o field.«Type» (one_of kind_word kinds)) _ (required_wants o _ (one_of kind_word kinds) (one_of_wants kind_word kinds)) (λ kind. tt)))))))))

pub messages_want_no_memory : MessagesWantNoMemory
messages_want_no_memory s = then (a_value s) _ (value_wants s) (message_wants field.Message)

-- ---- events

id_wants : Names an_id
id_wants f t = then (a_text f t) _ (text_wants f t) (λ s. or_field (lower_hex 20 s) f _)

bytes_want : Names hex_bytes
bytes_want f t = then (a_text f t) _ (text_wants f t) (λ s. or_field _ f _)

latest_or : {A : Type 0} (b : Bool) (a : A) (r : Read A) → WantsNoMemory r → WantsNoMemory (cond b (Ok a) r)
latest_or true a r h = tt
latest_or false a r h = h

asked_wants : Names asked
asked_wants f t = then (a_text f t) _ (text_wants f t) (λ s. latest_or (bytes_eq s latest) _ _ (then (ok_or (lower_hex 20 s) _) _ (or_field (lower_hex 20 s) f _) (λ id. tt)))

each_wants : {A : Type 0} (read : Tree → Read (List A)) → ((t : Tree) → WantsNoMemory (read t)) → (ts : Trees) → WantsNoMemory (each read ts)
unfolding each
each_wants read h no_trees = tt
each_wants read h (tree t ts) = then (read t) _ (h t) (λ prefix. then (each read ts) _ (each_wants read h ts) (λ rest. tt))

alone_wants : Names alone
alone_wants f t = then (submission f t) _ (submission_wants f t) (λ s. tt)

batch_of_wants : (f : Field) (t : Tree) (o : Option Trees) → WantsNoMemory (batch_of f t o)
batch_of_wants f t None = alone_wants f t
batch_of_wants f t (Some ts) = each_wants (alone f) (alone_wants f) ts

batches_want : Names batches
batches_want f t = then (a_list f t) _ (list_wants f t) (λ ts. each_wants (batch f) (λ u. batch_of_wants f u (as_trees u)) ts)

connect_wants : (t : Tree) → WantsNoMemory (connect_document t)
unfolding connect_document
connect_wants t =
    then (argument t 1 field.Connect an_object) _ (argument_wants t 1 _ an_object object_wants) (λ o.
    then (required o field.Id name) _ (required_wants o _ name name_wants) (λ id.
    then (optional o field.Mode (one_of mode_word modes)) _ (given_wants field.Mode (one_of mode_word modes) (json.find (name_of field.Mode) o) (one_of_wants mode_word modes)) (λ mode.
    then (required o field.Scopes held_scopes) _ (required_wants o _ held_scopes scopes_wants) (λ scopes. tt))))

submit_op_wants : (t : Tree) → WantsNoMemory (submit_op t)
unfolding submit_op
submit_op_wants t =
    then (argument t 1 field.ClientId name) _ (argument_wants t 1 _ name name_wants) (λ id.
    then (argument t 2 field.Messages batches) _ (argument_wants t 2 _ batches batches_want) (λ submissions. tt))

deltas_want : (t : Tree) → WantsNoMemory (get_deltas t)
unfolding get_deltas
deltas_want t =
    then (argument t 1 field.From a_whole) _ (argument_wants t 1 _ a_whole whole_form_wants) (λ from.
    then (argument t 2 field.To a_whole) _ (argument_wants t 2 _ a_whole whole_form_wants) (λ to. tt))

summary_wants : (t : Tree) → WantsNoMemory (get_summary t)
unfolding get_summary
summary_wants t = then (argument t 1 field.Pick asked) _ (argument_wants t 1 _ asked asked_wants) (λ pick. tt)

get_object_wants : (t : Tree) → WantsNoMemory (get_object t)
unfolding get_object
get_object_wants t = then (argument t 1 field.Id an_id) _ (argument_wants t 1 _ an_id id_wants) (λ id. tt)

put_object_wants : (t : Tree) → WantsNoMemory (put_object t)
unfolding put_object
put_object_wants t = then (argument t 1 field.Object hex_bytes) _ (argument_wants t 1 _ hex_bytes bytes_want) (λ bytes. tt)

event_of_wants : (n : EventName) (t : Tree) → WantsNoMemory (event_of n t)
event_of_wants heard.ConnectDocument t = connect_wants t
event_of_wants heard.SubmitOp t = submit_op_wants t
event_of_wants heard.GetDeltas t = deltas_want t
event_of_wants heard.GetSummary t = summary_wants t
event_of_wants heard.GetObject t = get_object_wants t
event_of_wants heard.PutObject t = put_object_wants t

named_wants : (o : Option EventName) → WantsNoMemory (ok_or o UnknownEvent)
named_wants None = λ is. cc
named_wants (Some n) = tt

event_wants : (t : Tree) → WantsNoMemory (event t)
unfolding event
event_wants t = then (event_name t) _ (named_wants (event_named t)) (λ n. event_of_wants n t)

pub events_want_no_memory : EventsWantNoMemory
events_want_no_memory s = then (a_value s) _ (value_wants s) event_wants
