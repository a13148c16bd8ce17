-- A record is read exactly from the values that spell it.
use Rattle.std.proofs.Common.{◌≡◌, ◌↔◌, ℕ, negsuc, List, Some, Result, Ok, Err, find, bytes_eq, refl, ap, sym, ◌∙◌, subst}
use Rattle.fluid_json.specs.Tree as json
use Rattle.fluid_json.specs.Spelled as json_text
use Rattle.fluid_json.specs.declared.fault.JsonFault.{JsonFault}
use Rattle.fluid_json.specs.declared.fault.JsonFault.TheVariants as unread
use Rattle.fluid_codec.specs.Laws.{RecordsAreSpelled, MessagesAreSpelled}
use Rattle.fluid_json.specs.Tree.{Tree, text, list, trees, as_members}
use Rattle.fluid_types.specs.Forms.{Read, a_value, read_as, ◌>>=◌, a_truth, a_text, a_list, an_object, required, optional, any, if_any, within, count, name, name_or_null, one_of, texts}
use Rattle.fluid_types.specs.Words.{raw_word, raw_kinds, offered_word, offered_kinds, kind_word, kinds}
use Rattle.fluid_types.specs.Records.{held_scopes, scopes_of, submission, join, leave, submit, report, record_of, raw_record}
use Rattle.fluid_types.specs.Messages.{message}
use Rattle.fluid_types.specs.Spellings.{Has, SpellsText, SpellsTruth, SpellsName, SpellsCount, SpellsReference, SpellsRawKind, SpellsOffered, SpellsKind, SpellsScopes, SpellsSubmission, SpellsRaw, SpellsMessage, SpellsNameOrNull}
use Rattle.fluid_types.specs.declared.words.RawKind.{RawKind}
use Rattle.fluid_types.specs.declared.words.RawKind.TheVariants as raw
use Rattle.fluid_types.specs.declared.fault.Field.{Field}
use Rattle.fluid_types.specs.declared.fault.Field.TheVariants as field
use Rattle.fluid_types.specs.declared.entries.Scopes.{Scopes}
use Rattle.fluid_types.specs.declared.entries.Offered.{Offered}
use Rattle.fluid_types.specs.declared.entries.Offered.TheVariants as offered
use Rattle.fluid_types.specs.declared.entries.Submission.{Submission}
use Rattle.fluid_types.specs.declared.entries.Raw.{Raw}
use Rattle.fluid_types.specs.declared.entries.Raw.TheVariants.{Join, Leave, Submit, Report}
use Rattle.fluid_types.specs.declared.messages.Message.{Message}
use Rattle.fluid_types.specs.declared.messages.Kind.{Kind}
use Rattle.fluid_types.specs.declared.messages.Kind.TheVariants as kind
use Rattle.fluid_codec.proofs.Steps.{bind_ok, ok_same, Reads, a_text-reads, a_truth-reads, a_list-ok, name-reads, count-reads, reference-reads, one_of_spelled, one_of_read, required_spelled, required_read, optional_spelled, optional_read, name_or_null-reads, any_member, member_any, texts_spelled, texts_read}

-- ---- forms of records

scopes_spelled : (f : Field) (t : Tree) (s : Scopes) → held_scopes f t ≡ Ok s → SpellsScopes s t
scopes_spelled f t s h =
    let items = bind_ok (a_list f t) _ _ h in
    let words = bind_ok (texts f items.0) _ _ items.2 in
    let same : scopes_of words.0 ≡ s = cc in
    record {
      words = words.0;
      spelled = a_list-ok f t items.0 items.1 ∙ ap list (texts_spelled f items.0 words.0 words.1);
      held = sym same;
    }

scopes_read : (f : Field) (t : Tree) (s : Scopes) → SpellsScopes s t → held_scopes f t ≡ Ok s
scopes_read f t s h = rw (h.spelled, texts_read f h.words) (ap Ok (sym h.held))

pub scopes-reads : Reads held_scopes SpellsScopes
scopes-reads = record { spelled = scopes_spelled; read = scopes_read }

raw_kind_found : (k : RawKind) → find (λ b. bytes_eq (raw_word k) (raw_word b)) raw_kinds ≡ Some k
raw_kind_found raw.Join = refl
raw_kind_found raw.Leave = refl
raw_kind_found raw.Submit = refl
raw_kind_found raw.Report = refl

pub raw_kind-reads : Reads (one_of raw_word raw_kinds) SpellsRawKind
raw_kind-reads = record {
  spelled = one_of_spelled raw_word raw_kinds;
  read = λ f t k h. one_of_read raw_word raw_kinds f t k (raw_kind_found k) h;
}

offered_found : (k : Offered) → find (λ b. bytes_eq (offered_word k) (offered_word b)) offered_kinds ≡ Some k
offered_found offered.Op = refl
offered_found offered.Noop = refl
offered_found offered.Propose = refl
offered_found offered.Reject = refl
offered_found offered.Summarize = refl

pub offered-reads : Reads (one_of offered_word offered_kinds) SpellsOffered
offered-reads = record {
  spelled = one_of_spelled offered_word offered_kinds;
  read = λ f t k h. one_of_read offered_word offered_kinds f t k (offered_found k) h;
}

kind_found : (k : Kind) → find (λ b. bytes_eq (kind_word k) (kind_word b)) kinds ≡ Some k
kind_found kind.Op = refl
kind_found kind.Noop = refl
kind_found kind.Propose = refl
kind_found kind.Reject = refl
kind_found kind.Summarize = refl
kind_found kind.Join = refl
kind_found kind.Leave = refl
kind_found kind.SummaryAck = refl
kind_found kind.SummaryNack = refl

pub kind-reads : Reads (one_of kind_word kinds) SpellsKind
kind-reads = record {
  spelled = one_of_spelled kind_word kinds;
  read = λ f t k h. one_of_read kind_word kinds f t k (kind_found k) h;
}

-- ---- objects

pub an_object-ok : (f : Field) (t o : Tree) → an_object f t ≡ Ok o → o ≡ t
an_object-ok f (json.object ms) o h = cc
an_object-ok f t o h = cc

-- what has a member is an object
pub an_object_read : {A : Type 0} (Spells : A → Tree → Type 0) (f g : Field) (t : Tree) (a : A) → Has t g Spells a → an_object f t ≡ Ok t
an_object_read Spells f g (json.object ms) a h = refl
an_object_read Spells f g t a h = absurd h

-- ---- submissions

submission_spelled : (f : Field) (t : Tree) (s : Submission) → submission f t ≡ Ok s → SpellsSubmission s t
unfolding submission
submission_spelled f t s h =
    let o = bind_ok (an_object f t) _ _ h in
    let number = bind_ok (required o.0 field.ClientSequenceNumber (count 0)) _ _ o.2 in
    let reference = bind_ok (required o.0 field.ReferenceSequenceNumber (within (negsuc 0))) _ _ number.2 in
    let kind = bind_ok (required o.0 field.«Type» (one_of offered_word offered_kinds)) _ _ reference.2 in
    let is : o.0 ≡ t = an_object-ok f t o.0 o.1 in
    let read : Submission = record { client_number = number.0; reference = reference.0; kind = kind.0; contents = any o.0 field.Contents; metadata = if_any o.0 field.Metadata } in
    let same : read ≡ s = cc in
    let spelled : SpellsSubmission read o.0 = record {
      its_client_number = required_spelled (count 0) (SpellsCount 0) (count-reads 0) o.0 field.ClientSequenceNumber number.0 number.1;
      its_contents = any_member o.0 field.Contents _ refl;
      its_metadata = refl;
      its_reference = required_spelled (within (negsuc 0)) SpellsReference reference-reads o.0 field.ReferenceSequenceNumber reference.0 reference.1;
      its_kind = required_spelled (one_of offered_word offered_kinds) SpellsOffered offered-reads o.0 field.«Type» kind.0 kind.1;
    } in
    subst (λ u. SpellsSubmission s u) is (subst (λ r. SpellsSubmission r o.0) same spelled)

submission_read : (f : Field) (t : Tree) (s : Submission) → SpellsSubmission s t → submission f t ≡ Ok s
unfolding submission
submission_read f t s h =
    rw (
      an_object_read (SpellsCount 0) f field.ClientSequenceNumber t s.client_number h.its_client_number,
      required_read (count 0) (SpellsCount 0) (count-reads 0) t field.ClientSequenceNumber s.client_number h.its_client_number,
      required_read (within (negsuc 0)) SpellsReference reference-reads t field.ReferenceSequenceNumber s.reference h.its_reference,
      required_read (one_of offered_word offered_kinds) SpellsOffered offered-reads t field.«Type» s.kind h.its_kind,
      member_any t field.Contents s.contents h.its_contents,
      ← h.its_metadata,
    )
    refl

pub submission-reads : Reads submission SpellsSubmission
submission-reads = record { spelled = submission_spelled; read = submission_read }

-- ---- raw records, behind the word of `raw`

join_spelled : (t : Tree) (r : Raw) → Has t field.Raw SpellsRawKind raw.Join → join t ≡ Ok r → SpellsRaw r t
unfolding join
join_spelled t r word h =
    let id = bind_ok (required t field.ClientId name) _ _ h in
    let moment = bind_ok (required t field.Moment (count 0)) _ _ id.2 in
    let scopes = bind_ok (required t field.Scopes held_scopes) _ _ moment.2 in
    let same : Join id.0 scopes.0 (any t field.Detail) moment.0 ≡ r = cc in
    subst (λ q. SpellsRaw q t) same (record {
      its_raw = word;
      its_id = required_spelled name SpellsName name-reads t field.ClientId id.0 id.1;
      its_detail = any_member t field.Detail _ refl;
      its_moment = required_spelled (count 0) (SpellsCount 0) (count-reads 0) t field.Moment moment.0 moment.1;
      its_scopes = required_spelled held_scopes SpellsScopes scopes-reads t field.Scopes scopes.0 scopes.1;
    })

leave_spelled : (t : Tree) (r : Raw) → Has t field.Raw SpellsRawKind raw.Leave → leave t ≡ Ok r → SpellsRaw r t
unfolding leave
leave_spelled t r word h =
    let id = bind_ok (required t field.ClientId name) _ _ h in
    let moment = bind_ok (required t field.Moment (count 0)) _ _ id.2 in
    let same : Leave id.0 moment.0 ≡ r = cc in
    subst (λ q. SpellsRaw q t) same (record {
      its_raw = word;
      its_id = required_spelled name SpellsName name-reads t field.ClientId id.0 id.1;
      its_moment = required_spelled (count 0) (SpellsCount 0) (count-reads 0) t field.Moment moment.0 moment.1;
    })

submit_spelled : (t : Tree) (r : Raw) → Has t field.Raw SpellsRawKind raw.Submit → submit t ≡ Ok r → SpellsRaw r t
unfolding submit
submit_spelled t r word h =
    let id = bind_ok (required t field.ClientId name) _ _ h in
    let moment = bind_ok (required t field.Moment (count 0)) _ _ id.2 in
    let operation = bind_ok (required t field.Operation submission) _ _ moment.2 in
    let same : Submit id.0 operation.0 moment.0 ≡ r = cc in
    subst (λ q. SpellsRaw q t) same (record {
      its_raw = word;
      its_id = required_spelled name SpellsName name-reads t field.ClientId id.0 id.1;
      its_moment = required_spelled (count 0) (SpellsCount 0) (count-reads 0) t field.Moment moment.0 moment.1;
      its_operation = required_spelled submission SpellsSubmission submission-reads t field.Operation operation.0 operation.1;
    })

report_spelled : (t : Tree) (r : Raw) → Has t field.Raw SpellsRawKind raw.Report → report t ≡ Ok r → SpellsRaw r t
unfolding report
report_spelled t r word h =
    let found = bind_ok (required t field.Found a_truth) _ _ h in
    let moment = bind_ok (required t field.Moment (count 0)) _ _ found.2 in
    let summary = bind_ok (required t field.Summary (count 1)) _ _ moment.2 in
    let same : Report summary.0 found.0 moment.0 ≡ r = cc in
    subst (λ q. SpellsRaw q t) same (record {
      its_raw = word;
      its_found = required_spelled a_truth SpellsTruth a_truth-reads t field.Found found.0 found.1;
      its_moment = required_spelled (count 0) (SpellsCount 0) (count-reads 0) t field.Moment moment.0 moment.1;
      its_summary = required_spelled (count 1) (SpellsCount 1) (count-reads 1) t field.Summary summary.0 summary.1;
    })

named : (kind : RawKind) (t : Tree) (r : Raw) → Has t field.Raw SpellsRawKind kind → record_of kind t ≡ Ok r → SpellsRaw r t
named raw.Join t r has h = join_spelled t r has h
named raw.Leave t r has h = leave_spelled t r has h
named raw.Submit t r has h = submit_spelled t r has h
named raw.Report t r has h = report_spelled t r has h

pub raw_record_spelled : (t : Tree) (r : Raw) → raw_record t ≡ Ok r → SpellsRaw r t
unfolding raw_record
raw_record_spelled t r h =
    let o = bind_ok (an_object field.Raw t) _ _ h in
    let kind = bind_ok (required o.0 field.Raw (one_of raw_word raw_kinds)) _ _ o.2 in
    let has = required_spelled (one_of raw_word raw_kinds) SpellsRawKind raw_kind-reads o.0 field.Raw kind.0 kind.1 in
    subst (λ u. SpellsRaw r u) (an_object-ok field.Raw t o.0 o.1) (named kind.0 o.0 r has kind.2)

-- ---- and the other way

raw_kind_read : (t : Tree) (kind : RawKind) (r : Read Raw) → Has t field.Raw SpellsRawKind kind → record_of kind t ≡ r → raw_record t ≡ r
unfolding raw_record
raw_kind_read t kind r has h =
    rw (an_object_read SpellsRawKind field.Raw field.Raw t kind has, required_read (one_of raw_word raw_kinds) SpellsRawKind raw_kind-reads t field.Raw kind has) h

pub raw_record_read : (t : Tree) (r : Raw) → SpellsRaw r t → raw_record t ≡ Ok r
unfolding join leave submit report
raw_record_read t (Join id scopes detail moment) h =
    raw_kind_read t raw.Join _ h.its_raw
    (rw (
      required_read name SpellsName name-reads t field.ClientId id h.its_id,
      required_read (count 0) (SpellsCount 0) (count-reads 0) t field.Moment moment h.its_moment,
      required_read held_scopes SpellsScopes scopes-reads t field.Scopes scopes h.its_scopes,
      member_any t field.Detail detail h.its_detail,
    )
    refl)
raw_record_read t (Leave id moment) h =
    raw_kind_read t raw.Leave _ h.its_raw
    (rw (
      required_read name SpellsName name-reads t field.ClientId id h.its_id,
      required_read (count 0) (SpellsCount 0) (count-reads 0) t field.Moment moment h.its_moment,
    )
    refl)
raw_record_read t (Submit id operation moment) h =
    raw_kind_read t raw.Submit _ h.its_raw
    (rw (
      required_read name SpellsName name-reads t field.ClientId id h.its_id,
      required_read (count 0) (SpellsCount 0) (count-reads 0) t field.Moment moment h.its_moment,
      required_read submission SpellsSubmission submission-reads t field.Operation operation h.its_operation,
    )
    refl)
raw_record_read t (Report summary found moment) h =
    raw_kind_read t raw.Report _ h.its_raw
    (rw (
      required_read a_truth SpellsTruth a_truth-reads t field.Found found h.its_found,
      required_read (count 0) (SpellsCount 0) (count-reads 0) t field.Moment moment h.its_moment,
      required_read (count 1) (SpellsCount 1) (count-reads 1) t field.Summary summary h.its_summary,
    )
    refl)

-- ---- messages

pub message_spelled : (f : Field) (t : Tree) (m : Message) → message f t ≡ Ok m → SpellsMessage m t
unfolding message
message_spelled f t m h =
    let o = bind_ok (an_object f t) _ _ h in
    let client = bind_ok (required o.0 field.ClientId name_or_null) _ _ o.2 in
    let client_number = bind_ok (required o.0 field.ClientSequenceNumber (within (negsuc 0))) _ _ client.2 in
    let system = bind_ok (optional o.0 field.Data a_text) _ _ client_number.2 in
    let minimum = bind_ok (required o.0 field.MinimumSequenceNumber (count 0)) _ _ system.2 in
    let reference = bind_ok (required o.0 field.ReferenceSequenceNumber (within (negsuc 0))) _ _ minimum.2 in
    let number = bind_ok (required o.0 field.SequenceNumber (count 0)) _ _ reference.2 in
    let moment = bind_ok (required o.0 field.Timestamp (count 0)) _ _ number.2 in
    let kind = bind_ok (required o.0 field.«Type» (one_of kind_word kinds)) _ _ moment.2 in
    let is : o.0 ≡ t = an_object-ok f t o.0 o.1 in
    let read : Message = record {
      client = client.0;
      client_number = client_number.0;
      reference = reference.0;
      number = number.0;
      minimum = minimum.0;
      kind = kind.0;
      contents = any o.0 field.Contents;
      system = system.0;
      metadata = if_any o.0 field.Metadata;
      moment = moment.0;
    } in
    let same : read ≡ m = ok_same read m (Ok read) refl kind.2 in
    let spelled : SpellsMessage read o.0 = record {
      its_client = required_spelled name_or_null SpellsNameOrNull name_or_null-reads o.0 field.ClientId client.0 client.1;
      its_client_number = required_spelled (within (negsuc 0)) SpellsReference reference-reads o.0 field.ClientSequenceNumber client_number.0 client_number.1;
      its_contents = any_member o.0 field.Contents _ refl;
      its_system = optional_spelled a_text SpellsText a_text-reads o.0 field.Data system.0 system.1;
      its_metadata = refl;
      its_minimum = required_spelled (count 0) (SpellsCount 0) (count-reads 0) o.0 field.MinimumSequenceNumber minimum.0 minimum.1;
      its_reference = required_spelled (within (negsuc 0)) SpellsReference reference-reads o.0 field.ReferenceSequenceNumber reference.0 reference.1;
      its_number = required_spelled (count 0) (SpellsCount 0) (count-reads 0) o.0 field.SequenceNumber number.0 number.1;
      its_moment = required_spelled (count 0) (SpellsCount 0) (count-reads 0) o.0 field.Timestamp moment.0 moment.1;
      its_kind = required_spelled (one_of kind_word kinds) SpellsKind kind-reads o.0 field.«Type» kind.0 kind.1;
    } in
    subst (λ u. SpellsMessage m u) is (subst (λ r. SpellsMessage r o.0) same spelled)

pub message_read : (f : Field) (t : Tree) (m : Message) → SpellsMessage m t → message f t ≡ Ok m
unfolding message
message_read f t m h =
    rw (
      an_object_read SpellsNameOrNull f field.ClientId t m.client h.its_client,
      required_read name_or_null SpellsNameOrNull name_or_null-reads t field.ClientId m.client h.its_client,
      required_read (within (negsuc 0)) SpellsReference reference-reads t field.ClientSequenceNumber m.client_number h.its_client_number,
      optional_read a_text SpellsText a_text-reads t field.Data m.system h.its_system,
      required_read (count 0) (SpellsCount 0) (count-reads 0) t field.MinimumSequenceNumber m.minimum h.its_minimum,
      required_read (within (negsuc 0)) SpellsReference reference-reads t field.ReferenceSequenceNumber m.reference h.its_reference,
      required_read (count 0) (SpellsCount 0) (count-reads 0) t field.SequenceNumber m.number h.its_number,
      required_read (count 0) (SpellsCount 0) (count-reads 0) t field.Timestamp m.moment h.its_moment,
      required_read (one_of kind_word kinds) SpellsKind kind-reads t field.«Type» m.kind h.its_kind,
      member_any t field.Contents m.contents h.its_contents,
      ← h.its_metadata,
    )
    refl

-- ---- texts

-- a text is read as the value that it spells as JSON
read_as-ok : (r : Result Tree JsonFault) (t : Tree) → read_as r ≡ Ok t → r ≡ Ok t
read_as-ok (Ok t) u h = cc
read_as-ok (Err unread.NotJson) u h = cc
read_as-ok (Err unread.NotWhole) u h = cc
read_as-ok (Err unread.TooDeep) u h = cc
read_as-ok (Err unread.NoMemory) u h = cc

pub spelled_exactly : {A : Type 0} (read : Tree → Read A) (Spells : A → Tree → Type 0) → ((t : Tree) (a : A) → read t ≡ Ok a → Spells a t) → ((t : Tree) (a : A) → Spells a t → read t ≡ Ok a)
    → (s : List ℕ) (a : A) → ((a_value s >>= read) ≡ Ok a) ↔ ((t : Tree) × (json_text.answer s ≡ Ok t) × Spells a t)
unfolding a_value
spelled_exactly read Spells forth back s a = (
  λ h. let v = bind_ok (read_as (json_text.answer s)) read a h in (v.0, read_as-ok (json_text.answer s) v.0 v.1, forth v.0 a v.2),
  λ v. rw v.1 (back v.0 a v.2),
)

pub records_are_spelled : RecordsAreSpelled
records_are_spelled = spelled_exactly raw_record SpellsRaw raw_record_spelled raw_record_read

pub messages_are_spelled : MessagesAreSpelled
messages_are_spelled = spelled_exactly (message field.Message) SpellsMessage (message_spelled field.Message) (message_read field.Message)
