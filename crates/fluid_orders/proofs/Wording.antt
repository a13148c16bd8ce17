-- The text of a message is UTF-8 where the record of its entry is.
use Rattle.std.proofs.Common.{◌≡◌, ℕ, ◌+◌, ◌≤◌, ◌<◌, ◌^◌, leb, arith, ℤ, pos, negsuc, Bool, true, ◌&&◌, List, [], ◌∷◌, ◌++◌, Option, Some, None, option_map, IsSomeAnd, MatchOption, refl, sym, subst}
use Rattle.std.specs.Prelude.{IfSome, IsUtf8, IsAscii, ⊤}
use Rattle.std.specs.Str.{is_utf8}
use Rattle.std.proofs.lemmas.Bool.{and_parts, leb-true}
use Rattle.std.proofs.lemmas.Str.{IsUtf8-from_is_utf8, IsUtf8-from_ascii}
use Rattle.std.proofs.lemmas.Str.Ascii.{IsAscii-nil, IsAscii-cons}
use Rattle.hex.specs.Hex.{encode_lower, lower_digits}
use Rattle.hex.proofs.HexLemmas.{IsAscii-encode_with}
use Rattle.fluid_json.specs.Tree.{Tree, null, text, members, find, IsSigned}
use Rattle.fluid_json.specs.Printed as json
use Rattle.fluid_texts.specs.Laws.{TextsAreRead, TextsArePrinted, TextsAreWritable}
use Rattle.fluid_texts.specs.Texts.{IsText, IsWritable, HasWritable}
use Rattle.fluid_types.specs.Fits.{Fits}
use Rattle.fluid_types.specs.Forms.{largest}
use Rattle.fluid_types.specs.Ledger.{Ledger, order, seq}
use Rattle.fluid_types.specs.Printed.{Row, row_if_any, or_null, raw_printed, message_rows, message_tree, message_printed}
use Rattle.fluid_types.specs.Spellings.{Has, IsMember, SpellsName, SpellsSubmission, SpellsRaw}
use Rattle.fluid_types.specs.Texts.{name_of}
use Rattle.fluid_types.specs.Words.{kind_word}
use Rattle.fluid_types.specs.declared.fault.Field.{Field}
use Rattle.fluid_types.specs.declared.fault.Field.TheVariants as field
use Rattle.fluid_types.specs.declared.entries.Raw.{Raw}
use Rattle.fluid_types.specs.declared.entries.Raw.TheVariants.{Join, Leave, Submit, Report}
use Rattle.fluid_types.specs.declared.messages.Kind.{Kind}
use Rattle.fluid_types.specs.declared.messages.Kind.TheVariants as kind
use Rattle.fluid_types.specs.declared.messages.Message.{Message}
use Rattle.fluid_rules.specs.declared.answers.SummaryRule.{SummaryRule}
use Rattle.fluid_rules.specs.declared.answers.SummaryRule.TheVariants.{Malformed, StaleHead, OldReference, Missing}
use Rattle.fluid_rules.specs.declared.answers.Answer.{Answer}
use Rattle.fluid_rules.specs.declared.answers.Answer.TheVariants.{Dropped, Ack, Refused}
use Rattle.fluid_rules.specs.Scribe.{reported, rule_text, proposal_tree, ack_contents, refusal_contents}
use Rattle.fluid_rules.specs.Scribe.{answer as answer_by_rules}
use Rattle.fluid_rules.specs.Rules.{join_data, answer_message, unsettled, settled, message}
use Rattle.fluid_rules.proofs.Verdicts.{some_message}
use Rattle.fluid_codec.specs.Laws.{IsNested, IsReference, IsInGrammar, IsMessage}
use Rattle.fluid_codec.proofs.Spelled.{records_are_spelled}
use Rattle.fluid_codec.proofs.Steps.{T_true}
use Rattle.fluid_readback.proofs.Fitting.{fits_in_grammar}
use Rattle.fluid_loader.proofs.Spoken.{found}

-- ---- names and words

abbrev all_low : List ℕ → Bool
all_low [] = true
all_low (b ∷ bs) = leb b 127 && all_low bs

low_ascii : (bs : List ℕ) → all_low bs ≡ true → IsAscii bs
low_ascii [] h = IsAscii-nil
low_ascii (b ∷ bs) h = let parts = and_parts (leb b 127) (all_low bs) h in let low : b ≤ 127 = leb-true b 127 parts.0 in IsAscii-cons b bs (omega (arith, low)) (low_ascii bs parts.1)

utf8 : (bytes : List ℕ) → all_low bytes ≡ true → IsUtf8 bytes
utf8 bytes is = IsUtf8-from_ascii bytes (low_ascii bytes is)

client_id : IsUtf8 (name_of field.ClientId)
unfolding name_of
client_id = utf8 (name_of field.ClientId) refl

client_number : IsUtf8 (name_of field.ClientSequenceNumber)
unfolding name_of
client_number = utf8 (name_of field.ClientSequenceNumber) refl

contents : IsUtf8 (name_of field.Contents)
unfolding name_of
contents = utf8 (name_of field.Contents) refl

system_data : IsUtf8 (name_of field.Data)
unfolding name_of
system_data = utf8 (name_of field.Data) refl

metadata : IsUtf8 (name_of field.Metadata)
unfolding name_of
metadata = utf8 (name_of field.Metadata) refl

minimum : IsUtf8 (name_of field.MinimumSequenceNumber)
unfolding name_of
minimum = utf8 (name_of field.MinimumSequenceNumber) refl

reference : IsUtf8 (name_of field.ReferenceSequenceNumber)
unfolding name_of
reference = utf8 (name_of field.ReferenceSequenceNumber) refl

number : IsUtf8 (name_of field.SequenceNumber)
unfolding name_of
number = utf8 (name_of field.SequenceNumber) refl

timestamp : IsUtf8 (name_of field.Timestamp)
unfolding name_of
timestamp = utf8 (name_of field.Timestamp) refl

kind_name : IsUtf8 (name_of field.«Type»)
unfolding name_of
kind_name = utf8 (name_of field.«Type») refl

detail_name : IsUtf8 (name_of field.Detail)
unfolding name_of
detail_name = utf8 (name_of field.Detail) refl

handle_name : IsUtf8 (name_of field.Handle)
unfolding name_of
handle_name = utf8 (name_of field.Handle) refl

proposal_name : IsUtf8 (name_of field.SummaryProposal)
unfolding name_of
proposal_name = utf8 (name_of field.SummaryProposal) refl

summary_name : IsUtf8 (name_of field.SummarySequenceNumber)
unfolding name_of
summary_name = utf8 (name_of field.SummarySequenceNumber) refl

code_name : IsUtf8 (name_of field.Code)
unfolding name_of
code_name = utf8 (name_of field.Code) refl

message_name : IsUtf8 (name_of field.Message)
unfolding name_of
message_name = utf8 (name_of field.Message) refl

kind_utf8 : (k : Kind) → IsUtf8 (kind_word k)
kind_utf8 kind.Op = utf8 (kind_word kind.Op) refl
kind_utf8 kind.Noop = utf8 (kind_word kind.Noop) refl
kind_utf8 kind.Propose = utf8 (kind_word kind.Propose) refl
kind_utf8 kind.Reject = utf8 (kind_word kind.Reject) refl
kind_utf8 kind.Summarize = utf8 (kind_word kind.Summarize) refl
kind_utf8 kind.Join = utf8 (kind_word kind.Join) refl
kind_utf8 kind.Leave = utf8 (kind_word kind.Leave) refl
kind_utf8 kind.SummaryAck = utf8 (kind_word kind.SummaryAck) refl
kind_utf8 kind.SummaryNack = utf8 (kind_word kind.SummaryNack) refl

rule_utf8 : (rule : SummaryRule) → IsUtf8 (rule_text rule)
unfolding rule_text
rule_utf8 Malformed = utf8 (rule_text Malformed) refl
rule_utf8 StaleHead = utf8 (rule_text StaleHead) refl
rule_utf8 OldReference = utf8 (rule_text OldReference) refl
rule_utf8 Missing = utf8 (rule_text Missing) refl

hex_utf8 : (bytes : List ℕ) → IsUtf8 (encode_lower bytes)
hex_utf8 bytes = IsUtf8-from_ascii (encode_lower bytes) (IsAscii-encode_with lower_digits bytes (low_ascii lower_digits refl))

-- ---- an entry

-- its name, and the texts in what it brings
abbrev IsWorded : Raw → Type 0
IsWorded (Join id scopes detail moment) = IsUtf8 id × IsText detail
IsWorded (Leave id moment) = IsUtf8 id
IsWorded (Submit id s moment) = IsUtf8 id × (IsText s.contents × IfSome s.metadata IsText)
IsWorded (Report summary found moment) = ⊤

-- the value of a member
has : (k : List ℕ) (t : Tree) (P : Tree → Type 0) → IsText t → IsSomeAnd (find k t) P → (v : Tree) × (IsText v × P v)
has k t P h is = of (find k t) refl is
  where
    of : (o : Option Tree) → find k t ≡ o → IsSomeAnd o P → (v : Tree) × (IsText v × P v)
    of None e none = absurd none
    of (Some v) e p = (v, (found k t v h e, p))

member_text : (t v : Tree) (f : Field) → IsText t → IsMember t f v → IsText v
member_text t v f h m = of (find (name_of f) t) refl m
  where
    of : (o : Option Tree) → find (name_of f) t ≡ o → MatchOption o (v ≡ null) (λ w. v ≡ w) → IsText v
    of None e m = subst IsText (sym m) tt
    of (Some w) e m = subst IsText (sym m) (found (name_of f) t w h e)

text_if_any : (k : List ℕ) (t : Tree) (o : Option Tree) → IsText t → o ≡ find k t → IfSome o IsText
text_if_any k t o h is = subst (λ x. IfSome x IsText) (sym is) (of (find k t) refl)
  where
    of : (x : Option Tree) → find k t ≡ x → IfSome x IsText
    of None e = tt
    of (Some v) e = found k t v h e

id_utf8 : (t : Tree) (id : List ℕ) → IsText t → Has t field.ClientId SpellsName id → IsUtf8 id
id_utf8 t id h its = let v = has (name_of field.ClientId) t (SpellsName id) h its in subst IsText v.1.1.spelled v.1.0

spelled_worded : (raw : Raw) (t : Tree) → IsText t → SpellsRaw raw t → IsWorded raw
spelled_worded (Join id scopes detail moment) t h s = (id_utf8 t id h s.its_id, member_text t detail field.Detail h s.its_detail)
spelled_worded (Leave id moment) t h s = id_utf8 t id h s.its_id
spelled_worded (Submit id submission moment) t h s =
    let o = has (name_of field.Operation) t (SpellsSubmission submission) h s.its_operation in (
      id_utf8 t id h s.its_id,
      (member_text o.0 submission.contents field.Contents o.1.0 o.1.1.its_contents, text_if_any (name_of field.Metadata) o.0 submission.metadata o.1.0 o.1.1.its_metadata),
    )
spelled_worded (Report summary found moment) t h s = tt

-- ---- a message

pub record IsWordedMessage (m : Message) : Type 0 where
  pub client : IfSome m.client IsUtf8
  pub contents : IsText m.contents
  pub system : IfSome m.system IsUtf8
  pub metadata : IfSome m.metadata IsText

proposal_text : (summary : ℕ) → IsText (proposal_tree summary)
proposal_text summary = (summary_name, (tt, tt))

ack_text : (summary : ℕ) (handle : List ℕ) → IsText (ack_contents summary handle)
ack_text summary handle = (handle_name, (hex_utf8 handle, (proposal_name, (proposal_text summary, tt))))

refusal_text : (summary : ℕ) (rule : SummaryRule) → IsText (refusal_contents summary rule)
refusal_text summary rule = (code_name, (tt, (message_name, (rule_utf8 rule, (proposal_name, (proposal_text summary, tt))))))

reported_text : (summary : ℕ) (a : Answer) (said : Kind × Tree) → reported summary a ≡ Some said → IsText said.1
reported_text summary Dropped said is = absurd (cc)
reported_text summary (Ack handle) said is = let same : (kind.SummaryAck, ack_contents summary handle) ≡ said = cc in subst (λ s. IsText s.1) same (ack_text summary handle)
reported_text summary (Refused rule) said is = let same : (kind.SummaryNack, refusal_contents summary rule) ≡ said = cc in subst (λ s. IsText s.1) same (refusal_text summary rule)

of_report : (o : Option (Kind × Tree)) (l : Ledger) (raw : Raw) (at moment : ℕ) (m : Message) → ((said : Kind × Tree) → o ≡ Some said → IsText said.1)
    → option_map (settled l raw) (option_map (answer_message at moment) o) ≡ Some m → IsWordedMessage m
of_report None l raw at moment m texts is = absurd (cc)
of_report (Some said) l raw at moment m texts is = subst IsWordedMessage (some_message _ m is) (record { client = tt; contents = texts said refl; system = tt; metadata = tt })

-- ---- its text

signed : (n : ℤ) → IsReference n → IsSigned n
signed (pos n) h = let few : n ≤ largest = leb-true n largest (T_true (leb n largest) h.most.le) in omega arith
signed (negsuc n) h = let few : n ≤ 0 = leb-true n 0 (T_true (leb n 0) h.least.le) in omega arith

counted : (n : ℕ) → n ≤ largest → n < 2 ^ 63
counted n h = omega arith

abbrev AreWritableRows : List Row → Type 0
AreWritableRows [] = ⊤
AreWritableRows (r ∷ rs) = IsUtf8 r.0 × (IsWritable r.1 × AreWritableRows rs)

rows_writable : (rs : List Row) → AreWritableRows rs → HasWritable (members rs)
rows_writable [] h = tt
rows_writable (r ∷ rs) h = (h.0, (h.1.0, rows_writable rs h.1.1))

writable_if_any : (f : Field) (o : Option Tree) (rs : List Row) → IsUtf8 (name_of f) → IfSome o IsWritable → AreWritableRows rs → AreWritableRows (row_if_any f o ++ rs)
writable_if_any f None rs name h more = more
writable_if_any f (Some t) rs name h more = (name, (h, more))

client_writable : (o : Option (List ℕ)) → IfSome o IsUtf8 → IsWritable (or_null text o)
client_writable None h = tt
client_writable (Some id) h = h

system_writable : (o : Option (List ℕ)) → IfSome o IsUtf8 → IfSome (option_map text o) IsWritable
system_writable None h = tt
system_writable (Some s) h = h

module _ (reads : TextsAreRead) (prints : TextsArePrinted) (writes : TextsAreWritable) where
  worded : (raw : Raw) → Fits raw → is_utf8 (raw_printed raw) ≡ true → IsWorded raw
  worded raw fits is =
      let spelled = (records_are_spelled (raw_printed raw) raw).0 fits.read_back in
      spelled_worded raw spelled.0 (reads (raw_printed raw) spelled.0 (IsUtf8-from_is_utf8 (raw_printed raw) is) spelled.1) spelled.2

  data_utf8 : (id : List ℕ) (detail : Tree) → IsUtf8 id → IsText detail → IsNested 99 detail → IsUtf8 (json.printed (join_data id detail))
  data_utf8 id detail name words nested = prints (join_data id detail) (client_id, (name, (detail_name, (writes detail nested.canonical words, tt))))

  message_worded : (l : Ledger) (raw : Raw) (m : Message) → IsInGrammar raw → IsWorded raw → message l raw ≡ Some m → IsWordedMessage m
  unfolding message unsettled
  message_worded l (Join id scopes detail moment) m grammar words is =
      subst IsWordedMessage (some_message _ m is) (record { client = tt; contents = tt; system = data_utf8 id detail words.0 words.1 grammar.nested; metadata = tt })
  message_worded l (Leave id moment) m grammar words is = subst IsWordedMessage (some_message _ m is) (record { client = tt; contents = tt; system = prints (text id) words; metadata = tt })
  message_worded l (Submit id s moment) m grammar words is =
      subst IsWordedMessage (some_message _ m is) (record { client = words.0; contents = words.1.0; system = tt; metadata = words.1.1 })
  message_worded l (Report summary found moment) m grammar words is =
      of_report (reported summary (answer_by_rules (order l) summary found)) l (Report summary found moment) (seq l + 1) moment m
      (λ said e. reported_text summary (answer_by_rules (order l) summary found) said e) is

  metadata_writable : (o : Option Tree) → IfSome o (IsNested 99) → IfSome o IsText → IfSome o IsWritable
  metadata_writable None h k = tt
  metadata_writable (Some t) h k = writes t h.canonical k

  rows_are_writable : (m : Message) → IsMessage m → IsWordedMessage m → AreWritableRows (message_rows m)
  unfolding message_rows
  rows_are_writable m is words = (
    client_id,
    (
      client_writable m.client words.client,
      (
        client_number,
        (
          signed m.client_number is.client_number,
          (
            contents,
            (
              writes m.contents is.contents.canonical words.contents,
              writable_if_any field.Data (option_map text m.system) _ system_data (system_writable m.system words.system) (
                  writable_if_any field.Metadata m.metadata _ metadata (metadata_writable m.metadata is.metadata words.metadata) (
                    minimum,
                    (
                      counted m.minimum is.minimum,
                      (
                        reference,
                        (
                          signed m.reference is.reference,
                          (number, (counted m.number is.number, (timestamp, (counted m.moment is.moment, (kind_name, (kind_utf8 m.kind, tt)))))),
                        ),
                      ),
                    ),
                  )),
            ),
          ),
        ),
      ),
    ),
  )

  -- the message of an entry that a log takes
  pub message_utf8 : (l : Ledger) (raw : Raw) (m : Message) → Fits raw → is_utf8 (raw_printed raw) ≡ true → IsMessage m → message l raw ≡ Some m → IsUtf8 (message_printed m)
  message_utf8 l raw m fits is grammar said =
      prints (message_tree m) (rows_writable (message_rows m) (rows_are_writable m grammar (message_worded l raw m (fits_in_grammar raw fits) (worded raw fits is) said)))
