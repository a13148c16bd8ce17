-- What the verdict on a submission tells, read from its table of cases.
use Rattle.std.proofs.Common.{◌≡◌, ℕ, ◌+◌, ◌≤◌, zero, suc, ℤ, pos, negsuc, Bool, true, false, not, ◌&&◌, List, [], ◌∷◌, refl, sym, ◌∙◌, ap, ◌⊎◌, inl, inr, arith, int_lt, if◌then◌else◌, Option, Some, None, option_map}
use Rattle.std.proofs.lemmas.Bool.{ltb-false}
use Rattle.fluid_types.specs.declared.entries.Raw.{Raw}
use Rattle.fluid_types.specs.declared.entries.Raw.TheVariants.{Join, Leave, Submit, Report}
use Rattle.fluid_types.specs.declared.entries.Submission.{Submission}
use Rattle.fluid_types.specs.declared.nacks.Nack.{Nack}
use Rattle.fluid_types.specs.declared.nacks.NackRule.{NackRule}
use Rattle.fluid_types.specs.declared.nacks.NackRule.TheVariants.{Gap, Nonexistent, Below, Ahead, Scope}
use Rattle.fluid_json.specs.Tree.{Tree}
use Rattle.fluid_types.specs.declared.messages.Kind.{Kind}
use Rattle.fluid_types.specs.declared.messages.Message.{Message}
use Rattle.fluid_types.specs.declared.verdicts.Verdict.{Verdict}
use Rattle.fluid_types.specs.declared.verdicts.Verdict.TheVariants.{Sequenced, Nacked, Dropped, Absorbed}
use Rattle.fluid_types.specs.Ledger.{Ledger, order, seq}
use Rattle.fluid_rules.specs.Past.{is_below, count_of, read_as}
use Rattle.fluid_rules.specs.Scribe.{answer, reported}
use Rattle.fluid_rules.specs.declared.answers.Answer.{Answer}
use Rattle.fluid_rules.specs.Rules.{first_case, leaves_reference, minimum, answer_message, unsettled, settled, message, sequenced, nack, is_duplicate, leaves_gap, is_nonexistent, is_below_minimum, is_ahead, lacks_scope, is_absorbed, submission_verdict, is_joined, verdict}

-- a submission that no rule refuses: none of the six cases before fits
abbrev Chain : Bool → Bool → Bool → Bool → Bool → Bool → Bool → Verdict → Verdict → Verdict → Verdict → Verdict → Verdict → Verdict
Chain one two three four five six seven gap nonexistent below ahead scope last =
    first_case
    ((one, Dropped) ∷ (two, gap) ∷ (three, nonexistent) ∷ (four, below) ∷ (five, ahead) ∷ (six, scope) ∷ (seven, Absorbed) ∷ []) last

record NoCase (one two three four five six : Bool) : Type 0 where
  pub one_not : one ≡ false
  pub two_not : two ≡ false
  pub three_not : three ≡ false
  pub four_not : four ≡ false
  pub five_not : five ≡ false
  pub six_not : six ≡ false

no_case : NoCase false false false false false false
no_case = record { one_not = refl; two_not = refl; three_not = refl; four_not = refl; five_not = refl; six_not = refl }

pub some_message : (x m : Message) → Some x ≡ Some m → x ≡ m
some_message x m h = cc

-- what is sequenced is a message
pub sequenced-some : (o : Option Message) (m : Message) → sequenced o ≡ Sequenced m → o ≡ Some m
sequenced-some None m h = absurd (cc)
sequenced-some (Some x) m h = cc

pub not_nacked : (o : Option Message) (n : Nack) → sequenced o ≡ Nacked n → ⊥
not_nacked None n h = cc
not_nacked (Some x) n h = cc

pub not_absorbed : (o : Option Message) → sequenced o ≡ Absorbed → ⊥
not_absorbed None h = cc
not_absorbed (Some x) h = cc

sequenced_case : (one two three four five six seven : Bool) (gap nonexistent below ahead scope : Nack) (last : Option Message) (m : Message) →
    Sequenced m ≡ Chain one two three four five six seven (Nacked gap) (Nacked nonexistent) (Nacked below) (Nacked ahead) (Nacked scope) (sequenced last) →
    (last ≡ Some m) × NoCase one two three four five six
sequenced_case true two three four five six seven gap nonexistent below ahead scope last m h = absurd (cc)
sequenced_case false true three four five six seven gap nonexistent below ahead scope last m h = absurd (cc)
sequenced_case false false true four five six seven gap nonexistent below ahead scope last m h = absurd (cc)
sequenced_case false false false true five six seven gap nonexistent below ahead scope last m h = absurd (cc)
sequenced_case false false false false true six seven gap nonexistent below ahead scope last m h = absurd (cc)
sequenced_case false false false false false true seven gap nonexistent below ahead scope last m h = absurd (cc)
sequenced_case false false false false false false true gap nonexistent below ahead scope last m h = absurd (cc)
sequenced_case false false false false false false false gap nonexistent below ahead scope last m h = (sequenced-some last m (sym h), no_case)

absorbed_case : (one two three four five six seven : Bool) (gap nonexistent below ahead scope : Nack) (last : Option Message) →
    Absorbed ≡ Chain one two three four five six seven (Nacked gap) (Nacked nonexistent) (Nacked below) (Nacked ahead) (Nacked scope) (sequenced last) →
    NoCase one two three four five six
absorbed_case true two three four five six seven gap nonexistent below ahead scope last h = absurd (cc)
absorbed_case false true three four five six seven gap nonexistent below ahead scope last h = absurd (cc)
absorbed_case false false true four five six seven gap nonexistent below ahead scope last h = absurd (cc)
absorbed_case false false false true five six seven gap nonexistent below ahead scope last h = absurd (cc)
absorbed_case false false false false true six seven gap nonexistent below ahead scope last h = absurd (cc)
absorbed_case false false false false false true seven gap nonexistent below ahead scope last h = absurd (cc)
absorbed_case false false false false false false seven gap nonexistent below ahead scope last h = no_case

-- a nack: one of the five, and where it is below the minimum, the three cases before don't fit
nacked_case : (one two three four five six seven : Bool) (gap nonexistent below ahead scope : Nack) (last : Option Message) (n : Nack) →
    Nacked n ≡ Chain one two three four five six seven (Nacked gap) (Nacked nonexistent) (Nacked below) (Nacked ahead) (Nacked scope) (sequenced last) →
    (n ≡ gap) ⊎ ((n ≡ nonexistent) ⊎ (((n ≡ below) × (three ≡ false)) ⊎ ((n ≡ ahead) ⊎ (n ≡ scope))))
nacked_case true two three four five six seven gap nonexistent below ahead scope last n h = absurd (cc)
nacked_case false true three four five six seven gap nonexistent below ahead scope last n h = inl (cc)
nacked_case false false true four five six seven gap nonexistent below ahead scope last n h = inr (inl (cc))
nacked_case false false false true five six seven gap nonexistent below ahead scope last n h = inr (inr (inl (cc, refl)))
nacked_case false false false false true six seven gap nonexistent below ahead scope last n h = inr (inr (inr (inl (cc))))
nacked_case false false false false false true seven gap nonexistent below ahead scope last n h = inr (inr (inr (inr (cc))))
nacked_case false false false false false false true gap nonexistent below ahead scope last n h = absurd (cc)
nacked_case false false false false false false false gap nonexistent below ahead scope last n h = absurd (not_nacked last n (sym h))

-- ---- the verdict on a submission

-- no rule refuses it
pub record Passes (ledger : Ledger) (c : List ℕ) (submission : Submission) : Type 0 where
  pub no_duplicate : is_duplicate ledger c submission ≡ false
  pub no_gap : leaves_gap ledger c submission ≡ false
  pub in_order : is_nonexistent ledger c ≡ false
  pub not_below : is_below_minimum ledger submission ≡ false
  pub not_ahead : is_ahead ledger submission ≡ false

passes : (ledger : Ledger) (c : List ℕ) (submission : Submission) →
    NoCase (is_duplicate ledger c submission) (leaves_gap ledger c submission) (is_nonexistent ledger c) (is_below_minimum ledger submission) (is_ahead ledger submission) (lacks_scope ledger c submission) →
    Passes ledger c submission
passes ledger c submission none =
    record { no_duplicate = none.one_not; no_gap = none.two_not; in_order = none.three_not; not_below = none.four_not; not_ahead = none.five_not }

pub record WasSequenced (ledger : Ledger) (c : List ℕ) (submission : Submission) (moment : ℕ) (m : Message) : Type 0 where
  pub is_message : message ledger (Submit c submission moment) ≡ Some m
  pub passes : Passes ledger c submission

pub sequenced-was : (ledger : Ledger) (c : List ℕ) (submission : Submission) (moment : ℕ) (m : Message) →
    Sequenced m ≡ submission_verdict ledger c submission moment → WasSequenced ledger c submission moment m
unfolding submission_verdict nack
sequenced-was ledger c submission moment m h =
    let found =
    sequenced_case (is_duplicate ledger c submission) (leaves_gap ledger c submission) (is_nonexistent ledger c) (is_below_minimum ledger submission) (is_ahead ledger submission) (lacks_scope ledger c submission)
    (is_absorbed ledger c submission) (nack ledger submission Gap) (nack ledger submission Nonexistent) (nack ledger submission Below) (nack ledger submission Ahead) (nack ledger submission Scope)
    (message ledger (Submit c submission moment)) m h in
    record { is_message = found.0; passes = passes ledger c submission found.1 }

pub absorbed-was : (ledger : Ledger) (c : List ℕ) (submission : Submission) (moment : ℕ) →
    Absorbed ≡ submission_verdict ledger c submission moment → Passes ledger c submission
unfolding submission_verdict nack
absorbed-was ledger c submission moment h =
    passes ledger c submission
    (absorbed_case (is_duplicate ledger c submission) (leaves_gap ledger c submission) (is_nonexistent ledger c) (is_below_minimum ledger submission) (is_ahead ledger submission) (lacks_scope ledger c submission)
    (is_absorbed ledger c submission) (nack ledger submission Gap) (nack ledger submission Nonexistent) (nack ledger submission Below) (nack ledger submission Ahead) (nack ledger submission Scope)
    (message ledger (Submit c submission moment)) h)

joined_message : (b : Bool) (o : Option Message) (m : Message) → (if b then Dropped else sequenced o) ≡ Sequenced m → o ≡ Some m
joined_message true o m is = absurd (cc)
joined_message false o m is = sequenced-some o m is

left_message : (b : Bool) (o : Option Message) (m : Message) → (if b then sequenced o else Dropped) ≡ Sequenced m → o ≡ Some m
left_message true o m is = sequenced-some o m is
left_message false o m is = absurd (cc)

-- a verdict that is a message is the message of its entry
pub verdict-is_message : (ledger : Ledger) (raw : Raw) (m : Message) → verdict ledger raw ≡ Sequenced m → message ledger raw ≡ Some m
unfolding verdict
verdict-is_message ledger (Join id scopes detail moment) m is = joined_message (is_joined ledger id) _ m is
verdict-is_message ledger (Leave id moment) m is = left_message (is_joined ledger id) _ m is
verdict-is_message ledger (Submit id submission moment) m is = (sequenced-was ledger id submission moment m (sym is)).is_message
verdict-is_message ledger (Report summary found moment) m is = sequenced-some _ m is

-- ---- its number is the next

answered_number : (number moment : ℕ) (said : Option (Kind × Tree)) (m : Message) → option_map (answer_message number moment) said ≡ Some m → m.number ≡ number
answered_number number moment None m is = absurd (cc)
answered_number number moment (Some said) m is = sym (ap (λ (x : Message). x.number) (some_message _ m is))

pub unsettled-number : (number : ℕ) (answers : ℕ → Bool → Answer) (raw : Raw) (m : Message) → unsettled number answers raw ≡ Some m → m.number ≡ number
unfolding unsettled
unsettled-number number answers (Join id scopes detail moment) m is = sym (ap (λ (x : Message). x.number) (some_message _ m is))
unsettled-number number answers (Leave id moment) m is = sym (ap (λ (x : Message). x.number) (some_message _ m is))
unsettled-number number answers (Submit id submission moment) m is = sym (ap (λ (x : Message). x.number) (some_message _ m is))
unsettled-number number answers (Report summary found moment) m is = answered_number number moment (reported summary (answers summary found)) m is

settled_number : (ledger : Ledger) (raw : Raw) (number : ℕ) (o : Option Message) (m : Message) → ((x : Message) → o ≡ Some x → x.number ≡ number) →
    option_map (settled ledger raw) o ≡ Some m → m.number ≡ number
settled_number ledger raw number None m at is = absurd (cc)
settled_number ledger raw number (Some x) m at is = sym (ap (λ (y : Message). y.number) (some_message _ m is)) ∙ at x refl

pub message-number : (ledger : Ledger) (raw : Raw) (m : Message) → message ledger raw ≡ Some m → m.number ≡ seq ledger + 1
unfolding message
message-number ledger raw m is =
    settled_number ledger raw (seq ledger + 1) (unsettled (seq ledger + 1) (answer (order ledger)) raw) m
    (unsettled-number (seq ledger + 1) (answer (order ledger)) raw) is

pub record WasNacked (ledger : Ledger) (c : List ℕ) (n : Nack) : Type 0 where
  pub minimum_is : n.minimum ≡ pos (minimum ledger)
  pub was_in_order : is_below n.rule ≡ true → is_nonexistent ledger c ≡ false

nacked_of : (ledger : Ledger) (c : List ℕ) (submission : Submission) (rule : NackRule) (n : Nack) → is_below rule ≡ false →
    n ≡ nack ledger submission rule → WasNacked ledger c n
unfolding nack
nacked_of ledger c submission rule n other h = record {
  minimum_is = ap (λ n. n.minimum) h;
  was_in_order = λ below. absurd (let no : true ≡ false = sym below ∙ ap (λ n. is_below n.rule) h ∙ other in cc);
}

pub nacked-was : (ledger : Ledger) (c : List ℕ) (submission : Submission) (moment : ℕ) (n : Nack) →
    Nacked n ≡ submission_verdict ledger c submission moment → WasNacked ledger c n
unfolding submission_verdict nack
nacked-was ledger c submission moment n h =
    elim
    (nacked_case (is_duplicate ledger c submission) (leaves_gap ledger c submission) (is_nonexistent ledger c) (is_below_minimum ledger submission) (is_ahead ledger submission) (lacks_scope ledger c submission)
    (is_absorbed ledger c submission) (nack ledger submission Gap) (nack ledger submission Nonexistent) (nack ledger submission Below) (nack ledger submission Ahead) (nack ledger submission Scope)
    (message ledger (Submit c submission moment)) n h) [
      | inl gap ↦ nacked_of ledger c submission Gap n refl gap
      | inr more ↦ elim more [
        | inl nonexistent ↦ nacked_of ledger c submission Nonexistent n refl nonexistent
        | inr more ↦ elim more [
          | inl below ↦ record { minimum_is = ap (λ n. n.minimum) below.0; was_in_order = λ _. below.1 }
          | inr more ↦ elim more [
            | inl ahead ↦ nacked_of ledger c submission Ahead n refl ahead
            | inr scope ↦ nacked_of ledger c submission Scope n refl scope
          ]
        ]
      ]
    ]

-- ---- the reference in the message of a sequenced submission

referenced : (reference : ℤ) (least sequence number : ℕ) → least ≤ sequence → number ≡ sequence + 1 →
    (not (leaves_reference reference) && int_lt reference (pos least)) ≡ false → int_lt (pos sequence) reference ≡ false →
    (least ≤ count_of (if leaves_reference reference then pos number else reference))
    × (count_of (if leaves_reference reference then pos number else reference) ≤ number)
referenced (pos n) least sequence number h at below ahead =
    let low : least ≤ n = ltb-false n least below in
    let most : n ≤ sequence = ltb-false sequence n ahead in
    (low, omega arith)
referenced (negsuc zero) least sequence number h at below ahead = (omega arith, omega arith)
referenced (negsuc (suc n)) least sequence number h at below ahead = absurd (cc)

-- it isn't below the minimum, and at most the message's number
pub reference-within : (ledger : Ledger) (c : List ℕ) (submission : Submission) (moment : ℕ) (m : Message) → minimum ledger ≤ seq ledger →
    WasSequenced ledger c submission moment m → (minimum ledger ≤ count_of m.reference) × (count_of m.reference ≤ seq ledger + 1)
unfolding message unsettled
reference-within ledger c submission moment m h was =
    let within = referenced submission.reference (minimum ledger) (seq ledger) (seq ledger + 1) h refl was.passes.not_below was.passes.not_ahead in
    rw (sym (some_message _ m was.is_message)) within

-- where -1 is read as the last sequence number, it is at most that
read_within : (reference : ℤ) (least sequence : ℕ) → least ≤ sequence →
    (not (leaves_reference reference) && int_lt reference (pos least)) ≡ false → int_lt (pos sequence) reference ≡ false →
    (least ≤ read_as sequence reference) × (read_as sequence reference ≤ sequence)
read_within (pos n) least sequence h below ahead = (ltb-false n least below, ltb-false sequence n ahead)
read_within (negsuc zero) least sequence h below ahead = (h, omega arith)
read_within (negsuc (suc n)) least sequence h below ahead = absurd (cc)

pub read-within : (ledger : Ledger) (c : List ℕ) (submission : Submission) → minimum ledger ≤ seq ledger → Passes ledger c submission →
    (minimum ledger ≤ read_as (seq ledger) submission.reference) × (read_as (seq ledger) submission.reference ≤ seq ledger)
read-within ledger c submission h was = read_within submission.reference (minimum ledger) (seq ledger) h was.not_below was.not_ahead

-- the message has the reference that the submission has, with -1 read as its own number
referring : (number : ℕ) (reference : ℤ) → count_of (if leaves_reference reference then pos number else reference) ≡ read_as number reference
referring number (pos n) = refl
referring number (negsuc zero) = refl
referring number (negsuc (suc n)) = refl

pub message-reference : (ledger : Ledger) (c : List ℕ) (submission : Submission) (moment : ℕ) (m : Message) → message ledger (Submit c submission moment) ≡ Some m →
    count_of m.reference ≡ read_as m.number submission.reference
unfolding message unsettled
message-reference ledger c submission moment m is = rw (sym (some_message _ m is)) (referring (seq ledger + 1) submission.reference)
