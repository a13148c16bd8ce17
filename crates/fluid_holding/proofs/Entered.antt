-- What entries leave of a container: those of others, and its client's next submission.
use Rattle.std.proofs.Common.{◌≡◌, ◌⊎◌, inl, inr, ℕ, ◌+◌, ◌<◌, ◌≤◌, arith, pos, Bool, true, false, cond, not, ◌&&◌, ◌||◌, if◌then◌else◌, int_lt, List, [], ◌∷◌, ◌++◌, drop, bytes_eq, Option, Some, None, IfSome, option_map, refl, sym, ap, subst, ◌∙◌, append_assoc, append-nil}
use Rattle.std.specs.Prelude.{All, count_by, nat_le}
use Rattle.std.proofs.lemmas.Bool.{leb-true, ltb-true}
use Rattle.std.proofs.lemmas.List.{drop-append-le}
use Rattle.std.proofs.lemmas.List.Elements.{All-head, All-tail, All-cons, All-nil}
use Rattle.std.proofs.lemmas.List.Sums.{sum_by-append, sum_by-cons}
use Rattle.std.proofs.lemmas.Slice.Eq.{bytes_eq-Decides}
use Rattle.fluid_types.specs.Ledger.{Ledger, seq}
use Rattle.fluid_types.specs.declared.entries.Raw.{Raw}
use Rattle.fluid_types.specs.declared.entries.Raw.TheVariants.{Join, Leave, Submit, Report}
use Rattle.fluid_types.specs.declared.entries.Submission.{Submission}
use Rattle.fluid_types.specs.declared.messages.Message.{Message}
use Rattle.fluid_types.specs.declared.nacks.Nack.{Nack}
use Rattle.fluid_types.specs.declared.nacks.NackRule.{NackRule}
use Rattle.fluid_types.specs.declared.nacks.NackRule.TheVariants.{Gap, Nonexistent, Below, Ahead, Scope}
use Rattle.fluid_types.specs.declared.verdicts.Verdict.{Verdict}
use Rattle.fluid_types.specs.declared.verdicts.Verdict.TheVariants.{Sequenced, Nacked, Dropped, Absorbed}
use Rattle.fluid_rules.specs.Past.{Client, Entry, is_below, is_sequenced, client_behind, client_heard, client_submitting, count_of, read_as}
use Rattle.fluid_rules.specs.Laws.{IsTaken}
use Rattle.fluid_rules.specs.Rules.{client, is_joined, last_number, reference, minimum, verdict, submission_verdict, nack, message, unsettled, sequenced, first_case, leaves_reference, is_duplicate, leaves_gap, is_nonexistent, is_below_minimum, is_ahead, lacks_scope, is_absorbed}
use Rattle.fluid_rules.proofs.Clients.{client-joined, client-stranger}
use Rattle.fluid_rules.proofs.Minimum.{minimum-is_least}
use Rattle.fluid_rules.proofs.Legal.{legal-last}
use Rattle.fluid_rules.proofs.Pushed.{client-push}
use Rattle.fluid_rules.proofs.Taken.{sequenced-taken, absorbed-taken}
use Rattle.fluid_rules.proofs.Verdicts.{nacked-was}
use Rattle.fluid_loader.specs.Calls.{counted}
use Rattle.fluid_loader.specs.Container.{AContainer}
use Rattle.fluid_transcript.specs.World.{Container}
use Rattle.fluid_transcript.specs.Containers.{id_of, channels, head, last, is_taken, is_taken_from, is_submission_of}
use Rattle.fluid_transcript.specs.Laws.{ContainersStay}
use Rattle.fluid_holding.specs.Holding.{IsContainerOf, IsWithin, is_made_by}
use Rattle.fluid_holding.specs.Laws.{Stands, OthersLeave, SubmittedAs, SubmitsAsDefined}

-- ---- what is said of a client

-- no more than these
abbrev Said : ℕ → ℕ → Option Client → Type 0
Said last number o = IfSome o (IsWithin last number)

heard_said : (last number moment : ℕ) (o : Option Client) → Said last number o → Said last number (option_map (client_heard moment) o)
heard_said last number moment None h = tt
heard_said last number moment (Some said) h = record { last_within = h.last_within; reference_within = h.reference_within }

module _ (last number : ℕ) (l : Ledger) (own : List ℕ) where
  -- an entry that isn't the client's own
  left_by : (b : Bool) (id : List ℕ) (moment : ℕ) (v : Bool) (o : Option Client) → Said last number o
      → Said last number (if b then (if v then None else option_map (client_heard moment) o) else o)
  left_by true id moment true o h = tt
  left_by true id moment false o h = heard_said last number moment o h
  left_by false id moment v o h = h

  other_said : (raw : Raw) (v : Verdict) → is_made_by own raw ≡ false → (o : Option Client) → Said last number o → Said last number (client_behind (raw, v) (seq l) (minimum l) own o)
  other_said (Join id scopes detail moment) v no_own o h =
      subst (λ b. Said last number (if b then (if is_sequenced v then Some (record { last = 0; reference = minimum l; nacked = false; scopes = scopes; heard = moment }) else option_map (client_heard moment) o) else o)) (sym no_own) h
  other_said (Leave id moment) v no_own o h = left_by (bytes_eq id own) id moment (is_sequenced v) o h
  other_said (Submit id submission moment) v no_own o h =
      subst (λ b. Said last number (if b then option_map (λ said. client_heard moment (client_submitting (seq l) submission v said)) o else o)) (sym no_own) h
  other_said (Report summary found moment) v no_own o h = h

others_said : (last number : ℕ) (own : List ℕ) (l more : Ledger) → All (λ entry. is_made_by own entry.0 ≡ false) more → Said last number (client l own) → Said last number (client (l ++ more) own)
others_said last number own l [] all h = subst (λ m. Said last number (client m own)) (sym (append-nil l)) h
others_said last number own l (entry ∷ more) all h =
    subst (λ m. Said last number (client m own)) (append_assoc l (entry ∷ []) more)
    (others_said last number own (l ++ entry ∷ []) more (All-tail (λ e. is_made_by own e.0 ≡ false) entry more all)
    (subst (Said last number) (sym (client-push l entry own)) (other_said last number l own entry.0 entry.1 (All-head (λ e. is_made_by own e.0 ≡ false) entry more all) (client l own) h)))

-- ---- entries of others

no_submission : (own : List ℕ) (raw : Raw) → is_made_by own raw ≡ false → is_submission_of own raw ≡ false
no_submission own (Join id scopes detail moment) is = refl
no_submission own (Leave id moment) is = refl
no_submission own (Submit id submission moment) is = is
no_submission own (Report summary found moment) is = refl

none_submitted : (own : List ℕ) (more : Ledger) → All (λ entry. is_made_by own entry.0 ≡ false) more → All (λ entry. is_submission_of own entry.0 ≡ false) more
none_submitted own [] all = All-nil (λ (e : Entry). is_submission_of own e.0 ≡ false)
none_submitted own (e ∷ more) all =
    All-cons (λ (x : Entry). is_submission_of own x.0 ≡ false) e more (no_submission own e.0 (All-head (λ (x : Entry). is_made_by own x.0 ≡ false) e more all))
    (none_submitted own more (All-tail (λ (x : Entry). is_made_by own x.0 ≡ false) e more all))

module _ (stay : ContainersStay) where
  pub others_leave : OthersLeave
  others_leave l more own c k stands all is =
      let same = stay k l more stands.number stands.entries in
      record {
        client_is = is.client_is;
        number = is.number;
        channels_are = is.channels_are ∙ sym same.channels;
        pending = is.pending;
        last_is = is.last_is ∙ sym (same.last (subst (λ id. All (λ entry. is_submission_of id entry.0 ≡ false) more) is.client_is (none_submitted own more all)));
        head_is = is.head_is ∙ sym same.head;
        known = others_said c.last c.number own l more all is.known;
      }

-- ---- its own submission: the cases of its verdict

abbrev Chain : Bool → Bool → Bool → Bool → Bool → Bool → Bool → Verdict → Verdict → Verdict → Verdict → Verdict → Verdict → Verdict
Chain one two three four five six seven gap nonexistent below ahead scope last =
    first_case
    ((one, Dropped) ∷ (two, gap) ∷ (three, nonexistent) ∷ (four, below) ∷ (five, ahead) ∷ (six, scope) ∷ (seven, Absorbed) ∷ []) last

none_dropped : (o : Option Message) → Dropped ≡ sequenced o → o ≡ None
none_dropped None is = refl
none_dropped (Some m) is = absurd (cc)

dropped_case : (one two three four five six seven : Bool) (gap nonexistent below ahead scope : Nack) (last : Option Message)
    → Dropped ≡ Chain one two three four five six seven (Nacked gap) (Nacked nonexistent) (Nacked below) (Nacked ahead) (Nacked scope) (sequenced last) → (one ≡ true) ⊎ (last ≡ None)
dropped_case true two three four five six seven gap nonexistent below ahead scope last h = inl refl
dropped_case false true three four five six seven gap nonexistent below ahead scope last h = absurd (cc)
dropped_case false false true four five six seven gap nonexistent below ahead scope last h = absurd (cc)
dropped_case false false false true five six seven gap nonexistent below ahead scope last h = absurd (cc)
dropped_case false false false false true six seven gap nonexistent below ahead scope last h = absurd (cc)
dropped_case false false false false false true seven gap nonexistent below ahead scope last h = absurd (cc)
dropped_case false false false false false false true gap nonexistent below ahead scope last h = absurd (cc)
dropped_case false false false false false false false gap nonexistent below ahead scope last h = inr (none_dropped last h)

same_nack : (a b : Nack) → Nacked a ≡ Nacked b → a ≡ b
same_nack a b is = cc

apart : true ≡ false → ⊥
apart same = cc

not_that : (a b : Nack) → Nacked a ≡ Nacked b → is_below a.rule ≡ true → is_below b.rule ≡ false → ⊥
not_that a b same one other = apart (sym one ∙ ap (λ (n : Nack). is_below n.rule) (same_nack a b same) ∙ other)

no_message : (o : Option Message) (n : Nack) → Nacked n ≡ sequenced o → ⊥
no_message None n is = cc
no_message (Some m) n is = cc

no_absorbed : (n : Nack) → Nacked n ≡ Absorbed → ⊥
no_absorbed n is = cc

no_dropped : (n : Nack) → Nacked n ≡ Dropped → ⊥
no_dropped n is = cc

below_case : (one two three four five six seven : Bool) (gap nonexistent below ahead scope : Nack) (last : Option Message) (n : Nack) → is_below gap.rule ≡ false → is_below nonexistent.rule ≡ false
    → is_below ahead.rule ≡ false → is_below scope.rule ≡ false
    → Nacked n ≡ Chain one two three four five six seven (Nacked gap) (Nacked nonexistent) (Nacked below) (Nacked ahead) (Nacked scope) (sequenced last) → is_below n.rule ≡ true → four ≡ true
below_case true two three four five six seven gap nonexistent below ahead scope last n g e a s h is = absurd (no_dropped n h)
below_case false true three four five six seven gap nonexistent below ahead scope last n g e a s h is = absurd (not_that n gap h is g)
below_case false false true four five six seven gap nonexistent below ahead scope last n g e a s h is = absurd (not_that n nonexistent h is e)
below_case false false false true five six seven gap nonexistent below ahead scope last n g e a s h is = refl
below_case false false false false true six seven gap nonexistent below ahead scope last n g e a s h is = absurd (not_that n ahead h is a)
below_case false false false false false true seven gap nonexistent below ahead scope last n g e a s h is = absurd (not_that n scope h is s)
below_case false false false false false false true gap nonexistent below ahead scope last n g e a s h is = absurd (no_absorbed n h)
below_case false false false false false false false gap nonexistent below ahead scope last n g e a s h is = absurd (no_message last n h)

both_of : (a b : Bool) → (a && b) ≡ true → (a ≡ true) × (b ≡ true)
both_of true b is = (refl, is)
both_of false b is = absurd (apart (sym is))

joined_if : (a b : Bool) → (not a || b) ≡ false → a ≡ true
joined_if true b is = refl
joined_if false b is = absurd (apart is)

some_message : (m : Message) → Some m ≡ None → ⊥
some_message m is = cc

module _ (l : Ledger) (own : List ℕ) (s : Submission) (moment : ℕ) (last number : ℕ) (known : Said last number (client l own)) (next : s.client_number ≡ last + 1) (at : s.reference ≡ pos number) where
  said_joined : is_joined l own ≡ true → (last_number l own ≤ last) × (reference l own ≤ number)
  said_joined joined = let h = subst (Said last number) (client-joined l own joined) known in (h.last_within, h.reference_within)

  has_message : message l (Submit own s moment) ≡ None → ⊥
  unfolding message unsettled
  has_message is = some_message _ is

  -- it isn't one that came before
  never_dropped : Dropped ≡ submission_verdict l own s moment → ⊥
  unfolding submission_verdict
  never_dropped is =
      by (dropped_case (is_duplicate l own s) (leaves_gap l own s) (is_nonexistent l own) (is_below_minimum l s) (is_ahead l s) (lacks_scope l own s) (is_absorbed l own s)
      (nack l s Gap) (nack l s Nonexistent) (nack l s Below) (nack l s Ahead) (nack l s Scope) (message l (Submit own s moment)) is)
    where
      by : (is_duplicate l own s ≡ true) ⊎ (message l (Submit own s moment) ≡ None) → ⊥
      by (inr none) = has_message none
      by (inl old) =
          let parts = both_of (is_joined l own) (nat_le s.client_number (last_number l own)) old in
          let le : s.client_number ≤ last_number l own = leb-true s.client_number (last_number l own) parts.1 in
          omega (arith, le, (said_joined parts.0).0, next)

  rule_is : (rule : NackRule) → is_below rule ≡ false → is_below (nack l s rule).rule ≡ false
  unfolding nack
  rule_is rule is = is

  -- and it doesn't refer below the minimum
  never_below : (n : Nack) → Nacked n ≡ submission_verdict l own s moment → is_below n.rule ≡ false
  unfolding submission_verdict
  never_below n is = by (is_below n.rule) refl
    where
      by : (b : Bool) → is_below n.rule ≡ b → b ≡ false
      by false e = refl
      by true e =
          let fits =
          below_case (is_duplicate l own s) (leaves_gap l own s) (is_nonexistent l own) (is_below_minimum l s) (is_ahead l s) (lacks_scope l own s) (is_absorbed l own s)
          (nack l s Gap) (nack l s Nonexistent) (nack l s Below) (nack l s Ahead) (nack l s Scope) (message l (Submit own s moment)) n
          (rule_is Gap refl) (rule_is Nonexistent refl) (rule_is Ahead refl) (rule_is Scope refl) is e in
          let joined = joined_if (is_joined l own) _ ((nacked-was l own s moment n is).was_in_order e) in
          let low = both_of (not (leaves_reference s.reference)) (int_lt s.reference (pos (minimum l))) fits in
          let lt : int_lt (pos number) (pos (minimum l)) ≡ true = subst (λ r. int_lt r (pos (minimum l)) ≡ true) at low.1 in
          let less : number < minimum l = ltb-true number (minimum l) lt in
          let least : minimum l ≤ reference l own = (minimum-is_least l).below own _ (client-joined l own joined) in
          absurd (omega (arith, less, least, (said_joined joined).1))

-- ---- what is said of its client then

taken_said : (l after : Ledger) (own : List ℕ) (s : Submission) (taken last number : ℕ) → IsTaken l after own s taken → s.client_number ≡ last + 1 → taken ≤ number → Said (last + 1) number (client after own)
taken_said l after own s taken last number is next le = by (is_joined after own) refl
  where
    by : (b : Bool) → is_joined after own ≡ b → Said (last + 1) number (client after own)
    by true joined =
        subst (Said (last + 1) number) (sym (client-joined after own joined)) (record { last_within = omega (arith, is.counted, next); reference_within = omega (arith, is.reference_is, le) })
    by false stranger = subst (Said (last + 1) number) (sym (client-stranger after own stranger)) tt

nacked_said : (l : Ledger) (own : List ℕ) (s : Submission) (moment last number : ℕ) (n : Nack) → is_below n.rule ≡ false → Said last number (client l own)
    → Said last number (client (l ++ (Submit own s moment, Nacked n) ∷ []) own)
nacked_said l own s moment last number n no_below known = subst (Said last number) (sym (client-push l (Submit own s moment, Nacked n) own)) (by (bytes_eq own own) (client l own) known)
  where
    one : (said : Client) → IsWithin last number said
        → IsWithin last number (client_heard moment (if is_below n.rule then record said { last = s.client_number; reference = count_of n.minimum; nacked = true } else said))
    one said h =
        subst (λ b. IsWithin last number (client_heard moment (if b then record said { last = s.client_number; reference = count_of n.minimum; nacked = true } else said))) (sym no_below)
        (record { last_within = h.last_within; reference_within = h.reference_within })

    by : (b : Bool) (o : Option Client) → Said last number o
        → Said last number (if b then option_map (λ said. client_heard moment (client_submitting (seq l) s (Nacked n) said)) o else o)
    by true None h = tt
    by true (Some said) h = one said h
    by false o h = h

-- ---- and of its container

module _ (stay : ContainersStay) (l : Ledger) (own : List ℕ) (c : AContainer) (k : Container) (s : Submission) (moment : ℕ) (stands : Stands l k) (is : IsContainerOf l own c k) where
  module _ (said : Verdict) where
    abbrev entry : Entry
    entry = (Submit own s moment, said)

    own_is : bytes_eq own (id_of k) ≡ true
    own_is = (bytes_eq-Decides own (id_of k)).1 is.client_is

    last_after : (n : ℕ) → cond (is_taken said) 1 0 ≡ n → last (l ++ entry ∷ []) k ≡ c.last + n
    last_after n one =
        ap (count_by (is_taken_from (id_of k))) (drop-append-le k.entries l (entry ∷ []) stands.entries)
        ∙ sum_by-append (λ e. cond (is_taken_from (id_of k) e) 1 0) (drop k.entries l) (entry ∷ [])
        ∙ ap (λ m. last l k + m) (sum_by-cons (λ e. cond (is_taken_from (id_of k) e) 1 0) entry [])
        ∙ ap (λ b. last l k + (cond (b && is_taken said) 1 0 + 0)) own_is
        ∙ omega (arith, one, is.last_is)

    with_last : (d : AContainer) → d.number ≡ c.number → d.channels ≡ c.channels → d.pending ≡ c.pending → d.head ≡ c.head → d.last ≡ last (l ++ entry ∷ []) k → Said d.last d.number (client (l ++ entry ∷ []) own)
        → IsContainerOf (l ++ entry ∷ []) own d k
    with_last d number channels pending head last_is known =
        let same = stay k l (entry ∷ []) stands.number stands.entries in
        record {
          client_is = is.client_is;
          number = number ∙ is.number;
          channels_are = channels ∙ is.channels_are ∙ sym same.channels;
          pending = pending ∙ is.pending;
          last_is = last_is;
          head_is = head ∙ is.head_is ∙ sym same.head;
          known = known;
        }

  taken_is : (said : Verdict) → is_taken said ≡ true → Said (c.last + 1) c.number (client (l ++ (Submit own s moment, said) ∷ []) own) → IsContainerOf (l ++ (Submit own s moment, said) ∷ []) own (counted c) k
  taken_is said taken known = with_last said (counted c) refl refl refl refl (sym (last_after said 1 (ap (λ b. cond b 1 0) taken))) known

  nacked_is : (n : Nack) → Said c.last c.number (client (l ++ (Submit own s moment, Nacked n) ∷ []) own) → IsContainerOf (l ++ (Submit own s moment, Nacked n) ∷ []) own c k
  nacked_is n known = with_last (Nacked n) c refl refl refl refl (let none = last_after (Nacked n) 0 refl in omega (arith, none)) known

  module _ (next : s.client_number ≡ c.last + 1) (at : s.reference ≡ pos c.number) where
    read_at : (number : ℕ) → read_as number s.reference ≡ c.number
    read_at number = ap (read_as number) at

    said_so : (said : Verdict) → said ≡ verdict l (Submit own s moment) → SubmittedAs (l ++ (Submit own s moment, said) ∷ []) own c k said
    unfolding verdict
    said_so (Sequenced m) v =
        taken_is (Sequenced m) refl (taken_said l (l ++ (Submit own s moment, Sequenced m) ∷ []) own s (read_as m.number s.reference) c.last c.number (sequenced-taken l own s moment m (sym v)) next (omega (arith, read_at m.number)))
    said_so (Nacked n) v = nacked_is n (nacked_said l own s moment c.last c.number n (never_below l own s moment c.last c.number is.known next at n v) is.known)
    said_so Dropped v = never_dropped l own s moment c.last c.number is.known next at v
    said_so Absorbed v =
        taken_is Absorbed refl (taken_said l (l ++ (Submit own s moment, Absorbed) ∷ []) own s (read_as (seq l) s.reference) c.last c.number (absorbed-taken l own s moment (sym v)) next (omega (arith, read_at (seq l))))

pub submits_as_defined : ContainersStay → SubmitsAsDefined
submits_as_defined stay l own c k s moment said legal stands next at is =
    said_so stay l own c k s moment stands is next at said (legal-last l (Submit own s moment, said) legal)
