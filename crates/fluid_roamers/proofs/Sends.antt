-- A roamer that sends the first edit that waits, on the lane of its document: it is the world's, with what becomes of the edit.
use Rattle.std.proofs.Common.{◌≡◌, ℕ, ◌+◌, ◌-◌, ◌≤◌, arith, pos, Bool, true, false, if◌then◌else◌, List, [], ◌∷◌, ◌++◌, length, map, drop, get_or, Option, Some, None, refl, sym, ap, subst, ◌∙◌, length-append, append_assoc, append-nil}
use Rattle.std.proofs.lemmas.List.{length-map}
use Rattle.std.proofs.lemmas.Bool.{and_left}
use Rattle.fluid_json.specs.Tree.{Tree, null}
use Rattle.fluid_types.specs.Ledger.{Ledger, order}
use Rattle.fluid_types.specs.declared.entries.Raw.{Raw}
use Rattle.fluid_types.specs.declared.entries.Raw.TheVariants.{Submit}
use Rattle.fluid_types.specs.declared.entries.Offered.TheVariants as offered
use Rattle.fluid_types.specs.declared.entries.Submission.{Submission}
use Rattle.fluid_types.specs.declared.messages.Message.{Message}
use Rattle.fluid_types.specs.declared.nacks.Nack.{Nack}
use Rattle.fluid_types.specs.declared.nacks.NackRule.{NackRule}
use Rattle.fluid_types.specs.declared.nacks.NackRule.TheVariants.{Full, Gap, Nonexistent, Below, Ahead, Scope}
use Rattle.fluid_types.specs.declared.verdicts.Verdict.{Verdict}
use Rattle.fluid_types.specs.declared.verdicts.Verdict.TheVariants.{Sequenced, Nacked, Dropped, Absorbed}
use Rattle.fluid_rules.specs.Past.{has_id}
use Rattle.fluid_rules.specs.Counted.{is_full}
use Rattle.fluid_rules.specs.Rules.{IsLegal, verdict, submission_verdict, nack, message, sequenced, first_case, is_noop, is_duplicate, leaves_gap, is_nonexistent, is_below_minimum, is_ahead, lacks_scope, is_absorbed, ledger as ledger_by_rules}
use Rattle.fluid_rules.specs.declared.limits.Limits.{Limits}
use Rattle.fluid_rules.proofs.Legal.{legal-push, ledger-legal, ledger-push}
use Rattle.fluid_rules.proofs.Verdicts.{verdict-is_message, not_absorbed}
use Rattle.fluid_edits.specs.declared.edit.Edit.{Edit}
use Rattle.fluid_edits.specs.Forms.{contents_of}
use Rattle.fluid_loader.specs.Calls.{counted}
use Rattle.fluid_loader.specs.Container.{AContainer}
use Rattle.fluid_voice.specs.declared.ends.ActEnd.{ActEnd}
use Rattle.fluid_voice.specs.declared.ends.ActEnd.TheVariants.{Entered, FullNow}
use Rattle.fluid_voice.specs.Ends.{entry_end}
use Rattle.fluid_outbox.specs.Past.{Past, Given, Gave, Lost, edits, ids, current, heard_to, sent, given, acknowledged, next, op_with}
use Rattle.fluid_outbox.specs.Kept.{Stands as OutboxStands}
use Rattle.fluid_lane.specs.Standing.{Standing}
use Rattle.fluid_transcript.specs.World.{World, Document, Roamer as ARoamer, ledger_of, with_entries}
use Rattle.fluid_transcript.specs.Containers.{id_of, last, Submitted, entry_of, submitted_as}
use Rattle.fluid_holding.specs.Holding.{IsContainerOf}
use Rattle.fluid_holding.specs.Laws.{Stands, SubmittedAs, SubmitsAsDefined}
use Rattle.fluid_desk.specs.Stands.{IsLaneOf}
use Rattle.fluid_roamers.specs.Ahead.{IsBeside, own_in}
use Rattle.fluid_roamers.specs.Roaming.{IsRoaming, IsSending, current_of}
use Rattle.fluid_roamers.specs.Sending.{SentFirst, op_on, lost_if}
use Rattle.fluid_roamers.specs.Taking.{GivesOne, Loses}
use Rattle.fluid_roamers.specs.declared.roamer.Roamer.{Roamer}
use Rattle.fluid_roamers.proofs.Entries.{drop_push, own_op, own_more, own_yes}
use Rattle.fluid_roamers.proofs.Outboxes.{IsSentNext, one_more as one_more_sent, gave_beside, nacked_beside, taken_beside, lost_beside, next_sends, next_waits_none}

-- ---- an op is never absorbed

chain_not : (one two three four five six seven : Bool) (gap nonexistent below ahead scope : Nack) (last : Option Message) → seven ≡ false →
    first_case
    ((one, Dropped) ∷ (two, Nacked gap) ∷ (three, Nacked nonexistent) ∷ (four, Nacked below) ∷ (five, Nacked ahead) ∷ (six, Nacked scope) ∷ (seven, Absorbed) ∷ [])
    (sequenced last) ≡ Absorbed → ⊥
chain_not true two three four five six seven gap nonexistent below ahead scope last h is = cc
chain_not false true three four five six seven gap nonexistent below ahead scope last h is = cc
chain_not false false true four five six seven gap nonexistent below ahead scope last h is = cc
chain_not false false false true five six seven gap nonexistent below ahead scope last h is = cc
chain_not false false false false true six seven gap nonexistent below ahead scope last h is = cc
chain_not false false false false false true seven gap nonexistent below ahead scope last h is = cc
chain_not false false false false false false true gap nonexistent below ahead scope last h is = cc
chain_not false false false false false false false gap nonexistent below ahead scope last h is = not_absorbed last is

op_not_absorbed : (l : Ledger) (c : List ℕ) (submission : Submission) (moment : ℕ) → submission.kind ≡ offered.Op → verdict l (Submit c submission moment) ≡ Absorbed → ⊥
unfolding verdict submission_verdict nack
op_not_absorbed l c submission moment op is =
    chain_not (is_duplicate l c submission) (leaves_gap l c submission) (is_nonexistent l c) (is_below_minimum l submission) (is_ahead l submission) (lacks_scope l c submission)
    (is_absorbed l c submission) (nack l submission Gap) (nack l submission Nonexistent) (nack l submission Below) (nack l submission Ahead) (nack l submission Scope)
    (message l (Submit c submission moment)) (and_left (is_noop submission.kind) _ (ap is_noop op)) is

-- ---- what an edit on its way leaves of a past

module _ (past : Past) (g : Given) where
  gave_edits : edits (Gave g ∷ past) ≡ edits past
  unfolding edits
  gave_edits = refl

  gave_ids : ids (Gave g ∷ past) ≡ ids past
  unfolding ids
  gave_ids = refl

  gave_current : current (Gave g ∷ past) ≡ current past
  unfolding current
  gave_current = refl

  gave_heard : heard_to (Gave g ∷ past) ≡ heard_to past
  unfolding heard_to
  gave_heard = refl

  gave_acked : acknowledged (Gave g ∷ past) ≡ acknowledged past
  unfolding acknowledged
  gave_acked = refl

module _ (past : Past) where
  lost_edits : edits (Lost ∷ past) ≡ edits past
  unfolding edits
  lost_edits = refl

  lost_ids : ids (Lost ∷ past) ≡ ids past
  unfolding ids
  lost_ids = refl

  lost_current : current (Lost ∷ past) ≡ None
  unfolding current
  lost_current = refl

  lost_heard : heard_to (Lost ∷ past) ≡ heard_to past
  unfolding heard_to
  lost_heard = refl

  lost_acked : acknowledged (Lost ∷ past) ≡ acknowledged past
  unfolding acknowledged
  lost_acked = refl

get_at : (out more : List Edit) (e : Edit) → get_or (map contents_of (out ++ e ∷ more)) (length out) null ≡ contents_of e
get_at [] more e = refl
get_at (x ∷ out) more e = get_at out more e

true_false : true ≡ false → ⊥
true_false is = cc

none_some : (g : Given) → ◌≡◌ {A = Option Given} None (Some g) → ⊥
none_some g is = cc

some_same : (a b : Given) → ◌≡◌ {A = Option Given} (Some a) (Some b) → a ≡ b
some_same a b is = cc

module _ (law : SubmitsAsDefined) (limits : Limits) (w : World) (d : Document) (h : Roamer) (k : ARoamer) (rest : List Edit) (is : IsRoaming (ledger_of d) h k rest) (going : k.is_lost ≡ false) (stands : Stands (ledger_of d) k.client) where
  abbrev l : Ledger
  l = ledger_of d

  abbrev c : List ℕ
  c = id_of k.client

  abbrev s : IsSending l is.past k is.own rest
  s = is.sends going

  pending_is : h.outbox.pending ≡ map contents_of k.client.pending
  pending_is = is.outbox.pending ∙ ap (λ n. drop n (edits is.past)) is.stood ∙ is.contents

  many : length h.outbox.pending ≡ length s.out + length rest
  many = ap (λ (xs : List Tree). length xs) pending_is ∙ length-map k.client.pending contents_of ∙ ap (λ (es : List Edit). length es) s.are ∙ length-append s.out rest

  own_few : is.own ≤ sent is.past c
  own_few = omega (arith, s.sent_are)

  own_now : current is.past ≡ Some c
  own_now = is.now ∙ ap (λ b. current_of b c) going

  -- nothing waits
  pub none_waits : rest ≡ [] → next is.past h.outbox.heard_to ≡ None
  none_waits none =
      next_waits_none h.outbox is.past is.outbox c is.before is.own is.beside.acknowledged_are is.beside.sent_in_turn own_few is.beside.settled own_now h.outbox.heard_to
      (omega (arith, many, ap (λ (es : List Edit). length es) none, s.sent_are))

  -- the first edit that waits
  module _ (e : Edit) (more : List Edit) (waits : rest ≡ e ∷ more) where
    abbrev first_given : Given
    first_given = record { id = c; edit = is.before + sent is.past c; submission = op_with (sent is.past c + 1) h.outbox.heard_to (contents_of e) }

    contents_are : get_or h.outbox.pending (sent is.past c - is.own) null ≡ contents_of e
    contents_are =
        ap (λ n. get_or h.outbox.pending n null) way ∙ ap (λ xs. get_or xs (length s.out) null) (pending_is ∙ ap (map contents_of) (s.are ∙ ap (λ es. s.out ++ es) waits)) ∙ get_at s.out more e
      where
        way : sent is.past c - is.own ≡ length s.out
        way = omega (arith, s.sent_are)

    pub next_first : next is.past h.outbox.heard_to ≡ Some first_given
    next_first =
        next_sends h.outbox is.past is.outbox c is.before is.own is.beside.acknowledged_are is.beside.sent_in_turn own_few is.beside.settled own_now h.outbox.heard_to
        (omega (arith, many, ap (λ (es : List Edit). length es) waits, s.sent_are))
        ∙ ap (λ contents. Some (record { id = c; edit = is.before + sent is.past c; submission = op_with (sent is.past c + 1) h.outbox.heard_to contents })) contents_are

    -- as an entry it is the world's
    abbrev raw : Raw
    raw = entry_of w l k.client offered.Op (contents_of e)

    reference_is : h.outbox.heard_to ≡ k.client.number
    reference_is = is.outbox.heard ∙ is.heard

    submission_is : first_given.submission ≡ op_with (last l k.client + 1) k.client.number (contents_of e)
    submission_is = ap (λ n. op_with (n + 1) h.outbox.heard_to (contents_of e)) (sym s.last_is) ∙ ap (λ n. op_with (last l k.client + 1) n (contents_of e)) reference_is

    raw_is : (moment : ℕ) → w.moment ≡ moment → Submit h.client first_given.submission moment ≡ raw
    raw_is moment at = ap (λ id. Submit id first_given.submission moment) is.container.client_is ∙ ap (λ sub. Submit c sub moment) submission_is ∙ ap (λ m. Submit c (op_with (last l k.client + 1) k.client.number (contents_of e)) m) (sym at)

    raw_own : Submit c first_given.submission w.moment ≡ raw
    raw_own = ap (λ sub. Submit c sub w.moment) submission_is

    next_one : IsSentNext is.past c is.before first_given
    next_one = record { id = refl; number = refl; edit = refl }

    -- with the call that gave it
    module _ (moment : ℕ) (at : w.moment ≡ moment) (mid : Roamer) (entry : Raw) (gives : GivesOne is.past moment h mid entry) where
      pub given_is : gives.given ≡ first_given
      given_is = some_same gives.given first_given (sym gives.next_is ∙ next_first)

      pub entry_is : entry ≡ raw
      entry_is = gives.raw_is ∙ ap (λ (g : Given). Submit h.client g.submission moment) given_is ∙ raw_is moment at

      outbox_then : OutboxStands mid.outbox (Gave first_given ∷ is.past)
      outbox_then = subst (λ g. OutboxStands mid.outbox (Gave g ∷ is.past)) given_is gives.outbox

      after : (m : Ledger) (held : AContainer) → IsContainerOf m h.client held k.client → held.channels ≡ is.held.channels → IsBeside m (Gave first_given ∷ is.past) c k.client.number is.before is.own
          → IsSending m (Gave first_given ∷ is.past) k is.own more → IsRoaming m mid k more
      after m held container same beside sends = record {
        document = gives.same.document ∙ is.document;
        held = held;
        container = subst (λ own. IsContainerOf m own held k.client) (sym gives.same.client) container;
        channels = ap (λ app. app.channels) gives.app ∙ is.channels ∙ sym same;
        pending = ap (λ app. app.pending) gives.app ∙ is.pending;
        edits_are = gives.same.edits ∙ is.edits_are;
        past = Gave first_given ∷ is.past;
        outbox = outbox_then;
        stood = gave_acked is.past first_given ∙ is.stood;
        contents = ap (drop k.stood) (gave_edits is.past first_given) ∙ is.contents;
        heard = gave_heard is.past first_given ∙ is.heard;
        before = is.before;
        own = is.own;
        beside = beside;
        used = λ id there. is.used id (ap (has_id id) (sym (gave_ids is.past first_given)) ∙ there);
        now = gave_current is.past first_given ∙ is.now;
        sends = λ still. sends;
      }

      after_lost : (m : Ledger) (new : Roamer) → Loses (Gave first_given ∷ is.past) mid new → IsContainerOf m h.client is.held k.client → IsBeside m (Gave first_given ∷ is.past) c k.client.number is.before is.own
          → IsRoaming m new (record k { is_lost = true }) more
      after_lost m new lost container beside = record {
        document = lost.same.document ∙ gives.same.document ∙ is.document;
        held = is.held;
        container = subst (λ own. IsContainerOf m own is.held k.client) (sym (lost.same.client ∙ gives.same.client)) container;
        channels = ap (λ app. app.channels) (lost.app ∙ gives.app) ∙ is.channels;
        pending = ap (λ app. app.pending) (lost.app ∙ gives.app) ∙ is.pending;
        edits_are = lost.same.edits ∙ gives.same.edits ∙ is.edits_are;
        past = Lost ∷ Gave first_given ∷ is.past;
        outbox = lost.outbox;
        stood = lost_acked (Gave first_given ∷ is.past) ∙ gave_acked is.past first_given ∙ is.stood;
        contents = ap (drop k.stood) (lost_edits (Gave first_given ∷ is.past) ∙ gave_edits is.past first_given) ∙ is.contents;
        heard = lost_heard (Gave first_given ∷ is.past) ∙ gave_heard is.past first_given ∙ is.heard;
        before = is.before;
        own = is.own;
        beside = lost_beside m (Gave first_given ∷ is.past) c k.client.number is.before is.own beside;
        used = λ id there. is.used id (ap (has_id id) (sym (lost_ids (Gave first_given ∷ is.past) ∙ gave_ids is.past first_given)) ∙ there);
        now = lost_current (Gave first_given ∷ is.past);
        sends = λ still. absurd (true_false still);
      }

      -- ---- what becomes of it

      entered_as : (b : Bool) → is_full limits.entries l raw ≡ b → entry_end limits l raw ≡ (if b then FullNow else Entered (verdict l raw))
      entered_as b full = ap (λ x. if x then FullNow else Entered (verdict l raw)) full

      op_as : (end : ActEnd) → entry_end limits l raw ≡ end → op_on limits w d k e ≡ submitted_as l raw end
      op_as end same = ap (submitted_as l raw) same

      then_is : (v : Verdict) → verdict l raw ≡ v → ledger_of (with_entries (raw ∷ []) d) ≡ l ++ (raw, v) ∷ []
      then_is v said = ledger-push d.raws raw ∙ ap (λ x. l ++ (raw, x) ∷ []) said

      -- the container's law
      lawful : (v : Verdict) → verdict l raw ≡ v → SubmittedAs (l ++ (raw, v) ∷ []) h.client is.held k.client v
      lawful v said =
          subst (λ r. SubmittedAs (l ++ (r, v) ∷ []) h.client is.held k.client v) (raw_is w.moment refl)
          (law l h.client is.held k.client first_given.submission w.moment v
          (subst (λ r. IsLegal (l ++ (r, v) ∷ [])) (sym (raw_is w.moment refl)) (legal-push l (raw, v) (ledger-legal d.raws) (sym said))) stands
          (ap (λ n. n + 1) (sym s.last_is ∙ sym is.container.last_is)) (ap pos (reference_is ∙ sym is.container.number)) is.container)

      own_beside : (v : Verdict) → IsBeside (l ++ (Submit c first_given.submission w.moment, v) ∷ []) (Gave first_given ∷ is.past) c k.client.number is.before is.own
          → IsBeside (l ++ (raw, v) ∷ []) (Gave first_given ∷ is.past) c k.client.number is.before is.own
      own_beside v beside = subst (λ r. IsBeside (l ++ (r, v) ∷ []) (Gave first_given ∷ is.past) c k.client.number is.before is.own) raw_own beside

      abbrev entry_with : Verdict → Raw × Verdict
      entry_with v = (Submit c first_given.submission w.moment, v)

      taken_at : (m : Message) → verdict l raw ≡ Sequenced m → IsRoaming (l ++ (raw, Sequenced m) ∷ []) mid k more
      taken_at m said =
          let said_own : Sequenced m ≡ verdict l (Submit c first_given.submission w.moment) = sym said ∙ ap (verdict l) (sym raw_own) in
          let container = lawful (Sequenced m) said in
          let beside = own_beside (Sequenced m) (taken_beside l is.past c k.client.number is.before is.own first_given is.beside next_one stands.number w.moment m said_own refl s.stand) in
          let is_op = own_op c l first_given.submission w.moment false m (verdict-is_message l (Submit c first_given.submission w.moment) m (sym said_own)) refl refl in
          let one_more : sent (Gave first_given ∷ is.past) c ≡ sent is.past c + 1 = one_more_sent l is.past c k.client.number is.before is.own first_given is.beside next_one in
          after (l ++ (raw, Sequenced m) ∷ []) (counted is.held) container refl beside (record {
            out = s.out ++ e ∷ [];
            are = s.are ∙ ap (λ es. s.out ++ es) waits ∙ sym (append_assoc s.out (e ∷ []) more);
            sent_are = omega (arith, one_more, s.sent_are, length-append s.out (e ∷ []));
            stand =
                ap (λ xs. is.own + own_in c xs) (drop_push l (raw, Sequenced m) k.client.number stands.number)
                ∙ omega (arith, one_more, s.stand, own_more c (drop k.client.number (order l)) m, own_yes c m [] is_op.own, none);
            last_is = sym container.last_is ∙ ap (λ n. n + 1) (is.container.last_is ∙ s.last_is) ∙ sym one_more;
          })
        where
          none : own_in c [] ≡ 0
          none = refl

      -- what is left of the roamer, by the rule that refused it
      abbrev pub IsLeft : Roamer → Option NackRule → Type 0
      IsLeft new None = new ≡ mid
      IsLeft new (Some rule) = Loses (Gave first_given ∷ is.past) mid new

      module _ (new : Roamer) (rule : Option NackRule) (lane : Standing) (of : IsLaneOf limits lane (with_entries (op_on limits w d k e).entries d)) (refused : rule ≡ (op_on limits w d k e).refused) (left : IsLeft new rule) where
        finish : (so : Submitted) → op_on limits w d k e ≡ so → (IsLeft new so.refused → IsRoaming (ledger_of (with_entries so.entries d)) new (lost_if so.refused k) more) → SentFirst limits w d k rest lane new rule
        finish so is_so roams =
            let same : rule ≡ so.refused = refused ∙ ap (λ (x : Submitted). x.refused) is_so in
            record {
              first = e;
              more = more;
              are = waits;
              refused = sym refused;
              stands = of;
              roams =
                  subst (λ (x : Submitted). IsRoaming (ledger_of (with_entries x.entries d)) new (lost_if rule k) more) (sym is_so)
                  (subst (λ r. IsRoaming (ledger_of (with_entries so.entries d)) new (lost_if r k) more) (sym same) (roams (subst (IsLeft new) same left)));
            }

        still : (m : Ledger) → IsRoaming m mid k more → new ≡ mid → IsRoaming m new (lost_if None k) more
        still m roams same = subst (λ b. IsRoaming m new (record k { is_lost = b }) more) going (subst (λ r. IsRoaming m r k more) (sym same) roams)

        by_verdict : (v : Verdict) → verdict l raw ≡ v → is_full limits.entries l raw ≡ false → SentFirst limits w d k rest lane new rule
        by_verdict (Sequenced m) said free =
            finish (record { entries = raw ∷ []; refused = None }) (op_as (Entered (Sequenced m)) (entered_as false free ∙ ap Entered said))
            (λ same. still (ledger_of (with_entries (raw ∷ []) d)) (subst (λ x. IsRoaming x mid k more) (sym (then_is (Sequenced m) said)) (taken_at m said)) same)
        by_verdict (Nacked n) said free =
            finish (record { entries = raw ∷ []; refused = Some n.rule }) (op_as (Entered (Nacked n)) (entered_as false free ∙ ap Entered said))
            (λ lost.
            subst (λ x. IsRoaming x new (record k { is_lost = true }) more) (sym (then_is (Nacked n) said))
            (after_lost (l ++ (raw, Nacked n) ∷ []) new lost (lawful (Nacked n) said)
            (own_beside (Nacked n) (nacked_beside l is.past c k.client.number is.before is.own first_given is.beside next_one stands.number w.moment n))))
        by_verdict Dropped said free = absurd (lawful Dropped said)
        by_verdict Absorbed said free = absurd (op_not_absorbed l c first_given.submission w.moment refl (ap (verdict l) raw_own ∙ said))

        by_room : (b : Bool) → is_full limits.entries l raw ≡ b → SentFirst limits w d k rest lane new rule
        by_room true full =
            finish (record { entries = []; refused = Some Full }) (op_as FullNow (entered_as true full))
            (λ lost.
            subst (λ raws. IsRoaming (ledger_by_rules raws) new (record k { is_lost = true }) more) (sym (append-nil d.raws))
            (after_lost l new lost is.container (gave_beside l is.past c k.client.number is.before is.own first_given is.beside next_one)))
        by_room false free = by_verdict (verdict l raw) refl free

        pub sent_first : SentFirst limits w d k rest lane new rule
        sent_first = by_room (is_full limits.entries l raw) refl

  -- where nothing was given nothing waits
  pub waits_none : (rest_is : List Edit) → rest ≡ rest_is → next is.past h.outbox.heard_to ≡ None → rest ≡ []
  waits_none [] same none = same
  waits_none (e ∷ more) same none = absurd (none_some (first_given e more same) (sym none ∙ next_first e more same))

  -- and where something was, something does
  pub waits_some : (rest_is : List Edit) → rest ≡ rest_is → (g : Given) → next is.past h.outbox.heard_to ≡ Some g → (e : Edit) × ((more : List Edit) × (rest ≡ e ∷ more))
  waits_some [] same g some = absurd (none_some g (sym (none_waits same) ∙ some))
  waits_some (e ∷ more) same g some = (e, (more, same))
