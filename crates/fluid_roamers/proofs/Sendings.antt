-- What is sent of what waits, one after another.
use Rattle.std.proofs.Common.{◌≡◌, ℕ, ◌+◌, arith, false, if◌then◌else◌, List, [], ◌∷◌, ◌++◌, length, Option, Some, None, Result, Ok, Err, refl, sym, ap, subst, ◌∙◌, append_assoc, append-nil, length-append}
use Rattle.fluid_types.proofs.Ledgers.{seq-push}
use Rattle.fluid_types.specs.Ledger.{seq}
use Rattle.fluid_types.specs.declared.entries.Raw.{Raw}
use Rattle.fluid_types.specs.declared.nacks.NackRule.{NackRule}
use Rattle.fluid_rules.specs.Rules.{verdict, ledger as ledger_by_rules}
use Rattle.fluid_rules.specs.declared.limits.Limits.{Limits}
use Rattle.fluid_rules.proofs.Legal.{ledger-push}
use Rattle.fluid_edits.specs.declared.edit.Edit.{Edit}
use Rattle.fluid_lane.specs.Standing.{Standing}
use Rattle.fluid_outbox.specs.Past.{Past, Gave}
use Rattle.fluid_outbox.specs.Kept.{Stands as OutboxStands}
use Rattle.fluid_transcript.specs.World.{World, Document, Container, Roamer as ARoamer, ledger_of, with_entries}
use Rattle.fluid_transcript.specs.Containers.{Submitted}
use Rattle.fluid_transcript.specs.Roamers.{sending, and_others}
use Rattle.fluid_holding.specs.Laws.{Stands, SubmitsAsDefined}
use Rattle.fluid_desk.specs.declared.stop.Stop.{Stop}
use Rattle.fluid_desk.specs.Stands.{IsLaneOf}
use Rattle.fluid_desk.specs.Stopping.{IsHonest, steps_on}
use Rattle.fluid_desk.proofs.Honest.{honest_more}
use Rattle.fluid_roamers.specs.Roaming.{IsRoaming}
use Rattle.fluid_roamers.specs.Entering.{HasEntered, entered_on}
use Rattle.fluid_roamers.specs.Sending.{SentFirst, SendsOne, SendsAll, LeavesSent, op_on, lost_if}
use Rattle.fluid_roamers.specs.Taking.{Gives, GivesOne, Loses}
use Rattle.fluid_roamers.specs.declared.roamer.Roamer.{Roamer}
use Rattle.fluid_roamers.specs.declared.sending.Sent.{Sent}
use Rattle.fluid_roamers.specs.declared.sending.Sent.TheVariants.{Nothing}
use Rattle.fluid_roamers.proofs.Roaming.{at_rest}
use Rattle.fluid_roamers.proofs.Sends.{waits_none, waits_some, sent_first, entry_is, given_is}

-- ---- one

module _ (law : SubmitsAsDefined) (limits : Limits) (w : World) (d : Document) (h : Roamer) (k : ARoamer) (rest : List Edit) (is : IsRoaming (ledger_of d) h k rest) (going : k.is_lost ≡ false) (stands : Stands (ledger_of d) k.client)
    (moment : ℕ) (at : w.moment ≡ moment) (mid : Roamer) where
  pub sends_nothing : (lane : Standing) → IsLaneOf limits lane d → Gives is.past moment h mid None → SendsOne limits w d k rest lane mid (Ok Nothing)
  sends_nothing lane of gives =
      let none : rest ≡ [] = waits_none law limits w d h k rest is going stands rest refl gives.0 in
      (none, (of, subst (λ r. IsRoaming (ledger_of d) r k []) (sym gives.1) (subst (λ es. IsRoaming (ledger_of d) h k es) none is)))

  module _ (entry : Raw) (gives : GivesOne is.past moment h mid entry) (lane : Standing) (new : Roamer) where
    first_by : (e : Edit) (more : List Edit) (waits : rest ≡ e ∷ more) (rule : Option NackRule) (sent : Sent) → HasEntered limits d entry lane rule → LeavesSent (Gave gives.given ∷ is.past) mid new rule sent → SendsOne limits w d k rest lane new (Ok sent)
    first_by e more waits None sent entered (sent_as, same) =
        subst (λ s. SendsOne limits w d k rest lane new (Ok s)) (sym sent_as)
        (sent_first law limits w d h k rest is going stands e more waits moment at mid entry gives new None lane
        (subst (λ raw. IsLaneOf limits lane (with_entries (entered_on limits d raw).entries d)) (entry_is law limits w d h k rest is going stands e more waits moment at mid entry gives) entered.stands)
        (entered.refused ∙ ap (λ raw. (entered_on limits d raw).refused) (entry_is law limits w d h k rest is going stands e more waits moment at mid entry gives)) same)
    first_by e more waits (Some rule) sent entered (sent_as, lost) =
        subst (λ s. SendsOne limits w d k rest lane new (Ok s)) (sym sent_as)
        (sent_first law limits w d h k rest is going stands e more waits moment at mid entry gives new (Some rule) lane
        (subst (λ raw. IsLaneOf limits lane (with_entries (entered_on limits d raw).entries d)) (entry_is law limits w d h k rest is going stands e more waits moment at mid entry gives) entered.stands)
        (entered.refused ∙ ap (λ raw. (entered_on limits d raw).refused) (entry_is law limits w d h k rest is going stands e more waits moment at mid entry gives))
        (subst (λ g. Loses (Gave g ∷ is.past) mid new) (given_is law limits w d h k rest is going stands e more waits moment at mid entry gives) lost))

    pub sends_first : (rule : Option NackRule) (sent : Sent) → HasEntered limits d entry lane rule → ((past : Past) → OutboxStands mid.outbox past → LeavesSent past mid new rule sent) → SendsOne limits w d k rest lane new (Ok sent)
    sends_first rule sent entered leaves =
        let some = waits_some law limits w d h k rest is going stands rest refl gives.given gives.next_is in
        first_by some.0 some.1.0 some.1.1 rule sent entered (leaves (Gave gives.given ∷ is.past) gives.outbox)

-- ---- all of them

-- so much was sent, and the rest is still to be sent
pub record SentSo (limits : Limits) (w : World) (d : Document) (k : ARoamer) (rest : List Edit) (lane : Standing) (h : Roamer) : Type 0 where
  pub now : Document
  pub left : List Edit
  pub stands : IsLaneOf limits lane now
  pub held : Stands (ledger_of now) k.client
  pub roams : IsRoaming (ledger_of now) h k left
  pub on : (new : Standing) (m : Roamer) (result : Result (Option NackRule) Stop) → SendsAll limits w now k left new m result → SendsAll limits w d k rest new m result

pub sent_none : (limits : Limits) (w : World) (d : Document) (k : ARoamer) (rest : List Edit) (lane : Standing) (h : Roamer) → IsLaneOf limits lane d → Stands (ledger_of d) k.client → IsRoaming (ledger_of d) h k rest → SentSo limits w d k rest lane h
sent_none limits w d k rest lane h of held roams = record { now = d; left = rest; stands = of; held = held; roams = roams; on = λ new m result all. all }

-- a container still stands behind more entries
stands_one : (d : Document) (raw : Raw) (c : Container) → Stands (ledger_of d) c → Stands (ledger_of (with_entries (raw ∷ []) d)) c
stands_one d raw c is =
    let pushed = ledger-push d.raws raw in
    record {
      entries = omega (arith, is.entries, ap length pushed, length-append (ledger_of d) ((raw, verdict (ledger_of d) raw) ∷ []));
      base = is.base;
      number = omega (arith, is.number, ap seq pushed, seq-push (ledger_of d) (raw, verdict (ledger_of d) raw));
    }

stands_more : (d : Document) (raws : List Raw) (c : Container) → Stands (ledger_of d) c → Stands (ledger_of (with_entries raws d)) c
stands_more d [] c is = subst (λ raws. Stands (ledger_by_rules raws) c) (sym (append-nil d.raws)) is
stands_more d (raw ∷ raws) c is =
    subst (λ es. Stands (ledger_by_rules es) c) (append_assoc d.raws (raw ∷ []) raws)
    (stands_more (with_entries (raw ∷ []) d) raws c (stands_one d raw c is))

module _ (limits : Limits) (w : World) (d : Document) (k : ARoamer) (left : List Edit) (lane : Standing) (h : Roamer) where
  nothing_then : (es : List Edit) → es ≡ [] → sending limits w d k.client es ≡ record { entries = []; refused = None }
  unfolding sending
  nothing_then es none = ap (sending limits w d k.client) none

  -- nothing is left
  pub all_sent : k.is_lost ≡ false → SendsOne limits w d k left lane h (Ok Nothing) → SendsAll limits w d k left lane h (Ok None)
  all_sent going (none, (of, roams)) =
      let nothing = nothing_then left none in
      record {
        refused = ap (λ (s : Submitted). s.refused) nothing;
        stands =
            subst (λ (s : Submitted). IsLaneOf limits lane (with_entries s.entries d)) (sym nothing)
            (subst (λ raws. IsLaneOf limits lane (record d { raws = raws })) (sym (append-nil d.raws)) of);
        roams =
            subst (λ (s : Submitted). IsRoaming (ledger_of (with_entries s.entries d)) h (lost_if None k) []) (sym nothing)
            (subst (λ raws. IsRoaming (ledger_by_rules raws) h (lost_if None k) []) (sym (append-nil d.raws)) (subst (λ b. IsRoaming (ledger_of d) h (record k { is_lost = b }) []) going roams));
      }

  -- the first of them was sent
  module _ (rule : Option NackRule) (sent : SentFirst limits w d k left lane h rule) where
    abbrev op : Submitted
    op = op_on limits w d k sent.first

    abbrev then_at : Document
    then_at = with_entries op.entries d

    abbrev others : Submitted
    others = sending limits w then_at k.client sent.more

    sending_as : sending limits w d k.client left ≡ and_others op others rule
    unfolding sending
    sending_as = ap (sending limits w d k.client) sent.are ∙ ap (and_others op others) sent.refused

  -- it was refused
  pub all_refused : (rule : NackRule) → SentFirst limits w d k left lane h (Some rule) → SendsAll limits w d k left lane h (Ok (Some rule))
  all_refused rule sent =
      let so = sending_as (Some rule) sent in
      record {
        refused = ap (λ (s : Submitted). s.refused) so ∙ sent.refused;
        stands = subst (λ (s : Submitted). IsLaneOf limits lane (with_entries s.entries d)) (sym so) sent.stands;
        roams =
            subst (λ (s : Submitted). IsRoaming (ledger_of (with_entries s.entries d)) h (lost_if (Some rule) k) []) (sym so)
            (at_rest (ledger_of (with_entries (op_on limits w d k sent.first).entries d)) h (lost_if (Some rule) k) sent.more refl sent.roams);
      }

  -- it was taken: what the others do is what all of them do
  module _ (sent : SentFirst limits w d k left lane h None) where
    others_then : sending limits w d k.client left ≡ record { entries = (op None sent).entries ++ (others None sent).entries; refused = (others None sent).refused }
    others_then = sending_as None sent

    same_then : with_entries (others None sent).entries (then_at None sent) ≡ with_entries (sending limits w d k.client left).entries d
    same_then =
        ap (λ raws. record d { raws = raws }) (append_assoc d.raws (op None sent).entries (others None sent).entries)
        ∙ ap (λ (s : Submitted). with_entries s.entries d) (sym others_then)

    pub others_all : (new : Standing) (m : Roamer) (result : Result (Option NackRule) Stop) → SendsAll limits w (then_at None sent) k sent.more new m result → SendsAll limits w d k left new m result
    others_all new m (Ok rule) all = record {
      refused = ap (λ (s : Submitted). s.refused) others_then ∙ all.refused;
      stands = subst (λ x. IsLaneOf limits new x) same_then all.stands;
      roams = subst (λ x. IsRoaming (ledger_of x) m (lost_if rule k) []) same_then all.roams;
    }
    others_all new m (Err stop) all = subst (λ x. IsHonest (steps_on x new) stop) same_then all

  -- it couldn't be sent
  pub all_stopped : (stop : Stop) → IsHonest (steps_on d lane) stop → SendsAll limits w d k left lane h (Err stop)
  all_stopped stop honest =
      honest_more (steps_on d lane) (steps_on (with_entries (sending limits w d k.client left).entries d) lane) stop
      (omega (arith, length-append d.raws (sending limits w d k.client left).entries)) honest

pub sent_more : (limits : Limits) (w : World) (d : Document) (k : ARoamer) (rest : List Edit) (lane new : Standing) (h m : Roamer) → k.is_lost ≡ false → (so : SentSo limits w d k rest lane h) → SentFirst limits w so.now k so.left new m None
    → SentSo limits w d k rest new m
sent_more limits w d k rest lane new h m going so sent = record {
  now = with_entries (op_on limits w so.now k sent.first).entries so.now;
  left = sent.more;
  stands = sent.stands;
  held = stands_more so.now (op_on limits w so.now k sent.first).entries k.client so.held;
  roams = subst (λ b. IsRoaming (ledger_of (with_entries (op_on limits w so.now k sent.first).entries so.now)) m (record k { is_lost = b }) sent.more) (sym going) sent.roams;
  on = λ last n result all. so.on last n result (others_all limits w so.now k so.left new m sent last n result all);
}
