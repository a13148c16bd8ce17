-- What a collection and a leave make of a connection.
use Rattle.std.proofs.Common.{◌≡◌, ◌∙◌, ℕ, ◌+◌, ◌≤◌, max, true, false, List, [], length, All, Option, Some, None, is_some, option_map, Result, Ok, refl, sym, ap, subst, arith, length-append}
use Rattle.std.proofs.lemmas.List.Elements.{All-nil}
use Rattle.std.proofs.lemmas.Bool.{false≢true}
use Rattle.fluid_turn.specs.Entries.{made_by}
use Rattle.fluid_rules.specs.Rules.{IsLegal}
use Rattle.fluid_types.specs.declared.entries.Raw.{Raw}
use Rattle.fluid_types.specs.declared.entries.Raw.TheVariants.{Leave}
use Rattle.fluid_lane.specs.declared.steps.Step.{Step}
use Rattle.fluid_codec.specs.declared.replies.Reply.{Reply}
use Rattle.fluid_voice.specs.declared.states.VoiceState.{VoiceState}
use Rattle.fluid_voice.specs.declared.states.VoiceState.TheVariants.{Fresh, Reading, Writing, Used}
use Rattle.fluid_voice.specs.declared.actions.Act.{Act}
use Rattle.fluid_voice.specs.declared.actions.Act.TheVariants as act
use Rattle.fluid_voice.specs.declared.ends.ActEnd.{ActEnd}
use Rattle.fluid_voice.specs.States.{client_id, document_name, is_connected, next_number, with_next, leave_of}
use Rattle.fluid_voice.specs.Fitting.{IsFitting}
use Rattle.fluid_voice.specs.Feed.{IsEventOf}
use Rattle.fluid_doors.specs.Passing.{APass}
use Rattle.fluid_opening.specs.declared.opening.TheConstants.{MOST_DOCUMENTS}
use Rattle.fluid_service.specs.Visiting.{Visiting}
use Rattle.fluid_service.specs.Keys.{AKey}
use Rattle.fluid_ends.specs.declared.fault.TalkFault.{TalkFault}
use Rattle.fluid_ends.specs.declared.fault.TalkFault.TheVariants as talk
use Rattle.fluid_talk.specs.Talking.{Knowing, Talking, Goes, IsSound, ledger_of, order_of, number_behind_last, opened_by}
use Rattle.fluid_talk.specs.Collecting.{Feeds, FailsAs, IsCollectCause, CollectsBy, Collects}
use Rattle.fluid_talk.specs.Leaving.{EntersLeave, HasLeft, IsLeaveCause, LeavesBy, Leaves}
use Rattle.fluid_connection.specs.declared.collecting.Collected.{Collected}
use Rattle.fluid_connection.specs.Talked.{Talked, pass_of, visited, talking, IsTalk, HasDelivered}
use Rattle.fluid_connection.specs.Slices.{BringsAll, FailsToCollect, ComesBack}
use Rattle.fluid_connection.specs.Leaving.{IsLeaveAct, EntersLeaving, FailsToLeave}
use Rattle.fluid_connection.proofs.Passings.{goes_nowhere}
use Rattle.fluid_connection.proofs.Stretches.{order-prefix, slice-none}

-- ---- the next number

max_same : (n : ℕ) → max n n ≡ n
max_same n = grind arith

max_later : (next to : ℕ) → next ≤ to → max next to ≡ to
max_later next to later = grind arith

same_next : (s : VoiceState) → with_next (next_number s) s ≡ s
same_next Fresh = refl
same_next (Reading name next) = ap (λ n. Reading name n) (max_same next)
same_next (Writing name id next) = ap (λ n. Writing name id n) (max_same next)
same_next Used = refl

with_next-document : (to : ℕ) (s : VoiceState) → document_name (with_next to s) ≡ document_name s
with_next-document to Fresh = refl
with_next-document to (Reading name next) = refl
with_next-document to (Writing name id next) = refl
with_next-document to Used = refl

with_next-number : (to : ℕ) (s : VoiceState) → is_connected s ≡ true → next_number s ≤ to → next_number (with_next to s) ≡ to
with_next-number to Fresh joined later = absurd (false≢true joined)
with_next-number to (Reading name next) joined later = max_later next to later
with_next-number to (Writing name id next) joined later = max_later next to later
with_next-number to Used joined later = absurd (false≢true joined)

pub next_is : (s : VoiceState) (number next : ℕ) → is_connected s ≡ true → next_number s ≡ number → Some number ≡ Some next → (is_connected s ≡ true) × (next ≡ next_number s)
next_is s number next joined is same = (joined, sym (some_number same) ∙ sym is)
  where
    some_number : Some number ≡ Some next → number ≡ next
    some_number e = cc

-- ---- visits

pub has_visit : (t : Talked) → IsTalk t → is_connected t.voice ≡ true → t.visit ≡ None → ⊥
has_visit t is joined none =
    let named : None ≡ document_name t.voice = subst (λ v. (pass_of v).name ≡ document_name t.voice) none (is.named joined) in
    false≢true (ap (λ (o : Option (List ℕ)). is_some o) named ∙ joined)

pub visit_within : (t : Talked) (visit : Visiting) → IsTalk t → is_connected t.voice ≡ true → t.visit ≡ Some visit → visit.pass.turn.fixed.told ≡ true → next_number t.voice ≤ number_behind_last visit.pass.seen
visit_within t visit is joined some = subst (λ v. (pass_of v).told ≡ true → next_number t.voice ≤ number_behind_last (pass_of v).seen) some (is.next joined)

-- ---- nothing is collected

-- where all was delivered
pub quiet_gives : (t : Talked) (settled : Option ℕ) → is_some settled ≡ true → HasDelivered t settled → is_connected t.voice ≡ true → Collects (talking t) (talking t) (Ok [])
quiet_gives t None some is joined = absurd (false≢true some)
quiet_gives t (Some steps) some is joined = record {
  connected = λ _. record {
    goes = goes_nowhere (pass_of t.visit);
    key = refl;
    events = λ name named. All-nil (IsEventOf name);
    to = next_number t.voice;
    voice = sym (same_next t.voice);
    numbers = record { numbered = tt; count = omega arith };
    told = λ told. record { to_last = is told; slice = sym (slice-none (order_of (pass_of t.visit).seen) (next_number t.voice)) };
  };
  apart = λ apart. absurd (false≢true (sym apart ∙ joined));
}

-- and of no document
pub apart_gives : (t : Talking) → is_connected t.voice ≡ false → Collects t t (Ok [])
apart_gives t apart = record { connected = λ joined. absurd (false≢true (sym apart ∙ joined)); apart = λ _. (refl, refl) }

pub connected_gives : (s t : Talking) (result : Result (List Reply) TalkFault) → is_connected s.voice ≡ true → CollectsBy s t result → Collects s t result
connected_gives s t result joined does = record { connected = λ _. does; apart = λ apart. absurd (false≢true (sym apart ∙ joined)) }

-- ---- a visit that comes back

abbrev pub standing : VoiceState → AKey → Visiting → Option Visiting → Talked
standing voice key visit handed = record { voice = voice; key = key; visit = Some visit; handed = handed }

grown_number : (p q : Knowing) (added : List Step) → Goes p q added → number_behind_last p.seen ≤ number_behind_last q.seen
grown_number p q added goes =
    let grown = order-prefix p.seen q.seen goes.seen in
    let long : length (order_of q.seen) ≡ length (order_of p.seen) + length grown.0 = ap length grown.1 ∙ length-append (order_of p.seen) grown.0 in
    omega arith

module _ (v : VoiceState) (k : AKey) (h : Option Visiting) (old new : Visiting) (is : IsTalk (standing v k old h)) (back : ComesBack old new) where
  -- it stands where it stood
  pub stays_talk : (added : List Step) → Goes (visited old) (visited new) added → IsTalk (standing v k new h)
  stays_talk added goes = record {
    named = λ joined. ap (λ d. Some d.name) back.door ∙ is.named joined;
    first = is.first;
    next = λ joined told.
        let was = is.next joined (sym goes.same.told ∙ told) in
        let more = grown_number (visited old) (visited new) added goes in
        omega arith;
    few = λ joined. back.few;
  }

  pub fails_to_collect : (fault : TalkFault) → FailsToCollect (visited old) (visited new) fault → FailsAs (talking (standing v k old h)) (talking (standing v k new h)) IsCollectCause fault
  fails_to_collect fault fails = record { voice = refl; goes = fails.goes; handed = refl; key = refl; cause_is = fails.cause }

  pub fails_to_leave : (fault : TalkFault) → FailsToLeave (visited old) (visited new) fault → FailsAs (talking (standing v k old h)) (talking (standing v k new h)) IsLeaveCause fault
  fails_to_leave fault fails = record { voice = refl; goes = fails.goes; handed = refl; key = refl; cause_is = fails.cause }

  -- it has delivered all that is seen
  module _ (joined : is_connected v ≡ true) (c : Collected) (all : BringsAll old.door.name (visited old) (visited new) (next_number v) c) where
    later : next_number v ≤ c.next
    later = let n = all.brings.numbers.count in omega arith

    number_is : next_number (with_next c.next v) ≡ c.next
    number_is = with_next-number c.next v joined later

    pub feeds : Feeds (talking (standing v k old h)) (talking (standing (with_next c.next v) k new h)) c.events
    feeds = record {
      goes = all.brings.goes;
      key = refl;
      events = λ name named.
          let same : old.door.name ≡ name = some_same old.door.name name (is.named joined ∙ named) in
          subst (λ n. All (IsEventOf n) c.events) same all.brings.events;
      to = c.next;
      voice = refl;
      numbers = all.brings.numbers;
      told = λ told. record { to_last = all.last told; slice = (all.brings.told told).is };
    }
      where
        some_same : (a b : List ℕ) → Some a ≡ Some b → a ≡ b
        some_same a b same = cc

    told_before : (visited new).told ≡ true → (visited old).told ≡ true
    told_before told = sym all.brings.goes.same.told ∙ told

    pub collected_talk : IsTalk (standing (with_next c.next v) k new h)
    collected_talk = record {
      named = λ _. ap (λ d. Some d.name) back.door ∙ is.named joined ∙ sym (with_next-document c.next v);
      first = λ _. let before = is.first joined in omega (arith, number_is, later, before);
      next = λ _ told. let last = all.last (told_before told) in omega (arith, number_is, last);
      few = λ _. back.few;
    }

    pub collected_settled : (steps : ℕ) → HasDelivered (standing (with_next c.next v) k new h) (Some steps)
    collected_settled steps = λ told. number_is ∙ all.last (told_before told)

  -- it has left
  pub left : (w : VoiceState) (raw : Raw) (moment : ℕ) (end : ActEnd) → w ≡ Used → leave_of moment v ≡ Some raw → EntersLeaving (visited old) (visited new) raw end
      → HasLeft (talking (standing v k old h)) (talking (standing w k new h)) moment
  left w raw moment end used leave enters = record {
    voice = used;
    pass = subst (λ o. EntersLeave o (visited old) (visited new)) (sym leave) enters.enters;
    handed = refl;
    key = refl;
  }

-- ---- the same of a connection by what it had

module _ (t : Talked) (old new : Visiting) (is : IsTalk t) (some : t.visit ≡ Some old) (back : ComesBack old new) where
  was : standing t.voice t.key old t.handed ≡ t
  was = ap (λ (o : Option Visiting). record t { visit = o }) (sym some)

  before : IsTalk (standing t.voice t.key old t.handed)
  before = subst IsTalk (sym was) is

  pub behind_stays : (added : List Step) → Goes (visited old) (visited new) added → IsTalk (standing t.voice t.key new t.handed)
  behind_stays added goes = stays_talk t.voice t.key t.handed old new before back added goes

  pub behind_fault : (fault : TalkFault) → FailsToCollect (visited old) (visited new) fault → FailsAs (talking t) (talking (standing t.voice t.key new t.handed)) IsCollectCause fault
  behind_fault fault fails =
      subst (λ s. FailsAs (talking s) (talking (standing t.voice t.key new t.handed)) IsCollectCause fault) was (fails_to_collect t.voice t.key t.handed old new before back fault fails)

  pub behind_refusal : (fault : TalkFault) → FailsToLeave (visited old) (visited new) fault → FailsAs (talking t) (talking (standing t.voice t.key new t.handed)) IsLeaveCause fault
  behind_refusal fault fails =
      subst (λ s. FailsAs (talking s) (talking (standing t.voice t.key new t.handed)) IsLeaveCause fault) was (fails_to_leave t.voice t.key t.handed old new before back fault fails)

  pub behind_leave : (w : VoiceState) (raw : Raw) (moment : ℕ) (end : ActEnd) → w ≡ Used → leave_of moment t.voice ≡ Some raw → EntersLeaving (visited old) (visited new) raw end
      → HasLeft (talking t) (talking (standing w t.key new t.handed)) moment
  behind_leave w raw moment end used leave enters =
      subst (λ s. HasLeft (talking s) (talking (standing w t.key new t.handed)) moment) was (left t.voice t.key t.handed old new before back w raw moment end used leave enters)

  module _ (joined : is_connected t.voice ≡ true) (c : Collected) (all : BringsAll old.door.name (visited old) (visited new) (next_number t.voice) c) (w : VoiceState) (next : w ≡ with_next c.next t.voice) where
    pub behind_talk : IsTalk (standing w t.key new t.handed)
    behind_talk = subst (λ v. IsTalk (standing v t.key new t.handed)) (sym next) (collected_talk t.voice t.key t.handed old new before back joined c all)

    pub behind_delivered : (steps : ℕ) → HasDelivered (standing w t.key new t.handed) (Some steps)
    behind_delivered steps = subst (λ v. HasDelivered (standing v t.key new t.handed) (Some steps)) (sym next) (collected_settled t.voice t.key t.handed old new before back joined c all steps)

    pub behind_feeds : (replies : List Reply) → replies ≡ c.events → Feeds (talking t) (talking (standing w t.key new t.handed)) replies
    behind_feeds replies same =
        subst (λ rs. Feeds (talking t) (talking (standing w t.key new t.handed)) rs) (sym same)
        (subst (λ s. Feeds (talking s) (talking (standing w t.key new t.handed)) c.events) was
        (subst (λ v. Feeds (talking (standing t.voice t.key old t.handed)) (talking (standing v t.key new t.handed)) c.events) (sym next) (feeds t.voice t.key t.handed old new before back joined c all)))

-- one that has left is connected to no document
pub left_talk : (t : Talked) → t.voice ≡ Used → IsTalk t
left_talk t used =
    let never = λ (joined : is_connected t.voice ≡ true). false≢true (sym (ap is_connected used) ∙ joined) in
    record {
      named = λ joined. absurd (never joined);
      first = λ joined. absurd (never joined);
      next = λ joined told. absurd (never joined);
      few = λ joined. absurd (never joined);
    }

abbrev pub unvisited : VoiceState → AKey → Option Visiting → Talked
unvisited voice key handed = record { voice = voice; key = key; visit = None; handed = handed }

pub new_talk : (key : AKey) (visit : Option Visiting) → IsTalk (unvisited Fresh key visit)
new_talk key visit = record {
  named = λ joined. absurd (false≢true joined);
  first = λ joined. absurd (false≢true joined);
  next = λ joined told. absurd (false≢true joined);
  few = λ joined. absurd (false≢true joined);
}

-- ---- leaves

-- who writes is connected
pub writes_joined : (v : VoiceState) → is_some (client_id v) ≡ true → is_connected v ≡ true
writes_joined Fresh writes = absurd (false≢true writes)
writes_joined (Reading name next) writes = absurd (false≢true writes)
writes_joined (Writing name id next) writes = refl
writes_joined Used writes = absurd (false≢true writes)

-- and has a leave to enter
pub has_leave : (v : VoiceState) (moment : ℕ) → is_some (client_id v) ≡ true → None ≡ option_map act.Enter (leave_of moment v) → ⊥
has_leave Fresh moment writes none = false≢true writes
has_leave (Reading name next) moment writes none = false≢true writes
has_leave (Writing name id next) moment writes none = cc
has_leave Used moment writes none = false≢true writes

pub record IsLeaveOf (v : VoiceState) (moment : ℕ) (a : Act) : Type 0 where
  pub raw : Raw
  pub leave : leave_of moment v ≡ Some raw
  pub asks : a ≡ act.Enter raw

pub leave_act : (v : VoiceState) (moment : ℕ) (a : Act) → Some a ≡ option_map act.Enter (leave_of moment v) → IsLeaveOf v moment a
leave_act Fresh moment a is = cc
leave_act (Reading name next) moment a is = cc
leave_act (Writing name id next) moment a is = record { raw = Leave id moment; leave = refl; asks = (cc) }
leave_act Used moment a is = cc

pub leave_act_fits : (v : VoiceState) (moment : ℕ) (a : Act) → Some a ≡ option_map act.Enter (leave_of moment v) → IsFitting a → IsLeaveAct a
leave_act_fits Fresh moment a is fits = cc
leave_act_fits (Reading name next) moment a is fits = cc
leave_act_fits (Writing name id next) moment a is fits =
    let same : a ≡ act.Enter (Leave id moment) = (cc) in
    subst IsLeaveAct (sym same) (subst IsFitting same fits).1
leave_act_fits Used moment a is fits = cc

-- who doesn't write leaves at once
pub leaves_at_once : (s : Talked) (t : Talked) (moment : ℕ) → client_id s.voice ≡ None → t ≡ record s { voice = Used } → Leaves (talking s) (talking t) moment (Ok tt)
leaves_at_once s t moment reads same =
    subst (λ u. Leaves (talking s) (talking u) moment (Ok tt)) (sym same)
    (record {
      does = record { voice = refl; pass = subst (λ o. EntersLeave o (pass_of s.visit) (pass_of s.visit)) (sym (none s.voice reads)) refl; handed = refl; key = refl };
      nothing = λ _. refl;
    })
  where
    none : (v : VoiceState) → client_id v ≡ None → leave_of moment v ≡ None
    none v reads = ap (option_map (λ id. Leave id moment)) reads

pub client_leaves : (s t : Talking) (moment : ℕ) (result : Result (Unit {0}) TalkFault) → is_some (client_id s.voice) ≡ true → LeavesBy s t moment result → Leaves s t moment result
client_leaves s t moment result writes does = record { does = does; nothing = λ none. absurd (never s.voice writes none) }
  where
    never : (v : VoiceState) → is_some (client_id v) ≡ true → leave_of moment v ≡ None → ⊥
    never Fresh writes none = false≢true writes
    never (Reading name next) writes none = false≢true writes
    never (Writing name id next) writes none = cc
    never Used writes none = false≢true writes

-- want of memory before anything was done
pub stays_by : (t : Talking) → FailsAs t t IsLeaveCause talk.NoMemory
stays_by t = record { voice = refl; goes = goes_nowhere t.pass; handed = refl; key = refl; cause_is = tt }

-- ---- what holds of the pass of a visit

pub known_some : (o : Option Visiting) (visit : Visiting) → o ≡ Some visit → (pass : APass) → pass ≡ visit.pass → pass.mine ≡ made_by pass.number pass.seen → (pass_of o).mine ≡ made_by (pass_of o).number (pass_of o).seen
known_some o visit some pass same own =
    subst (λ v. (pass_of v).mine ≡ made_by (pass_of v).number (pass_of v).seen) (sym some) (subst (λ (p : APass). p.mine ≡ made_by p.number p.seen) same own)

pub legal_some : (o : Option Visiting) (visit : Visiting) → o ≡ Some visit → (pass : APass) → pass ≡ visit.pass → (pass.turn.fixed.told ≡ true → IsLegal (ledger_of pass.seen)) → (pass_of o).told ≡ true → IsLegal (ledger_of (pass_of o).seen)
legal_some o visit some pass same legal =
    subst (λ v. (pass_of v).told ≡ true → IsLegal (ledger_of (pass_of v).seen)) (sym some)
    (subst (λ (p : APass). p.turn.fixed.told ≡ true → IsLegal (ledger_of p.seen)) same legal)

pub known_none : (o : Option Visiting) → o ≡ None → (pass_of o).mine ≡ made_by (pass_of o).number (pass_of o).seen
known_none o none = subst (λ v. (pass_of v).mine ≡ made_by (pass_of v).number (pass_of v).seen) (sym none) refl

pub legal_none : (o : Option Visiting) → o ≡ None → (pass_of o).told ≡ true → IsLegal (ledger_of (pass_of o).seen)
legal_none o none = subst (λ v. (pass_of v).told ≡ true → IsLegal (ledger_of (pass_of v).seen)) (sym none) (λ told. absurd (false≢true told))

pub sound : (t : Talked) → IsTalk t → (pass_of t.visit).mine ≡ made_by (pass_of t.visit).number (pass_of t.visit).seen → ((pass_of t.visit).told ≡ true → IsLegal (ledger_of (pass_of t.visit).seen)) → t.key.mine ≡ made_by t.key.number t.key.seen
    → length (opened_by (talking t).key) ≤ MOST_DOCUMENTS → IsSound (talking t)
sound t is own legal key_own key_few = record {
  named = is.named;
  first = is.first;
  next = is.next;
  few = is.few;
  own = own;
  legal = legal;
  key_own = key_own;
  key_few = key_few;
}
