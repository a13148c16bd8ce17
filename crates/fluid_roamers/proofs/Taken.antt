-- Messages taken in one after another.
use Rattle.std.proofs.Common.{◌≡◌, ℕ, ◌+◌, ◌-◌, ◌≤◌, arith, Bool, true, false, ◌&&◌, if◌then◌else◌, List, [], ◌∷◌, ◌++◌, length, drop, refl, sym, ap, subst, ◌∙◌, append_assoc, append-nil}
use Rattle.std.specs.Prelude.{fold, nat_lt}
use Rattle.std.proofs.lemmas.List.{drop_all}
use Rattle.std.proofs.lemmas.Bool.{lt-ltb, le-ltb}
use Rattle.fluid_types.specs.Ledger.{order, seq}
use Rattle.fluid_types.specs.declared.messages.Message.{Message}
use Rattle.fluid_types.specs.Order.{AreNumberedFrom}
use Rattle.fluid_edits.specs.declared.edit.Edit.{Edit}
use Rattle.fluid_edits.specs.Replay.{Channels}
use Rattle.fluid_runtime.specs.App.{after_message, is_op}
use Rattle.fluid_rules.specs.declared.limits.Limits.{Limits}
use Rattle.fluid_outbox.specs.Past.{Past, Heard, acknowledged}
use Rattle.fluid_outbox.specs.Kept.{Stands}
use Rattle.fluid_lane.specs.Standing.{Standing}
use Rattle.fluid_transcript.specs.World.{Document, ledger_of}
use Rattle.fluid_desk.specs.Stands.{IsLaneOf}
use Rattle.fluid_desk.proofs.Laned.{says as lane_of}
use Rattle.fluid_callers.specs.Hearing.{Fetched}
use Rattle.fluid_roamers.specs.Taking.{IsSendable, TakesIn, HearsLane, acks, hears, without}
use Rattle.fluid_roamers.specs.declared.roamer.Roamer.{Roamer}
use Rattle.fluid_roamers.proofs.Outboxes.{heard_acks}

-- ---- one message

-- the count of acknowledged edits rises where it acknowledges one
pub rises : (past : Past) (m : Message) → nat_lt (acknowledged past) (acknowledged (Heard m ∷ past)) ≡ acks past m
rises past m = by (acks past m) refl
  where
    by : (b : Bool) → acks past m ≡ b → nat_lt (acknowledged past) (acknowledged (Heard m ∷ past)) ≡ acks past m
    by true is = ap (nat_lt (acknowledged past)) (heard_acks past m true is) ∙ lt-ltb (acknowledged past) (acknowledged past + 1) (omega arith) ∙ sym is
    by false is = ap (nat_lt (acknowledged past)) (heard_acks past m false is) ∙ le-ltb (acknowledged past) (acknowledged past) (omega arith) ∙ sym is

-- ---- one more

hears_more : (past : Past) (ms : List Message) (m : Message) → hears past (ms ++ m ∷ []) ≡ Heard m ∷ hears past ms
hears_more past [] m = refl
hears_more past (x ∷ ms) m = hears_more (Heard x ∷ past) ms m

fold_more : (ch : Channels) (ms : List Message) (m : Message) → fold after_message ch (ms ++ m ∷ []) ≡ after_message (fold after_message ch ms) m
fold_more ch [] m = refl
fold_more ch (x ∷ ms) m = fold_more (after_message ch x) ms m

without_more : (past : Past) (ms : List Message) (m : Message) (es : List Edit) → without past (ms ++ m ∷ []) es ≡ without (hears past ms) (m ∷ []) (without past ms es)
without_more past [] m es = refl
without_more past (x ∷ ms) m es = without_more (Heard x ∷ past) ms m (if acks past x && is_op x then drop 1 es else es)

pub takes_none : (past : Past) (h : Roamer) → Stands h.outbox past → TakesIn past [] h h
takes_none past h stands = record { same = record { document = refl; client = refl; edits = refl }; outbox = stands; channels = refl; pending = refl }

pub takes_more : (past : Past) (ms : List Message) (m : Message) (old mid new : Roamer) → TakesIn past ms old mid → TakesIn (hears past ms) (m ∷ []) mid new → TakesIn past (ms ++ m ∷ []) old new
takes_more past ms m old mid new some one = record {
  same = record { document = one.same.document ∙ some.same.document; client = one.same.client ∙ some.same.client; edits = one.same.edits ∙ some.same.edits };
  outbox = subst (Stands new.outbox) (sym (hears_more past ms m)) one.outbox;
  channels = one.channels ∙ ap (λ ch. after_message ch m) some.channels ∙ sym (fold_more old.app.channels ms m);
  pending = one.pending ∙ ap (without (hears past ms) (m ∷ [])) some.pending ∙ sym (without_more past ms m old.app.pending);
}

-- ---- all of them

-- so many were taken in, and these are left
pub record HasTaken (all rest : List Message) (old now : Roamer) : Type 0 where
  pub took : (past : Past) → Stands old.outbox past → (prefix : List Message) × ((all ≡ prefix ++ rest) × TakesIn past prefix old now)
  pub kept : IsSendable now.outbox
  pub ahead : AreNumberedFrom (now.outbox.heard_to + 1) rest

pub taken_none : (all : List Message) (h : Roamer) → IsSendable h.outbox → AreNumberedFrom (h.outbox.heard_to + 1) all → HasTaken all all h h
taken_none all h kept numbered = record { took = λ past stands. ([], (refl, takes_none past h stands)); kept = kept; ahead = numbered }

numbered_next : (all rest : List Message) (m : Message) (ahead : List Message) (old now : Roamer) → ahead ≡ m ∷ rest → HasTaken all ahead old now → AreNumberedFrom (now.outbox.heard_to + 1) (m ∷ rest)
numbered_next all rest m ahead old now is some = subst (AreNumberedFrom (now.outbox.heard_to + 1)) is some.ahead

-- the next one has the number behind the last
pub next_number : (all rest : List Message) (m : Message) (ahead : List Message) (old now : Roamer) → ahead ≡ m ∷ rest → HasTaken all ahead old now → m.number ≡ now.outbox.heard_to + 1
next_number all rest m ahead old now is some = (numbered_next all rest m ahead old now is some).0

pub taken_more : (all rest : List Message) (m : Message) (ahead : List Message) (old now new : Roamer) → ahead ≡ m ∷ rest → HasTaken all ahead old now → ((past : Past) → Stands now.outbox past → TakesIn past (m ∷ []) now new) → IsSendable new.outbox
    → new.outbox.heard_to ≡ now.outbox.heard_to + 1 → HasTaken all rest old new
taken_more all rest m ahead old now new is some one kept number = record {
  took = λ past stands.
      let t = some.took past stands in (
        t.0 ++ m ∷ [],
        (
          t.1.0 ∙ ap (λ xs. t.0 ++ xs) is ∙ sym (append_assoc t.0 (m ∷ []) rest),
          takes_more past t.0 m old now new t.1.1 (one (hears past t.0) t.1.1.outbox),
        ),
      );
  kept = kept;
  ahead = subst (λ n. AreNumberedFrom n rest) (omega (arith, number)) (numbered_next all rest m ahead old now is some).1;
}

pub taken_all : (all rest : List Message) (old now : Roamer) → rest ≡ [] → HasTaken all rest old now → (past : Past) → Stands old.outbox past → TakesIn past all old now
taken_all all rest old now none some past stands =
    let t = some.took past stands in
    subst (λ ms. TakesIn past ms old now) (sym (t.1.0 ∙ ap (λ xs. t.0 ++ xs) none ∙ append-nil t.0)) t.1.1

-- ---- on the lane of its document

seq_is : (d : Document) → seq (ledger_of d) ≡ length (order (ledger_of d))
unfolding seq
seq_is d = refl

-- nothing is behind what was heard
pub hears_none : (limits : Limits) (d : Document) (past : Past) (lane : Standing) (h : Roamer) → IsLaneOf limits lane d → Stands h.outbox past → lane.entries.state.sequencer.sequence ≤ h.outbox.heard_to
    → HearsLane limits d past lane h h
hears_none limits d past lane h of stands le = record {
  stands = of;
  takes = subst (λ ms. TakesIn past ms h h) (sym (drop_all h.outbox.heard_to (order (ledger_of d)) (omega (arith, le, (lane_of limits lane d of).seq, seq_is d)))) (takes_none past h stands);
}

pub hears_some : (limits : Limits) (d : Document) (past : Past) (lane : Standing) (messages : List Message) (from : ℕ) (old new : Roamer) → Fetched limits d from lane messages → from ≡ old.outbox.heard_to + 1
    → TakesIn past messages old new → HearsLane limits d past lane old new
hears_some limits d past lane messages from old new fetched is takes = record {
  stands = fetched.stands;
  takes = subst (λ ms. TakesIn past ms old new) (fetched.are ∙ ap (λ n. drop n (order (ledger_of d))) (omega (arith, is))) takes;
}
