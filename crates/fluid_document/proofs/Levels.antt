-- What holds of every document holds of it with an entry more.
use Rattle.std.proofs.Common.{◌≡◌, ℕ, ◌+◌, ◌-◌, ◌^◌, ◌<◌, ◌≤◌, Bool, true, false, cond, length, Result, Ok, Err, OnOk, OnErr, length-drop, refl, sym, ap, ◌∙◌, arith}
use Rattle.std.specs.Prelude.{All}
use Rattle.fluid_types.specs.Fits.{Fits}
use Rattle.fluid_types.specs.declared.entries.Raw.{Raw}
use Rattle.fluid_types.specs.declared.messages.Message.{Message}
use Rattle.fluid_types.specs.declared.verdicts.Verdict.{Verdict}
use Rattle.fluid_types.specs.declared.verdicts.Verdict.TheVariants.{Sequenced}
use Rattle.fluid_types.specs.Ledger.{messages_of}
use Rattle.fluid_types.specs.Order.{AreNumberedFrom}
use Rattle.fluid_rules.specs.Counted.{is_counted}
use Rattle.fluid_deltas.specs.Pushed.{Pushed, pushed, IsKeepable, IsFull, DropsPage}
use Rattle.fluid_core.specs.Entering.{State, verdict_in, after}
use Rattle.fluid_core.specs.Entering as entering
use Rattle.fluid_core.proofs.Entered.{parts_of}
use Rattle.fluid_types.specs.Forms.{largest}
use Rattle.fluid_document.specs.Entries.{Entries, counts, taken_up, IsLevelled}
use Rattle.fluid_document.proofs.Onwards.{after-sequence, verdict-number, messages-keepable, sound-after}
use Rattle.fluid_document.proofs.Foldings.{same_entries}

counts_one : (b : Bool) → cond b 1 0 ≤ 1
counts_one true = omega arith
counts_one false = omega arith

one_message : (v : Verdict) → length (messages_of v) ≤ 1
one_message (Sequenced m) = omega arith
one_message v = omega arith

numbered : (n : ℕ) (v : Verdict) → ((m : Message) → v ≡ Sequenced m → m.number ≡ n) → AreNumberedFrom n (messages_of v)
numbered n (Sequenced m) each = (each m refl, tt)
numbered n v each = tt

pub sequence_few : (e : Entries) (d : Pushed) → IsLevelled e d → e.entered < largest → e.state.sequencer.sequence < 2 ^ 53 - 1
sequence_few e d level few = omega (arith, level.sequenced, few)

-- the message of the next verdict, where it has one, is numbered behind those that were pushed, and can be kept
pub next-numbered : (e : Entries) (d : Pushed) (raw : Raw) → IsLevelled e d → AreNumberedFrom (pushed d + 1) (messages_of (verdict_in e.state raw))
next-numbered e d raw level = numbered (pushed d + 1) (verdict_in e.state raw) (λ m is. verdict-number e.state raw m is ∙ ap (λ n. n + 1) level.level)

pub next-keepable : (e : Entries) (d : Pushed) (raw : Raw) → IsLevelled e d → e.entered < largest → Fits raw → All IsKeepable (messages_of (verdict_in e.state raw))
next-keepable e d raw level few fits = messages-keepable e.state raw level.sound (sequence_few e d level few) fits

pub levelled-taken : (e : Entries) (d f : Pushed) (raw : Raw) → IsLevelled e d → e.entered < largest → pushed f ≡ pushed d + length (messages_of (verdict_in e.state raw)) → IsLevelled (taken_up e raw) f
unfolding taken_up
levelled-taken e d f raw level few count =
    let v = verdict_in e.state raw in
    let sequence = after-sequence e.state raw v in
    record {
      level = omega (arith, level.level, sequence, count);
      sequenced = omega (arith, level.sequenced, sequence, one_message v);
      counts = omega (arith, level.counts, counts_one (is_counted raw));
      few = omega (arith, few);
      sound = sound-after e.state raw level.sound (sequence_few e d level few);
    }

-- ---- committing

pub verdict_prepared : (s : State) (raw : Raw) (ready : entering.Prepared) → ready ≡ entering.prepared s raw → ready.ticket.verdict ≡ verdict_in s raw
verdict_prepared s raw ready is = (parts_of s raw ready is).verdict_is

pub committed : (e : Entries) (raw : Raw) (state : State) (verdict : Verdict) (more : ℕ) → more ≡ counts raw → verdict ≡ verdict_in e.state raw → state ≡ after e.state raw verdict
    → (let now : Entries = record { state = state; entered = e.entered + 1; counted = e.counted + more } in now ≡ taken_up e raw)
unfolding taken_up
committed e raw state verdict more counted said is =
    same_entries _ _ (e.entered + 1) _ _ _ (is ∙ ap (after e.state raw) said) refl (ap (λ n. e.counted + n) counted)

-- as many messages were pushed
pub levelled_same : (e : Entries) (d f : Pushed) → pushed f ≡ pushed d → IsLevelled e d → IsLevelled e f
levelled_same e d f count level = record { level = level.level ∙ sym count; sequenced = level.sequenced; counts = level.counts; few = level.few; sound = level.sound }

-- ---- a page that goes

pub room_pushed : {E : Type 0} (result : Result (Unit {0}) E) (old new : Pushed) → IsFull old → OnOk result (DropsPage old new) → OnErr result (new ≡ old) → pushed new ≡ pushed old
room_pushed (Ok done) old new full drops same = omega (arith, full, drops.before, ap length drops.held, length-drop 256 old.held)
room_pushed (Err fault) old new full drops same = ap pushed same

pub room_free : {E : Type 0} (result : Result (Unit {0}) E) (old new : Pushed) → IsFull old → OnOk result (DropsPage old new) → OnOk result (length new.held < 4096)
room_free (Ok done) old new full drops = omega (arith, full, ap length drops.held, length-drop 256 old.held)
room_free (Err fault) old new full drops = tt
