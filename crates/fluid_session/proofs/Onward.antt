-- How what happened goes on: runs one after another, and the runs of one event.
use Rattle.std.proofs.Common.{◌≡◌, ℕ, ◌<◌, ◌≤◌, Bool, true, false, List, [], ◌∷◌, ◌++◌, Option, Some, None, Result, Ok, Err, refl, sym, ap, subst, ◌∙◌, arith, append_assoc, append-nil}
use Rattle.std.specs.Prelude.{nat_le, if◌then◌else◌}
use Rattle.std.proofs.lemmas.Bool.{false≢true}
use Rattle.fluid_types.specs.Forms.{largest}
use Rattle.fluid_store.specs.Storing.{Storing}
use Rattle.fluid_codec.specs.declared.replies.Reply.{Reply}
use Rattle.fluid_lines.specs.declared.wire.WireText.TheVariants.{In}
use Rattle.fluid_lines.specs.declared.wire.WireFault.{WireFault}
use Rattle.fluid_lines.specs.declared.wire.WireFault.TheVariants as wire
use Rattle.fluid_lines.specs.declared.wire.Recv.{Recv}
use Rattle.fluid_lines.specs.declared.wire.Recv.TheVariants.{Text, Quiet, End, TooLong as RecvLong}
use Rattle.fluid_lines.specs.Wires.{Wiring, Receives, ReceivesText, ReceivesQuiet, ReceivesEnd, ReceivesTooLong, ReceivesFault, AddsNothing, Stays}
use Rattle.fluid_voice.specs.declared.states.VoiceState.{VoiceState}
use Rattle.fluid_voice.specs.declared.states.VoiceState.TheVariants.{Fresh, Reading, Writing, Used}
use Rattle.fluid_voice.specs.States.{is_connected, is_used, next_number, with_next}
use Rattle.fluid_voice.specs.Heard.{acts_of}
use Rattle.fluid_voice.specs.Replies.{has_front_nack}
use Rattle.fluid_ends.specs.declared.fault.TalkFault.{TalkFault}
use Rattle.fluid_talk.specs.declared.heard.Heard.{Heard}
use Rattle.fluid_talk.specs.Talking.{Talking, IsSound}
use Rattle.fluid_talk.specs.Hearing.{Hears, HearsApart}
use Rattle.fluid_talk.specs.Collecting.{Collects, Feeds}
use Rattle.fluid_session.specs.declared.report.SessionEnd.{SessionEnd}
use Rattle.fluid_session.specs.declared.report.SessionEnd.TheVariants.{Closed, TooLong, NoMemory, Abused, WireFault as WireFailed}
use Rattle.fluid_session.specs.declared.tally.Tally.{Tally}
use Rattle.fluid_session.specs.Counted.{plus, capped, counts_of}
use Rattle.fluid_session.specs.Ends.{end_of, wire_end, behind_text, most_unread}
use Rattle.fluid_session.specs.Sending.{Passes, SendsAll, out_texts}
use Rattle.fluid_session.specs.Events.{Event, Stand, IsReached, AreEvents, AreWhole, texts_of, history_of, counted_with, counted_behind, Round, Collection, IsHeardApart, behind}
use Rattle.fluid_session.specs.Events.Event.{brings, hears}
use Rattle.fluid_session.specs.Running.{EndsIn, Stops, GoesOrStops, StaysBehind, Runs, IsFed, IsHeard, IsCycle, FeedsOnce, HearsOnce, CyclesOnce}
use Rattle.fluid_session.specs.Running.Stops.{at_end, at_long, at_receive, at_feed, at_reply, at_text, at_collection, at_count}
use Rattle.fluid_session.proofs.Sent.{passes_nothing, passes_by, passes_then, cause_later, rose_later}

-- ---- lists of events

history-append : (a b : List Event) → history_of (a ++ b) ≡ history_of a ++ history_of b
history-append [] b = refl
history-append (e ∷ es) b = ap (λ l. texts_of e ++ l) (history-append es b) ∙ sym (append_assoc (texts_of e) (history_of es) (history_of b))

counted-append : (a b : List Event) (tally : Tally) → counted_behind tally (a ++ b) ≡ counted_behind (counted_behind tally a) b
counted-append [] b tally = refl
counted-append (e ∷ es) b tally = counted-append es b (counted_with tally e)

events_then : (a b : List Event) (s m t : Stand) → AreEvents s a m → AreEvents m b t → AreEvents s (a ++ b) t
events_then [] b s m t same rest = subst (λ x. AreEvents x b t) same rest
events_then (e ∷ es) b s m t (begins, (is, more)) rest = (begins, (is, events_then es b (behind e s) m t more rest))

whole_then : (a b : List Event) → AreWhole a → AreWhole b → AreWhole (a ++ b)
whole_then [] b first rest = rest
whole_then (e ∷ es) b (is, more) rest = (is, whole_then es b more rest)

ends_then : (e : Event) (a b : List Event) → AreWhole a → EndsIn e b → EndsIn e (a ++ b)
ends_then e a b first last = record {
  prefix = a ++ last.prefix;
  are = ap (λ l. a ++ l) last.are ∙ sym (append_assoc a last.prefix (e ∷ []));
  whole = whole_then a last.prefix first last.whole;
}

-- ---- one run after another

stops_then : (a b : List Event) (m t : Talking) (old mid at new : Wiring) (tally : Tally) (end : SessionEnd) → AreWhole a → old.faults ≤ mid.faults
    → Stops b m t mid at new tally end → Stops (a ++ b) m t old at new tally end
stops_then a b m t old mid at new tally end first later (at_end is whole few same reached none) = at_end is (whole_then a b first whole) few same reached none
stops_then a b m t old mid at new tally end first later (at_long size is whole few same long next) = at_long size is (whole_then a b first whole) few same long next
stops_then a b m t old mid at new tally end first later (at_receive fault is whole few same cause) =
    at_receive fault is (whole_then a b first whole) few same (cause_later old mid new fault later cause)
stops_then a b m t old mid at new tally end first later (at_feed c fault is last few unsent same cause) =
    at_feed c fault is (ends_then (brings c) a b first last) few unsent same (cause_later old mid new fault later cause)
stops_then a b m t old mid at new tally end first later (at_reply r fault is last few unsent well same cause) =
    at_reply r fault is (ends_then (hears r) a b first last) few unsent well same (cause_later old mid new fault later cause)
stops_then a b m t old mid at new tally end first later (at_text r fault is last few failed same) =
    at_text r fault is (ends_then (hears r) a b first last) few failed same
stops_then a b m t old mid at new tally end first later (at_collection fault is whole few joined fails) =
    at_collection fault is (whole_then a b first whole) few joined fails
stops_then a b m t old mid at new tally end first later (at_count is whole many same) = at_count is (whole_then a b first whole) many same

by_then : (a b : List Event) (m t : Talking) (old mid at new : Wiring) (tally : Tally) (result : Result (Unit {0}) SessionEnd) → AreWhole a → old.faults ≤ mid.faults
    → GoesOrStops b m t mid at new tally result → GoesOrStops (a ++ b) m t old at new tally result
by_then a b m t old mid at new tally (Ok done) first later (whole, goes) = (whole_then a b first whole, goes)
by_then a b m t old mid at new tally (Err end) first later stops = stops_then a b m t old mid at new tally end first later stops

pub runs_then : (s m t : Stand) (old mid new : Wiring) (had have has : Tally) (result : Result (Unit {0}) SessionEnd)
    → Runs s m old mid had have (Ok tt) → Runs m t mid new have has result → Runs s t old new had has result
runs_then s m t old mid new had have has result first second =
    let before : Passes (history_of first.events) old mid = subst (λ (w : Wiring). Passes (history_of first.events) old w) (sym first.by.1.1.1) first.passes in
    record {
      events = first.events ++ second.events;
      behind_them = second.behind_them;
      are =
          events_then first.events second.events s m _
          (subst (λ (k : Talking). AreEvents s first.events (record { talk = k; store = m.store })) (sym first.by.1.0) first.are) second.are;
      mid = second.mid;
      passes = subst (λ l. Passes l old second.mid) (sym (history-append first.events second.events)) (passes_then _ _ old mid second.mid before second.passes);
      stays = second.stays;
      counted = second.counted ∙ ap (λ tally. counted_behind tally second.events) first.counted ∙ sym (counted-append first.events second.events had);
      by = by_then first.events second.events second.behind_them t.talk old mid second.mid new has result first.by.0 before.faults second.by;
    }

-- ---- one cycle

one : (a b : List Event) (result : Result (Unit {0}) SessionEnd) (old mid new : Wiring) → old.quiets ≤ mid.quiets → IsFed a (Ok tt) → IsHeard b result mid new → IsCycle (a ++ b) result old new
one [] b result old mid new later fed heard = absurd fed
one (brings c ∷ []) [] (Ok done) old mid new later fed heard = rose_later old.quiets mid.quiets new.quiets later heard
one (brings c ∷ []) [] (Err end) old mid new later fed heard = tt
one (brings c ∷ []) (hears r ∷ []) result old mid new later fed heard = tt
one (brings c ∷ []) (hears r ∷ e ∷ es) result old mid new later fed heard = absurd heard
one (brings c ∷ []) (brings d ∷ es) result old mid new later fed heard = absurd heard
one (brings c ∷ e ∷ es) b result old mid new later fed heard = absurd fed
one (hears r ∷ es) b result old mid new later fed heard = absurd fed

-- what was collected, and then what was heard
pub cycled : (s m t : Stand) (old mid new : Wiring) (had have has : Tally) (result : Result (Unit {0}) SessionEnd)
    → FeedsOnce s m old mid had have (Ok tt) → HearsOnce m t mid new have has result → CyclesOnce s t old new had has result
unfolding runs_then
cycled s m t old mid new had have has result first second =
    let later : old.quiets ≤ mid.quiets = subst (λ (w : Wiring). old.quiets ≤ w.quiets) (sym first.runs.by.1.1.1) first.runs.passes.quiets in
    record {
      runs = runs_then s m t old mid new had have has result first.runs second.runs;
      once = one first.runs.events second.runs.events result old mid new later first.once second.once;
    }

fed_only : (events : List Event) (end : SessionEnd) (old new : Wiring) → IsFed events (Err end) → IsCycle events (Err end) old new
fed_only [] end old new fed = tt
fed_only (brings c ∷ []) end old new fed = tt
fed_only (brings c ∷ e ∷ es) end old new fed = absurd fed
fed_only (hears r ∷ es) end old new fed = absurd fed

-- what was collected ended it
pub cycled_fed : (s t : Stand) (old new : Wiring) (had has : Tally) (end : SessionEnd) → FeedsOnce s t old new had has (Err end) → CyclesOnce s t old new had has (Err end)
cycled_fed s t old new had has end fed = record { runs = fed.runs; once = fed_only fed.runs.events end old new fed.once }

-- ---- runs of no event

stays_same : (w : Wiring) → StaysBehind w w
stays_same w = record { history = refl; faults = omega arith }

pub runs_still : (s : Stand) (tally : Tally) (old new : Wiring) → tally.unread < most_unread → new.history ≡ old.history → new.texts ≡ old.texts → old.quiets ≤ new.quiets → old.faults ≤ new.faults
    → Runs s s old new tally tally (Ok tt)
runs_still s tally old new few same texts quiets later = record {
  events = [];
  behind_them = s.talk;
  are = refl;
  mid = new;
  passes = passes_by old new same texts quiets later;
  stays = stays_same new;
  counted = refl;
  by = (tt, (refl, (few, refl)));
}

runs_stop : (s : Stand) (tally : Tally) (old new : Wiring) (end : SessionEnd) → new.history ≡ old.history → old.faults ≤ new.faults
    → Stops [] s.talk s.talk old old new tally end → Runs s s old new tally tally (Err end)
runs_stop s tally old new end same later stops = record {
  events = [];
  behind_them = s.talk;
  are = refl;
  mid = old;
  passes = passes_nothing old;
  stays = record { history = same; faults = later };
  counted = refl;
  by = stops;
}

no_fault : {A E : Type 0} (a : A) (e : E) → Err e ≡ Ok a → ⊥
no_fault a e same = cc

-- a collection that failed
pub fails_collecting : (s t : Talking) (store : Storing) (tally : Tally) (w : Wiring) (fault : TalkFault) → tally.unread < most_unread → Collects s t (Err fault)
    → FeedsOnce (record { talk = s; store = store }) (record { talk = t; store = store }) w w tally tally (Err (end_of fault))
fails_collecting s t store tally w fault few collects = by (is_connected s.voice) refl
  where
    by : (b : Bool) → is_connected s.voice ≡ b → FeedsOnce (record { talk = s; store = store }) (record { talk = t; store = store }) w w tally tally (Err (end_of fault))
    by true joined = record {
      runs = record {
        events = [];
        behind_them = s;
        are = refl;
        mid = w;
        passes = passes_nothing w;
        stays = stays_same w;
        counted = refl;
        by = at_collection fault refl tt few joined (collects.connected joined);
      };
      once = tt;
    }
    by false apart = absurd (no_fault _ _ (collects.apart apart).0)

-- ---- a collection

pub fed_well : (s t : Talking) (store : Storing) (tally : Tally) (old new : Wiring) (given : List Reply) → tally.unread < most_unread → Collects s t (Ok given) → IsSound t → SendsAll old new given (Ok tt)
    → FeedsOnce (record { talk = s; store = store }) (record { talk = t; store = store }) old new tally tally (Ok tt)
fed_well s t store tally old new given few collects sound sends = record {
  runs = record {
    events = brings (record { from = s; to = t; given = given; sent = sends.sent; sending = Ok tt }) ∷ [];
    behind_them = t;
    are = (refl, (record { collects = collects; sound = sound; is_sent = sends.is_sent }, refl));
    mid = new;
    passes = subst (λ l. Passes l old new) (sym (append-nil (out_texts sends.sent))) sends.passes;
    stays = stays_same new;
    counted = refl;
    by = ((refl, tt), (refl, (few, refl)));
  };
  once = tt;
}

pub fed_badly : (s t : Talking) (store : Storing) (tally : Tally) (old new : Wiring) (given : List Reply) (fault : WireFault) → tally.unread < most_unread → Collects s t (Ok given) → IsSound t
    → SendsAll old new given (Err fault) → FeedsOnce (record { talk = s; store = store }) (record { talk = t; store = store }) old new tally tally (Err (wire_end fault))
fed_badly s t store tally old new given fault few collects sound sends =
    let c : Collection = record { from = s; to = t; given = given; sent = sends.sent; sending = Err fault } in
    record {
      runs = record {
        events = brings c ∷ [];
        behind_them = t;
        are = (refl, (record { collects = collects; sound = sound; is_sent = sends.is_sent }, refl));
        mid = new;
        passes = subst (λ l. Passes l old new) (sym (append-nil (out_texts sends.sent))) sends.passes;
        stays = stays_same new;
        counted = refl;
        by = at_feed c fault refl (record { prefix = []; are = refl; whole = tt }) few refl refl sends.cause;
      };
      once = tt;
    }

-- ---- a text

-- what a text that came in at the wire `w` adds, with its replies
heard_passes : (w old new : Wiring) (text : List ℕ) (given : List Reply) (result : Result (Unit {0}) WireFault) → ReceivesText w old text → Stays w old
    → (sends : SendsAll old new given result) → Passes ((In text ∷ out_texts sends.sent) ++ []) w new
heard_passes w old new text given result came later sends =
    subst (λ l. Passes l w new) (sym (append-nil (In text ∷ out_texts sends.sent)))
    (passes_then (In text ∷ []) (out_texts sends.sent) w old new (record { adds = came.adds; taken = came.next; quiets = later.quiets; faults = later.faults }) sends.passes)

nat_le-le : (a b : ℕ) → nat_le a b ≡ true → a ≤ b
nat_le-le a b h = grind arith

nat_le-lt : (a b : ℕ) → nat_le a b ≡ false → b < a
nat_le-lt a b h = grind arith

capped_few : (b : Bool) (n : ℕ) → n < most_unread → capped n (if b then 1 else 0) ≤ most_unread
capped_few true n few = grind arith
capped_few false n few = grind arith

-- how a session goes on behind a text
heard_by : (r : Round) (t : Talking) (fault : Option TalkFault) (result : Result (Unit {0}) WireFault) (w old new : Wiring) (tally : Tally) → r.heard.fault ≡ fault → r.sending ≡ result → tally.unread ≤ most_unread
    → w.faults ≤ old.faults → (given : List Reply) → SendsAll old new given result → GoesOrStops (hears r ∷ []) t t w new new tally (behind_text fault result tally.unread)
heard_by r t (Some f) result w old new tally failed sending few later given sends =
    at_text r f refl (record { prefix = []; are = refl; whole = tt }) few failed refl
heard_by r t None (Err f) w old new tally failed sending few later given sends =
    at_reply r f refl (record { prefix = []; are = refl; whole = tt }) few sending failed refl (cause_later w old new f later sends.cause)
heard_by r t None (Ok done) w old new tally failed sending few later given sends = by (nat_le most_unread tally.unread) refl
  where
    by : (b : Bool) → nat_le most_unread tally.unread ≡ b → GoesOrStops (hears r ∷ []) t t w new new tally (if b then Err (Abused tally.unread) else Ok tt)
    by true many =
        let above : most_unread ≤ tally.unread = nat_le-le most_unread tally.unread many in
        let same : tally.unread ≡ most_unread = omega (arith, few, above) in
        at_count (ap Abused same) ((sending, failed), tt) same refl
    by false below = (((sending, failed), tt), (refl, (nat_le-lt most_unread tally.unread below, refl)))

heard_runs : (s t : Talking) (before now : Storing) (had : Tally) (w old new : Wiring) (text : List ℕ) (moment : ℕ) (h : Heard) (result : Result (Unit {0}) WireFault) → had.unread < most_unread → moment ≤ largest
    → IsReached s → is_used s.voice ≡ false → Hears s t before now text moment h → IsSound t → ReceivesText w old text → Stays w old → SendsAll old new h.replies result
    → HearsOnce (record { talk = s; store = before }) (record { talk = t; store = now }) w new had (plus had (counts_of h)) (behind_text h.fault result (plus had (counts_of h)).unread)
heard_runs s t before now had w old new text moment h result few timely reached unused hears_it sound came later sends = by (is_connected s.voice) refl
  where
    run : (reached_is : Option (List ℕ))
        → (is_connected s.voice ≡ false
        → IsHeardApart (record { from = s; to = t; before = before; now = now; text = text; moment = moment; reached = reached_is; done = hears_it.done; heard = h; sent = sends.sent; sending = result }))
        → (is_connected s.voice ≡ true → reached_is ≡ None)
        → HearsOnce (record { talk = s; store = before }) (record { talk = t; store = now }) w new had (plus had (counts_of h)) (behind_text h.fault result (plus had (counts_of h)).unread)
    run reached_is apart joined =
        let r : Round = record { from = s; to = t; before = before; now = now; text = text; moment = moment; reached = reached_is; done = hears_it.done; heard = h; sent = sends.sent; sending = result } in
        record {
          runs = record {
            events = hears r ∷ [];
            behind_them = t;
            are = ((refl, refl), (record { reached = reached; timely = timely; unused = unused; hears_it = hears_it.heard; apart = apart; joined = joined; sound = sound; is_sent = sends.is_sent }, refl));
            mid = new;
            passes = heard_passes w old new text h.replies result came later sends;
            stays = stays_same new;
            counted = refl;
            by = heard_by r t h.fault result w old new (plus had (counts_of h)) refl refl (capped_few (has_front_nack h.replies) had.unread few) later.faults h.replies sends;
          };
          once = tt;
        }

    by : (b : Bool) → is_connected s.voice ≡ b
        → HearsOnce (record { talk = s; store = before }) (record { talk = t; store = now }) w new had (plus had (counts_of h)) (behind_text h.fault result (plus had (counts_of h)).unread)
    by true joined = run None (λ still. absurd (false≢true (sym still ∙ joined))) (λ again. refl)
    by false still =
        let a : HearsApart s t before (acts_of s.voice text moment) hears_it.done h.fault = hears_it.heard.does.apart still in
        run a.reached (λ again. record { does = a.does; ends = a.ends; cause = a.cause }) (λ joined. absurd (false≢true (sym still ∙ joined)))

-- the same, of what the code has in hand: the numbers and the replies of the text, and the end
pub answered : (s t : Talking) (before now : Storing) (had has : Tally) (w mid old new : Wiring) (text : List ℕ) (moment : ℕ) (h : Heard) (unread : ℕ) (looked replies : List Reply)
    (result : Result (Unit {0}) WireFault) (end : Result (Unit {0}) SessionEnd) → had.unread < most_unread → moment ≤ largest → IsReached s → is_used s.voice ≡ false → Hears s t before now text moment h → IsSound t → looked ≡ h.replies
    → replies ≡ h.replies → unread ≡ (if has_front_nack looked then 1 else 0)
    → has ≡ plus had (record { sequenced = h.sequenced; dropped = h.dropped; nacked = h.nacked; absorbed = h.absorbed; unread = unread }) → old ≡ mid
    → SendsAll old new replies result → end ≡ behind_text h.fault result has.unread → ReceivesText w mid text → Stays w mid
    → HearsOnce (record { talk = s; store = before }) (record { talk = t; store = now }) w new had has end
answered s t before now had has w mid old new text moment h unread looked replies result end few timely reached unused hears_it sound looked_is replies_are unread_is counted followed sends end_is came later =
    let told : has ≡ plus had (counts_of h) =
    counted ∙ ap (λ u. plus had (record { sequenced = h.sequenced; dropped = h.dropped; nacked = h.nacked; absorbed = h.absorbed; unread = u }))
    (unread_is ∙ ap (λ l. if has_front_nack l then 1 else 0) looked_is) in
    subst (λ e. HearsOnce (record { talk = s; store = before }) (record { talk = t; store = now }) w new had has e) (sym end_is)
    (subst (λ k. HearsOnce (record { talk = s; store = before }) (record { talk = t; store = now }) w new had k (behind_text h.fault result k.unread)) (sym told)
    (heard_runs s t before now had w mid new text moment h result few timely reached unused hears_it sound came later (subst (λ l. SendsAll mid new l result) replies_are (subst (λ m. SendsAll m new replies result) followed sends))))

-- ---- what a wire answers

pub received_text : (w mid : Wiring) (answer : Recv) (text now : List ℕ) → Receives w mid (Ok answer) → answer ≡ Text text → now ≡ text → ReceivesText w mid now
received_text w mid answer text now does is same = subst (λ t. ReceivesText w mid t) (sym same) (subst (λ r. Receives w mid (Ok r)) is does)

heard_nothing : (s : Stand) (tally : Tally) (old new : Wiring) → tally.unread < most_unread → ReceivesQuiet old new → Stays old new → HearsOnce s s old new tally tally (Ok tt)
unfolding runs_still
heard_nothing s tally old new few quiet stays = record { runs = runs_still s tally old new few quiet.same quiet.texts stays.quiets stays.faults; once = quiet.rose }

heard_stop : (s : Stand) (tally : Tally) (old new : Wiring) (end : SessionEnd) → new.history ≡ old.history → old.faults ≤ new.faults → Stops [] s.talk s.talk old old new tally end
    → HearsOnce s s old new tally tally (Err end)
unfolding runs_stop
heard_stop s tally old new end same later stops = record { runs = runs_stop s tally old new end same later stops; once = tt }

pub received_quiet : (s : Stand) (tally : Tally) (old new : Wiring) (answer : Recv) → tally.unread < most_unread → Receives old new (Ok answer) → answer ≡ Quiet → Stays old new → HearsOnce s s old new tally tally (Ok tt)
received_quiet s tally old new answer few does is stays =
    heard_nothing s tally old new few (subst (λ r. Receives old new (Ok r)) is does) stays

pub received_end : (s : Stand) (tally : Tally) (old new : Wiring) (answer : Recv) → tally.unread < most_unread → IsReached s.talk → Receives old new (Ok answer) → answer ≡ End → Stays old new
    → HearsOnce s s old new tally tally (Err Closed)
received_end s tally old new answer few reached does is stays =
    let end : ReceivesEnd old new = subst (λ r. Receives old new (Ok r)) is does in
    heard_stop s tally old new Closed end.same stays.faults (at_end refl tt few refl reached end.ended)

pub received_long : (s : Stand) (tally : Tally) (old new : Wiring) (answer : Recv) (size : ℕ) → tally.unread < most_unread → Receives old new (Ok answer) → answer ≡ RecvLong size → Stays old new
    → HearsOnce s s old new tally tally (Err (TooLong size))
received_long s tally old new answer size few does is stays =
    let long : ReceivesTooLong old new size = subst (λ r. Receives old new (Ok r)) is does in
    heard_stop s tally old new (TooLong size) long.same stays.faults (at_long size refl tt few refl long.above long.next)

pub received_failed : (s : Stand) (tally : Tally) (old new : Wiring) (fault : WireFault) → tally.unread < most_unread → Receives old new (Err fault) → fault ≡ wire.Failed → Stays old new
    → HearsOnce s s old new tally tally (Err WireFailed)
received_failed s tally old new fault few does is stays =
    let failed : ReceivesFault old new = subst (λ f. Receives old new (Err f)) is does in
    heard_stop s tally old new WireFailed failed.same stays.faults (at_receive wire.Failed refl tt few refl failed.rose)

pub received_refused : (s : Stand) (tally : Tally) (old new : Wiring) (fault : WireFault) → tally.unread < most_unread → Receives old new (Err fault) → fault ≡ wire.NoMemory → Stays old new
    → HearsOnce s s old new tally tally (Err NoMemory)
received_refused s tally old new fault few does is stays =
    let refused : AddsNothing old new = subst (λ f. Receives old new (Err f)) is does in
    heard_stop s tally old new NoMemory refused stays.faults (at_receive wire.NoMemory refl tt few refl tt)

-- ---- what a collection leaves

with_next-connected : (to : ℕ) (s : VoiceState) → is_connected (with_next to s) ≡ is_connected s
with_next-connected to Fresh = refl
with_next-connected to (Reading name next) = refl
with_next-connected to (Writing name id next) = refl
with_next-connected to Used = refl

with_next-number : (to : ℕ) (s : VoiceState) → is_connected s ≡ true → next_number s ≤ to → next_number (with_next to s) ≡ to
with_next-number to Fresh joined later = absurd (false≢true joined)
with_next-number to (Reading name next) joined later = grind arith
with_next-number to (Writing name id next) joined later = grind arith
with_next-number to Used joined later = absurd (false≢true joined)

-- behind a collection all that was seen is delivered
pub reached_behind : (s t : Talking) (given : List Reply) → Collects s t (Ok given) → IsReached t
reached_behind s t given collects = by (is_connected s.voice) refl
  where
    by : (b : Bool) → is_connected s.voice ≡ b → IsReached t
    by false apart = λ joined told. absurd (false≢true (sym apart ∙ ap (λ (k : Talking). is_connected k.voice) (sym (collects.apart apart).1) ∙ joined))
    by true joined_before = λ joined told.
        let feeds : Feeds s t given = collects.connected joined_before in
        let fed = feeds.told (sym feeds.goes.same.told ∙ told) in
        ap next_number feeds.voice ∙ with_next-number feeds.to s.voice joined_before (let count = feeds.numbers.count in omega arith) ∙ fed.to_last
