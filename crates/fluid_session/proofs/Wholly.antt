-- A whole session, from its account.
use Rattle.std.proofs.Common.{◌≡◌, inl, inr, ℕ, ◌+◌, ◌-◌, ◌^◌, ◌<◌, ◌≤◌, Bool, true, false, List, [], ◌∷◌, ◌++◌, length, Err, refl, sym, ap, subst, ◌∙◌, arith, append_assoc, append-nil, length-append, zero-add}
use Rattle.std.specs.Option.{option_map}
use Rattle.std.proofs.lemmas.Bool.{false≢true}
use Rattle.fluid_turn.specs.Entries.{IsPrefix, made_by}
use Rattle.fluid_turn.proofs.Lists.{prefix_refl, prefix_trans}
use Rattle.fluid_types.specs.declared.entries.Raw.TheVariants.{Leave}
use Rattle.fluid_types.specs.declared.verdicts.Verdict.{Verdict}
use Rattle.fluid_types.specs.Forms.{largest}
use Rattle.fluid_deltas.specs.Pushed.{slice}
use Rattle.fluid_store.specs.Storing.{Storing}
use Rattle.fluid_lane.specs.declared.steps.Step.{Step}
use Rattle.fluid_lines.specs.Wires.{Wiring}
use Rattle.fluid_voice.specs.States.{client_id, is_connected, leave_of, next_number}
use Rattle.fluid_voice.specs.Replies.{is_sequenced, is_dropped, is_nacked}
use Rattle.fluid_talk.specs.Talking.{Knowing, Talking, Keyed, IsSound, order_of}
use Rattle.fluid_talk.specs.Counting.{is_absorbed}
use Rattle.fluid_talk.specs.Doing.{steps_in, may_steps}
use Rattle.fluid_session.specs.declared.report.SessionEnd.{SessionEnd}
use Rattle.fluid_session.specs.declared.report.SessionEnd.TheVariants.{Closed}
use Rattle.fluid_session.specs.declared.report.Report.{Report}
use Rattle.fluid_session.specs.declared.tally.Tally.{Tally}
use Rattle.fluid_session.specs.Counted.{nothing, counts_of}
use Rattle.fluid_session.specs.Ends.{most_unread}
use Rattle.fluid_session.specs.Events.{Event, Stand, Round, IsReached, AreWhole, counted_behind}
use Rattle.fluid_session.specs.Events.Event.{brings, hears}
use Rattle.fluid_session.specs.Running.{EndsIn, Runs, Stops}
use Rattle.fluid_session.specs.Running.Stops.{at_end, at_long, at_receive, at_feed, at_reply, at_text, at_collection, at_count}
use Rattle.fluid_session.specs.Outcome.{MayBreakLast, GoesOn, Stretches, HasLeft, HasCounts, Joins, StaysApart, SessionOutcome, count_steps, steps_of, steps_of_round, unread_in, entered, entered_in, collected_in}
use Rattle.fluid_session.specs.Whole.{Account, Concludes, Serves, HasNumbers}
use Rattle.fluid_session.proofs.Passes.{Connected, Apart, Went, went, stretches, slice-grows, order-prefix, found_prefix, read_between, answered_later, are_read, are_reached, sound_behind}
use Rattle.fluid_session.proofs.Prefixes.{sends_in_order}
use Rattle.fluid_session.proofs.Nacking.{nacks_in_order}
use Rattle.fluid_session.proofs.Serving.{served_behind}
use Rattle.fluid_session.proofs.Filling.{submits, submits_later}
use Rattle.fluid_session.proofs.Counts.{sum_in, IsSummed, IsCountOf, sum_most, sum_exact, unread_sum, sum_steps, sum_apart, sum-append, apart_counts, count_few, made_few}
use Rattle.fluid_session.proofs.Keys.{key_on, all_beyond}
use Rattle.fluid_session.proofs.Doorways.{connected_as, last_doors}
use Rattle.fluid_session.proofs.Leavings.{Halts, Closes, stops_halts, closes, quiet_whole, closed_reached, stops_few, entered-append, entered_steps, may_enter_nothing}

-- ---- the last event alone may be broken

whole_may : (es : List Event) → AreWhole es → MayBreakLast es
whole_may [] whole = tt
whole_may (e ∷ []) whole = tt
whole_may (e ∷ other ∷ es) (here, rest) = (here, whole_may (other ∷ es) rest)

prefix_may : (e : Event) (prefix : List Event) → AreWhole prefix → MayBreakLast (prefix ++ e ∷ [])
prefix_may e [] whole = tt
prefix_may e (f ∷ []) (here, rest) = (here, tt)
prefix_may e (f ∷ g ∷ prefix) (here, rest) = (here, prefix_may e (g ∷ prefix) rest)

ends_may : (e : Event) (es : List Event) → EndsIn e es → MayBreakLast es
ends_may e es last = subst MayBreakLast (sym last.are) (prefix_may e last.prefix last.whole)

stops_may : (es : List Event) (m t : Talking) (old mid new : Wiring) (tally : Tally) (end : SessionEnd) → Stops es m t old mid new tally end → MayBreakLast es
stops_may es m t old mid new tally end (at_end is whole few same reached none) = whole_may es whole
stops_may es m t old mid new tally end (at_long size is whole few same long next) = whole_may es whole
stops_may es m t old mid new tally end (at_receive fault is whole few same cause) = whole_may es whole
stops_may es m t old mid new tally end (at_feed c fault is last few unsent same cause) = ends_may (brings c) es last
stops_may es m t old mid new tally end (at_reply r fault is last few unsent well same cause) = ends_may (hears r) es last
stops_may es m t old mid new tally end (at_text r fault is last few failed same) = ends_may (hears r) es last
stops_may es m t old mid new tally end (at_collection fault is whole few joined fails) = whole_may es whole
stops_may es m t old mid new tally end (at_count is whole many same) = whole_may es whole

rest_may : (e : Event) (es : List Event) → MayBreakLast (e ∷ es) → MayBreakLast es
rest_may e [] may = tt
rest_may e (other ∷ es) (here, rest) = rest

behind_may : (early : List Event) (e : Event) (later : List Event) → MayBreakLast (early ++ e ∷ later) → MayBreakLast later
behind_may [] e later may = rest_may e later may
behind_may (f ∷ early) e later may = behind_may early e later (rest_may f (early ++ e ∷ later) may)

-- ---- the report's numbers

sequenced_sum : IsSummed (λ t. t.sequenced)
sequenced_sum = record { adds = λ a b. refl }

dropped_sum : IsSummed (λ t. t.dropped)
dropped_sum = record { adds = λ a b. refl }

nacked_sum : IsSummed (λ t. t.nacked)
nacked_sum = record { adds = λ a b. refl }

absorbed_sum : IsSummed (λ t. t.absorbed)
absorbed_sum = record { adds = λ a b. refl }

unread_summed : IsSummed (λ t. t.unread)
unread_summed = record { adds = λ a b. refl }

sequenced_of : IsCountOf is_sequenced (λ t. t.sequenced)
sequenced_of = record { is = λ r is. is.hears_it.sequenced }

dropped_of : IsCountOf is_dropped (λ t. t.dropped)
dropped_of = record { is = λ r is. is.hears_it.dropped }

nacked_of : IsCountOf is_nacked (λ t. t.nacked)
nacked_of = record { is = λ r is. is.hears_it.nacked }

absorbed_of : IsCountOf is_absorbed (λ t. t.absorbed)
absorbed_of = record { is = λ r is. is.hears_it.absorbed }

-- a number that is summed is the sum, where this is no more than there are steps
exact_by : (f : Tally → ℕ) → IsSummed f → (events : List Event) (number sum : ℕ) → f nothing ≡ 0 → number ≡ f (counted_behind nothing events) → sum_in f events ≡ sum → sum ≤ largest → number ≡ sum
exact_by f summed events number sum zero is sums few =
    let above = sum_most f summed events nothing in
    let below : f (counted_behind nothing events) < 2 ^ 64 - 1 = omega (arith, above, sums, few, zero) in
    let exact = sum_exact f summed events nothing below in
    omega (arith, exact, is, sums, zero)

unread_by : (events : List Event) (number : ℕ) (tally : Tally) → tally ≡ counted_behind nothing events → number ≡ tally.unread → tally.unread ≤ most_unread → number ≡ unread_in events
unread_by events number tally counted is few =
    let same : tally.unread ≡ (counted_behind nothing events).unread = ap (λ (t : Tally). t.unread) counted in
    let below : (counted_behind nothing events).unread < 2 ^ 64 - 1 = omega (arith, same, few) in
    let exact = sum_exact (λ t. t.unread) unread_summed events nothing below in
    is ∙ same ∙ exact ∙ zero-add (sum_in (λ t. t.unread) events) ∙ unread_sum events

-- the numbers of these events, of which only the steps of some are verdicts
has_counts : (report : Report) (tally : Tally) (events : List Event) (steps : List Step) → HasNumbers report tally → tally ≡ counted_behind nothing events → tally.unread ≤ most_unread → length steps ≤ largest
    → ((kind : Verdict → Bool) (f : Tally → ℕ) → IsCountOf kind f → sum_in f events ≡ count_steps kind steps) → HasCounts report steps events
has_counts report tally events steps numbers counted few short sums = record {
  sequenced = exact_by (λ t. t.sequenced) sequenced_sum events report.sequenced _ refl (numbers.sequenced ∙ ap (λ (t : Tally). t.sequenced) counted) (sums is_sequenced (λ t. t.sequenced) sequenced_of) (fewer is_sequenced);
  dropped = exact_by (λ t. t.dropped) dropped_sum events report.dropped _ refl (numbers.dropped ∙ ap (λ (t : Tally). t.dropped) counted) (sums is_dropped (λ t. t.dropped) dropped_of) (fewer is_dropped);
  nacked = exact_by (λ t. t.nacked) nacked_sum events report.nacked _ refl (numbers.nacked ∙ ap (λ (t : Tally). t.nacked) counted) (sums is_nacked (λ t. t.nacked) nacked_of) (fewer is_nacked);
  absorbed = exact_by (λ t. t.absorbed) absorbed_sum events report.absorbed _ refl (numbers.absorbed ∙ ap (λ (t : Tally). t.absorbed) counted) (sums is_absorbed (λ t. t.absorbed) absorbed_of) (fewer is_absorbed);
  unread = unread_by events report.unread tally counted numbers.unread few;
}
  where
    fewer : (kind : Verdict → Bool) → count_steps kind steps ≤ largest
    fewer kind = let one = count_few kind steps in omega (arith, one, short)

-- of a session that was connected: the steps of the texts behind the connect
connected_sums : (s : Talking) (t : Stand) (events : List Event) (j : Connected s t events) (kind : Verdict → Bool) (f : Tally → ℕ) → IsCountOf kind f → sum_in f events ≡ count_steps kind (steps_of j.later)
connected_sums s t events j kind f counts =
    let all : sum_in f events ≡ sum_in f j.early + sum_in f (hears j.connect ∷ j.later) = ap (sum_in f) j.are ∙ sum-append f j.early (hears j.connect ∷ j.later) in
    let early : sum_in f j.early ≡ 0 = sum_apart kind f counts j.early j.all in
    let connect : f (counts_of j.connect.heard) ≡ 0 = apart_counts kind f counts j.connect j.still j.is in
    let later : sum_in f j.later ≡ count_steps kind (steps_of j.later) = sum_steps kind f counts j.later (record { talk = j.connect.to; store = j.connect.now }) t j.connected j.more in
    omega (arith, all, early, connect, later)

-- ---- one that was connected

joins : (s u : Talking) (t : Stand) (moment : ℕ) (report : Report) (tally : Tally) (events : List Event) (end : SessionEnd) → (j : Connected s t events) → MayBreakLast events → Closes t.talk u moment report.end
    → HasNumbers report tally → tally ≡ counted_behind nothing events → tally.unread ≤ most_unread → (report.end ≡ Closed → IsReached t.talk)
    → Joins s t.talk u moment report events
joins s u t moment report tally events end j may closes numbers counted few closed =
    let start : Stand = record { talk = j.connect.to; store = j.connect.now } in
    let sound : IsSound t.talk = sound_behind j.later start t j.is.sound j.more in
    let on : GoesOn j.connect.to t.talk j.later = j.goes_on in
    let later_may : MayBreakLast j.later = behind_may j.early (hears j.connect) j.later (subst MayBreakLast j.are may) in
    let seen : IsPrefix j.connect.to.pass.seen u.pass.seen = prefix_trans j.connect.to.pass.seen t.talk.pass.seen u.pass.seen on.goes.seen closes.goes.seen in
    let told_is : u.pass.told ≡ j.connect.to.pass.told = closes.goes.same.told ∙ on.goes.same.told in
    let limits_is : u.pass.limits ≡ j.connect.to.pass.limits = closes.goes.same.limits ∙ on.goes.same.limits in
    let mine : t.talk.pass.mine ≡ steps_of_round j.connect ++ steps_of j.later = on.goes.mine ∙ ap (λ l. l ++ steps_of j.later) j.reaches.mine in
    record {
      early = j.early;
      connect = j.connect;
      later = j.later;
      are = j.are;
      name = j.name;
      reached = j.reached;
      connected = j.connected;
      joined = connected_as j.connect j.name j.is j.still j.connected j.reaches;
      named = closes.goes.same.name ∙ on.goes.same.name ∙ j.reaches.named;
      handed = λ handed.
          let prefix : IsPrefix j.connect.from.handed.seen j.reaches.first = j.reaches.begins (ap (λ (k : Knowing). k.name) j.same ∙ handed) in
          let first : IsPrefix j.reaches.first j.connect.to.pass.seen = found_prefix j.connect.to.pass.number j.connect.heard.fault j.reaches.first j.connect.to.pass.seen j.connect.done j.reaches.found in
          subst (λ (k : Knowing). IsPrefix k.seen u.pass.seen) j.same
          (prefix_trans j.connect.from.handed.seen j.connect.to.pass.seen u.pass.seen (prefix_trans j.connect.from.handed.seen j.reaches.first j.connect.to.pass.seen prefix first) seen);
      left = closes.left;
      mine =
          ap entered (closes.goes.mine ∙ ap (λ l. l ++ closes.added) mine ∙ append_assoc (steps_of_round j.connect) (steps_of j.later) closes.added)
          ∙ entered-append (steps_of_round j.connect) (steps_of j.later ++ closes.added)
          ∙ ap (λ l. l ++ entered (steps_of j.later ++ closes.added)) (round_entered j.connect)
          ∙ ap (λ l. entered (steps_in j.connect.done) ++ l) (entered-append (steps_of j.later) closes.added ∙ ap (λ l. l ++ entered closes.added) (entered_steps j.later) ∙ ap (λ l. entered_in j.later ++ l) closes.is);
      texts = submits_later t.talk.pass u.pass j.later closes.goes.same.told closes.goes.same.limits closes.goes.seen (submits j.later start t j.connected later_may j.more);
      leave = subst (λ o. HasLeft o closes.left u.pass report.end) (leave_is (on.client)) closes.leave;
      unfed = j.unfed;
      feed = λ told. feed_later on sound closes (stretches j.later start t j.connected j.is.sound (sym told_is ∙ told) j.more) (sym closes.goes.same.told ∙ told) j.is.sound j.connected;
      nacks = nacks_in_order j.later start t j.connected j.more later_may;
      reach = are_reached j.later start t j.more;
      closed = closed;
      first = j.reaches.first;
      begins = λ handed. subst (λ (k : Knowing). IsPrefix k.seen j.reaches.first) j.same (j.reaches.begins (ap (λ (k : Knowing). k.name) j.same ∙ handed));
      connect_read = (
        read_between j.connect.to.pass.number j.connect.heard.fault j.reaches.first u.pass.seen j.reaches.first j.connect.to.pass.seen j.connect.done (prefix_refl j.reaches.first) seen j.reaches.found,
        answered_later j.connect.to.pass u.pass j.connect.before j.connect.done told_is limits_is j.reaches.answered,
      );
      read = are_read j.later start t u.pass closes.goes.same.told closes.goes.same.limits closes.goes.seen j.connected j.more;
      counts = has_counts report tally events (steps_of j.later) numbers counted few (steps_few on sound mine) (connected_sums s t events j);
    }
  where
    round_entered : (r : Round) → entered (steps_of_round r) ≡ entered (steps_in r.done)
    round_entered r = entered-append (steps_in r.done) (may_steps r.heard.fault) ∙ ap (λ l. entered (steps_in r.done) ++ l) (may_enter_nothing r.heard.fault) ∙ append-nil (entered (steps_in r.done))

    leave_is : client_id t.talk.voice ≡ client_id j.connect.to.voice → leave_of moment t.talk.voice ≡ leave_of moment j.connect.to.voice
    leave_is same = ap (λ id. option_map (λ name. Leave name moment) id) same

    feed_later : GoesOn j.connect.to t.talk j.later → IsSound t.talk → Closes t.talk u moment report.end → Stretches j.connect.to t.talk j.later → t.talk.pass.told ≡ true → IsSound j.connect.to → is_connected j.connect.to.voice ≡ true
        → collected_in j.later ≡ slice (order_of u.pass.seen) (next_number j.connect.to.voice) (next_number t.talk.voice)
    feed_later on sound closes stretch told first joined =
        let more : IsPrefix (order_of t.talk.pass.seen) (order_of u.pass.seen) = order-prefix t.talk.pass.seen u.pass.seen closes.goes.seen in
        stretch.gapless
        ∙ sym (slice-grows (order_of t.talk.pass.seen) more.0 (next_number j.connect.to.voice) (next_number t.talk.voice) (first.first joined) stretch.later (sound.next on.still told))
        ∙ ap (λ o. slice o (next_number j.connect.to.voice) (next_number t.talk.voice)) (sym more.1)

    steps_few : GoesOn j.connect.to t.talk j.later → IsSound t.talk → t.talk.pass.mine ≡ steps_of_round j.connect ++ steps_of j.later → length (steps_of j.later) ≤ largest
    steps_few on sound mine =
        let own : length t.talk.pass.mine ≡ length (made_by t.talk.pass.number t.talk.pass.seen) = ap length sound.own in
        let made = made_few t.talk.pass.number t.talk.pass.seen in
        let bound = sound.few on.still in
        let all : length t.talk.pass.mine ≡ length (steps_of_round j.connect) + length (steps_of j.later) = ap length mine ∙ length-append (steps_of_round j.connect) (steps_of j.later) in
        omega (arith, own, made, bound, all)

-- ---- one that wasn't

apart_so : (s u : Talking) (t : Stand) (moment : ℕ) (report : Report) (tally : Tally) (events : List Event) → Apart s t.talk events → Closes t.talk u moment report.end → HasNumbers report tally → tally ≡ counted_behind nothing events
    → tally.unread ≤ most_unread → StaysApart s t.talk u report events
apart_so s u t moment report tally events a closes numbers counted few = record {
  apart = a.apart;
  handed = closes.handed ∙ a.handed;
  pass = closes.same a.apart;
  nothing = a.nothing;
  unfed = a.unfed;
  counts = has_counts report tally events [] numbers counted few (omega arith) (λ kind f counts. sum_apart kind f counts events a.all);
}

-- ---- all of it

pub serves : (s u : Talking) (before now : Storing) (old new : Wiring) (report : Report) → Account s u before now old new report → Serves s u before now old new report
serves s u before now old new report account = record { account = account; outcome = outcome_of; sound = account.ends.sound }
  where
    from : Stand
    from = record { talk = s; store = before }

    to : Stand
    to = record { talk = account.runs.behind_them; store = now }

    may : MayBreakLast account.runs.events
    may = stops_may account.runs.events account.runs.behind_them account.last old account.runs.mid new account.tally account.end account.runs.by

    halts : Halts account.runs.behind_them account.last
    halts = stops_halts account.runs.events account.runs.behind_them account.last old account.runs.mid new account.tally account.end account.runs.by

    closing : Closes account.runs.behind_them u account.moment report.end
    closing = closes account.runs.behind_them account.last u account.moment account.end report.end halts account.ends.result account.ends.leaves account.ends.last_is

    few : account.tally.unread ≤ most_unread
    few = stops_few account.runs.events account.runs.behind_them account.last old account.runs.mid new account.tally account.end account.runs.by

    key : IsPrefix account.runs.behind_them.key.seen u.key.seen
    key = subst (λ (k : Keyed). IsPrefix account.runs.behind_them.key.seen k.seen) (sym closing.key) (prefix_refl account.runs.behind_them.key.seen)

    outcome_of : is_connected s.voice ≡ false → SessionOutcome s account.runs.behind_them u account.moment report account.runs.events
    outcome_of apart = record {
      joins = λ joined. split (went account.runs.events from to apart account.runs.are) joined;
      apart = λ still. stay (went account.runs.events from to apart account.runs.are) still;
      served = served_behind account.runs.events from to u account.runs.are closing.goes.same;
      key = prefix_trans s.key.seen account.runs.behind_them.key.seen u.key.seen (key_on account.runs.events from to account.runs.are) key;
      beyond = all_beyond account.runs.events from to u.key account.runs.are key account.ends.sound.key_few;
      doors = last_doors account.runs.events from to u account.runs.are (record { name = closing.goes.same.name; same = closing.same });
      sends = sends_in_order account.runs.events from to account.runs.are may;
      whole =
          quiet_whole account.runs.events account.runs.behind_them account.last old account.runs.mid new account.tally account.end report.end account.ends.result account.runs.by account.ends.last_is;
    }
      where
        split : Went s to account.runs.events → is_connected account.runs.behind_them.voice ≡ true → Joins s account.runs.behind_them u account.moment report account.runs.events
        split (inl j) joined =
            joins s u to account.moment report account.tally account.runs.events account.end j may closing account.numbers account.runs.counted few
            (closed_reached account.runs.events account.runs.behind_them account.last old account.runs.mid new account.tally account.end report.end account.ends.result account.runs.by account.ends.last_is)
        split (inr a) joined = absurd (false≢true (sym a.apart ∙ joined))

        stay : Went s to account.runs.events → is_connected account.runs.behind_them.voice ≡ false → StaysApart s account.runs.behind_them u report account.runs.events
        stay (inl j) still = absurd (false≢true (sym still ∙ j.goes_on.still))
        stay (inr a) still = apart_so s u to account.moment report account.tally account.runs.events a closing account.numbers account.runs.counted few

-- cycles, the last of which ended the session, and what concludes them
pub concluded : (s m u : Talking) (before now : Storing) (old new : Wiring) (tally : Tally) (end : SessionEnd) (report : Report)
    → Runs (record { talk = s; store = before }) (record { talk = m; store = now }) old new nothing tally (Err end) → Concludes m u tally end report → Serves s u before now old new report
concluded s m u before now old new tally end report runs concludes =
    serves s u before now old new report (record {
      last = m;
      end = end;
      tally = tally;
      runs = runs;
      moment = concludes.moment;
      timely = concludes.timely;
      ends = concludes.ends;
      numbers = concludes.numbers;
    })
