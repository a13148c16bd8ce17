-- Acts that read a lane.
use Rattle.std.proofs.Common.{◌≡◌, ℕ, ℤ, pos, negsuc, ◌+◌, ◌<◌, ◌≤◌, Bool, true, false, ◌&&◌, List, [], Option, Some, None, Result, Ok, Err, append-nil, refl, sym, ap, subst, ◌∙◌, arith}
use Rattle.std.specs.Prelude.{if◌then◌else◌, nat_le, IsSome}
use Rattle.std.proofs.lemmas.Bool.{false≢true, leb-true}
use Rattle.std.specs.Option.{option_map}
use Rattle.fluid_io.specs.Causes.{Tells}
use Rattle.fluid_types.specs.Ledger.{order}
use Rattle.fluid_types.specs.declared.fault.Field.{Field}
use Rattle.fluid_types.specs.declared.fault.Field.TheVariants as field
use Rattle.fluid_types.specs.declared.messages.Message.{Message}
use Rattle.fluid_log.specs.Keeping.{Content}
use Rattle.fluid_deltas.specs.Pushed.{slice}
use Rattle.fluid_deltas.specs.Ranges.{IsSlice}
use Rattle.fluid_deltas.specs.declared.fault.DeltaFault.{DeltaFault}
use Rattle.fluid_deltas.specs.declared.fault.DeltaFault.TheVariants as delta
use Rattle.fluid_codec.specs.declared.replies.Reply.TheVariants.{Deltas}
use Rattle.fluid_lane.specs.declared.steps.Step.{Step}
use Rattle.fluid_lane.specs.Steps.{ledger, delta_steps}
use Rattle.fluid_lane.specs.Standing.{Standing, LaneStands, Goes, is_worn}
use Rattle.fluid_lane.specs.Ranges.{Ranges}
use Rattle.fluid_lane.specs.Laws.{LaneSays}
use Rattle.fluid_voice.specs.declared.actions.Act.{Act}
use Rattle.fluid_voice.specs.declared.actions.Act.TheVariants as act
use Rattle.fluid_voice.specs.declared.ends.ActEnd.TheVariants.{Given}
use Rattle.fluid_voice.specs.Ends.{range_asked, range_from, bounded, placed, most_deltas, deltas_in, out_of_range}
use Rattle.fluid_voice.specs.Ends.Outcome.{ends}
use Rattle.fluid_ends.specs.declared.fault.TalkFault.TheVariants.{Delta, NoMemory}
use Rattle.fluid_ends.specs.Faults.{of_delta}
use Rattle.fluid_acts.specs.AtLane.{KeepsCheckpoints, IsRangeEnd, RangesBy, OnLane}
use Rattle.fluid_acts.specs.Parts.{DoesOnLane}
use Rattle.fluid_acts.proofs.Entering.{said}

-- ---- ranges

pub record IsRange (last first end : ℕ) : Type 0 where
  pub above : 0 < first
  pub ordered : first ≤ end
  pub within : end ≤ last + 1

both_of : (a b : Bool) → (a && b) ≡ true → (a ≡ true) × (b ≡ true)
both_of true b is = (refl, is)
both_of false b is = absurd (false≢true is)

le_of : (a b : ℕ) → nat_le a b ≡ true → a ≤ b
le_of a b is = leb-true a b is

err_ok : {A E : Type 0} (e : E) (a : A) → ◌≡◌ {A = Result A E} (Err e) (Ok a) → ⊥
err_ok e a same = cc

ok_same : {A E : Type 0} (a b : A) → ◌≡◌ {A = Result A E} (Ok a) (Ok b) → a ≡ b
ok_same a b same = cc

placed_at : (f : Field) (last : ℕ) (n : ℤ) (number : ℕ) → placed f last n ≡ Ok number → (1 ≤ number) × (number ≤ last + 1)
placed_at f last (pos n) number is = by (nat_le 1 n && nat_le n (last + 1)) refl is
  where
    by : (b : Bool) → (nat_le 1 n && nat_le n (last + 1)) ≡ b → (if b then Ok n else Err f) ≡ Ok number → (1 ≤ number) × (number ≤ last + 1)
    by true within same =
        let here = ok_same n number same in
        let both = both_of (nat_le 1 n) (nat_le n (last + 1)) within in
        (subst (λ m. 1 ≤ m) here (le_of 1 n both.0), subst (λ m. m ≤ last + 1) here (le_of n (last + 1) both.1))
    by false within same = absurd (err_ok f number same)
placed_at f last (negsuc n) number is = absurd (err_ok f number is)

bounded_at : (f : Field) (at : ℕ) (r : Result ℕ Field) (first end : ℕ) → bounded at r ≡ Ok (first, end) → (at ≡ first) × ((r ≡ Ok end) × (first ≤ end))
bounded_at f at (Ok n) first end is = by (nat_le at n && nat_le n (at + most_deltas)) refl is
  where
    by : (b : Bool) → (nat_le at n && nat_le n (at + most_deltas)) ≡ b → if◌then◌else◌ {A = Result (ℕ × ℕ) Field} b (Ok (at, n)) (Err field.To) ≡ Ok (first, end) → (at ≡ first) × (◌≡◌ {A = Result ℕ Field} (Ok n) (Ok end) × (first ≤ end))
    by true within same =
        let here = ok_same (at, n) (first, end) same in
        let low : at ≡ first = ap (λ p. p.0) here in
        let high : n ≡ end = ap (λ p. p.1) here in
        (low, (ap Ok high, subst (λ m. m ≤ end) low (subst (λ m. at ≤ m) high (le_of at n (both_of (nat_le at n) (nat_le n (at + most_deltas)) within).0))))
    by false within same = absurd (err_ok field.To (first, end) same)
bounded_at f at (Err g) first end is = absurd (err_ok g (first, end) is)

pub asked_range : (last : ℕ) (from to : ℤ) (first end : ℕ) → range_asked last from to ≡ Ok (first, end) → IsRange last first end
unfolding range_asked
asked_range last from to first end is = by (placed field.From last from) refl is
  where
    by : (r : Result ℕ Field) → placed field.From last from ≡ r → range_from last to r ≡ Ok (first, end) → IsRange last first end
    by (Ok at) placed_is same =
        let low = placed_at field.From last from at placed_is in
        let both = bounded_at field.To at (placed field.To last to) first end same in
        let high = placed_at field.To last to end both.1.0 in
        record { above = subst (λ m. 0 < m) both.0 (omega (arith, low.0)); ordered = both.1.1; within = high.1 }
    by (Err f) placed_is same = absurd (err_ok f (first, end) same)

-- ---- what reading leaves

module _ (law : LaneSays) (from to : ℤ) (old : Standing) where
  abbrev asks : Act
  asks = act.Deltas from to

  true_is : true ≡ false → ⊥
  true_is same = cc

  pub out_of_its_range : (f : Field) → Goes old old [] → range_asked old.entries.state.sequencer.sequence from to ≡ Err f → DoesOnLane asks old old (Ok (Given (out_of_range f)))
  out_of_its_range f goes is = record {
    lane = record {
      added = [];
      adds = refl;
      goes = goes;
      entries = refl;
      owes = λ entering. absurd (true_is (sym entering));
      level = λ reads. refl;
      checkpoints = record { count = refl; texts = refl };
      ends = subst (λ r. IsRangeEnd r (Given (out_of_range f))) (sym is) refl;
      range = subst (λ r. RangesBy r old old (Ok (Given (out_of_range f)))) (sym is) refl;
      worn = λ worn entering. absurd (true_is (sym entering));
      limited = λ unworn limited. absurd (true_is (sym limited));
      untouched = λ none. absurd (true_is none);
    };
    end = λ l held finds. ap (λ r. ends (Given (deltas_in (order (ledger l)) r))) (ap (λ n. range_asked n from to) (sym (said law old l finds).seq) ∙ is);
    suits = (old.entries.state.sequencer.sequence, (f, (is, refl)));
    cause = tt;
  }

  module _ (new : Standing) (first end : ℕ) (is : range_asked old.entries.state.sequencer.sequence from to ≡ Ok (first, end)) where
    keeps : {V : Type 0} (messages : V → List Message) (result : Result V DeltaFault) → Ranges messages first end old new result → KeepsCheckpoints old.keeping new.keeping
    keeps messages result ranges = record { count = ranges.reads.keeps.checkpoints; texts = ap (λ content. option_map (λ (c : Content). c.checkpoints) content) ranges.reads.keeps.content }

    told_slice : (l : List Step) → LaneStands old l × IsSome old.keeping.content → {P : Type 0} → Tells old.keeping.content (λ _. P) → P
    told_slice l finds {P = P} tells = by old.keeping.content finds.1 tells
      where
        by : (o : Option Content) → IsSome o → Tells o (λ _. P) → P
        by None some t = absurd (true_is (sym some))
        by (Some content) some t = t

    pub range_given : {V : Type 0} (messages : V → List Message) (v : V) → is_worn old ≡ false → Goes old new [] → Ranges messages first end old new (Ok v)
        → ((l : List Step) → LaneStands old l → Tells old.keeping.content (λ _. messages v ≡ slice (order (ledger l)) first end))
        → DoesOnLane asks old new (Ok (Given (Deltas first (messages v))))
    range_given messages v open_ goes ranges slices = record {
      lane = record {
        added = [];
        adds = refl;
        goes = goes;
        entries = ranges.same.0;
        owes = λ entering. absurd (true_is (sym entering));
        level = λ reads. ranges.same.1.1;
        checkpoints = keeps messages (Ok v) ranges;
        ends = subst (λ r. IsRangeEnd r (Given (Deltas first (messages v)))) (sym is) (refl, ranges.reads.numbers);
        range = subst (λ r. RangesBy r old new (Ok (Given (Deltas first (messages v))))) (sym is) (λ worn. absurd (true_is (sym worn ∙ open_)));
        worn = λ worn entering. absurd (true_is (sym entering));
        limited = λ unworn limited. absurd (true_is (sym limited));
        untouched = λ none. absurd (true_is none);
      };
      end = λ l held finds.
          ap (λ r. ends (Given (deltas_in (order (ledger l)) r))) (ap (λ n. range_asked n from to) (sym (said law old l finds).seq) ∙ is)
          ∙ ap (λ ms. ends (Given (Deltas first ms))) (sym (told_slice l finds (slices l finds.0)));
      suits = (old.entries.state.sequencer.sequence, end, (is, omega (arith, ranges.reads.numbers.count)));
      cause = tt;
    }

    fails : (fault : DeltaFault) → Goes old new (delta_steps fault) → new.entries ≡ old.entries → new.owed ≡ old.owed → (is_worn old ≡ true → (fault ≡ delta.Worn) × (new ≡ old))
        → OnLane asks old new (Err (Delta fault))
    fails fault goes stays owed worn = record {
      added = delta_steps fault;
      adds = refl;
      goes = goes;
      entries = stays;
      owes = λ entering. absurd (true_is (sym entering));
      level = λ reads. owed;
      range = subst (λ r. RangesBy r old new (Err (Delta fault))) (sym is) (λ old_worn. (ap (λ f. Err (Delta f)) (worn old_worn).0, (worn old_worn).1));
      checkpoints = tt;
      ends = tt;
      worn = λ worn entering. absurd (true_is (sym entering));
      limited = λ unworn limited. absurd (true_is (sym limited));
      untouched = λ none. absurd (true_is none);
    }

    -- a lane that isn't worn
    range_stops : {V : Type 0} (messages : V → List Message) (fault : DeltaFault) → is_worn old ≡ false → Goes old new (delta_steps fault) → Ranges messages first end old new (Err fault)
        → ((l : List Step) → LaneStands old l → Tells old.keeping.content (λ _. IsSlice messages (slice (order (ledger l)) first end) (Err fault)))
        → DoesOnLane asks old new (Err (of_delta fault))
    range_stops messages (delta.DeltaFailed note) open_ goes ranges slices = record { lane = fails (delta.DeltaFailed note) goes ranges.same.0 ranges.same.1.1 (λ worn. absurd (true_is (sym worn ∙ open_))); end = λ l held finds. tt; suits = tt; cause = (refl, ranges.reads.cause) }
    range_stops messages delta.NoMemory open_ goes ranges slices = record {
      lane = record {
        added = [];
        adds = refl;
        goes = goes;
        entries = ranges.same.0;
        owes = λ entering. absurd (true_is (sym entering));
        level = λ reads. ranges.same.1.1;
        range = subst (λ r. RangesBy r old new (Err NoMemory)) (sym is) (λ worn. absurd (true_is (sym worn ∙ open_)));
        checkpoints = tt;
        ends = tt;
        worn = λ worn entering. absurd (true_is (sym entering));
        limited = λ unworn limited. absurd (true_is (sym limited));
        untouched = λ none. absurd (true_is none);
      };
      end = λ l held finds. tt;
      suits = tt;
      cause = tt;
    }
    range_stops messages (delta.BadDelta number) open_ goes ranges slices = record {
      lane = fails (delta.BadDelta number) goes ranges.same.0 ranges.same.1.1 (λ worn. absurd (true_is (sym worn ∙ open_)));
      end = λ l held finds. tt;
      suits = tt;
      cause = (refl, record { first = first; end = end; asked = is; within = ranges.reads.bad; bad = ranges.answer; never = slices });
    }
    range_stops messages delta.Worn open_ goes ranges slices = absurd ranges.reads.cause

    -- a worn lane gives no messages
    pub range_fails : {V : Type 0} (messages : V → List Message) (fault : DeltaFault) → Goes old new (delta_steps fault)
        → (is_worn old ≡ false → Ranges messages first end old new (Err fault)) → (is_worn old ≡ true → (fault ≡ delta.Worn) × (new ≡ old))
        → (is_worn old ≡ false → (l : List Step) → LaneStands old l → Tells old.keeping.content (λ _. IsSlice messages (slice (order (ledger l)) first end) (Err fault)))
        → DoesOnLane asks old new (Err (of_delta fault))
    range_fails messages fault goes ranges worn slices = by (is_worn old) refl
      where
        by : (b : Bool) → is_worn old ≡ b → DoesOnLane asks old new (Err (of_delta fault))
        by true is = subst (λ f. DoesOnLane asks old new (Err (of_delta f))) (sym (worn is).0) (record {
          lane = fails delta.Worn (subst (λ f. Goes old new (delta_steps f)) (worn is).0 goes) (ap (λ (s : Standing). s.entries) (worn is).1) (ap (λ (s : Standing). s.owed) (worn is).1)
              (λ old_worn. (refl, (worn is).1));
          end = λ l held finds. tt;
          suits = tt;
          cause = (refl, is);
        })
        by false is = range_stops messages fault is goes (ranges is) (slices is)

-- ---- the numbers and the summaries that a lane tells

pub goes_nowhere : (s : Standing) → Goes s s []
goes_nowhere s = record {
  limits = refl;
  opened = refl;
  told = refl;
  later = omega arith;
  entered = omega arith;
  sides = omega arith;
  last = refl;
  list = λ l stands. subst (LaneStands s) (sym (append-nil l)) stands;
}

-- ---- answers of a lane that isn't worn, and of one that is

ok_err : {V : Type 0} (v : V) → ◌≡◌ {A = Result V DeltaFault} (Ok v) (Err delta.Worn) → ⊥
ok_err v same = cc

pub unworn : {V : Type 0} {P : Type 0} (b : Bool) (v : V) → (b ≡ true → (◌≡◌ {A = Result V DeltaFault} (Ok v) (Err delta.Worn)) × P) → b ≡ false
unworn true v worn = absurd (ok_err v (worn refl).0)
unworn false v worn = refl

pub worn_fault : {V : Type 0} (old new : Standing) (fault : DeltaFault) → (◌≡◌ {A = Result V DeltaFault} (Err fault) (Err delta.Worn)) × (new ≡ old) → (fault ≡ delta.Worn) × (new ≡ old)
worn_fault old new fault worn = (err_fault fault worn.0, worn.1)
  where
    err_fault : {V : Type 0} (fault : DeltaFault) → ◌≡◌ {A = Result V DeltaFault} (Err fault) (Err delta.Worn) → fault ≡ delta.Worn
    err_fault fault same = cc
