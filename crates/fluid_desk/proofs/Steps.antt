-- What each call on a lane makes of the document for which the lane stands.
use Rattle.std.proofs.Common.{◌≡◌, ℕ, ◌+◌, ◌≤◌, arith, Bool, true, false, if◌then◌else◌, List, [], ◌∷◌, length, Option, Some, None, Result, Ok, Err, refl, sym, ap, ap₂, subst, ◌∙◌}
use Rattle.std.specs.Prelude.{nat_le, nat_lt, IfOk}
use Rattle.std.proofs.lemmas.Bool.{le-ltb, lt-ltb}
use Rattle.fluid_io.specs.Causes.{Tells}
use Rattle.fluid_ticket.specs.State as ticket
use Rattle.fluid_types.specs.declared.entries.Raw.{Raw}
use Rattle.fluid_types.specs.declared.entries.Raw.TheVariants.{Leave}
use Rattle.fluid_types.specs.declared.messages.Message.{Message}
use Rattle.fluid_types.specs.declared.verdicts.Verdict.TheVariants.{Sequenced}
use Rattle.fluid_rules.specs.Rules.{verdict}
use Rattle.fluid_rules.specs.declared.limits.Limits.{Limits}
use Rattle.fluid_types.specs.Forms.{largest}
use Rattle.fluid_document.specs.Entries.{entries_of}
use Rattle.fluid_document.specs.Kept.{checkpoint_text}
use Rattle.fluid_lane.specs.declared.steps.Step.TheVariants.{Entered}
use Rattle.fluid_lane.specs.declared.fault.LaneFault.{LaneFault}
use Rattle.fluid_lane.specs.declared.fault.LaneFault.TheVariants as lane
use Rattle.fluid_lane.specs.Faults.{IsCausedBy, IsLogFailed, IsOutside, IsReadFault}
use Rattle.fluid_lane.specs.Steps.{fault_steps, stored_by, restarted_by, swept_by}
use Rattle.fluid_lane.specs.Standing.{Standing, Goes, is_worn}
use Rattle.fluid_lane.specs.Refusals.{IsGated, has_checkpoints, has_no_checkpoint}
use Rattle.fluid_lane.specs.Calls.{Stores, IsStoreFault}
use Rattle.fluid_lane.specs.Restarts.{Restarts, IsNotBad}
use Rattle.fluid_lane.specs.Sweeps.{first_silent, Sweeps, SweepsBy}
use Rattle.fluid_lane.specs.Laws.{first_silent_in}
use Rattle.fluid_transcript.specs.World.{Document, World, Effect, says, grown, ledger_of}
use Rattle.fluid_transcript.specs.Documents.{checkpoint_of, stored, checkpointed, restarted, swept_by as swept_effect, swept, counted_up}
use Rattle.fluid_transcript.specs.Lines as lines
use Rattle.fluid_desk.specs.declared.lines.Numbers.{Numbers}
use Rattle.fluid_desk.specs.declared.stop.Stop.{Stop}
use Rattle.fluid_desk.specs.Stands.{IsLaneOf}
use Rattle.fluid_desk.specs.Stopping.{stop_of, IsHonest, steps_on, LaneEnds, LaneEndsBy}
use Rattle.fluid_desk.specs.Acting.{AreNumbers, IsLine, SaysUnstored, SaysUnrestarted, IsLeft, left_line, ActDoes}
use Rattle.fluid_desk.proofs.Laned.{told_in, says as lane_of, aside, beside, entered, same, is_told}
use Rattle.fluid_desk.proofs.Honest.{length_ledger, worn_grown}
use Rattle.fluid_desk.proofs.Gates as gates

-- ---- lines

-- a call that did what the step does, and wrote its line if there was memory for it
pub acted : (limits : Limits) (e : Effect) (d : Document) (new : Standing) (line : List ℕ) (result : Result (List ℕ) Stop) → IsLaneOf limits new (grown e d) → e.lines ≡ line ∷ [] → IsLine line result
    → ActDoes limits e d new result
acted limits e d new line (Ok text) stands says is = record { stands = stands; says = says ∙ ap (λ t. t ∷ []) (sym is) }
acted limits e d new line (Err stop) stands says is = subst (IsHonest (steps_on (grown e d) new)) (sym is) tt

-- an end of the script that a desk which stands for a world may have
ended : (limits : Limits) (e : Effect) (d : Document) (new : Standing) (fault : LaneFault) (result : Result (List ℕ) Stop) → IsHonest (steps_on (grown e d) new) (stop_of fault) → result ≡ Err (stop_of fault)
    → ActDoes limits e d new result
ended limits e d new fault result honest is = subst (ActDoes limits e d new) (sym is) honest

-- ---- count

pub numbers : (limits : Limits) (s : Standing) (d : Document) (n : Numbers) → IsLaneOf limits s d → n.entries ≡ s.entries.entered → n.sequence ≡ s.entries.state.sequencer.sequence
    → n.minimum ≡ ticket.minimum s.entries.state.sequencer → AreNumbers n (ledger_of d)
numbers limits s d n of entries sequence least =
    let l = lane_of limits s d of in
    record { entries = entries ∙ l.entered; sequence = sequence ∙ l.seq; least = least ∙ l.min }

pub counts : (limits : Limits) (s : Standing) (w : World) (d : Document) (name : List ℕ) (result : Result (List ℕ) Stop) → IsLaneOf limits s d → IsLine (lines.count_line name (ledger_of d)) result
    → ActDoes limits (counted_up w d name) d s result
counts limits s w d name result of is = acted limits (counted_up w d name) d s (lines.count_line name (ledger_of d)) result (same limits s d of) refl is

-- ---- checkpoints

-- no other fault comes than the rule's and those that may come where it doesn't refuse
stores_no : (old new : Standing) (fault : LaneFault) → IsGated {A = ℕ} old new (has_checkpoints old ∷ []) (IsStoreFault old) (Err fault) → (fault ≡ lane.Worn → ⊥) → (IsLogFailed fault → ⊥)
    → (fault ≡ lane.CheckpointsFull → ⊥) → (IsStoreFault old fault → ⊥) → ⊥
stores_no old new fault gate fresh no_log other no_may =
    gates.never old new lane.CheckpointsFull fault (IsStoreFault old) (nat_le old.limits.checkpoints old.keeping.checkpoints) gate fresh no_log other no_may

restarts_no : {A : Type 0} (old new : Standing) (number : ℕ) (fault : LaneFault) → IsGated {A = A} old new (has_no_checkpoint old number ∷ []) IsReadFault (Err fault) → (fault ≡ lane.Worn → ⊥) → (IsLogFailed fault → ⊥)
    → (fault ≡ lane.NoCheckpoint number old.keeping.checkpoints → ⊥) → (IsReadFault fault → ⊥) → ⊥
restarts_no {A = A} old new number fault gate fresh no_log other no_may =
    gates.never {A = A} old new (lane.NoCheckpoint number old.keeping.checkpoints) fault IsReadFault (nat_le old.keeping.checkpoints number) gate fresh no_log other no_may

module _ (limits : Limits) (old new : Standing) (w : World) (d : Document) (name : List ℕ) (of : IsLaneOf limits old d) where
  abbrev full_rule : Bool
  full_rule = nat_le old.limits.checkpoints old.keeping.checkpoints

  -- the rule of the lane is that of the document
  full_is : full_rule ≡ nat_le limits.checkpoints (length d.checkpoints)
  full_is = ap₂ nat_le (ap (λ (t : Limits). t.checkpoints) of.limits_are) of.checkpoints

  text_is : checkpoint_text old.entries ≡ checkpoint_of (ledger_of d)
  text_is = ap checkpoint_text ((is_told limits old d of).stands.entries ∙ ap entries_of of.entries)

  abbrev large_effect : ℕ → Effect
  large_effect bytes = says w (lines.large_line name bytes ∷ [])

  abbrev stored_effect : Effect
  stored_effect = record (says w (lines.stored_line name (length d.checkpoints) (length d.raws) ∷ [])) { checkpoints = length d.raws ∷ [] }

  abbrev full_effect : Effect
  full_effect = says w (lines.full_line name ∷ [])

  full_by : (b : Bool) → nat_le limits.checkpoints (length d.checkpoints) ≡ b → (result : Result (List ℕ) Stop)
      → ActDoes limits (if b then full_effect else stored limits w d name (length (checkpoint_of (ledger_of d)))) d new result → ActDoes limits (checkpointed limits w d name) d new result
  full_by b is result h = subst (λ b. ActDoes limits (if b then full_effect else stored limits w d name (length (checkpoint_of (ledger_of d)))) d new result) (sym is) h

  -- by whether its text is too large
  large_by : (b : Bool) (bytes : ℕ) → nat_lt limits.bytes bytes ≡ b → (result : Result (List ℕ) Stop) → ActDoes limits (if b then large_effect bytes else stored_effect) d new result
      → ActDoes limits (stored limits w d name bytes) d new result
  large_by b bytes is result h = subst (λ b. ActDoes limits (if b then large_effect bytes else stored_effect) d new result) (sym is) h

  pub stores : (number entries : ℕ) (result : Result (List ℕ) Stop) → Goes old new (stored_by number) → IsGated old new (has_checkpoints old ∷ []) (IsStoreFault old) (Ok number) → Stores old new (Ok number)
      → entries ≡ old.entries.entered → IsLine (lines.stored_line name number entries) result → ActDoes limits (checkpointed limits w d name) d new result
  stores number entries result goes gate does entered_is is =
      let l = lane_of limits old d of in
      let bytes_fit : length (checkpoint_of (ledger_of d)) ≤ limits.bytes = omega (arith, does.stored.short, ap length text_is, ap (λ (t : Limits). t.bytes) of.limits_are) in
      let number_is : number ≡ length d.checkpoints = does.stored.next ∙ of.checkpoints in
      let entries_are : entries ≡ length d.raws = entered_is ∙ l.entered ∙ length_ledger d.raws in
      full_by false (sym full_is ∙ gates.answered old new lane.CheckpointsFull (IsStoreFault old) number full_rule gate) result
      (large_by false (length (checkpoint_of (ledger_of d))) (le-ltb limits.bytes (length (checkpoint_of (ledger_of d))) bytes_fit) result
      (acted limits stored_effect d new (lines.stored_line name number entries) result
      (aside limits old d of new (stored_by number) (length d.raws ∷ []) goes does.settled_by refl refl)
      (ap₂ (λ k e. lines.stored_line name k e ∷ []) (sym number_is) (sym entries_are)) is))

  -- nothing is stored: by the fault
  pub stores_none : (fault : LaneFault) (result : Result (List ℕ) Stop) → Goes old new (fault_steps fault) → IsGated {A = ℕ} old new (has_checkpoints old ∷ []) (IsStoreFault old) (Err fault) → Stores old new (Err fault)
      → SaysUnstored name fault result → ActDoes limits (checkpointed limits w d name) d new result
  stores_none lane.CheckpointsFull result goes gate does is =
      full_by true (sym full_is ∙ (gates.refused old new lane.CheckpointsFull lane.CheckpointsFull (IsStoreFault old) full_rule gate (λ same. cc) (λ no. no) (λ no. no)).0) result
      (acted limits full_effect d new (lines.full_line name) result (aside limits old d of new [] [] goes does.settled_by refl refl) refl is)
  stores_none (lane.TooLarge bytes) result goes gate does is =
      let may = gates.passed old new lane.CheckpointsFull (lane.TooLarge bytes) (IsStoreFault old) full_rule gate (λ same. cc) (λ no. no) (λ same. cc) in
      let bytes_are : bytes ≡ length (checkpoint_of (ledger_of d)) = may.1.0 ∙ ap length text_is in
      full_by false (sym full_is ∙ may.0) result
      (subst (λ n. ActDoes limits (stored limits w d name n) d new result) bytes_are
      (large_by true bytes (lt-ltb limits.bytes bytes (omega (arith, may.1.1, ap (λ (t : Limits). t.bytes) of.limits_are))) result
      (acted limits (large_effect bytes) d new (lines.large_line name bytes) result (aside limits old d of new [] [] goes does.settled_by refl refl) refl is)))
  stores_none (lane.LogFailed note) result goes gate does is = ended limits (checkpointed limits w d name) d new (lane.LogFailed note) result tt is
  stores_none (lane.DeltaFailed note) result goes gate does is = ended limits (checkpointed limits w d name) d new (lane.DeltaFailed note) result tt is
  stores_none lane.NoMemory result goes gate does is = ended limits (checkpointed limits w d name) d new lane.NoMemory result tt is
  stores_none lane.Worn result goes gate does is =
      ended limits (checkpointed limits w d name) d new lane.Worn result
      (worn_grown limits old new (checkpointed limits w d name) d of (gates.worn_one old new lane.CheckpointsFull (IsStoreFault old) full_rule gate (λ same. cc) (λ no. no))) is
  stores_none (lane.Full n) result goes gate does is = absurd (stores_no old new (lane.Full n) gate (λ same. cc) (λ no. no) (λ same. cc) (λ no. no))
  stores_none (lane.BadRecord n) result goes gate does is = absurd (stores_no old new (lane.BadRecord n) gate (λ same. cc) (λ no. no) (λ same. cc) (λ no. no))
  stores_none (lane.NoCheckpoint n m) result goes gate does is = absurd (stores_no old new (lane.NoCheckpoint n m) gate (λ same. cc) (λ no. no) (λ same. cc) (λ no. no))
  stores_none lane.TooManyClients result goes gate does is = absurd (stores_no old new lane.TooManyClients gate (λ same. cc) (λ no. no) (λ same. cc) (λ no. no))
  stores_none (lane.BadCheckpoint n f) result goes gate does is = absurd (stores_no old new (lane.BadCheckpoint n f) gate (λ same. cc) (λ no. no) (λ same. cc) (λ no. no))

-- ---- beginning again

no_same : (a b x y : ℕ) → lane.NoCheckpoint a b ≡ lane.NoCheckpoint x y → (a ≡ x) × (b ≡ y)
no_same a b x y same = (cc, cc)

module _ (limits : Limits) (old new : Standing) (w : World) (d : Document) (name : List ℕ) (number : ℕ) (of : IsLaneOf limits old d) where
  abbrev lacks_rule : Bool
  lacks_rule = nat_le old.keeping.checkpoints number

  lacks_is : lacks_rule ≡ nat_le (length d.checkpoints) number
  lacks_is = ap (λ n. nat_le n number) of.checkpoints

  abbrev again : Bool → Effect
  again b = says w ((if b then lines.no_checkpoint_line name number (length d.checkpoints) else lines.restarted_line name number (ledger_of d)) ∷ [])

  by_rule : (b : Bool) → nat_le (length d.checkpoints) number ≡ b → (result : Result (List ℕ) Stop) → ActDoes limits (again b) d new result → ActDoes limits (restarted w d name number) d new result
  by_rule b is result h = subst (λ b. ActDoes limits (again b) d new result) (sym is) h

  -- the lane stands for the same document
  pub stays : {A : Type 0} (done : A) → Goes old new (restarted_by number done) → Restarts number old new (Ok done) → IsLaneOf limits new d
  stays done goes does = beside limits old d of new (restarted_by number done) goes does.settled_by refl refl

  pub restarts : {A : Type 0} (done : A) (result : Result (List ℕ) Stop) → Goes old new (restarted_by number done) → IsGated old new (has_no_checkpoint old number ∷ []) IsReadFault (Ok done) → Restarts number old new (Ok done)
      → IsLine (lines.restarted_line name number (ledger_of d)) result → ActDoes limits (restarted w d name number) d new result
  restarts done result goes gate does is =
      by_rule false (sym lacks_is ∙ gates.answered old new (lane.NoCheckpoint number old.keeping.checkpoints) IsReadFault done lacks_rule gate) result
      (acted limits (again false) d new (lines.restarted_line name number (ledger_of d)) result (aside limits old d of new (restarted_by number done) [] goes does.settled_by refl refl) refl is)

  pub restarts_none : {A : Type 0} (fault : LaneFault) (result : Result (List ℕ) Stop) → Goes old new (fault_steps fault) → IsGated {A = A} old new (has_no_checkpoint old number ∷ []) IsReadFault (Err fault)
      → Restarts {A = A} number old new (Err fault) → Tells old.keeping.content (λ _. IsNotBad fault) → SaysUnrestarted name fault result → ActDoes limits (restarted w d name number) d new result
  restarts_none {A = A} (lane.NoCheckpoint asked stored) result goes gate does not_bad is =
      let refused = gates.refused old new (lane.NoCheckpoint number old.keeping.checkpoints) (lane.NoCheckpoint asked stored) IsReadFault lacks_rule gate (λ same. cc) (λ no. no) (λ no. no) in
      let numbers_are = no_same asked stored number old.keeping.checkpoints refused.1 in
      by_rule true (sym lacks_is ∙ refused.0) result
      (acted limits (again true) d new (lines.no_checkpoint_line name asked stored) result (aside limits old d of new [] [] goes does.settled_by refl refl)
      (ap₂ (λ a s. lines.no_checkpoint_line name a s ∷ []) (sym numbers_are.0) (sym (numbers_are.1 ∙ of.checkpoints))) is)
  restarts_none {A = A} (lane.LogFailed note) result goes gate does not_bad is = ended limits (restarted w d name number) d new (lane.LogFailed note) result tt is
  restarts_none {A = A} (lane.DeltaFailed note) result goes gate does not_bad is = ended limits (restarted w d name number) d new (lane.DeltaFailed note) result tt is
  restarts_none {A = A} lane.NoMemory result goes gate does not_bad is = ended limits (restarted w d name number) d new lane.NoMemory result tt is
  restarts_none {A = A} lane.Worn result goes gate does not_bad is =
      ended limits (restarted w d name number) d new lane.Worn result
      (worn_grown limits old new (restarted w d name number) d of (gates.worn_one {A = A} old new (lane.NoCheckpoint number old.keeping.checkpoints) IsReadFault lacks_rule gate (λ same. cc) (λ no. no))) is
  restarts_none {A = A} (lane.BadRecord n) result goes gate does not_bad is = absurd (told_in (λ _. ⊥) old.keeping.content of.content of.told not_bad)
  restarts_none {A = A} (lane.BadCheckpoint n f) result goes gate does not_bad is = absurd (told_in (λ _. ⊥) old.keeping.content of.content of.told not_bad)
  restarts_none {A = A} (lane.Full n) result goes gate does not_bad is = absurd (restarts_no {A = A} old new number (lane.Full n) gate (λ same. cc) (λ no. no) (λ same. cc) (λ no. no))
  restarts_none {A = A} lane.CheckpointsFull result goes gate does not_bad is = absurd (restarts_no {A = A} old new number lane.CheckpointsFull gate (λ same. cc) (λ no. no) (λ same. cc) (λ no. no))
  restarts_none {A = A} lane.TooManyClients result goes gate does not_bad is = absurd (restarts_no {A = A} old new number lane.TooManyClients gate (λ same. cc) (λ no. no) (λ same. cc) (λ no. no))
  restarts_none {A = A} (lane.TooLarge n) result goes gate does not_bad is = absurd (restarts_no {A = A} old new number (lane.TooLarge n) gate (λ same. cc) (λ no. no) (λ same. cc) (λ no. no))

-- ---- sweeps

ok_same : (a b : Option (Raw × Message)) → ◌≡◌ {A = Result (Option (Raw × Message)) LaneFault} (Ok a) (Ok b) → a ≡ b
ok_same a b same = cc

err_ok : (fault : LaneFault) (a : Option (Raw × Message)) → ◌≡◌ {A = Result (Option (Raw × Message)) LaneFault} (Err fault) (Ok a) → ⊥
err_ok fault a same = cc

-- what a sweep gives is a leave
left_of : (raw : Raw) (id : List ℕ) (moment : ℕ) (m : Message) → raw ≡ Leave id moment → IsLeft (Some (raw, m))
left_of raw id moment m same = subst (λ r. IsLeft (Some (r, m))) (sym same) tt

pub is_left : (moment : ℕ) (silent : Option (List ℕ)) (old new : Standing) (given : Option (Raw × Message)) → SweepsBy moment silent old new (Ok given) → IsLeft given
is_left moment None old new given does = subst IsLeft (sym (ok_same given None does.0)) tt
is_left moment (Some id) old new None does = tt
is_left moment (Some id) old new (Some (left, message)) does = left_of left id moment message does.gives.0

module _ (limits : Limits) (old new : Standing) (w : World) (d : Document) (name : List ℕ) (silence : ℕ) (of : IsLaneOf limits old d) where
  silent_is : first_silent w.moment silence old.entries.state.sequencer.rows ≡ first_silent_in w.moment silence (ledger_of d)
  silent_is = (lane_of limits old d of).silent w.moment silence

  swept_as : (silent : Option (List ℕ)) → first_silent w.moment silence old.entries.state.sequencer.rows ≡ silent → (result : Result (List ℕ) Stop)
      → ActDoes limits (swept_effect w name silent) d new result → ActDoes limits (swept w d name silence) d new result
  swept_as silent is result h = subst (λ o. ActDoes limits (swept_effect w name o) d new result) (sym is ∙ silent_is) h

  sweeps_one : (id : List ℕ) (left : Raw) (message : Message) (result : Result (List ℕ) Stop) → Goes old new (swept_by (Some (left, message))) → Sweeps (Leave id w.moment) old new (Ok (Some (left, message)))
      → IsLine (left_line name (Some (left, message))) result → ActDoes limits (swept_effect w name (Some id)) d new result
  sweeps_one id left message result goes does is =
      let same_raw = does.gives.0 in
      let v : Sequenced message ≡ verdict (ledger_of d) (Leave id w.moment) = does.gives.1 ∙ (lane_of limits old d of).verdict (Leave id w.moment) in
      let going : Goes old new (Entered (Leave id w.moment) (Sequenced message) ∷ []) = subst (λ r. Goes old new (Entered r (Sequenced message) ∷ [])) same_raw goes in
      acted limits (swept_effect w name (Some id)) d new (lines.swept_line name id) result
      (entered limits old d of new (Leave id w.moment) (Sequenced message) going does.enters.owes v) refl
      (subst (λ r. IsLine (left_line name (Some (r, message))) result) same_raw is)

  swept_by_silent : (silent : Option (List ℕ)) (given : Option (Raw × Message)) (result : Result (List ℕ) Stop) → Goes old new (swept_by given) → SweepsBy w.moment silent old new (Ok given)
      → IsLine (left_line name given) result → ActDoes limits (swept_effect w name silent) d new result
  swept_by_silent None given result goes does is =
      acted limits (swept_effect w name None) d new (lines.nobody_swept_line name) result
      (subst (λ s. IsLaneOf limits s (grown (swept_effect w name None) d)) (sym does.1) (same limits old d of)) refl
      (subst (λ g. IsLine (left_line name g) result) (ok_same given None does.0) is)
  swept_by_silent (Some id) None result goes does is = absurd does.gives
  swept_by_silent (Some id) (Some (left, message)) result goes does is = sweeps_one id left message result goes does is

  pub sweeps : (given : Option (Raw × Message)) (result : Result (List ℕ) Stop) → Goes old new (swept_by given) → SweepsBy w.moment (first_silent w.moment silence old.entries.state.sequencer.rows) old new (Ok given)
      → IsLine (left_line name given) result → ActDoes limits (swept w d name silence) d new result
  sweeps given result goes does is =
      swept_as (first_silent w.moment silence old.entries.state.sequencer.rows) refl result
      (swept_by_silent (first_silent w.moment silence old.entries.state.sequencer.rows) given result goes does is)

-- ---- ends

-- the faults of a call that only enters
pub entering_honest : (steps : ℕ) (fault : LaneFault) → IsOutside fault → IsHonest steps (stop_of fault)
entering_honest steps (lane.LogFailed note) may = tt
entering_honest steps (lane.DeltaFailed note) may = tt
entering_honest steps lane.NoMemory may = tt
entering_honest steps lane.Worn may = absurd may
entering_honest steps (lane.Full n) may = absurd may
entering_honest steps (lane.BadRecord n) may = absurd may
entering_honest steps (lane.NoCheckpoint n m) may = absurd may
entering_honest steps lane.CheckpointsFull may = absurd may
entering_honest steps lane.TooManyClients may = absurd may
entering_honest steps (lane.BadCheckpoint n f) may = absurd may
entering_honest steps (lane.TooLarge n) may = absurd may

-- a fault of a call whose keeper's counts tell of it
pub entering_ends : (old new : Standing) (fault : LaneFault) → IsOutside fault → IsCausedBy old.keeping.faults new.keeping.faults fault → LaneEnds old new (stop_of fault)
entering_ends old new (lane.LogFailed note) may cause = cause
entering_ends old new (lane.DeltaFailed note) may cause = cause
entering_ends old new lane.NoMemory may cause = tt
entering_ends old new lane.Worn may cause = absurd may
entering_ends old new (lane.Full n) may cause = absurd may
entering_ends old new (lane.BadRecord n) may cause = absurd may
entering_ends old new (lane.NoCheckpoint n m) may cause = absurd may
entering_ends old new lane.CheckpointsFull may cause = absurd may
entering_ends old new lane.TooManyClients may cause = absurd may
entering_ends old new (lane.BadCheckpoint n f) may cause = absurd may
entering_ends old new (lane.TooLarge n) may cause = absurd may

-- a worn lane stays so
pub worn_ends : (old new : Standing) → (is_worn old ≡ true) × (new ≡ old) → LaneEnds old new (stop_of lane.Worn)
worn_ends old new is = ap is_worn is.1 ∙ is.0

pub unruled_honest : {A : Type 0} (steps : ℕ) (old new : Standing) (fault : LaneFault) → IsGated {A = A} old new [] IsOutside (Err fault) → ((is_worn old ≡ true) × (new ≡ old) → largest ≤ steps + 1) → IsHonest steps (stop_of fault)
unruled_honest {A = A} steps old new fault gate worn = by (is_worn old) refl
  where
    by : (b : Bool) → is_worn old ≡ b → IsHonest steps (stop_of fault)
    by true is = subst (λ f. IsHonest steps (stop_of f)) (sym (gates.same_fault {A = A} fault lane.Worn (gate.worn is).0)) (worn (is, (gate.worn is).1))
    by false is = entering_honest steps fault (gate.refuses is)

pub unruled_ends : {A : Type 0} (old new : Standing) (fault : LaneFault) → IsGated {A = A} old new [] IsOutside (Err fault) → IsCausedBy old.keeping.faults new.keeping.faults fault → LaneEnds old new (stop_of fault)
unruled_ends {A = A} old new fault gate cause = by (is_worn old) refl
  where
    by : (b : Bool) → is_worn old ≡ b → LaneEnds old new (stop_of fault)
    by true is =
        subst (λ f. LaneEnds old new (stop_of f)) (sym (gates.same_fault {A = A} fault lane.Worn (gate.worn is).0)) (worn_ends old new (is, (gate.worn is).1))
    by false is = entering_ends old new fault (gate.refuses is) cause

-- a sweep that failed
pub unswept_honest : (limits : Limits) (e : Effect) (d : Document) (moment : ℕ) (silent : Option (List ℕ)) (old new : Standing) (fault : LaneFault) → IsLaneOf limits old d → SweepsBy moment silent old new (Err fault)
    → IsHonest (steps_on (grown e d) new) (stop_of fault)
unswept_honest limits e d moment None old new fault of does = absurd (err_ok fault None does.0)
unswept_honest limits e d moment (Some id) old new fault of does = unruled_honest (steps_on (grown e d) new) old new fault does.gate (worn_grown limits old new e d of)

pub unswept_ends : (moment : ℕ) (silent : Option (List ℕ)) (old new : Standing) (fault : LaneFault) → SweepsBy moment silent old new (Err fault) → LaneEnds old new (stop_of fault)
unswept_ends moment None old new fault does = absurd (err_ok fault None does.0)
unswept_ends moment (Some id) old new fault does = unruled_ends old new fault does.gate does.enters.cause

-- a line, or want of memory for it
pub line_ends : (old new : Standing) (line : List ℕ) (result : Result (List ℕ) Stop) → IsLine line result → LaneEndsBy old new result
line_ends old new line (Ok text) is = tt
line_ends old new line (Err stop) is = subst (LaneEnds old new) (sym is) tt

-- the same, whatever the line is
pub told_ends : {E : Type 0} (old new : Standing) (line : Result (List ℕ) E) (result : Result (List ℕ) Stop) → ((made : List ℕ) → IfOk line (λ text. text ≡ made) → IsLine made result) → LaneEndsBy old new result
told_ends old new (Ok text) result told = line_ends old new text result (told text refl)
told_ends old new (Err e) result told = line_ends old new [] result (told [] tt)

fault_ends : (old new : Standing) (fault : LaneFault) (result : Result (List ℕ) Stop) → LaneEnds old new (stop_of fault) → result ≡ Err (stop_of fault) → LaneEndsBy old new result
fault_ends old new fault result ends is = subst (LaneEndsBy old new) (sym is) ends

pub unstored_ends : (old new : Standing) (name : List ℕ) (fault : LaneFault) (result : Result (List ℕ) Stop) → IsGated {A = ℕ} old new (has_checkpoints old ∷ []) (IsStoreFault old) (Err fault)
    → IsCausedBy old.keeping.faults new.keeping.faults fault → SaysUnstored name fault result → LaneEndsBy old new result
unstored_ends old new name lane.CheckpointsFull result gate cause is = line_ends old new (lines.full_line name) result is
unstored_ends old new name (lane.TooLarge bytes) result gate cause is = line_ends old new (lines.large_line name bytes) result is
unstored_ends old new name (lane.LogFailed note) result gate cause is = fault_ends old new (lane.LogFailed note) result cause is
unstored_ends old new name (lane.DeltaFailed note) result gate cause is = fault_ends old new (lane.DeltaFailed note) result cause is
unstored_ends old new name lane.NoMemory result gate cause is = fault_ends old new lane.NoMemory result tt is
unstored_ends old new name lane.Worn result gate cause is =
    fault_ends old new lane.Worn result
    (worn_ends old new (gates.worn_one old new lane.CheckpointsFull (IsStoreFault old) (nat_le old.limits.checkpoints old.keeping.checkpoints) gate (λ same. cc) (λ no. no))) is
unstored_ends old new name (lane.BadRecord n) result gate cause is = fault_ends old new (lane.BadRecord n) result tt is
unstored_ends old new name (lane.BadCheckpoint n f) result gate cause is = fault_ends old new (lane.BadCheckpoint n f) result tt is
unstored_ends old new name (lane.Full n) result gate cause is = absurd (stores_no old new (lane.Full n) gate (λ same. cc) (λ no. no) (λ same. cc) (λ no. no))
unstored_ends old new name (lane.NoCheckpoint n m) result gate cause is = absurd (stores_no old new (lane.NoCheckpoint n m) gate (λ same. cc) (λ no. no) (λ same. cc) (λ no. no))
unstored_ends old new name lane.TooManyClients result gate cause is = absurd (stores_no old new lane.TooManyClients gate (λ same. cc) (λ no. no) (λ same. cc) (λ no. no))

pub unrestarted_ends : {A : Type 0} (old new : Standing) (name : List ℕ) (number : ℕ) (fault : LaneFault) (result : Result (List ℕ) Stop) → IsGated {A = A} old new (has_no_checkpoint old number ∷ []) IsReadFault (Err fault)
    → IsCausedBy old.keeping.faults new.keeping.faults fault → SaysUnrestarted name fault result → LaneEndsBy old new result
unrestarted_ends old new name number (lane.NoCheckpoint asked stored) result gate cause is = line_ends old new (lines.no_checkpoint_line name asked stored) result is
unrestarted_ends old new name number (lane.LogFailed note) result gate cause is = fault_ends old new (lane.LogFailed note) result cause is
unrestarted_ends old new name number (lane.DeltaFailed note) result gate cause is = fault_ends old new (lane.DeltaFailed note) result cause is
unrestarted_ends old new name number lane.NoMemory result gate cause is = fault_ends old new lane.NoMemory result tt is
unrestarted_ends {A = A} old new name number lane.Worn result gate cause is =
    fault_ends old new lane.Worn result
    (worn_ends old new (gates.worn_one {A = A} old new (lane.NoCheckpoint number old.keeping.checkpoints) IsReadFault (nat_le old.keeping.checkpoints number) gate (λ same. cc) (λ no. no))) is
unrestarted_ends old new name number (lane.BadRecord n) result gate cause is = fault_ends old new (lane.BadRecord n) result tt is
unrestarted_ends old new name number (lane.BadCheckpoint n f) result gate cause is = fault_ends old new (lane.BadCheckpoint n f) result tt is
unrestarted_ends {A = A} old new name number (lane.Full n) result gate cause is = absurd (restarts_no {A = A} old new number (lane.Full n) gate (λ same. cc) (λ no. no) (λ same. cc) (λ no. no))
unrestarted_ends {A = A} old new name number lane.CheckpointsFull result gate cause is = absurd (restarts_no {A = A} old new number lane.CheckpointsFull gate (λ same. cc) (λ no. no) (λ same. cc) (λ no. no))
unrestarted_ends {A = A} old new name number lane.TooManyClients result gate cause is = absurd (restarts_no {A = A} old new number lane.TooManyClients gate (λ same. cc) (λ no. no) (λ same. cc) (λ no. no))
unrestarted_ends {A = A} old new name number (lane.TooLarge n) result gate cause is = absurd (restarts_no {A = A} old new number (lane.TooLarge n) gate (λ same. cc) (λ no. no) (λ same. cc) (λ no. no))
