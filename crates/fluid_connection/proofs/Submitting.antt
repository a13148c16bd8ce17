-- What a submission through a door does, as a connection knows it.
use Rattle.std.proofs.Common.{◌≡◌, ◌∙◌, ℕ, Bool, true, false, nat_le, ◌&&◌, List, [], ◌∷◌, Result, Ok, Err, if◌then◌else◌, append-nil, refl, sym, ap}
use Rattle.std.specs.FinMap.{empty}
use Rattle.fluid_turn.specs.Entries.{entries}
use Rattle.fluid_types.specs.declared.entries.Raw.{Raw}
use Rattle.fluid_types.specs.declared.verdicts.Verdict.{Verdict}
use Rattle.fluid_rules.specs.Rules.{verdict}
use Rattle.fluid_rules.specs.Counted.{counted, is_counted}
use Rattle.fluid_store.specs.Held.{Held}
use Rattle.fluid_lane.specs.declared.steps.Step.{Step}
use Rattle.fluid_lane.specs.declared.fault.LaneFault.{LaneFault}
use Rattle.fluid_lane.specs.declared.fault.LaneFault.TheVariants as lane
use Rattle.fluid_lane.specs.Faults.{IsOutside}
use Rattle.fluid_lane.specs.Refusals.{first_refusal}
use Rattle.fluid_lane.specs.Steps.{ledger, asides, steps_of, entered_by, fault_steps}
use Rattle.fluid_doors.specs.declared.bench.Terms.{Terms}
use Rattle.fluid_doors.specs.Passing.{APass, Grows}
use Rattle.fluid_doors.specs.Answers.{is_worn_behind, IsRuled}
use Rattle.fluid_doors.specs.Entering.{is_full_by, IsSubmitFault, Submits}
use Rattle.fluid_voice.specs.declared.actions.Act.TheVariants as act
use Rattle.fluid_voice.specs.declared.ends.ActEnd.TheVariants.{Entered, FullNow}
use Rattle.fluid_voice.specs.Ends.{outcome}
use Rattle.fluid_voice.specs.Ends.Outcome.{ends}
use Rattle.fluid_ends.specs.Asking.{found_in}
use Rattle.fluid_talk.specs.Talking.{Goes}
use Rattle.fluid_connection.specs.Knowing.{knowing}
use Rattle.fluid_connection.specs.Entering.{ended, DoesAs}
use Rattle.fluid_connection.proofs.Passes.{goes_with, ok_open, fault_open, worn_seen}

true_is : {A : Type 0} → true ≡ false → A
true_is same = cc

-- ---- answers

swap : (a b : Bool) → (a && b) ≡ (b && a)
swap true true = refl
swap true false = refl
swap false true = refl
swap false false = refl

module _ (t : Terms) (raw : Raw) (l : List Step) (held : Held) where
  abbrev full : Bool
  full = (is_full_by t l raw).0

  ok_passes : (sides : ℕ) (b : Bool) (v : Verdict) → full ≡ b → IsRuled IsOutside sides (first_refusal ((b, (is_full_by t l raw).1) ∷ [])) (Ok v) → b ≡ false
  ok_passes sides true v is ruled = absurd ruled
  ok_passes sides false v is ruled = refl

  full_refuses : (sides : ℕ) (b : Bool) (n : ℕ) → IsRuled {A = Verdict} IsOutside sides (first_refusal ((b, (is_full_by t l raw).1) ∷ [])) (Err (lane.Full n)) → b ≡ true
  full_refuses sides true n ruled = refl
  full_refuses sides false n ruled = absurd ruled

  entry_by : (b : Bool) → full ≡ b → outcome (found_in t.limits (ledger l) held) (act.Enter raw) ≡ ends (if b then FullNow else Entered (verdict (ledger l) raw))
  entry_by b is =
      ap (λ f. ends (if f then FullNow else Entered (verdict (ledger l) raw))) (swap (is_counted raw) (nat_le t.limits.entries (counted (ledger l))) ∙ is)

both : (a b : Bool) → (a && b) ≡ true → a ≡ true
both true b is = refl
both false b is = is

-- ---- one entry

module _ (name : List ℕ) (p q : APass) (raw : Raw) where
  abbrev Grown : Result Verdict LaneFault → Type 0
  Grown answer = Grows p q (steps_of (entered_by raw) answer) (Submits p.turn.fixed raw answer)

  abbrev Does : Result Verdict LaneFault → Type 0
  Does answer = DoesAs (knowing name p) (knowing name q) (act.Enter raw) (ended answer)

  verdict_given : (v : Verdict) → Grown (Ok v) → Does (Ok v)
  verdict_given v grows =
      let goes = goes_with name p q (entered_by raw v) (Submits p.turn.fixed raw (Ok v)) grows in
      let open_ = ok_open (is_worn_behind (entries grows.before)) v grows.says.worn in
      record {
        found = grows.before;
        added = entered_by raw v;
        begins = grows.begins;
        seen = grows.seen;
        goes = goes;
        is_done = record { suits = tt; adds = refl };
        answered = λ store held told.
            let tells = grows.says.told told in
            let passes = ok_passes p.turn.fixed raw (entries grows.before) held (asides (entries grows.before)) (is_full_by p.turn.fixed (entries grows.before) raw).0 v refl (tells.ruled open_) in
            entry_by p.turn.fixed raw (entries grows.before) held false passes ∙ ap (λ w. ends (Entered w)) (sym tells.is_right);
        limit = tt;
      }

  full_given : (n : ℕ) → Grown (Err (lane.Full n)) → Does (Err (lane.Full n))
  full_given n grows =
      let goes = goes_with name p q [] (Submits p.turn.fixed raw (Err (lane.Full n))) grows in
      let open_ = fault_open Verdict (is_worn_behind (entries grows.before)) (lane.Full n) (λ same. cc) grows.says.worn in
      let refused = λ (told : p.turn.fixed.told ≡ true). full_refuses p.turn.fixed raw (entries grows.before) empty (asides (entries grows.before)) (is_full_by p.turn.fixed (entries grows.before) raw).0 n ((grows.says.told told).ruled open_) in
      record {
        found = grows.before;
        added = [];
        begins = grows.begins;
        seen = grows.seen;
        goes = goes;
        is_done = record { suits = tt; adds = refl };
        answered = λ store held told. entry_by p.turn.fixed raw (entries grows.before) held true (refused told);
        limit = λ told.
            let same : p.turn.fixed.told ≡ true = sym (ap (λ t. t.fixed.told) grows.turn) ∙ told in
            let now = grows.seen ∙ append-nil grows.before in
            rw (ap (λ t. t.fixed.limits) grows.turn, now) (both _ _ (refused same));
      }

  -- no other fault comes where the document isn't worn
  named : (fault : LaneFault) → (fault ≡ lane.Worn → ⊥) → Grown (Err fault) → IsSubmitFault p.turn.fixed raw fault
  named fault other grows = grows.says.named (fault_open Verdict (is_worn_behind (entries grows.before)) fault other grows.says.worn)

  fault_goes : (fault : LaneFault) → Grown (Err fault) → Goes (knowing name p) (knowing name q) (fault_steps fault)
  fault_goes fault grows = goes_with name p q (fault_steps fault) (Submits p.turn.fixed raw (Err fault)) grows

  worn_fails : Grown (Err lane.Worn) → Does (Err lane.Worn)
  worn_fails grows = record {
    goes = fault_goes lane.Worn grows;
    cause = λ before now. (refl, worn_seen Verdict p q _ grows grows.says.worn);
  }

  pub entered : (answer : Result Verdict LaneFault) → Grown answer → Does answer
  entered (Ok v) grows = verdict_given v grows
  entered (Err (lane.LogFailed note)) grows = record { goes = fault_goes (lane.LogFailed note) grows; cause = λ before now. (refl, named _ (λ same. cc) grows) }
  entered (Err (lane.Full n)) grows = full_given n grows
  entered (Err (lane.BadRecord place)) grows = absurd (named (lane.BadRecord place) (λ same. cc) grows)
  entered (Err (lane.NoCheckpoint asked stored)) grows = absurd (named (lane.NoCheckpoint asked stored) (λ same. cc) grows)
  entered (Err lane.CheckpointsFull) grows = absurd (named lane.CheckpointsFull (λ same. cc) grows)
  entered (Err lane.TooManyClients) grows = absurd (named lane.TooManyClients (λ same. cc) grows)
  entered (Err (lane.DeltaFailed note)) grows = record { goes = fault_goes (lane.DeltaFailed note) grows; cause = λ before now. (refl, named _ (λ same. cc) grows) }
  entered (Err lane.NoMemory) grows = record { goes = fault_goes lane.NoMemory grows; cause = λ before now. tt }
  entered (Err (lane.BadCheckpoint number bad)) grows = absurd (named (lane.BadCheckpoint number bad) (λ same. cc) grows)
  entered (Err (lane.TooLarge bytes)) grows = absurd (named (lane.TooLarge bytes) (λ same. cc) grows)
  entered (Err lane.Worn) grows = worn_fails grows
