-- What a join through a door does, as a connection knows it.
use Rattle.std.proofs.Common.{◌≡◌, ◌∙◌, inl, inr, ℕ, Bool, true, false, List, [], ◌∷◌, length, Result, Ok, Err, if◌then◌else◌, append-nil, refl, sym, ap, subst}
use Rattle.fluid_json.specs.Tree.{Tree}
use Rattle.fluid_turn.specs.Entries.{entries}
use Rattle.fluid_types.specs.Names.{entry_name}
use Rattle.fluid_types.specs.declared.entries.Scopes.{Scopes}
use Rattle.fluid_types.specs.declared.entries.Raw.TheVariants.{Join}
use Rattle.fluid_types.specs.declared.messages.Message.{Message}
use Rattle.fluid_types.specs.declared.verdicts.Verdict.TheVariants.{Sequenced}
use Rattle.fluid_rules.specs.Rules.{verdict}
use Rattle.fluid_rules.specs.Counted.{has_too_many_clients}
use Rattle.fluid_store.specs.Held.{Held}
use Rattle.fluid_lane.specs.declared.steps.Step.{Step}
use Rattle.fluid_lane.specs.declared.fault.LaneFault.{LaneFault}
use Rattle.fluid_lane.specs.declared.fault.LaneFault.TheVariants as lane
use Rattle.fluid_lane.specs.Faults.{IsOutside}
use Rattle.fluid_lane.specs.Refusals.{first_refusal}
use Rattle.fluid_lane.specs.Steps.{ledger, asides, steps_of, fault_steps}
use Rattle.fluid_doors.specs.declared.bench.Terms.{Terms}
use Rattle.fluid_doors.specs.Passing.{APass, Grows}
use Rattle.fluid_doors.specs.Answers.{is_worn_behind, IsRuled}
use Rattle.fluid_doors.specs.Entering.{is_full_at, IsJoinFault, Joins, joined_as}
use Rattle.fluid_voice.specs.declared.actions.Act.{Act}
use Rattle.fluid_voice.specs.declared.actions.Act.TheVariants as act
use Rattle.fluid_voice.specs.declared.ends.ActEnd.{ActEnd}
use Rattle.fluid_voice.specs.declared.ends.ActEnd.TheVariants.{Joined, FullNow, TooMany}
use Rattle.fluid_voice.specs.Ends.{join_of, joined_by, outcome}
use Rattle.fluid_voice.specs.Ends.Outcome.{ends}
use Rattle.fluid_ends.specs.Asking.{found_in}
use Rattle.fluid_talk.specs.Talking.{Goes}
use Rattle.fluid_connection.specs.Knowing.{knowing}
use Rattle.fluid_connection.specs.Entering.{joined, DoesAs}
use Rattle.fluid_connection.proofs.Passes.{goes_with, worn_seen, ok_open, fault_open}

module _ (t : Terms) (name : List ℕ) (scopes : Scopes) (detail : Tree) (moment : ℕ) (l : List Step) where
  abbrev connect : Act
  connect = act.Connect name true scopes detail moment

  abbrev join_end_by : Bool → Bool → ActEnd
  join_end_by a b = if a then FullNow else if b then TooMany else joined_by (entry_name (length (ledger l))) (verdict (ledger l) (join_of (ledger l) scopes detail moment))

  join_by : (held : Held) (a b : Bool) → (is_full_at t l).0 ≡ a → has_too_many_clients t.limits.clients (ledger l) (Join (entry_name (length (ledger l))) scopes detail moment) ≡ b
      → outcome (found_in t.limits (ledger l) held) connect ≡ ends (join_end_by a b)
  join_by held a b is_a is_b =
      ap (λ full. ends (if full then FullNow else if has_too_many_clients t.limits.clients (ledger l) (join_of (ledger l) scopes detail moment) then TooMany
      else joined_by (entry_name (length (ledger l))) (verdict (ledger l) (join_of (ledger l) scopes detail moment)))) is_a
      ∙ ap (λ many. ends (join_end_by a many)) is_b

  abbrev Ruled : Bool → Bool → Result (List ℕ × Message) LaneFault → Type 0
  Ruled a b result = IsRuled IsOutside (asides l) (first_refusal ((a, lane.Full t.limits.entries) ∷ (b, lane.TooManyClients) ∷ [])) result

  joins_pass : (a b : Bool) (r : List ℕ × Message) → Ruled a b (Ok r) → (a ≡ false) × (b ≡ false)
  joins_pass true b r ruled = absurd ruled
  joins_pass false true r ruled = absurd ruled
  joins_pass false false r ruled = (refl, refl)

  full_first : (a b : Bool) (n : ℕ) → Ruled a b (Err (lane.Full n)) → a ≡ true
  full_first true b n ruled = refl
  full_first false true n (inl same) = cc
  full_first false true n (inr failed) = absurd failed.0
  full_first false false n ruled = absurd ruled

  many_first : (a b : Bool) → Ruled a b (Err lane.TooManyClients) → (a ≡ false) × (b ≡ true)
  many_first true b (inl same) = cc
  many_first true b (inr failed) = absurd failed.0
  many_first false true ruled = (refl, refl)
  many_first false false ruled = absurd ruled

  joined_right : (id : List ℕ) (message : Message) → id ≡ entry_name (length (ledger l)) → Sequenced message ≡ verdict (ledger l) (Join id scopes detail moment)
      → joined_by (entry_name (length (ledger l))) (verdict (ledger l) (join_of (ledger l) scopes detail moment)) ≡ Joined id message.number
  joined_right id message named is =
      subst (λ own. joined_by own (verdict (ledger l) (Join own scopes detail moment)) ≡ Joined id message.number) named (ap (joined_by id) (sym is))

module _ (name own : List ℕ) (p q : APass) (scopes : Scopes) (detail : Tree) (moment : ℕ) where
  abbrev Grown : Result (List ℕ × Message) LaneFault → Type 0
  Grown answer = Grows p q (steps_of (joined_as scopes detail moment) answer) (Joins p.turn.fixed scopes detail moment answer)

  abbrev Does : Result (List ℕ × Message) LaneFault → Type 0
  Does answer = DoesAs (knowing name p) (knowing name q) (connect p.turn.fixed own scopes detail moment []) (joined answer)

  join_given : (id : List ℕ) (message : Message) → Grown (Ok (id, message)) → Does (Ok (id, message))
  join_given id message grows =
      let open_ = ok_open (is_worn_behind (entries grows.before)) (id, message) grows.says.answers.worn in
      record {
        found = grows.before;
        added = joined_as scopes detail moment (id, message);
        begins = grows.begins;
        seen = grows.seen;
        goes = goes_with name p q _ _ grows;
        is_done = record { suits = grows.says.numbered.message.0; adds = record { message = message; is = refl; numbered = refl } };
        answered = λ store held told.
            let tells = grows.says.answers.told told in
            let passes = joins_pass p.turn.fixed own scopes detail moment (entries grows.before) _ _ (id, message) (tells.ruled open_) in
            join_by p.turn.fixed own scopes detail moment (entries grows.before) held false false passes.0 (grows.says.limited told ∙ passes.1)
            ∙ ap ends (joined_right p.turn.fixed own scopes detail moment (entries grows.before) id message tells.is_right.0 tells.is_right.1);
        limit = tt;
      }

  full_given : (n : ℕ) → Grown (Err (lane.Full n)) → Does (Err (lane.Full n))
  full_given n grows =
      let open_ = fault_open (List ℕ × Message) (is_worn_behind (entries grows.before)) (lane.Full n) (λ same. cc) grows.says.answers.worn in
      let refused = λ (told : p.turn.fixed.told ≡ true). full_first p.turn.fixed own scopes detail moment (entries grows.before) _ _ n ((grows.says.answers.told told).ruled open_) in
      record {
        found = grows.before;
        added = [];
        begins = grows.begins;
        seen = grows.seen;
        goes = goes_with name p q _ _ grows;
        is_done = record { suits = tt; adds = refl };
        answered = λ store held told. join_by p.turn.fixed own scopes detail moment (entries grows.before) held true _ (refused told) refl;
        limit = λ told.
            let same : p.turn.fixed.told ≡ true = sym (ap (λ t. t.fixed.told) grows.turn) ∙ told in
            rw (ap (λ t. t.fixed.limits) grows.turn, grows.seen ∙ append-nil grows.before) (refused same);
      }

  many_given : Grown (Err lane.TooManyClients) → Does (Err lane.TooManyClients)
  many_given grows =
      let open_ = fault_open (List ℕ × Message) (is_worn_behind (entries grows.before)) lane.TooManyClients (λ same. cc) grows.says.answers.worn in
      record {
        found = grows.before;
        added = [];
        begins = grows.begins;
        seen = grows.seen;
        goes = goes_with name p q _ _ grows;
        is_done = record { suits = tt; adds = refl };
        answered = λ store held told.
            let refused = many_first p.turn.fixed own scopes detail moment (entries grows.before) _ _ ((grows.says.answers.told told).ruled open_) in
            join_by p.turn.fixed own scopes detail moment (entries grows.before) held false true refused.0 (grows.says.limited told ∙ refused.1);
        limit = tt;
      }

  -- no other fault comes where the document isn't worn
  named : (fault : LaneFault) → (fault ≡ lane.Worn → ⊥) → Grown (Err fault) → IsJoinFault p.turn.fixed fault
  named fault other grows = grows.says.answers.named (fault_open (List ℕ × Message) (is_worn_behind (entries grows.before)) fault other grows.says.answers.worn)

  fault_goes : (fault : LaneFault) → Grown (Err fault) → Goes (knowing name p) (knowing name q) (fault_steps fault)
  fault_goes fault grows = goes_with name p q _ _ grows

  pub joins : (answer : Result (List ℕ × Message) LaneFault) → Grown answer → Does answer
  joins (Ok (id, message)) grows = join_given id message grows
  joins (Err (lane.LogFailed note)) grows = record { goes = fault_goes (lane.LogFailed note) grows; cause = λ before now. (refl, named _ (λ same. cc) grows) }
  joins (Err (lane.Full n)) grows = full_given n grows
  joins (Err (lane.BadRecord place)) grows = absurd (named (lane.BadRecord place) (λ same. cc) grows)
  joins (Err (lane.NoCheckpoint asked stored)) grows = absurd (named (lane.NoCheckpoint asked stored) (λ same. cc) grows)
  joins (Err lane.CheckpointsFull) grows = absurd (named lane.CheckpointsFull (λ same. cc) grows)
  joins (Err lane.TooManyClients) grows = many_given grows
  joins (Err (lane.DeltaFailed note)) grows = record { goes = fault_goes (lane.DeltaFailed note) grows; cause = λ before now. (refl, named _ (λ same. cc) grows) }
  joins (Err lane.NoMemory) grows = record { goes = fault_goes lane.NoMemory grows; cause = λ before now. tt }
  joins (Err (lane.BadCheckpoint number bad)) grows = absurd (named (lane.BadCheckpoint number bad) (λ same. cc) grows)
  joins (Err (lane.TooLarge bytes)) grows = absurd (named (lane.TooLarge bytes) (λ same. cc) grows)
  joins (Err lane.Worn) grows = record { goes = fault_goes lane.Worn grows; cause = λ before now. (refl, worn_seen (List ℕ × Message) p q _ grows grows.says.answers.worn) }
