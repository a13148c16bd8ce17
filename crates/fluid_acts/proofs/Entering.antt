-- Acts that enter an entry: what they leave, and how they end.
use Rattle.std.proofs.Common.{◌≡◌, ◌⊎◌, inl, inr, ℕ, ◌+◌, Bool, true, false, ◌||◌, List, [], ◌∷◌, length, Option, Some, None, Result, Ok, Err, IfErr, option_map, refl, sym, ap, subst, ◌∙◌, arith}
use Rattle.std.specs.Prelude.{if◌then◌else◌, IsSome}
use Rattle.std.specs.FinMap.{get}
use Rattle.fluid_io.specs.Causes.{Tells}
use Rattle.fluid_json.specs.Tree.{Tree}
use Rattle.fluid_types.specs.declared.entries.Scopes.{Scopes}
use Rattle.fluid_types.specs.declared.entries.Raw.{Raw}
use Rattle.fluid_types.specs.declared.entries.Raw.TheVariants.{Join}
use Rattle.fluid_types.specs.declared.messages.Message.{Message}
use Rattle.fluid_types.specs.declared.verdicts.Verdict.{Verdict}
use Rattle.fluid_types.specs.declared.verdicts.Verdict.TheVariants.{Sequenced}
use Rattle.fluid_types.specs.Names.{entry_name}
use Rattle.fluid_types.specs.Printed.{raw_printed}
use Rattle.fluid_rules.specs.Rules as rules
use Rattle.fluid_rules.specs.Rules.{is_joined, joined}
use Rattle.fluid_rules.specs.Counted.{counted, is_counted, has_too_many_clients}
use Rattle.fluid_rules.specs.Counted as limited
use Rattle.fluid_log.specs.Keeping.{Content, Keeping}
use Rattle.fluid_log.specs.Calls.{KeepsSame, with_record, add_record, cut_to, keep_records}
use Rattle.fluid_deltas.specs.Flushes.{put_behind}
use Rattle.fluid_deltas.specs.Pushed.{Pushed}
use Rattle.fluid_document.specs.Rooms.{roomed, for_room}
use Rattle.fluid_core.specs.Entering.{State, verdict_in}
use Rattle.fluid_store.specs.Held.{Held}
use Rattle.fluid_ticket.specs.State as ticket
use Rattle.fluid_lane.specs.declared.fault.LaneFault.{LaneFault}
use Rattle.fluid_lane.specs.declared.fault.LaneFault.TheVariants as lane
use Rattle.fluid_lane.specs.declared.steps.Step.{Step}
use Rattle.fluid_lane.specs.declared.steps.Step.TheVariants as step
use Rattle.fluid_lane.specs.Faults.{IsOutside, IsLogFailed}
use Rattle.fluid_lane.specs.Steps.{ledger, fault_steps}
use Rattle.fluid_lane.specs.Standing.{Standing, AreNamed, LaneStands, Goes, is_worn}
use Rattle.fluid_lane.specs.Refusals.{IsGated, IsCause, IsCutFailed, first_refusal, is_full, is_full_for, has_too_many}
use Rattle.fluid_lane.specs.Calls.{Enters, cut_back}
use Rattle.fluid_lane.specs.Laws.{SaysOf, LaneSays}
use Rattle.fluid_voice.specs.declared.actions.Act.{Act}
use Rattle.fluid_voice.specs.declared.actions.Act.TheVariants as act
use Rattle.fluid_voice.specs.declared.ends.ActEnd.{ActEnd}
use Rattle.fluid_voice.specs.declared.ends.ActEnd.TheVariants.{Joined, Entered, FullNow, TooMany}
use Rattle.fluid_voice.specs.Ends.{outcome, join_of, joined_by}
use Rattle.fluid_voice.specs.Ends.Outcome.{ends}
use Rattle.fluid_voice.specs.Suits.{Suits}
use Rattle.fluid_ends.specs.declared.fault.TalkFault.{TalkFault}
use Rattle.fluid_ends.specs.declared.fault.TalkFault.TheVariants.{Lane, NoMemory}
use Rattle.fluid_ends.specs.Faults.{refused_by}
use Rattle.fluid_ends.specs.Adding.{AddsBy}
use Rattle.fluid_acts.specs.AtLane.{KeepsCheckpoints, IsEndAt, IsWorn, IsRangeOf, OwesBy, IsLimited, IsLimitFault, is_limited, entries_after, is_entering, is_asked_of_lane, OnLane}
use Rattle.fluid_acts.specs.Doing.{found_in}
use Rattle.fluid_acts.specs.Parts.{DoesOnLane, FindsLane, JoinedEnd}
use Rattle.fluid_acts.proofs.Limited.{Rules, IsWhy, why, err_same, refuses_one, refuses_two, first_one, none_of_one, first_two, none_of_two}

-- ---- checkpoints

abbrev texts : Option Content → Option (List (List ℕ))
texts content = option_map (λ (c : Content). c.checkpoints) content

texts_map : (f : Content → Content) (o : Option Content) → ((c : Content) → (f c).checkpoints ≡ c.checkpoints) → texts (option_map f o) ≡ texts o
texts_map f None same = refl
texts_map f (Some c) same = ap Some (same c)

keeps_then : (one two three : Keeping) → KeepsCheckpoints one two → KeepsCheckpoints two three → KeepsCheckpoints one three
keeps_then one two three a b = record { count = b.count ∙ a.count; texts = b.texts ∙ a.texts }

keeps_same : (one other : Keeping) → KeepsSame one other → KeepsCheckpoints one other
keeps_same one other same = record { count = same.checkpoints; texts = ap texts same.content }

keeps_record : (bytes : List ℕ) (k : Keeping) → KeepsCheckpoints k (with_record bytes k)
keeps_record bytes k = record { count = refl; texts = texts_map (add_record bytes) k.content (λ c. refl) }

keeps_roomed : (d : Pushed) (k : Keeping) → KeepsCheckpoints k (roomed d k)
keeps_roomed d k = record { count = refl; texts = texts_map (put_behind (for_room d k.deltas)) k.content (λ c. refl) }

keeps_settled : (s : Standing) → KeepsCheckpoints s.keeping (cut_back s)
keeps_settled s = by s.owed
  where
    by : (owed : Bool) → KeepsCheckpoints s.keeping (if owed then cut_to s.entries.entered s.keeping else s.keeping)
    by true = record { count = refl; texts = texts_map (keep_records s.entries.entered) s.keeping.content (λ c. refl) }
    by false = record { count = refl; texts = refl }

pub keeps_entered : (bytes : List ℕ) (old new : Standing) → KeepsSame (with_record bytes (roomed old.messages (cut_back old))) new.keeping → KeepsCheckpoints old.keeping new.keeping
keeps_entered bytes old new same =
    keeps_then old.keeping (cut_back old) new.keeping (keeps_settled old)
    (keeps_then (cut_back old) (roomed old.messages (cut_back old)) new.keeping (keeps_roomed old.messages (cut_back old))
    (keeps_then (roomed old.messages (cut_back old)) (with_record bytes (roomed old.messages (cut_back old))) new.keeping (keeps_record bytes (roomed old.messages (cut_back old))) (keeps_same _ new.keeping same)))

pub keeps_refused : (old new : Standing) → KeepsSame (cut_back old) new.keeping → KeepsCheckpoints old.keeping new.keeping
keeps_refused old new same = keeps_then old.keeping (cut_back old) new.keeping (keeps_settled old) (keeps_same (cut_back old) new.keeping same)

-- ---- refused entries

-- the limits of a document
abbrev pub IsLimit : LaneFault → Type 0
IsLimit (lane.Full entries) = Unit {0}
IsLimit lane.TooManyClients = Unit {0}
IsLimit fault = ⊥

-- an act that enters, which these rules may refuse
pub record EntersBy (a : Act) (old : Standing) (rules : Rules) : Type 0 where
  pub entering : is_entering a ≡ true
  pub asked : is_asked_of_lane a ≡ true
  pub no_full : AddsBy a FullNow []
  pub no_many : AddsBy a TooMany []
  pub stays_full : entries_after old.entries a (Ok FullNow) ≡ old.entries
  pub stays_many : entries_after old.entries a (Ok TooMany) ≡ old.entries
  pub stays : (fault : TalkFault) → entries_after old.entries a (Err fault) ≡ old.entries
  pub limits : (fault : LaneFault) → first_refusal rules ≡ Some fault → IsLimit fault
  pub refuses : is_limited old a ≡ true → IsSome (first_refusal rules)
  pub full : (entries : ℕ) → first_refusal rules ≡ Some (lane.Full entries) → IsEndAt old a FullNow × Suits a FullNow
  pub many : first_refusal rules ≡ Some lane.TooManyClients → IsEndAt old a TooMany × Suits a TooMany
  pub ends_full : (entries : ℕ) → first_refusal rules ≡ Some (lane.Full entries) → (l : List Step) (held : Held) → FindsLane old l → outcome (found_in old.limits (ledger l) held) a ≡ ends FullNow
  pub ranges : (new : Standing) (result : Result ActEnd TalkFault) → IsRangeOf a old new result
  pub ends_many : first_refusal rules ≡ Some lane.TooManyClients → (l : List Step) (held : Held) → FindsLane old l → outcome (found_in old.limits (ledger l) held) a ≡ ends TooMany

full_worn : (entries : ℕ) → ◌≡◌ {A = LaneFault} (lane.Full entries) lane.Worn → ⊥
full_worn entries same = cc

many_worn : ◌≡◌ {A = LaneFault} lane.TooManyClients lane.Worn → ⊥
many_worn same = cc

true_is : true ≡ false → ⊥
true_is same = cc

-- at a limit only the cut that is owed fails
limit_fails : (old new : Standing) (fault : LaneFault) → IsLimit fault → IfErr (refused_by fault) (IsLimitFault old new)
limit_fails old new (lane.LogFailed note) limit = absurd limit
limit_fails old new (lane.Full entries) limit = tt
limit_fails old new (lane.BadRecord place) limit = absurd limit
limit_fails old new (lane.NoCheckpoint asked stored) limit = absurd limit
limit_fails old new lane.CheckpointsFull limit = absurd limit
limit_fails old new lane.TooManyClients limit = tt
limit_fails old new (lane.DeltaFailed note) limit = absurd limit
limit_fails old new lane.NoMemory limit = absurd limit
limit_fails old new (lane.BadCheckpoint number bad) limit = absurd limit
limit_fails old new (lane.TooLarge bytes) limit = absurd limit
limit_fails old new lane.Worn limit = absurd limit

cut_fails : (old new : Standing) (fault : LaneFault) → IsLogFailed fault → IsCutFailed old new → IfErr (refused_by fault) (IsLimitFault old new)
cut_fails old new (lane.LogFailed note) failed cut = cut
cut_fails old new (lane.Full entries) failed cut = absurd failed
cut_fails old new (lane.BadRecord place) failed cut = absurd failed
cut_fails old new (lane.NoCheckpoint asked stored) failed cut = absurd failed
cut_fails old new lane.CheckpointsFull failed cut = absurd failed
cut_fails old new lane.TooManyClients failed cut = absurd failed
cut_fails old new (lane.DeltaFailed note) failed cut = absurd failed
cut_fails old new lane.NoMemory failed cut = absurd failed
cut_fails old new (lane.BadCheckpoint number bad) failed cut = absurd failed
cut_fails old new (lane.TooLarge bytes) failed cut = absurd failed
cut_fails old new lane.Worn failed cut = absurd failed

limited_by : {A : Type 0} (a : Act) (old new : Standing) (rules : Rules) (fault : LaneFault) → EntersBy a old rules → IsGated {A = A} old new rules IsOutside (Err fault)
    → is_worn old ≡ false → is_limited old a ≡ true → IsLimited old new (refused_by fault)
limited_by a old new rules fault by gate unworn limited =
    let refuses = by.refuses limited in
    record { fails = fails (first_refusal rules) refl refuses (gate.refuses unworn); unasked = gate.unasked refuses }
  where
    fails : (first : Option LaneFault) → first_refusal rules ≡ first → IsSome first → IsCause old new IsOutside first fault → IfErr (refused_by fault) (IsLimitFault old new)
    fails None is some cause = absurd (true_is (sym some))
    fails (Some refusal) is some (inl same) = subst (λ f. IfErr (refused_by f) (IsLimitFault old new)) (sym same) (limit_fails old new refusal (by.limits refusal is))
    fails (Some refusal) is some (inr cut) = cut_fails old new fault cut.0 cut.1

module _ (a : Act) (raw : Raw) (old new : Standing) (rules : Rules) (by : EntersBy a old rules) where
  untouched : is_asked_of_lane a ≡ false → new ≡ old
  untouched none = absurd (true_is (sym by.asked ∙ none))

  -- it enters
  reads : is_entering a ≡ false → new.owed ≡ old.owed
  reads none = absurd (true_is (sym by.entering ∙ none))

  -- a worn lane says so
  abbrev Worn : LaneFault → Type 0
  Worn fault = is_worn old ≡ true → (fault ≡ lane.Worn) × (new ≡ old)

  says_worn : (fault : LaneFault) → Worn fault → is_worn old ≡ true → is_entering a ≡ true → IsWorn old new (refused_by fault)
  says_worn fault worn is entering = record { answer = inr (ap refused_by (worn is).0); same = (worn is).1 }

  -- a lane at a limit fails at the cut alone
  abbrev Limited : LaneFault → Type 0
  Limited fault = is_worn old ≡ false → is_limited old a ≡ true → IsLimited old new (refused_by fault)

  -- the lane failed, and nothing was entered
  fails : (fault : LaneFault) → refused_by fault ≡ Err (Lane fault) → OwesBy new (Err (Lane fault)) → Worn fault → Limited fault → new.entries ≡ old.entries → Goes old new (fault_steps fault) → OnLane a old new (Err (Lane fault))
  fails fault own owes worn limited stays goes = record {
    added = fault_steps fault;
    adds = refl;
    goes = goes;
    entries = stays ∙ sym (by.stays (Lane fault));
    owes = λ entering. owes;
    level = reads;
    range = by.ranges new (Err (Lane fault));
    checkpoints = tt;
    ends = tt;
    worn = λ is entering. subst (IsWorn old new) own (says_worn fault worn is entering);
    limited = λ unworn is. subst (IsLimited old new) own (limited unworn is);
    untouched = untouched;
  }

  full_first : (entries : ℕ) → IsWhy old rules (lane.Full entries) → first_refusal rules ≡ Some (lane.Full entries)
  full_first entries (inl worn) = absurd (full_worn entries worn.1)
  full_first entries (inr (inl failed)) = absurd failed
  full_first entries (inr (inr first)) = first

  many_first : IsWhy old rules lane.TooManyClients → first_refusal rules ≡ Some lane.TooManyClients
  many_first (inl worn) = absurd (many_worn worn.1)
  many_first (inr (inl failed)) = absurd failed
  many_first (inr (inr first)) = first

  worn_why : IsWhy old rules lane.Worn → is_worn old ≡ true
  worn_why (inl worn) = worn.0
  worn_why (inr (inl failed)) = absurd failed
  worn_why (inr (inr first)) = absurd (by.limits lane.Worn first)

  -- no other fault comes
  never : (fault : LaneFault) → (fault ≡ lane.Worn → ⊥) → (IsOutside fault → ⊥) → (IsLimit fault → ⊥) → IsWhy old rules fault → ⊥
  never fault unworn inside unlimited (inl worn) = unworn worn.1
  never fault unworn inside unlimited (inr (inl failed)) = inside failed
  never fault unworn inside unlimited (inr (inr first)) = unlimited (by.limits fault first)

  refused : {A : Type 0} (fault : LaneFault) → Goes old new (fault_steps fault) → Worn fault → Limited fault → IsWhy old rules fault → Enters {A = A} raw old new (Err fault) → DoesOnLane a old new (refused_by fault)
  refused (lane.LogFailed note) goes worn limited is enters = record {
    lane = fails (lane.LogFailed note) refl enters.owes worn limited enters.entries goes;
    end = λ l held finds. tt;
    suits = tt;
    cause = (by.entering, enters.cause);
  }
  refused (lane.Full entries) goes worn limited is enters =
      let first = full_first entries is in
      record {
        lane = record {
          added = [];
          adds = by.no_full;
          goes = goes;
          entries = enters.entries ∙ sym by.stays_full;
          owes = λ entering. enters.owes;
          level = reads;
          range = by.ranges new (Ok FullNow);
          checkpoints = keeps_refused old new enters.kept;
          ends = (by.full entries first).0;
          worn = says_worn (lane.Full entries) worn;
          limited = limited;
          untouched = untouched;
        };
        end = by.ends_full entries first;
        suits = (by.full entries first).1;
        cause = tt;
      }
  refused (lane.BadRecord place) goes worn limited is enters = absurd (never (lane.BadRecord place) (λ same. cc) (λ failed. failed) (λ limit. limit) is)
  refused (lane.NoCheckpoint asked stored) goes worn limited is enters = absurd (never (lane.NoCheckpoint asked stored) (λ same. cc) (λ failed. failed) (λ limit. limit) is)
  refused lane.CheckpointsFull goes worn limited is enters = absurd (never lane.CheckpointsFull (λ same. cc) (λ failed. failed) (λ limit. limit) is)
  refused lane.TooManyClients goes worn limited is enters =
      let first = many_first is in
      record {
        lane = record {
          added = [];
          adds = by.no_many;
          goes = goes;
          entries = enters.entries ∙ sym by.stays_many;
          owes = λ entering. enters.owes;
          level = reads;
          range = by.ranges new (Ok TooMany);
          checkpoints = keeps_refused old new enters.kept;
          ends = (by.many first).0;
          worn = says_worn lane.TooManyClients worn;
          limited = limited;
          untouched = untouched;
        };
        end = by.ends_many first;
        suits = (by.many first).1;
        cause = tt;
      }
  refused (lane.DeltaFailed note) goes worn limited is enters = record {
    lane = fails (lane.DeltaFailed note) refl enters.owes worn limited enters.entries goes;
    end = λ l held finds. tt;
    suits = tt;
    cause = (by.entering, enters.cause);
  }
  refused lane.NoMemory goes worn limited is enters = record {
    lane = record {
      added = [];
      adds = refl;
      goes = goes;
      entries = enters.entries ∙ sym (by.stays NoMemory);
      owes = λ entering. tt;
      level = reads;
      range = by.ranges new (Err NoMemory);
      checkpoints = tt;
      ends = tt;
      worn = says_worn lane.NoMemory worn;
      limited = limited;
      untouched = untouched;
    };
    end = λ l held finds. tt;
    suits = tt;
    cause = tt;
  }
  refused (lane.BadCheckpoint number bad) goes worn limited is enters = absurd (never (lane.BadCheckpoint number bad) (λ same. cc) (λ failed. failed) (λ limit. limit) is)
  refused (lane.TooLarge bytes) goes worn limited is enters = absurd (never (lane.TooLarge bytes) (λ same. cc) (λ failed. failed) (λ limit. limit) is)
  refused lane.Worn goes worn limited is enters = record {
    lane = fails lane.Worn refl tt worn limited enters.entries goes;
    end = λ l held finds. tt;
    suits = tt;
    cause = (by.entering, worn_why is);
  }

-- what a gate says of a worn lane
worn_of : {A : Type 0} (old new : Standing) (rules : Rules) (fault : LaneFault) → IsGated {A = A} old new rules IsOutside (Err fault) → is_worn old ≡ true → (fault ≡ lane.Worn) × (new ≡ old)
worn_of {A = A} old new rules fault gate is = (err_same {A = A} fault lane.Worn (gate.worn is).0, (gate.worn is).1)

not_worn : {P : Type 0} (b : Bool) → b ≡ false → b ≡ true → P
not_worn b no_ is = absurd (true_is (sym is ∙ no_))

neither : {P : Type 0} (a b : Bool) → a ≡ false → b ≡ false → (a || b) ≡ true → P
neither true b is_a is_b is = absurd (true_is is_a)
neither false true is_a is_b is = absurd (true_is is_b)
neither false false is_a is_b is = absurd (true_is (sym is))

-- ---- what a told lane says of its ledger

pub said : (law : LaneSays) (s : Standing) (l : List Step) → LaneStands s l × IsSome s.keeping.content → SaysOf s (ledger l)
said law s l finds = by s.keeping.content finds.1 (law s l finds.0)
  where
    by : (o : Option Content) → IsSome o → Tells o (λ _. SaysOf s (ledger l)) → SaysOf s (ledger l)
    by None some tells = absurd (true_is (sym some))
    by (Some content) some tells = tells

-- ---- submissions and leaves

module _ (law : LaneSays) (raw : Raw) (old : Standing) where
  full_said : (l : List Step) → LaneStands old l × IsSome old.keeping.content → limited.is_full old.limits.entries (ledger l) raw ≡ (is_full_for old raw).0
  full_said l finds = ap (λ (rule : Bool × LaneFault). rule.0) (sym ((said law old l finds).full raw))

  entry_ends : (b : Bool) (l : List Step) (held : Held) → LaneStands old l × IsSome old.keeping.content → (is_full_for old raw).0 ≡ b
      → outcome (found_in old.limits (ledger l) held) (act.Enter raw) ≡ ends (if b then FullNow else Entered (verdict_in old.entries.state raw))
  entry_ends b l held finds is =
      ap (λ full. ends (if full then FullNow else Entered (rules.verdict (ledger l) raw))) (full_said l finds ∙ is)
      ∙ ap (λ v. ends (if b then FullNow else Entered v)) (sym ((said law old l finds).verdict raw))

  full_limits : (fault : LaneFault) → first_refusal (is_full_for old raw ∷ []) ≡ Some fault → IsLimit fault
  full_limits fault first = subst IsLimit (first_one _ _ _ first).1 tt

  full_many : (n : ℕ) → ◌≡◌ {A = LaneFault} (lane.Full n) lane.TooManyClients → ⊥
  full_many n same = cc

  pub enters_entry : EntersBy (act.Enter raw) old (is_full_for old raw ∷ [])
  enters_entry = record {
    entering = refl;
    asked = refl;
    no_full = refl;
    no_many = refl;
    stays_full = refl;
    stays_many = refl;
    stays = λ fault. refl;
    limits = full_limits;
    refuses = λ limited. refuses_one (is_full_for old raw).0 (is_full_for old raw).1 limited;
    full = λ entries first. ((first_one _ _ _ first).0, tt);
    many = λ first. absurd (full_many _ (first_one _ _ _ first).1);
    ends_full = λ entries first l held finds. entry_ends true l held finds (first_one _ _ _ first).0;
    ranges = λ new result. tt;
    ends_many = λ first. absurd (full_many _ (first_one _ _ _ first).1);
  }

  pub entry_refused : {A : Type 0} (new : Standing) (fault : LaneFault) → Goes old new (fault_steps fault) → IsGated {A = A} old new (is_full_for old raw ∷ []) IsOutside (Err fault)
      → Enters {A = A} raw old new (Err fault) → DoesOnLane (act.Enter raw) old new (refused_by fault)
  entry_refused {A = A} new fault goes gate enters = refused (act.Enter raw) raw old new (is_full_for old raw ∷ []) enters_entry {A = A} fault goes (worn_of old new (is_full_for old raw ∷ []) fault gate)
      (limited_by {A = A} (act.Enter raw) old new (is_full_for old raw ∷ []) fault enters_entry gate)
      (why old new (is_full_for old raw ∷ []) fault gate) enters

  pub entry_entered : (new : Standing) (verdict : Verdict) → Goes old new (step.Entered raw verdict ∷ []) → IsGated old new (is_full_for old raw ∷ []) IsOutside (Ok verdict)
      → Enters {A = Verdict} raw old new (Ok verdict) → verdict ≡ verdict_in old.entries.state raw → DoesOnLane (act.Enter raw) old new (Ok (Entered verdict))
  entry_entered new verdict goes gate enters is =
      let open_ = none_of_one _ _ gate.passes.1 in
      record {
        lane = record {
          added = step.Entered raw verdict ∷ [];
          adds = refl;
          goes = goes;
          entries = enters.entries;
          owes = λ entering. enters.owes;
          level = λ none. absurd (true_is none);
          range = tt;
          checkpoints = keeps_entered (raw_printed raw) old new enters.kept;
          ends = (open_, is);
          worn = λ worn entering. not_worn (is_worn old) gate.passes.0 worn;
          limited = λ unworn limited. not_worn (is_full_for old raw).0 open_ limited;
          untouched = λ none. absurd (true_is none);
        };
        end = λ l held finds. entry_ends false l held finds open_ ∙ ap (λ v. ends (Entered v)) (sym is);
        suits = tt;
        cause = tt;
      }

-- ---- joins

abbrev number_in : Verdict → ℕ
number_in (Sequenced message) = message.number
number_in verdict = 0

-- a join under a new id gets the next number
join_number : (s : State) (id : List ℕ) (scopes : Scopes) (detail : Tree) (moment : ℕ) → get s.sequencer.rows id ≡ None
    → number_in (verdict_in s (Join id scopes detail moment)) ≡ s.sequencer.sequence + 1
unfolding verdict_in ticket.verdict_in ticket.message_in rules.unsettled
join_number s id scopes detail moment none = rw none refl

clients_many : (n : ℕ) → ◌≡◌ {A = LaneFault} lane.TooManyClients (lane.Full n) → ⊥
clients_many n same = cc

module _ (law : LaneSays) (name : List ℕ) (scopes : Scopes) (detail : Tree) (moment : ℕ) (old : Standing) (named : AreNamed old.entries.entered old.entries.state.sequencer.rows)
    (none : get old.entries.state.sequencer.rows (entry_name old.entries.entered) ≡ None) where
  abbrev connect : Act
  connect = act.Connect name true scopes detail moment

  abbrev gates : Rules
  gates = is_full old ∷ has_too_many old ∷ []

  join_full : (l : List Step) → LaneStands old l × IsSome old.keeping.content → limited.is_full old.limits.entries (ledger l) (join_of (ledger l) scopes detail moment) ≡ (is_full old).0
  join_full l finds = ap (λ (rule : Bool × LaneFault). rule.0) (sym ((said law old l finds).full_join (entry_name (length (ledger l))) scopes detail moment))

  join_many : (l : List Step) → FindsLane old l → has_too_many_clients old.limits.clients (ledger l) (join_of (ledger l) scopes detail moment) ≡ (has_too_many old).0
  join_many l finds = ap (λ (rule : Bool × LaneFault). rule.0) (sym ((said law old l finds).too_many named scopes detail moment))

  connect_ends : (a b : Bool) (l : List Step) (held : Held) → FindsLane old l → (is_full old).0 ≡ a → (has_too_many old).0 ≡ b
      → outcome (found_in old.limits (ledger l) held) connect
      ≡ ends (if a then FullNow else if b then TooMany else joined_by (entry_name (length (ledger l))) (rules.verdict (ledger l) (join_of (ledger l) scopes detail moment)))
  connect_ends a b l held finds is_a is_b =
      ap (λ full. ends (if full then FullNow else if has_too_many_clients old.limits.clients (ledger l) (join_of (ledger l) scopes detail moment) then TooMany
      else joined_by (entry_name (length (ledger l))) (rules.verdict (ledger l) (join_of (ledger l) scopes detail moment)))) (join_full l finds ∙ is_a)
      ∙ ap (λ many. ends (if a then FullNow else if many then TooMany else joined_by (entry_name (length (ledger l))) (rules.verdict (ledger l) (join_of (ledger l) scopes detail moment)))) (join_many l finds ∙ is_b)

  join_limits : (fault : LaneFault) → first_refusal gates ≡ Some fault → IsLimit fault
  join_limits fault first = by (first_two _ _ _ _ _ first)
    where
      by : (((is_full old).0 ≡ true) × ((is_full old).1 ≡ fault)) ⊎ (((is_full old).0 ≡ false) × (((has_too_many old).0 ≡ true) × ((has_too_many old).1 ≡ fault))) → IsLimit fault
      by (inl one) = subst IsLimit one.1 tt
      by (inr other) = subst IsLimit other.1.1 tt

  first_full : (entries : ℕ) → first_refusal gates ≡ Some (lane.Full entries) → (is_full old).0 ≡ true
  first_full entries first = by (first_two _ _ _ _ _ first)
    where
      by : (((is_full old).0 ≡ true) × ((is_full old).1 ≡ lane.Full entries)) ⊎ (((is_full old).0 ≡ false) × (((has_too_many old).0 ≡ true) × ((has_too_many old).1 ≡ lane.Full entries))) → (is_full old).0 ≡ true
      by (inl one) = one.0
      by (inr other) = absurd (clients_many entries other.1.1)

  first_many : first_refusal gates ≡ Some lane.TooManyClients → ((is_full old).0 ≡ false) × ((has_too_many old).0 ≡ true)
  first_many first = by (first_two _ _ _ _ _ first)
    where
      by : (((is_full old).0 ≡ true) × ((is_full old).1 ≡ lane.TooManyClients)) ⊎ (((is_full old).0 ≡ false) × (((has_too_many old).0 ≡ true) × ((has_too_many old).1 ≡ lane.TooManyClients)))
          → ((is_full old).0 ≡ false) × ((has_too_many old).0 ≡ true)
      by (inl one) = absurd (clients_many _ (sym one.1))
      by (inr other) = (other.0, other.1.0)

  pub enters_join : EntersBy connect old gates
  enters_join = record {
    entering = refl;
    asked = refl;
    no_full = refl;
    no_many = refl;
    stays_full = refl;
    stays_many = refl;
    stays = λ fault. refl;
    limits = join_limits;
    refuses = λ limited. refuses_two (is_full old).0 (has_too_many old).0 (is_full old).1 (has_too_many old).1 limited;
    full = λ entries first. (first_full entries first, tt);
    many = λ first. (first_many first, tt);
    ends_full = λ entries first l held finds. connect_ends true (has_too_many old).0 l held finds (first_full entries first) refl;
    ranges = λ new result. tt;
    ends_many = λ first l held finds. connect_ends false true l held finds (first_many first).0 (first_many first).1;
  }

  pub join_refused : {A : Type 0} (raw : Raw) (new : Standing) (fault : LaneFault) → Goes old new (fault_steps fault) → IsGated {A = A} old new gates IsOutside (Err fault)
      → Enters {A = A} raw old new (Err fault) → DoesOnLane connect old new (refused_by fault)
  join_refused {A = A} raw new fault goes gate enters = refused connect raw old new gates enters_join {A = A} fault goes (worn_of old new gates fault gate)
      (limited_by {A = A} connect old new gates fault enters_join gate) (why old new gates fault gate) enters

  abbrev own : List ℕ
  own = entry_name old.entries.entered

  -- the rules give the join the same message
  by_rules : (l : List Step) (message : Message) → LaneStands old l × IsSome old.keeping.content → Sequenced message ≡ verdict_in old.entries.state (Join own scopes detail moment)
      → joined_by (entry_name (length (ledger l))) (rules.verdict (ledger l) (join_of (ledger l) scopes detail moment)) ≡ Joined own message.number
  by_rules l message finds is =
      let says = said law old l finds in
      subst (λ n. joined_by (entry_name n) (rules.verdict (ledger l) (Join (entry_name n) scopes detail moment)) ≡ Joined own message.number) says.entered
      (ap (joined_by own) (sym (is ∙ says.verdict (Join own scopes detail moment))))

  pub join_entered : (message : Message) (new : Standing) → Goes old new (step.Entered (Join own scopes detail moment) (Sequenced message) ∷ [])
      → IsGated {A = Raw × Message} old new gates IsOutside (Ok (Join own scopes detail moment, message))
      → Enters {A = Raw × Message} (Join own scopes detail moment) old new (Ok (Join own scopes detail moment, message))
      → Sequenced message ≡ verdict_in old.entries.state (Join own scopes detail moment)
      → DoesOnLane connect old new (Ok (Joined own message.number))
  join_entered message new goes gate enters is =
      let open_ = none_of_two _ _ _ _ gate.passes.1 in
      let next : message.number ≡ old.entries.state.sequencer.sequence + 1 = ap number_in is ∙ join_number old.entries.state own scopes detail moment none in
      record {
        lane = record {
          added = step.Entered (Join own scopes detail moment) (Sequenced message) ∷ [];
          adds = record { message = message; is = refl; numbered = refl };
          goes = goes;
          entries = enters.entries;
          owes = λ entering. enters.owes;
          level = λ none. absurd (true_is none);
          range = tt;
          checkpoints = keeps_entered (raw_printed (Join own scopes detail moment)) old new enters.kept;
          ends = (open_, (refl, next));
          worn = λ worn entering. not_worn (is_worn old) gate.passes.0 worn;
          limited = λ unworn limited. neither (is_full old).0 (has_too_many old).0 open_.0 open_.1 limited;
          untouched = λ none. absurd (true_is none);
        };
        end = λ l held finds. connect_ends false false l held finds open_.0 open_.1 ∙ ap ends (by_rules l message finds is);
        suits = omega (arith, next);
        cause = tt;
      }

  joined_at : (raw : Raw) (message : Message) (end : ActEnd) → raw ≡ Join own scopes detail moment → JoinedEnd raw message end → end ≡ Joined own message.number
  joined_at raw message end is ended = subst (λ r. JoinedEnd r message end) is ended

  pub join_answered : (raw : Raw) (message : Message) (end : ActEnd) (new : Standing) → Goes old new (step.Entered raw (Sequenced message) ∷ [])
      → IsGated {A = Raw × Message} old new gates IsOutside (Ok (raw, message)) → Enters {A = Raw × Message} (Join own scopes detail moment) old new (Ok (raw, message))
      → raw ≡ Join own scopes detail moment → Sequenced message ≡ verdict_in old.entries.state raw → JoinedEnd raw message end → DoesOnLane connect old new (Ok end)
  join_answered raw message end new goes gate enters same is ended =
      subst (λ e. DoesOnLane connect old new (Ok e)) (sym (joined_at raw message end same ended))
      (join_entered message new (subst (λ r. Goes old new (step.Entered r (Sequenced message) ∷ [])) same goes)
      (subst (λ r. IsGated {A = Raw × Message} old new gates IsOutside (Ok (r, message))) same gate)
      (subst (λ r. Enters {A = Raw × Message} (Join own scopes detail moment) old new (Ok (r, message))) same enters)
      (is ∙ ap (verdict_in old.entries.state) same))
