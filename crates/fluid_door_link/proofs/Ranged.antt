-- Messages that are read from a lane.
use Rattle.std.proofs.Common.{◌≡◌, ℕ, zero, suc, ◌∷◌, ◌+◌, ◌-◌, ◌^◌, ◌<◌, ◌≤◌, arith, Bool, true, false, List, [], length, drop, Option, Some, None, IfSome, option_map, Result, Ok, Err, refl, sym, ap, subst, ◌∙◌, length-drop}
use Rattle.std.proofs.lemmas.List.{take_all}
use Rattle.fluid_io.specs.Causes.{Tells}
use Rattle.fluid_types.specs.Ledger.{Ledger, order}
use Rattle.fluid_types.specs.declared.messages.Message.{Message}
use Rattle.fluid_deltas.specs.Pushed.{slice}
use Rattle.fluid_deltas.specs.Ranges.{IsSlice}
use Rattle.fluid_deltas.specs.declared.fault.DeltaFault.{DeltaFault}
use Rattle.fluid_deltas.specs.declared.fault.DeltaFault.TheVariants.{DeltaFailed, BadDelta, Worn, NoMemory}
use Rattle.fluid_store.specs.Held.{Held}
use Rattle.fluid_store.specs.Storing.{Storing}
use Rattle.fluid_lane.specs.declared.steps.Step.{Step}
use Rattle.fluid_lane.specs.Steps.{ledger, stored, delta_steps}
use Rattle.fluid_lane.specs.Standing.{Standing, LaneStands, Goes, is_worn}
use Rattle.fluid_lane.specs.Ranges.{Ranges}
use Rattle.fluid_loader.specs.Link.{Document}
use Rattle.fluid_door_link.specs.Failing.{HasCause, IsHonest, IsNoRefusal, kept_of_deltas, link_deltas}
use Rattle.fluid_door_link.specs.Coursing.{Along, IsAlong}
use Rattle.fluid_door_link.specs.Linking.{ReadsBy}
use Rattle.fluid_door_link.specs.Telling.{told_by}
use Rattle.fluid_door_link.proofs.Told.{IsKnown, document_of, says, told_of, told_at, same_told, seq_is}
use Rattle.fluid_door_link.proofs.Walked.{HasAsides, known, went_lane}

-- ---- the messages behind a number

-- all messages from a number on are those up to the last
all_from : (messages : List Message) (from : ℕ) → 0 < from → from ≤ length messages + 1 → slice messages from (length messages + 1) ≡ drop (from - 1) messages
all_from messages from above within = take_all ((length messages + 1) - from) (drop (from - 1) messages) (omega (arith, length-drop (from - 1) messages, above, within))

none_dropped : (n : ℕ) → ◌≡◌ {A = List Message} (drop n []) []
none_dropped zero = refl
none_dropped (suc n) = refl

none_from : (n : ℕ) (messages : List Message) → length messages ≤ n → drop n messages ≡ []
none_from n [] le = none_dropped n
none_from zero (m ∷ messages) le = absurd (omega (arith, le))
none_from (suc n) (m ∷ messages) le = none_from n messages (omega (arith, le))

module _ (from : ℕ) (P : List Message → Type 0) where
  of_told : (l : Ledger) (limit : ℕ) (o : Option Held) → P (order l) → Tells (option_map (document_of l limit) o) (λ d. P d.order)
  of_told l limit None is = tt
  of_told l limit (Some held) is = is

  -- a fact on the order of what is told
  of_order : (good : Bool) (s : Standing) → (good ≡ true → IsKnown s) → (store : Storing) → ((known : IsKnown s) → good ≡ true → P (order (ledger known.list))) → Tells (told_by good s store) (λ d. P d.order)
  of_order false s known store is = tt
  of_order true s known store is =
      subst (λ o. Tells o (λ d. P d.order)) (sym (told_of s (known refl) store)) (of_told (ledger (known refl).list) s.limits.entries store.content (is (known refl) refl))

-- the last number of a lane that stands for a list is that of the last message of the order
last_is : (s : Standing) (known : IsKnown s) → s.entries.state.sequencer.sequence ≡ length (order (ledger known.list))
last_is s known = (says s known).seq ∙ seq_is (ledger known.list)

-- ---- none behind the last

module _ (good : Bool) (s : Standing) (known : good ≡ true → IsKnown s) (store : Storing) (from : ℕ) where
  pub none_behind : 0 < from → from ≤ 2 ^ 53 → s.entries.state.sequencer.sequence + 1 ≤ from → ReadsBy from (told_by good s store) (told_by good s store) (Ok [])
  none_behind above fits behind = (
    refl,
    record {
      numbered = tt;
      few = omega (arith, fits);
      are =
          of_order from (λ messages. drop (from - 1) messages ≡ []) good s known store
          (λ at is. none_from (from - 1) (order (ledger at.list)) (omega (arith, last_is s at, behind, above)));
    },
  )

  pub slice_is : (to : ℕ) (messages : List Message) → 0 < from → from ≤ to → to ≡ s.entries.state.sequencer.sequence + 1
      → ((list : List Step) → LaneStands s list → Tells s.keeping.content (λ _. messages ≡ slice (order (ledger list)) from to))
      → Tells (told_by good s store) (λ d. drop (from - 1) d.order ≡ messages)
  slice_is to messages above ordered last are =
      of_order from (λ order. drop (from - 1) order ≡ messages) good s known store (λ at is.
      let own = told_at (λ _. messages ≡ slice (order (ledger at.list)) from to) s.keeping.content at.content at.told (are at.list at.stands) in
      let end : to ≡ length (order (ledger at.list)) + 1 = last ∙ ap (λ n. n + 1) (last_is s at) in
      sym (all_from (order (ledger at.list)) from above (omega (arith, ordered, end))) ∙ ap (λ n. slice (order (ledger at.list)) from n) (sym end) ∙ sym own)

-- ---- a range that was asked of a lane

none_stored : (fault : DeltaFault) → stored (delta_steps fault) ≡ 0
none_stored (DeltaFailed note) = refl
none_stored (BadDelta number) = refl
none_stored Worn = refl
none_stored NoMemory = refl

none_entered : (fault : DeltaFault) → ledger (delta_steps fault) ≡ []
none_entered (DeltaFailed note) = refl
none_entered (BadDelta number) = refl
none_entered Worn = refl
none_entered NoMemory = refl

same_fault : {A : Type 0} (a b : DeltaFault) → ◌≡◌ {A = Result A DeltaFault} (Err a) (Err b) → a ≡ b
same_fault a b same = cc

ok_err : {A : Type 0} (a : A) (b : DeltaFault) → ◌≡◌ {A = Result A DeltaFault} (Ok a) (Err b) → ⊥
ok_err a b same = cc

-- a lane that answers wasn't worn
unworn : {A : Type 0} (s new : Standing) (a : A) → (is_worn s ≡ true → (◌≡◌ {A = Result A DeltaFault} (Ok a) (Err Worn)) × (new ≡ s)) → is_worn s ≡ false
unworn {A = A} s new a worn = by (is_worn s) refl
  where
    by : (b : Bool) → is_worn s ≡ b → b ≡ false
    by true is = absurd (ok_err {A = A} a Worn (worn is).0)
    by false is = refl

module _ {V : Type 0} (messages : V → List Message) (good : Bool) (began : Standing) (before : Storing) (at : Along) (along : IsAlong good began before at) (none : at.stop ≡ None) (new : Standing) (from to : ℕ) (above : 0 < from) (ordered : from ≤ to) (last : to ≡ at.lane.entries.state.sequencer.sequence + 1) where
  pub read_along : (v : V) → Goes at.lane new [] → (is_worn at.lane ≡ true → (◌≡◌ {A = Result V DeltaFault} (Ok v) (Err Worn)) × (new ≡ at.lane))
      → (is_worn at.lane ≡ false → Ranges messages from to at.lane new (Ok v)) → IsAlong good began before (record { lane = new; store = at.store; stop = None })
  read_along v goes worn ranges =
      let open_ = unworn at.lane new v worn in
      went_lane good began before at along none new [] None goes refl refl (λ still is. (ranges open_).same.1.1 ∙ along.level none is) (λ is. tt) tt

  pub read_told : (v : V) → Goes at.lane new [] → (is_worn at.lane ≡ true → (◌≡◌ {A = Result V DeltaFault} (Ok v) (Err Worn)) × (new ≡ at.lane))
      → (is_worn at.lane ≡ false → Ranges messages from to at.lane new (Ok v))
      → (is_worn at.lane ≡ false → (l : List Step) → LaneStands at.lane l → Tells at.lane.keeping.content (λ _. IsSlice messages (slice (order (ledger l)) from to) (Ok v)))
      → to ≤ 2 ^ 53 → ReadsBy from (told_by good at.lane at.store) (told_by good new at.store) (Ok (messages v))
  read_told v goes worn ranges slices few =
      let open_ = unworn at.lane new v worn in
      let numbers = (ranges open_).reads.numbers in (
        same_told at.lane new [] goes good (known good began before at along) refl at.store at.store refl,
        record {
          numbered = numbers.numbered;
          few = omega (arith, numbers.count, few);
          are = slice_is good at.lane (known good began before at along) at.store from to (messages v) above ordered last (slices open_);
        },
      )

-- why messages weren't read
module _ {V : Type 0} (messages : V → List Message) (old new : Standing) (from to : ℕ) where
  abbrev Worns : DeltaFault → Type 0
  Worns fault = is_worn old ≡ true → (◌≡◌ {A = Result V DeltaFault} (Err fault) (Err Worn)) × (new ≡ old)

  abbrev Ranging : DeltaFault → Type 0
  Ranging fault = is_worn old ≡ false → Ranges messages from to old new (Err fault)

  abbrev Slicing : DeltaFault → Type 0
  Slicing fault = is_worn old ≡ false → (l : List Step) → LaneStands old l → Tells old.keeping.content (λ _. IsSlice messages (slice (order (ledger l)) from to) (Err fault))

  open_for : (fault : DeltaFault) → Worns fault → (fault ≡ Worn → ⊥) → is_worn old ≡ false
  open_for fault worn other = by (is_worn old) refl
    where
      by : (b : Bool) → is_worn old ≡ b → b ≡ false
      by true is = absurd (other (same_fault {A = V} fault Worn (worn is).0))
      by false is = refl

  worn_now : Worns Worn → Ranging Worn → is_worn new ≡ true
  worn_now worn ranges = by (is_worn old) refl
    where
      by : (b : Bool) → is_worn old ≡ b → is_worn new ≡ true
      by true is = subst (λ s. is_worn s ≡ true) (sym (worn is).1) is
      by false is = absurd ((ranges is).reads.cause)

  unread_cause : (fault : DeltaFault) → Goes old new (delta_steps fault) → Worns fault → Ranging fault → Slicing fault → (store : Storing) → IfSome (kept_of_deltas fault) (HasCause old new store store)
  unread_cause (DeltaFailed note) goes worn ranges slices store = (ranges (open_for (DeltaFailed note) worn (λ same. cc))).reads.cause
  unread_cause (BadDelta number) goes worn ranges slices store =
      let open_ = open_for (BadDelta number) worn (λ same. cc) in
      let here = ranges open_ in
      record {
        before = old;
        added = [];
        goes = goes;
        first = from;
        end = to;
        within = here.reads.bad;
        bad = here.answer;
        never = slices open_;
      }
  unread_cause Worn goes worn ranges slices store = worn_now worn ranges
  unread_cause NoMemory goes worn ranges slices store = tt

  unread_honest : (fault : DeltaFault) → Worns fault → Slicing fault → IsKnown old → IfSome (kept_of_deltas fault) IsHonest
  unread_honest (DeltaFailed note) worn slices known = tt
  unread_honest (BadDelta number) worn slices known =
      told_at (λ _. ⊥) old.keeping.content known.content known.told (slices (open_for (BadDelta number) worn (λ same. cc)) known.list known.stands)
  unread_honest Worn worn slices known = tt
  unread_honest NoMemory worn slices known = tt

-- of side steps
kept_asides : (fault : DeltaFault) → HasAsides (kept_of_deltas fault) (delta_steps fault)
kept_asides (DeltaFailed note) = omega arith
kept_asides (BadDelta number) = omega arith
kept_asides Worn = omega arith
kept_asides NoMemory = refl

module _ {V : Type 0} (messages : V → List Message) (good : Bool) (began : Standing) (before : Storing) (at : Along) (along : IsAlong good began before at) (none : at.stop ≡ None) (new : Standing) (from to : ℕ)
    (fault : DeltaFault) (goes : Goes at.lane new (delta_steps fault)) (worn : Worns messages at.lane new from to fault) (ranges : Ranging messages at.lane new from to fault) (slices : Slicing messages at.lane new from to fault) where
  owes_same : new.owed ≡ at.lane.owed
  owes_same = by (is_worn at.lane) refl
    where
      by : (b : Bool) → is_worn at.lane ≡ b → new.owed ≡ at.lane.owed
      by true is = ap (λ (s : Standing). s.owed) (worn is).1
      by false is = (ranges is).same.1.1

  pub unread_along : IsAlong good began before (record { lane = new; store = at.store; stop = kept_of_deltas fault })
  unread_along =
      went_lane good began before at along none new (delta_steps fault) (kept_of_deltas fault) goes (none_stored fault) (kept_asides fault) (λ still is. owes_same ∙ along.level none is)
      (λ is. unread_honest messages at.lane new from to fault worn slices (known good began before at along is))
      (unread_cause messages at.lane new from to fault goes worn ranges slices at.store)

  pub unread_told : told_by good new at.store ≡ told_by good at.lane at.store
  unread_told = same_told at.lane new (delta_steps fault) goes good (known good began before at along) (none_entered fault) at.store at.store refl

-- messages are no tree
pub no_tree : (fault : DeltaFault) → IsNoRefusal (kept_of_deltas fault)
no_tree (DeltaFailed note) = refl
no_tree (BadDelta number) = refl
no_tree Worn = refl
no_tree NoMemory = refl

-- the same is told, whatever the fault
pub read_by : (from : ℕ) (old new : Option Document) (fault : DeltaFault) → new ≡ old → ReadsBy from old new (Err (link_deltas fault))
read_by from old new (DeltaFailed note) is = is
read_by from old new (BadDelta number) is = is
read_by from old new Worn is = is
read_by from old new NoMemory is = is
