-- The tail of a document's order, as its list grows, and what is gathered out of it.
use Rattle.std.proofs.Common.{◌≡◌, ℕ, ◌+◌, ◌-◌, ◌<◌, ◌≤◌, true, false, Bool, List, [], ◌∷◌, ◌++◌, length, take, drop, min, is_some, inl, inr, Option, Some, Result, Ok, Err, refl, sym, ap, subst, ◌∙◌, length-append, length-drop, arith}
use Rattle.std.specs.Prelude.{⊤, IfOk, IfErr}
use Rattle.std.proofs.Math.Nat.{min-le_left, min-le_right}
use Rattle.std.proofs.Math.Seq.{take-add}
use Rattle.std.proofs.lemmas.List.{take-take, drop_at, drop-drop, drop-take, take-append-le, drop-append-le}
use Rattle.fluid_types.specs.Ledger.{order}
use Rattle.fluid_types.specs.Order.{AreNumberedFrom}
use Rattle.fluid_types.specs.declared.messages.Message.{Message}
use Rattle.fluid_types.proofs.Ledgers.{order-append}
use Rattle.fluid_types.proofs.Numbers.{numbered_same, numbered_take, numbered_drop, numbered_append}
use Rattle.fluid_types.specs.Forms.{largest}
use Rattle.fluid_deltas.specs.Pushed.{slice}
use Rattle.fluid_deltas.specs.Ranges.{IsSlice, IsFaultOf, IsBadIn, AreNumbersOf}
use Rattle.fluid_deltas.specs.declared.fault.DeltaFault.{DeltaFault}
use Rattle.fluid_deltas.specs.declared.fault.DeltaFault.TheVariants.{DeltaFailed, NoMemory, BadDelta, Worn}
use Rattle.fluid_codec.specs.declared.replies.Reply.{Reply}
use Rattle.fluid_codec.specs.declared.replies.Reply.TheVariants.{Ops}
use Rattle.fluid_feed.specs.Tails.{ATail, stretch, with_more, too_many, IsTrimmed}
use Rattle.fluid_lane.specs.declared.steps.Step.{Step}
use Rattle.fluid_types.specs.declared.entries.Raw.{Raw}
use Rattle.fluid_types.specs.declared.verdicts.Verdict.{Verdict}
use Rattle.fluid_types.specs.declared.verdicts.Verdict.TheVariants.{Sequenced, Nacked, Dropped, Absorbed}
use Rattle.fluid_lane.specs.declared.fault.LaneFault.{LaneFault}
use Rattle.fluid_lane.specs.declared.steps.Step.TheVariants.{Entered}
use Rattle.fluid_lane.specs.Steps.{ledger, steps_of, fault_steps, entered_by}
use Rattle.fluid_lane.proofs.Listed.{ledger-append}
use Rattle.fluid_lane.specs.Standing.{Standing, LaneStands, is_worn}
use Rattle.fluid_lane.specs.Ranges.{Ranges}
use Rattle.fluid_lane.specs.Laws.{LaneSays, SaysOf}
use Rattle.fluid_io.specs.Causes.{Tells}
use Rattle.fluid_doors.specs.declared.bench.Terms.{Terms}
use Rattle.fluid_doors.specs.Terms.{terms_of}
use Rattle.fluid_doors.specs.Passing.{Continues}
use Rattle.fluid_doors.specs.Answers.{is_worn_behind}
use Rattle.fluid_doors.specs.Collecting.{gathered, IsReadCause, IsReadFault, IsWornDelta, IsFaultIn, Collects}
use Rattle.fluid_doors.specs.Tailed.{IsIn, IsTailOf, BenchStands, Begins, KeepsUp, KeepsUpBy}
use Rattle.fluid_doors.proofs.Answering.{told_is}
use Rattle.fluid_doors.proofs.Reading.{seq_is, fault_worn, sliced_right, sliced_faults, fault_in}

-- ---- stretches of an order

slice-none : (o : List Message) (n : ℕ) → [] ≡ slice o n (n + 0)
slice-none o n = let none : n + 0 - n ≡ 0 = omega arith in sym (ap (λ k. take k (drop (n - 1) o)) none)

slice-grows : (o more : List Message) (from to : ℕ) → 0 < from → from ≤ to → to ≤ length o + 1 → slice o from to ≡ slice (o ++ more) from to
slice-grows o more from to first ordered last =
    let reached : from - 1 ≤ length o = omega arith in
    let long : length (drop (from - 1) o) ≡ length o - (from - 1) = length-drop (from - 1) o in
    let short : to - from ≤ length (drop (from - 1) o) = omega arith in
    sym (ap (λ l. take (to - from) l) (drop-append-le (from - 1) o more reached) ∙ take-append-le (to - from) (drop (from - 1) o) more short)

slice-joins : (o : List Message) (a b c : ℕ) → 0 < a → a ≤ b → b ≤ c → slice o a b ++ slice o b c ≡ slice o a c
slice-joins o a b c first ab bc =
    let where_b : (a - 1) + (b - a) ≡ b - 1 = omega arith in
    let whole : (b - a) + (c - b) ≡ c - a = omega arith in
    ap (λ l. take (b - a) (drop (a - 1) o) ++ take (c - b) l) (ap (λ n. drop n o) (sym where_b) ∙ sym (drop-drop (b - a) (a - 1) o))
    ∙ sym (take-add (b - a) (c - b) (drop (a - 1) o)) ∙ ap (λ n. take n (drop (a - 1) o)) whole

-- a part of a stretch
slice-drop : (o : List Message) (a n k : ℕ) → 0 < a → k ≤ n → drop k (slice o a (a + n)) ≡ slice o (a + k) (a + n)
slice-drop o a n k first few =
    let count : a + n - a ≡ k + (n - k) = omega arith in
    let rest : n - k ≡ a + n - (a + k) = omega arith in
    let place : (a - 1) + k ≡ a + k - 1 = omega arith in
    ap (λ m. drop k (take m (drop (a - 1) o))) count ∙ drop-take k (n - k) (drop (a - 1) o)
    ∙ ap (λ m. take m (drop k (drop (a - 1) o))) rest ∙ ap (λ l. take (a + n - (a + k)) l) (drop-drop k (a - 1) o ∙ ap (λ m. drop m o) place)

slice-take : (o : List Message) (a b c : ℕ) → b ≤ c → take (b - a) (slice o a c) ≡ slice o a b
slice-take o a b c few = let low : b - a ≤ c - a = omega arith in take-take (b - a) (c - a) (drop (a - 1) o) low

-- ---- what a tail is of

stretch-is : (t : ATail) (o : List Message) (from to : ℕ) → 0 < t.from → t.from ≤ from → from ≤ to → to ≤ t.from + length t.messages → IsIn t o → stretch t from to ≡ slice o from to
stretch-is t o from to first low ordered last inside =
    let few : from - t.from ≤ length t.messages = omega arith in
    let at : t.from + (from - t.from) ≡ from = omega arith in
    ap (λ l. take (to - from) (drop (from - t.from) l)) inside.is ∙ ap (λ l. take (to - from) l) (slice-drop o t.from (length t.messages) (from - t.from) first few)
    ∙ ap (λ n. take (to - from) (slice o n (t.from + length t.messages))) at ∙ slice-take o from to (t.from + length t.messages) last

order-more : (l added : List Step) → order (ledger (l ++ added)) ≡ order (ledger l) ++ order (ledger added)
order-more l added = ap order (ledger-append l added) ∙ order-append (ledger l) (ledger added)

in-grows : (t : ATail) (o more : List Message) → 0 < t.from → IsIn t o → IsIn t (o ++ more)
in-grows t o more first inside = record {
  is = inside.is ∙ slice-grows o more t.from (t.from + length t.messages) first (omega arith) inside.within;
  within = let long = length-append o more in let was = inside.within in omega arith;
}

pub tail_grows : (told : Bool) (t : ATail) (l added : List Step) → IsTailOf told t l → IsTailOf told t (l ++ added)
tail_grows told t l added was = record {
  first = was.first;
  numbered = was.numbered;
  few = was.few;
  told = λ is. subst (IsIn t) (sym (order-more l added)) (in-grows t (order (ledger l)) (order (ledger added)) was.first (was.told is));
}

-- ---- the bench

-- behind a call that goes on
pub stands_anew : (old new : Standing) (u : ATail) (added l : List Step) → Continues old new added → LaneStands old l → IsTailOf (terms_of old).told u l → length u.messages < too_many → BenchStands new u (l ++ added)
stands_anew old new u added l goes lane tail short = record {
  short = short;
  lane = goes.list l lane;
  tail = subst (λ (t : Terms). IsTailOf t.told u (l ++ added)) (sym goes.terms) (tail_grows (terms_of old).told u l added tail);
}

-- behind a call that kept the tail up with its step
pub stands_kept : (old new : Standing) (u : ATail) (added l : List Step) → Continues old new added → LaneStands old l → IsTailOf (terms_of old).told u (l ++ added) → length u.messages < too_many → BenchStands new u (l ++ added)
stands_kept old new u added l goes lane tail short = record {
  short = short;
  lane = goes.list l lane;
  tail = subst (λ (t : Terms). IsTailOf t.told u (l ++ added)) (sym goes.terms) tail;
}

pub stands_on : (old new : Standing) (t u : ATail) (added l : List Step) → u ≡ t → Continues old new added → BenchStands old t l → BenchStands new u (l ++ added)
stands_on old new t u added l same goes stands =
    subst (λ v. BenchStands new v (l ++ added)) (sym same) (stands_anew old new t added l goes stands.lane stands.tail stands.short)

-- ---- tails that begin

-- one without messages
pub empty_tail : (told : Bool) (from : ℕ) (l : List Step) → 0 < from → from ≤ largest + 1 → (told ≡ true → from ≤ length (order (ledger l)) + 1) → IsTailOf told (record { from = from; messages = [] }) l
empty_tail told from l first few within = record {
  first = first;
  numbered = tt;
  few = omega (arith, few);
  told = λ is. record { is = slice-none (order (ledger l)) from; within = let w = within is in omega (arith, w) };
}

pub first_tail : (told : Bool) (l : List Step) → IsTailOf told (record { from = 1; messages = [] }) l
first_tail told l = empty_tail told 1 l (omega arith) (omega arith) (λ is. omega arith)

-- that of a lane with which a document begins
pub opens : (s : Standing) (t : ATail) (l : List Step) → t ≡ record { from = 1; messages = [] } → LaneStands s l → BenchStands s t l
opens s t l is lane = subst (λ u. BenchStands s u l) (sym is) (record { lane = lane; tail = first_tail (terms_of s).told l; short = omega arith })

-- the order of a lane reaches so far
pub reaches_to : (s : Standing) (l : List Step) (n : ℕ) → LaneSays → LaneStands s l → n ≤ s.entries.state.sequencer.sequence + 1 → (terms_of s).told ≡ true → n ≤ length (order (ledger l)) + 1
reaches_to s l n law stands few is =
    let says = told_is s.keeping.content (SaysOf s (ledger l)) is (law s l stands) in
    let same = says.seq ∙ seq_is (ledger l) in omega (arith, few, same)

pub begun : (s : Standing) (old new : ATail) (from : ℕ) (l : List Step) → LaneSays → LaneStands s l → s.entries.state.sequencer.sequence ≤ largest → 0 < from → from ≤ s.entries.state.sequencer.sequence + 1 → Begins old new from → IsTailOf (terms_of s).told old l
    → IsTailOf (terms_of s).told new l
begun s old new from l law stands bound first few (inl (same, reached)) was = subst (λ t. IsTailOf (terms_of s).told t l) (sym same) was
begun s old new from l law stands bound first few (inr anew) was =
    subst (λ t. IsTailOf (terms_of s).told t l) (sym anew) (empty_tail (terms_of s).told from l first (omega (arith, few, bound)) (reaches_to s l from law stands few))

pub begun_high : (old new : ATail) (from : ℕ) → Begins old new from → from ≤ new.from + length new.messages
begun_high old new from (inl (same, reached)) = subst (λ (t : ATail). from ≤ t.from + length t.messages) (sym same) reached
begun_high old new from (inr anew) = subst (λ (t : ATail). from ≤ t.from + length t.messages) (sym anew) (omega arith)

-- ---- tails that lose or get messages

pub trimmed : (told : Bool) (old new : ATail) (l : List Step) → IsTrimmed old new → IsTailOf told old l → IsTailOf told new l
trimmed told old new l trims was =
    let long : length new.messages ≡ length old.messages - trims.count = ap length trims.messages ∙ length-drop trims.count old.messages in
    let n = trims.from in let k = trims.few in let f = was.few in let a = was.first in
    let end : new.from + length new.messages ≡ old.from + length old.messages = omega (arith, long, n, k) in record {
      first = omega (arith, n, a);
      numbered = subst (AreNumberedFrom new.from) (sym trims.messages) (numbered_same (drop trims.count old.messages) (old.from + trims.count) new.from (sym n) (numbered_drop old.messages old.from trims.count was.numbered));
      few = omega (arith, end, f);
      told = λ is. let i = was.told is in record {
        is = trims.messages ∙ ap (drop trims.count) i.is ∙ slice-drop (order (ledger l)) old.from (length old.messages) trims.count a k
            ∙ ap (λ n. slice (order (ledger l)) n (old.from + length old.messages)) (sym n) ∙ ap (λ n. slice (order (ledger l)) new.from n) (sym end);
        within = let w = i.within in omega (arith, end, w);
      };
    }

-- the messages behind it were put
pub extended : (told : Bool) (old new : ATail) (to : ℕ) (ms : List Message) (l : List Step) → new ≡ with_more ms old → to ≤ largest + 1 → AreNumbersOf (old.from + length old.messages) to ms
    → (told ≡ true → (ms ≡ slice (order (ledger l)) (old.from + length old.messages) to) × (to ≤ length (order (ledger l)) + 1)) → IsTailOf told old l → IsTailOf told new l
extended told old new to ms l is bound numbers sliced was = subst (λ t. IsTailOf told t l) (sym is) (record {
  first = was.first;
  numbered = numbered_append old.messages ms old.from was.numbered numbers.numbered;
  few = let n = both in let c = numbers.count in omega (arith, n, c, bound);
  told = λ holds. let i = was.told holds in let s = sliced holds in record {
    is = ap (λ m. m ++ ms) i.is ∙ ap (λ m. slice (order (ledger l)) old.from (old.from + length old.messages) ++ m) s.0
        ∙ slice-joins (order (ledger l)) old.from (old.from + length old.messages) to was.first (omega arith) ordered ∙ ap (λ n. slice (order (ledger l)) old.from n) (sym end);
    within = let w = s.1 in omega (arith, end, w);
  };
})
  where
    both : length (old.messages ++ ms) ≡ length old.messages + length ms
    both = length-append old.messages ms

    end : old.from + length (old.messages ++ ms) ≡ to
    end = let n = both in let c = numbers.count in omega (arith, n, c)

    ordered : old.from + length old.messages ≤ to
    ordered = let c = numbers.count in omega (arith, c)

-- ---- the message that was sequenced last

slice-last : (o : List Message) (m : Message) (n : ℕ) → n ≡ length o + 1 → m ∷ [] ≡ slice (o ++ m ∷ []) n (n + 1)
slice-last o m n is =
    let one : n + 1 - n ≡ 1 = omega arith in
    let place : length o ≡ n - 1 = omega (arith, is) in
    sym (ap (λ k. take k (drop (n - 1) (o ++ m ∷ []))) one ∙ ap (take 1) (drop_at o (m ∷ []) (n - 1) place))

order-one : (raw : Raw) (m : Message) → order (ledger (Entered raw (Sequenced m) ∷ [])) ≡ m ∷ []
unfolding order
order-one raw m = refl

kept_up : (old new : Standing) (last : ℕ) (t u : ATail) (raw : Raw) (m : Message) (l : List Step) → LaneSays → Continues old new (Entered raw (Sequenced m) ∷ []) → last ≡ new.entries.state.sequencer.sequence → last ≤ largest → KeepsUp last m t u
    → BenchStands old t l → IsTailOf (terms_of old).told u (l ++ Entered raw (Sequenced m) ∷ [])
kept_up old new last t u raw m l law goes is bound (inl same) stands =
    subst (λ v. IsTailOf (terms_of old).told v (l ++ Entered raw (Sequenced m) ∷ [])) (sym same) (tail_grows (terms_of old).told t l (Entered raw (Sequenced m) ∷ []) stands.tail)
kept_up old new last t u raw m l law goes is bound (inr put) stands =
    trimmed (terms_of old).told (with_more (m ∷ []) t) u behind put.1.1
    (extended (terms_of old).told t (with_more (m ∷ []) t) (m.number + 1) (m ∷ []) behind refl (let n = put.1.0 in omega (arith, n, bound)) numbers sliced (tail_grows (terms_of old).told t l (Entered raw (Sequenced m) ∷ []) stands.tail))
  where
    behind : List Step
    behind = l ++ Entered raw (Sequenced m) ∷ []

    numbers : AreNumbersOf (t.from + length t.messages) (m.number + 1) (m ∷ [])
    numbers = record { numbered = (sym put.0, tt); count = ap (λ n. n + 1) put.0 }

    grown : order (ledger behind) ≡ order (ledger l) ++ m ∷ []
    grown = order-more l (Entered raw (Sequenced m) ∷ []) ∙ ap (λ o. order (ledger l) ++ o) (order-one raw m)

    sliced : (terms_of old).told ≡ true → (m ∷ [] ≡ slice (order (ledger behind)) (t.from + length t.messages) (m.number + 1)) × (m.number + 1 ≤ length (order (ledger behind)) + 1)
    sliced told =
        let says = told_is new.keeping.content (SaysOf new (ledger behind)) (ap (λ (d : Terms). d.told) goes.terms ∙ told) (law new behind (goes.list l stands.lane)) in
        let reached : m.number ≡ length (order (ledger behind)) = put.1.0 ∙ is ∙ says.seq ∙ seq_is (ledger behind) in
        let long : length (order (ledger behind)) ≡ length (order (ledger l)) + 1 = ap length grown ∙ length-append (order (ledger l)) (m ∷ []) in
        let at : m.number ≡ length (order (ledger l)) + 1 = reached ∙ long in (
          slice-last (order (ledger l)) m m.number at ∙ ap (λ o. slice o m.number (m.number + 1)) (sym grown) ∙ ap (λ n. slice (order (ledger behind)) n (m.number + 1)) (sym put.0),
          omega (arith, reached),
        )

same_short : (old new : ATail) → new ≡ old → length old.messages < too_many → length new.messages < too_many
same_short old new same short = subst (λ (t : ATail). length t.messages < too_many) (sym same) short

kept_short : (last : ℕ) (m : Message) (old new : ATail) → KeepsUp last m old new → length old.messages < too_many → length new.messages < too_many
kept_short last m old new (inl same) short = same_short old new same short
kept_short last m old new (inr put) short = put.1.1.short

pub kept_short_by : (last : ℕ) (result : Result Verdict LaneFault) (old new : ATail) → KeepsUpBy last result old new → length old.messages < too_many → length new.messages < too_many
kept_short_by last (Ok (Sequenced m)) old new keeps short = kept_short last m old new keeps short
kept_short_by last (Ok (Nacked nack)) old new same short = same_short old new same short
kept_short_by last (Ok Dropped) old new same short = same_short old new same short
kept_short_by last (Ok Absorbed) old new same short = same_short old new same short
kept_short_by last (Err fault) old new same short = same_short old new same short

pub kept_up_by : (old new : Standing) (last : ℕ) (t u : ATail) (raw : Raw) (result : Result Verdict LaneFault) (l : List Step) → LaneSays → Continues old new (steps_of (entered_by raw) result) → last ≡ new.entries.state.sequencer.sequence → last ≤ largest
    → KeepsUpBy last result t u → BenchStands old t l → IsTailOf (terms_of old).told u (l ++ steps_of (entered_by raw) result)
kept_up_by old new last t u raw (Ok (Sequenced m)) l law goes is bound keeps stands = kept_up old new last t u raw m l law goes is bound keeps stands
kept_up_by old new last t u raw (Ok (Nacked nack)) l law goes is bound same stands = subst (λ v. IsTailOf (terms_of old).told v (l ++ entered_by raw (Nacked nack))) (sym same) (tail_grows (terms_of old).told t l (entered_by raw (Nacked nack)) stands.tail)
kept_up_by old new last t u raw (Ok Dropped) l law goes is bound same stands = subst (λ v. IsTailOf (terms_of old).told v (l ++ entered_by raw Dropped)) (sym same) (tail_grows (terms_of old).told t l (entered_by raw Dropped) stands.tail)
kept_up_by old new last t u raw (Ok Absorbed) l law goes is bound same stands = subst (λ v. IsTailOf (terms_of old).told v (l ++ entered_by raw Absorbed)) (sym same) (tail_grows (terms_of old).told t l (entered_by raw Absorbed) stands.tail)
kept_up_by old new last t u raw (Err fault) l law goes is bound same stands = subst (λ v. IsTailOf (terms_of old).told v (l ++ fault_steps fault)) (sym same) (tail_grows (terms_of old).told t l (fault_steps fault) stands.tail)

-- ---- what is gathered

-- an event with the messages of a tail
pub collects_event : (s : Standing) (t : ATail) (name : List ℕ) (event : Reply) (l : List Step) (next to atmost : ℕ) → LaneSays → LaneStands s l → IsTailOf (terms_of s).told t l → s.entries.state.sequencer.sequence ≤ largest
    → t.from ≤ next → next ≤ to → to ≤ t.from + length t.messages → to ≡ next + min atmost (s.entries.state.sequencer.sequence + 1 - next) → next + length (stretch t next to) ≡ to
    → event ≡ Ops name (stretch t next to) → Collects gathered (terms_of s) next atmost (Ok (Some event)) l
collects_event s t name event l next to atmost law stands tail bound first ordered last is count event_is =
    subst (λ e. Collects gathered (terms_of s) next atmost (Ok (Some e)) l) (sym event_is) (record {
      worn = tt;
      given = record {
        numbered = numbered_take (drop (next - t.from) t.messages) next (to - next)
            (numbered_same (drop (next - t.from) t.messages) (t.from + (next - t.from)) next (omega (arith, first)) (numbered_drop t.messages t.from (next - t.from) tail.numbered));
        few = let low = min-le_left atmost (s.entries.state.sequencer.sequence + 1 - next) in omega (arith, is, count, low);
        last = λ some. let high = min-le_right atmost (s.entries.state.sequencer.sequence + 1 - next) in omega (arith, is, count, high, bound, some);
      };
      faults = tt;
      told = λ told.
          let says = told_is s.keeping.content (SaysOf s (ledger l)) told (law s l stands) in record {
            legal = says.legal;
            given = stretch-is t (order (ledger l)) next to tail.first first ordered last (tail.told told)
                ∙ ap (λ n. slice (order (ledger l)) next n) (is ∙ ap (λ n. next + min atmost (n + 1 - next)) (says.seq ∙ seq_is (ledger l)));
            faults = tt;
          };
    })

-- ---- what a lane is asked for

-- the fault of a range that begins no sooner and ends no later
fault_later : (next atmost from to : ℕ) (f : DeltaFault) → next ≤ from → to ≤ next + atmost → IsFaultIn from to f → IsFaultIn next (next + atmost) f
fault_later next atmost from to (DeltaFailed note) low high is = is
fault_later next atmost from to NoMemory low high is = tt
fault_later next atmost from to (BadDelta number) low high is = (omega (arith, low, is.0), omega (arith, high, is.1))
fault_later next atmost from to Worn low high is = tt

caused : (before now : ℕ) (f : DeltaFault) → IsFaultOf before now f → IsReadCause before now f
caused before now (DeltaFailed note) is = is
caused before now NoMemory is = tt
caused before now (BadDelta number) is = tt
caused before now Worn is = tt

module _ {V : Type 0} (messages : V → List Message) where
  abbrev fault_of : Result V DeltaFault → DeltaFault
  fault_of (Ok v) = NoMemory
  fault_of (Err fault) = fault

  abbrev IsGiven : Result V DeltaFault → Type 0
  IsGiven (Ok v) = ⊤
  IsGiven (Err fault) = ⊥

  -- a range of the lane failed
  pub collects_fault : (s t : Standing) (l : List Step) (next atmost from to : ℕ) (result : Result V DeltaFault) (fault : DeltaFault) → result ≡ Err fault → LaneSays → LaneStands s l → next ≤ from → to ≤ next + atmost
      → (is_worn s ≡ true → (result ≡ Err Worn) × (t ≡ s))
      → (is_worn s ≡ false → Ranges messages from to s t result)
      → (is_worn s ≡ false → (l : List Step) → LaneStands s l → Tells s.keeping.content (λ _. IsSlice messages (slice (order (ledger l)) from to) result))
      → Collects gathered (terms_of s) next atmost (Err fault) l
  collects_fault s t l next atmost from to result fault failed law stands low high worn ranges sliced = record {
    worn = subst (λ r. IfErr r (λ f. IsWornDelta f → is_worn_behind l ≡ true)) failed (fault_worn messages s t from to l result stands ranges);
    given = tt;
    faults = faults (is_worn s) refl;
    told = λ is. let says = told_is s.keeping.content (SaysOf s (ledger l)) is (law s l stands) in record { legal = says.legal; given = tt; faults = read is (is_worn s) refl };
  }
    where
      is_worn_fault : result ≡ Err Worn → fault ≡ Worn
      is_worn_fault same = ap fault_of (sym failed ∙ same)

      faults : (b : Bool) → is_worn s ≡ b → IsFaultIn next (next + atmost) fault
      faults true w = subst (IsFaultIn next (next + atmost)) (sym (is_worn_fault (worn w).0)) tt
      faults false w =
          let reads = (ranges w).reads in
          fault_later next atmost from to fault low high
          (fault_in from to s.messages.before s.keeping.faults t.keeping.faults fault (subst (λ r. IfErr r (IsBadIn from to s.messages.before)) failed reads.bad)
          (subst (λ r. IfErr r (IsFaultOf s.keeping.faults t.keeping.faults)) failed reads.cause))

      read : is_some s.keeping.content ≡ true → (b : Bool) → is_worn s ≡ b → IsReadFault fault
      read is true w = subst IsReadFault (sym (is_worn_fault (worn w).0)) tt
      read is false w = subst (λ r. IfErr r IsReadFault) failed (sliced_faults messages (slice (order (ledger l)) from to) result (told_is s.keeping.content _ is (sliced w l stands)))

  err_caused : (before now : ℕ) (result : Result V DeltaFault) → IfErr result (IsFaultOf before now) → IfErr result (IsReadCause before now)
  err_caused before now (Ok v) is = tt
  err_caused before now (Err fault) is = caused before now fault is

  -- a fault of the keeper is one of this call
  pub read_caused : (s t : Standing) (from to : ℕ) (result : Result V DeltaFault) → (is_worn s ≡ true → (result ≡ Err Worn) × (t ≡ s)) → (is_worn s ≡ false → Ranges messages from to s t result)
      → IfErr result (IsReadCause s.keeping.faults t.keeping.faults)
  read_caused s t from to result worn ranges = by (is_worn s) refl
    where
      by : (b : Bool) → is_worn s ≡ b → IfErr result (IsReadCause s.keeping.faults t.keeping.faults)
      by true w = subst (λ r. IfErr r (IsReadCause s.keeping.faults t.keeping.faults)) (sym (worn w).0) tt
      by false w = err_caused s.keeping.faults t.keeping.faults result (ranges w).reads.cause

  -- or gave what a tail lacks
  pub range_numbers : (s t : Standing) (from to : ℕ) (result : Result V DeltaFault) (v : V) → result ≡ Ok v → (is_worn s ≡ true → (result ≡ Err Worn) × (t ≡ s)) → (is_worn s ≡ false → Ranges messages from to s t result)
      → AreNumbersOf from to (messages v)
  range_numbers s t from to result v given worn ranges = by (is_worn s) refl
    where
      by : (b : Bool) → is_worn s ≡ b → AreNumbersOf from to (messages v)
      by true w = absurd (subst IsGiven (sym given ∙ (worn w).0) tt)
      by false w = subst (λ r. IfOk r (λ v. AreNumbersOf from to (messages v))) given (ranges w).reads.numbers

  pub range_slice : (s t : Standing) (from to : ℕ) (l : List Step) (result : Result V DeltaFault) (v : V) → result ≡ Ok v → LaneStands s l → (is_worn s ≡ true → (result ≡ Err Worn) × (t ≡ s))
      → (is_worn s ≡ false → (l : List Step) → LaneStands s l → Tells s.keeping.content (λ _. IsSlice messages (slice (order (ledger l)) from to) result))
      → (terms_of s).told ≡ true → messages v ≡ slice (order (ledger l)) from to
  range_slice s t from to l result v given stands worn sliced is = by (is_worn s) refl
    where
      by : (b : Bool) → is_worn s ≡ b → messages v ≡ slice (order (ledger l)) from to
      by true w = absurd (subst IsGiven (sym given ∙ (worn w).0) tt)
      by false w = subst (λ r. IfOk r (λ v. messages v ≡ slice (order (ledger l)) from to)) given
          (sliced_right messages (slice (order (ledger l)) from to) result (told_is s.keeping.content _ is (sliced w l stands)))

-- ---- by the bench

-- a tail that begins where the cursor's range begins
pub apart_tail : (s : Standing) (l : List Step) (next atmost len from to : ℕ) (t : ATail) → LaneSays → LaneStands s l → len ≤ largest → 0 < next → len ≡ s.entries.state.sequencer.sequence → from ≡ next → to ≡ next + min atmost (len + 1 - next) → from < to
    → t ≡ record { from = from; messages = [] } → IsTailOf (terms_of s).told t l
apart_tail s l next atmost len from to t law stands bound first is at ends some begins =
    let high = min-le_right atmost (len + 1 - next) in
    let low : from ≤ len + 1 = omega (arith, at, ends, high, some) in
    subst (λ u. IsTailOf (terms_of s).told u l) (sym begins)
    (empty_tail (terms_of s).told from l (omega (arith, at, first)) (omega (arith, low, bound)) (reaches_to s l from law stands (omega (arith, low, is))))

-- the numbers that the cursor's range has
pub collects_numbers : (s : Standing) (l : List Step) (next atmost len from to : ℕ) (result : Result (Option Reply) DeltaFault) → len ≡ s.entries.state.sequencer.sequence → from ≡ next → to ≡ next + min atmost (len + 1 - next)
    → ((n : ℕ) → to ≡ from + min n (s.entries.state.sequencer.sequence + 1 - from) → Collects gathered (terms_of s) from n result l) → Collects gathered (terms_of s) next atmost result l
collects_numbers s l next atmost len from to result is at ends says =
    subst (λ n. Collects gathered (terms_of s) n atmost result l) at
    (says atmost (subst (λ n. to ≡ n + min atmost (s.entries.state.sequencer.sequence + 1 - n)) (sym at) (ends ∙ ap (λ n. next + min atmost (n + 1 - next)) is)))
