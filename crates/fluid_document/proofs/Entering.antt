-- What entering one entry does, part by part: room, the record, what is in memory.
use Rattle.std.proofs.Common.{◌≡◌, ◌⊎◌, ℕ, ◌≤◌, List, ◌++◌, length, take, Option, Some, Result, Ok, Err, IfErr, inl, inr, refl, sym, ap, subst, ◌∙◌, append-nil, arith}
use Rattle.std.specs.Option.{option_map, option_or}
use Rattle.std.proofs.lemmas.List.{take_all}
use Rattle.std.proofs.lemmas.Result.{IfErr-weaker}
use Rattle.fluid_io.specs.Causes.{Tells}
use Rattle.fluid_types.specs.Printed.{raw_printed}
use Rattle.fluid_types.specs.declared.entries.Raw.{Raw}
use Rattle.fluid_types.specs.declared.messages.Message.{Message}
use Rattle.fluid_types.specs.declared.verdicts.Verdict.{Verdict}
use Rattle.fluid_types.specs.declared.verdicts.Verdict.TheVariants.{Sequenced}
use Rattle.fluid_log.specs.Keeping.{Content, Keeping}
use Rattle.fluid_log.specs.Calls.{KeepsSame, add_record, with_record}
use Rattle.fluid_log.proofs.Sameness.{same_twice}
use Rattle.fluid_document.specs.declared.fault.FlushFault.{FlushFault}
use Rattle.fluid_deltas.specs.Pushed.{Pushed, pushed, StandIn, StandFor}
use Rattle.fluid_deltas.specs.Flushes.{with_deltas}
use Rattle.fluid_document.specs.Puts.{PutsUpTo, PutsEarly, PutsFew}
use Rattle.fluid_deltas.proofs.Standing.{same_stand}
use Rattle.fluid_deltas.proofs.Telling.{tells_from, tells_along, tells_becomes}
use Rattle.fluid_core.specs.Entering.{verdict_in}
use Rattle.fluid_document.specs.Entries.{Entries, InMemory, taken_up, copied, left_over}
use Rattle.fluid_document.specs.Loading.{PutsDeltas}
use Rattle.fluid_document.specs.Rooms.{for_room, roomed}
use Rattle.fluid_document.proofs.Keeps.{where_told}
use Rattle.fluid_document.specs.Entry.{IsEnterFault, PutsSome, added, RoomFails, AppendFails, Appends, FinishDoes, LeavesOut, EnterDoes, EntersBy}
use Rattle.fluid_document.specs.declared.fault.EnterFault.{EnterFault}
use Rattle.fluid_document.specs.declared.fault.EnterFault.TheVariants.{LogFailed, DeltaFailed, NoMemory}

-- ---- messages that were put

deltas_put : (ms : List Message) (result : Result (Unit {0}) FlushFault) (old new : Keeping) → PutsUpTo ms old new result → PutsDeltas old new
deltas_put ms (Ok done) old new puts = record { messages = ms; kept = puts.kept }
deltas_put ms (Err fault) old new puts = record { messages = take puts.count ms; kept = puts.puts.kept }

-- what room leaves in memory stands for the whole order still
pub room_stands : (ms : List Message) (result : Result (Unit {0}) FlushFault) (old new : Keeping) (before now : Pushed) → PutsUpTo ms old new result → pushed now ≡ pushed before
    → ((order : List Message) → Tells old.content (StandIn before order) → Tells new.content (StandIn now order))
    → (order : List Message) → Tells old.content (StandFor before order) → Tells new.content (StandFor now order)
room_stands ms result old new before now puts count each order stands =
    where_told old new (length order ≡ pushed before) (StandFor now order) (deltas_put ms result old new puts) (tells_from old.content (StandFor before order) _ (λ c s. s.whole) stands)
    (λ whole. tells_from new.content (StandIn now order) (StandFor now order) (λ c s. record { stand = s; whole = whole ∙ sym count }) (each order (tells_from old.content (StandFor before order) (StandIn before order) (λ c s. s.stand) stands)))

pub whole_some : (ms : List Message) (old new : Keeping) → KeepsSame (with_deltas ms old) new → PutsSome ms old new
whole_some ms old new kept = record { count = length ms; kept = subst (λ xs. KeepsSame (with_deltas xs old) new) (sym (take_all (length ms) ms (omega arith))) kept }

-- ---- the verdict

-- what is copied of it and what is left of it are all of it
pub all_of : (copy left : Option Verdict) (v : Verdict) → copy ≡ copied v → left ≡ left_over v → option_or copy left ≡ Some v
all_of copy left (Sequenced m) one other = rw one refl
all_of copy left v one other = rw (one, other) refl

pub given_back : (copy left : Option Verdict) (v given : Verdict) → copy ≡ copied v → left ≡ left_over v → option_or copy left ≡ Some given → given ≡ v
given_back copy left v given one other is = let all = all_of copy left v one other in cc

-- ---- a record

-- behind one keeper that keeps the same, or the same and a record more
abbrev Left : List ℕ → Keeping → Keeping → Type 0
Left bytes old new = KeepsSame old new ⊎ KeepsSame (with_record bytes old) new

recorded : (bytes : List ℕ) (one old new : Keeping) → KeepsSame one old → KeepsSame (with_record bytes old) new → KeepsSame (with_record bytes one) new
recorded bytes one old new first second = record {
  content = second.content ∙ ap (option_map (add_record bytes)) first.content;
  records = omega (arith, second.records, first.records);
  deltas = second.deltas ∙ first.deltas;
  checkpoints = second.checkpoints ∙ first.checkpoints;
}

left_then : (bytes : List ℕ) (one old new : Keeping) → KeepsSame one old → Left bytes old new → Left bytes one new
left_then bytes one old new first (inl same) = inl (same_twice one old new first same)
left_then bytes one old new first (inr more) = inr (recorded bytes one old new first more)

left_deltas : (bytes : List ℕ) (old new : Keeping) → Left bytes old new → new.deltas ≡ old.deltas
left_deltas bytes old new (inl kept) = kept.deltas
left_deltas bytes old new (inr kept) = kept.deltas

left_stands : (d : Pushed) (order : List Message) (bytes : List ℕ) (old new : Keeping) → Left bytes old new → Tells old.content (StandFor d order) → Tells new.content (StandFor d order)
left_stands d order bytes old new (inl kept) stands = tells_along _ _ (StandFor d order) (sym kept.content) stands
left_stands d order bytes old new (inr kept) stands =
    tells_along _ _ (StandFor d order) (sym kept.content)
    (tells_becomes old.content (add_record bytes) (StandFor d order) (StandFor d order) (λ c stand. same_stand d d order c (add_record bytes c) refl refl refl stand) stands)

-- whatever an append answers
appended : {A : Type 0} (text : List ℕ) (old new : Keeping) (result : Result A EnterFault) → Appends text old new result → Left text old new
appended text old new (Ok a) is = inr is.kept
appended text old new (Err (LogFailed note)) is = is.left
appended text old new (Err (DeltaFailed note)) is = absurd is
appended text old new (Err NoMemory) is = inl is

-- ---- the entry

-- what is known once room was made and the entry prepared
pub record IsPrepared (old mid : Keeping) (before middle : InMemory) : Type 0 where
  pub later : old.faults ≤ mid.faults
  pub reads : mid.reads ≡ old.reads
  pub entries : middle.entries ≡ before.entries
  pub room : KeepsSame (roomed before.messages old) mid
  pub reached : middle.messages.before ≤ mid.deltas
  pub stands : (order : List Message) → Tells old.content (StandFor before.messages order) → Tells mid.content (StandFor middle.messages order)
  pub early : PutsEarly before.messages.before middle.messages.before old mid
  pub lacked : PutsFew before.entries.entered old mid

cause_later : (old mid new : ℕ) (fault : EnterFault) → old ≤ mid → IsEnterFault mid new fault → IsEnterFault old new fault
cause_later old mid new (LogFailed note) le is = record { first = omega (arith, le, is.first); last = is.last; rose = is.rose }
cause_later old mid new (DeltaFailed note) le is = record { first = omega (arith, le, is.first); last = is.last; rose = is.rose }
cause_later old mid new NoMemory le is = tt

-- what is in memory goes on with the entry, or stays
goes_on : {A : Type 0} (raw : Raw) (before now : InMemory) (result : Result A EnterFault) → FinishDoes raw before now result → (order : List Message) (c : Content)
    → StandFor before.messages order c → StandFor now.messages (order ++ added result (verdict_in before.entries.state raw)) c
goes_on raw before now (Ok a) does order c stand = does.messages.stands order c stand
goes_on raw before now (Err fault) does order c stand = rw (does, append-nil order) stand

goes_behind : {A : Type 0} (raw : Raw) (before now : InMemory) (result : Result A EnterFault) → FinishDoes raw before now result → now.messages.before ≡ before.messages.before
goes_behind raw before now (Ok a) does = does.messages.before
goes_behind raw before now (Err fault) does = ap (λ m. m.messages.before) does

enters : {A : Type 0} (raw : Raw) (old mid new : Keeping) (before middle now : InMemory) (result : Result A EnterFault) → IsPrepared old mid before middle → Appends (raw_printed raw) mid new result
    → FinishDoes raw middle now result → EnterDoes raw old new before now result
enters raw old mid new before middle now (Ok a) ready appends does = record {
  entries = does.entries ∙ ap (λ e. taken_up e raw) ready.entries;
  text = appends.is_text;
  kept = recorded (raw_printed raw) (roomed before.messages old) mid new ready.room appends.kept;
  early = (omega (arith, ready.early.0, does.messages.before), omega (arith, ready.early.1, does.messages.before, appends.kept.deltas));
}
enters raw old mid new before middle now (Err fault) ready appends does = (ap (λ m. m.entries) does ∙ ready.entries, out fault appends)
  where
    out : (f : EnterFault) → AppendFails (raw_printed raw) mid new f → LeavesOut raw old new before f
    out (LogFailed note) torn = record { is_text = torn.is_text; left = left_then (raw_printed raw) (roomed before.messages old) mid new ready.room torn.left }
    out (DeltaFailed note) none = absurd none
    out NoMemory kept = whole_some _ old new (same_twice (roomed before.messages old) mid new ready.room kept)

-- by the answer of the append, behind room that was made
pub enters_by : {A : Type 0} (raw : Raw) (text : List ℕ) (old mid new : Keeping) (before middle now : InMemory) (result : Result A EnterFault) → text ≡ raw_printed raw
    → IsPrepared old mid before middle → mid.faults ≤ new.faults → new.reads ≡ mid.reads → IfErr result (IsEnterFault mid.faults new.faults) → Appends text mid new result → FinishDoes raw middle now result
    → EntersBy raw old new before now result
enters_by raw text old mid new before middle now result is ready later reads cause appends does =
    let left = appended text mid new result appends in
    record {
      later = omega (arith, ready.later, later);
      reads = reads ∙ ready.reads;
      cause = IfErr-weaker result _ _ (λ fault. cause_later old.faults mid.faults new.faults fault ready.later) cause;
      does = enters raw old mid new before middle now result ready (rw is at appends) does;
      stands = λ order stands.
          subst (λ (e : Entries). Tells new.content (StandFor now.messages (order ++ added result (verdict_in e.state raw)))) ready.entries
          (left_stands now.messages _ text mid new left (tells_from mid.content _ _ (goes_on raw middle now result does order) (ready.stands order stands)));
      reached = omega (arith, goes_behind raw middle now result does, ready.reached, left_deltas text mid new left);
      lacked = omega (arith, ready.lacked, left_deltas text mid new left);
    }

-- there was no room, or memory was wanting before the append
pub enters_nowhere : {A : Type 0} (raw : Raw) (old new : Keeping) (before now : InMemory) (fault : EnterFault) → old.faults ≤ new.faults → new.reads ≡ old.reads → IsEnterFault old.faults new.faults fault
    → now.entries ≡ before.entries → RoomFails (for_room before.messages old.deltas) old new fault → now.messages.before ≤ new.deltas → PutsFew before.entries.entered old new
    → ((order : List Message) → Tells old.content (StandFor before.messages order) → Tells new.content (StandFor now.messages order)) → EntersBy {A = A} raw old new before now (Err fault)
enters_nowhere raw old new before now fault later reads cause same room reached lacked stands =
    record { later = later; reads = reads; cause = cause; does = (same, out fault room); stands = λ order stand. rw (append-nil order) (stands order stand); reached = reached; lacked = lacked }
  where
    out : (f : EnterFault) → RoomFails (for_room before.messages old.deltas) old new f → LeavesOut raw old new before f
    out (LogFailed note) room = absurd room
    out (DeltaFailed note) room = room
    out NoMemory room = room
