-- What a lane's messages stand for behind a flush.
use Rattle.std.proofs.Common.{◌≡◌, ℕ, ◌-◌, ◌≤◌, false, List, length, map, is_some, Option, Result, Ok, sym, ap, subst, ◌∙◌, length-append, arith}
use Rattle.fluid_io.specs.Causes.{Tells}
use Rattle.fluid_types.specs.declared.messages.Message.{Message}
use Rattle.fluid_types.specs.Ledger.{Ledger, order}
use Rattle.fluid_types.specs.Printed.{message_printed}
use Rattle.fluid_log.specs.Keeping.{Content}
use Rattle.fluid_log.specs.Calls.{KeepsSame}
use Rattle.fluid_deltas.specs.Pushed.{Pushed, pushed, StandIn, StandFor}
use Rattle.fluid_deltas.specs.Ranges.{IsAnswer, IsHeldAnswer, AreHeld, Reads, held_between, range_of}
use Rattle.fluid_deltas.specs.declared.fault.DeltaFault.{DeltaFault}
use Rattle.fluid_deltas.specs.Flushes.{put_behind, with_deltas}
use Rattle.fluid_deltas.proofs.Telling.{tells_from, tells_both}
use Rattle.fluid_document.specs.Entries.{InMemory}
use Rattle.fluid_document.specs.Kept.{IsKept}
use Rattle.fluid_document.specs.Loading.{PutsDeltas}
use Rattle.fluid_document.specs.Taking.{ReadsKept}
use Rattle.fluid_lane.specs.declared.steps.Step.{Step}
use Rattle.fluid_lane.specs.Steps.{ledger}
use Rattle.fluid_lane.specs.Standing.{Standing, IsFor, LaneStands, Goes}
use Rattle.fluid_lane.specs.Ranges.{Ranges}
use Rattle.fluid_lane.proofs.Stands.{goes_from, told_too, told_map, told_changed, Ends, ends, goes_put, owes_still}

-- messages in memory and the keeper's deltas are the order
pub messages_stand : (s : Standing) (l : List Step) → LaneStands s l → Tells s.keeping.content (StandFor s.messages (order (ledger l)))
messages_stand s l stands = tells_from s.keeping.content _ _ (λ c told. told.stands.messages) stands.told

-- what stood for an order over the keeper stands for it behind a flush
still_flushed : (d : Pushed) (old new : Option Content) (o : List Message) → is_some new ≡ is_some old → (Tells old (StandIn d o) → Tells new (StandIn d o)) → Tells old (StandFor d o) → Tells new (StandFor d o)
still_flushed d old new o same each stands =
    tells_both new (StandIn d o) (λ _. length o ≡ pushed d) (StandFor d o) (λ c stand whole. record { stand = stand; whole = whole }) (each (tells_from old _ _ (λ c one. one.stand) stands))
    (told_too old new _ same (tells_from old _ _ (λ c one. one.whole) stands))

-- messages in memory were put, and nothing else happened
pub goes_flushed : (s t : Standing) (more : List Step) (ms : List Message) → Ends s t more → KeepsSame (with_deltas ms s.keeping) t.keeping → s.keeping.faults ≤ t.keeping.faults → t.entries ≡ s.entries → t.messages ≡ s.messages → t.owed ≡ s.owed → t.opened ≡ s.opened → t.limits ≡ s.limits
    → ((order : List Message) → Tells s.keeping.content (StandIn s.messages order) → Tells t.keeping.content (StandIn s.messages order)) → Goes s t more
goes_flushed s t more ms end kept faults entries messages owed opened limits each =
    goes_put s t more ms (λ c. c) end kept.content kept.checkpoints faults entries opened limits (owes_still s t more end owed)
    (λ o stands. rw messages (still_flushed s.messages s.keeping.content t.keeping.content o (ap is_some kept.content ∙ told_map (put_behind ms) s.keeping.content) (each o) stands)) (λ l c kept. rw owed kept)

-- ---- a keeper that was read

-- messages may have been put among the deltas to make room, and what the keeper was kept for it is kept for still
pub goes_read : (s r t : Standing) (more : List Step) → s ≡ r → Ends s t more → PutsDeltas s.keeping t.keeping → s.keeping.faults ≤ t.keeping.faults → r.owed ≡ false → t.owed ≡ s.owed → t.entries ≡ s.entries → t.messages ≡ s.messages → t.opened ≡ s.opened → t.limits ≡ s.limits
    → ((l : Ledger) → Tells s.keeping.content (IsKept false l) → Tells t.keeping.content (IsKept false l)) → Goes r t more
goes_read s r t more same end puts faults none owed entries messages opened limits kept =
    let level : s.owed ≡ false = ap (λ u. u.owed) same ∙ none in
    goes_from s r t more same (ends s t more end (ap is_some puts.kept.content ∙ told_map (put_behind puts.messages) s.keeping.content) puts.kept.checkpoints faults (ap (λ e. e.entered) entries) opened limits (owes_still s t more end owed)
    (λ l is. rw (entries, messages, owed)
    (told_changed s.keeping.content t.keeping.content (put_behind puts.messages) (IsFor s.owed s.entries s.messages l) (IsKept false l) (IsFor s.owed s.entries s.messages l) puts.kept.content
    (λ c one new.
    let stand : StandIn s.messages (order l) (put_behind puts.messages c) = record {
      part = one.messages.stand.part;
      deltas = new.deltas;
      reached = omega (arith, one.messages.stand.reached, length-append c.deltas (map message_printed puts.messages));
    } in
    record { kept = rw level new; entries = one.entries; messages = record { stand = stand; whole = one.messages.whole } })
    is (kept l (tells_from s.keeping.content _ _ (λ c one. rw level at one.kept) is)))))

-- what the keeper is kept for
pub kept_for : (s r : Standing) (l : List Step) → s ≡ r → r.owed ≡ false → LaneStands r l → Tells s.keeping.content (IsKept false (ledger l))
kept_for s r l same level stands = rw same (tells_from r.keeping.content _ _ (λ c told. rw level at told.stands.kept) stands.told)

-- of what was read of a keeper that is kept the keeper is kept still
pub read_kept : (m : InMemory) (l : Ledger) (told : Option Content) → Tells told (ReadsKept {A = InMemory} (λ d. d) l (Ok m)) → Tells told (IsKept false l)
read_kept m l told read = tells_from told _ _ (λ c both. both.0) read

pub read_stands : (m : InMemory) (l : Ledger) (told : Option Content) → Tells told (ReadsKept {A = InMemory} (λ d. d) l (Ok m)) → Tells told (StandFor m.messages (order l))
read_stands m l told read = tells_from told _ _ (λ c both. both.1) read

-- ---- ranges

-- what follows from the order where the content is told
pub sliced : (s t : Standing) (l : List Step) (P : Type 0) → s ≡ t → LaneStands t l → Tells s.keeping.content (λ content. StandIn s.messages (order (ledger l)) content → P) → Tells t.keeping.content (λ _. P)
sliced s t l P same stands given =
    subst (λ u. Tells u.keeping.content (λ _. P)) same
    (tells_both s.keeping.content (StandFor s.messages (order (ledger l))) (λ content. StandIn s.messages (order (ledger l)) content → P) (λ _. P) (λ content stand from. from stand.stand)
    (messages_stand s l (subst (λ u. LaneStands u l) (sym same) stands)) given)

-- a standing of the same parts is the same
pub same_parts : (s t : Standing) → t.keeping ≡ s.keeping → t.entries ≡ s.entries → t.messages ≡ s.messages → t.limits ≡ s.limits → t.opened ≡ s.opened → t.sides ≡ s.sides → t.last ≡ s.last → t.owed ≡ s.owed → t ≡ s
same_parts s t keeping entries messages limits opened sides last owed =
    λ i. record { keeping = keeping i; entries = entries i; messages = messages i; limits = limits i; opened = opened i; sides = sides i; last = last i; owed = owed i }

-- what the document reads the lane reads
pub ranges_of : {V : Type 0} (messages : V → List Message) (from to : ℕ) (s r t : Standing) (result : Result V DeltaFault) → s ≡ r → t.entries ≡ s.entries → t.messages ≡ s.messages → t.owed ≡ s.owed → Reads messages from to s.messages.before s.keeping t.keeping result
    → Tells s.keeping.content (λ content. IsAnswer messages result (range_of s.messages content from to)) → (AreHeld s.messages from to → IsHeldAnswer messages (held_between s.messages (from - 1) (to - 1)) result × (t ≡ s)) → Ranges messages from to r t result
ranges_of messages from to s r t result same entries stay owed reads answer memory =
    subst (λ u. Ranges messages from to u t result) same (record { same = (entries, (stay, owed)); reads = reads; answer = answer; memory = memory })
