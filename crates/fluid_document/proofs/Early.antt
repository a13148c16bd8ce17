-- Which messages are put to make room, and how many.
use Rattle.std.proofs.Common.{◌≡◌, ℕ, ◌+◌, ◌-◌, ◌<◌, ◌≤◌, List, [], length, Result, Ok, Err, OnOk, OnErr, IfErr, length-drop, ap, subst, arith}
use Rattle.std.proofs.lemmas.List.{length-take, length-take-le}
use Rattle.fluid_types.specs.declared.messages.Message.{Message}
use Rattle.fluid_log.specs.Keeping.{Keeping}
use Rattle.fluid_deltas.specs.declared.fault.DeltaFault.{DeltaFault}
use Rattle.fluid_deltas.specs.Ranges.{IsFaultOf}
use Rattle.fluid_deltas.specs.Pushed.{Pushed, pushed, IsFull, DropsPage}
use Rattle.fluid_deltas.specs.Flushes.{lacking, lacking_up_to, PutsAll, Writes}
use Rattle.fluid_document.specs.declared.fault.FlushFault.{FlushFault}
use Rattle.fluid_document.specs.declared.fault.FlushFault.TheVariants.{DeltaFailed, NoMemory}
use Rattle.std.specs.Prelude.{nat_le, if◌then◌else◌}
use Rattle.fluid_document.specs.declared.fault.EnterFault.{EnterFault}
use Rattle.fluid_document.specs.declared.fault.EnterFault.TheVariants as enter
use Rattle.fluid_document.specs.Entry.{IsEnterFault}
use Rattle.fluid_document.specs.Loading.{IsLoadFault}
use Rattle.fluid_document.specs.Taking.{unread}
use Rattle.fluid_document.specs.Rooms.{for_room}
use Rattle.fluid_document.specs.Puts.{IsFlushFault, Flushes, PutsFirst, PutsFew, of_flush, unflushed}

-- ---- how many are lacking

lacked : (d : Pushed) (deltas end : ℕ) → d.before ≤ deltas → end ≤ pushed d → length (lacking_up_to d deltas end) ≡ end - deltas
lacked d deltas end reached within = length-take-le (end - deltas) (lacking d deltas) (omega (arith, length-drop (deltas - d.before) d.held, reached, within))

-- ---- a page that goes

pub page_first : (answer : Result (Unit {0}) DeltaFault) (result : Result (Unit {0}) FlushFault) (d e : Pushed) (old new : Keeping) → answer ≡ unflushed result → IsFull d → d.before ≤ old.deltas
    → PutsAll (lacking_up_to d old.deltas (d.before + 256)) old new answer → OnOk answer (DropsPage d e) → OnOk result (PutsFirst e.before old new)
page_first answer (Ok done) d e old new is full reached puts drops =
    let put = subst (PutsAll (lacking_up_to d old.deltas (d.before + 256)) old new) is puts in
    let dropped = subst (λ r. OnOk r (DropsPage d e)) is drops in
    omega (arith, put.kept.deltas, dropped.before, lacked d old.deltas (d.before + 256) reached (omega (arith, full)))
page_first answer (Err fault) d e old new is full reached puts drops = tt

pub page_few : (answer : Result (Unit {0}) DeltaFault) (d : Pushed) (old new : Keeping) (entered sequence : ℕ) → IsFull d → sequence ≡ pushed d → sequence ≤ entered → d.before ≤ old.deltas
    → PutsAll (lacking_up_to d old.deltas (d.before + 256)) old new answer → PutsFew entered old new
page_few (Ok done) d old new entered sequence full level few reached puts = omega (arith, puts.kept.deltas, full, level, few, reached, lacked d old.deltas (d.before + 256) reached (omega (arith, full)))
page_few (Err fault) d old new entered sequence full level few reached puts =
    omega (arith, puts.puts.kept.deltas, puts.within, full, level, few, reached, length-take puts.count (lacking_up_to d old.deltas (d.before + 256)), lacked d old.deltas (d.before + 256) reached (omega (arith, full)))

pub page_onwards : (answer : Result (Unit {0}) DeltaFault) (d e : Pushed) → OnOk answer (DropsPage d e) → OnErr answer (e ≡ d) → d.before ≤ e.before
page_onwards (Ok done) d e drops same = omega (arith, drops.before)
page_onwards (Err fault) d e drops same = omega (arith, ap (λ p. p.before) same)

pub page_needed : (result : Result (Unit {0}) FlushFault) (d : Pushed) (entered sequence : ℕ) → IsFull d → sequence ≡ pushed d → sequence ≤ entered → OnErr result (4096 ≤ entered)
page_needed (Ok done) d entered sequence full level few = tt
page_needed (Err fault) d entered sequence full level few = omega (arith, full, level, few)

-- where the most messages are in memory, these make room
pub room_is : (d : Pushed) (deltas : ℕ) → IsFull d → for_room d deltas ≡ lacking_up_to d deltas (d.before + 256)
room_is d deltas full = ap (λ n. if nat_le 4096 n then lacking_up_to d deltas (d.before + 256) else []) full

-- ---- answers

pub on_ok : (answer : Result (Unit {0}) DeltaFault) (result : Result (Unit {0}) FlushFault) (P : Type 0) → answer ≡ unflushed result → OnOk answer P → OnOk result P
on_ok answer (Ok done) P is p = subst (λ r. OnOk r P) is p
on_ok answer (Err fault) P is p = tt

pub on_err : (answer : Result (Unit {0}) DeltaFault) (result : Result (Unit {0}) FlushFault) (P Q : Type 0) → answer ≡ unflushed result → (P → Q) → OnErr answer P → OnErr result Q
on_err answer (Ok done) P Q is leads p = tt
on_err answer (Err fault) P Q is leads p = leads (subst (λ r. OnErr r P) is p)

caused : (before now : ℕ) (fault : FlushFault) → IsFaultOf before now (of_flush fault) → IsFlushFault before now fault
caused before now (DeltaFailed note) is = is
caused before now NoMemory is = tt

pub flushes_of : (ms : List Message) (answer : Result (Unit {0}) DeltaFault) (result : Result (Unit {0}) FlushFault) (old new : Keeping) → answer ≡ unflushed result → Writes old new answer → PutsAll ms old new answer → Flushes ms old new result
flushes_of ms answer (Ok done) old new is writes puts = record { later = writes.later; reads = writes.reads; cause = tt; puts = subst (PutsAll ms old new) is puts }
flushes_of ms answer (Err fault) old new is writes puts = record {
  later = writes.later;
  reads = writes.reads;
  cause = caused old.faults new.faults fault (subst (λ r. IfErr r (IsFaultOf old.faults new.faults)) is writes.cause);
  puts = subst (PutsAll ms old new) is puts;
}

-- ---- a record that is taken up

pub unread_cause : (records before now entered : ℕ) (fault : EnterFault) → IsEnterFault before now fault → 4096 ≤ entered → entered < records → IsLoadFault records before now (unread fault)
unread_cause records before now entered (enter.LogFailed note) is some lt = is
unread_cause records before now entered (enter.DeltaFailed note) is some lt = (is, omega (arith, some, lt))
unread_cause records before now entered enter.NoMemory is some lt = tt
