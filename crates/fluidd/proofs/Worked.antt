-- What the status of a workload says, read off its end.
use Rattle.std.proofs.Common.{◌≡◌, ◌⊎◌, inl, inr, ℕ, ◌≤◌, Option, Some, None, refl, subst, arith}
use Rattle.std.specs.Prelude.{IfSome}
use Rattle.fluid_io.specs.Causes.{Rose}
use Rattle.fluid_log.specs.Shelving.{AreWhole}
use Rattle.fluid_store.specs.Keeping.{IsNoted}
use Rattle.fluid_store.specs.Storing.{Storing}
use Rattle.fluid_io.specs.declared.faults.FaultNote.{FaultNote}
use Rattle.fluid_transcript.specs.World.{World}
use Rattle.fluid_desk.specs.declared.stop.StoredFault.{StoredFault}
use Rattle.fluid_world.specs.Ending.{full, Outside, IsQuiet, IsRefusedBy}
use Rattle.fluid_world.specs.declared.ends.ScriptEnd.{ScriptEnd}
use Rattle.fluid_world.specs.declared.ends.ScriptEnd.TheVariants as end
use Rattle.fluid_alike.specs.Alike.{EndsSame}
use Rattle.fluid_load.specs.Ending.{CameBy, WritesSummary}
use Rattle.fluidd.specs.Output.{code_of}
use Rattle.fluidd.specs.Scripts.{script_status}
use Rattle.fluidd.specs.Workloads.{IsWorkStatus, SummarizesAs, Summarizes}

none_of : (status : ℕ) → (status ≡ 6 → ⊥) → (status ≡ 7 → ⊥) → (status ≡ 8 → ⊥) → (status ≡ 11 → ⊥) → (status ≡ 6) ⊎ ((status ≡ 7) ⊎ ((status ≡ 8) ⊎ (status ≡ 11))) → ⊥
none_of status a b c d (inl h) = a h
none_of status a b c d (inr (inl h)) = b h
none_of status a b c d (inr (inr (inl h))) = c h
none_of status a b c d (inr (inr (inr h))) = d h

rose_since : (a b c : ℕ) → a ≤ b → Rose b c → Rose a c
rose_since a b c le rose = omega (arith, le, rose)

-- the count of the store rose as the note says
noted_rose : (before now : Storing) (note : FaultNote) → IsNoted before now note → Rose before.faults now.faults
noted_rose before now note h = subst (Rose before.faults) h.after (rose_since before.faults note.before note.after h.before h.rose)

module _ (w : World) (number clients ops : ℕ) (before now : Outside) where
  as_summary : (e : ScriptEnd) → CameBy before now e → WritesSummary full w number clients ops before now e → (e ≡ end.Done → EndsSame full w number clients ops) → SummarizesAs w number clients ops before now (code_of (script_status e))
  as_summary end.Done cause h same = record {
    whole = λ e. h;
    same = λ e. same refl;
    cut = λ e. absurd (omega arith);
    nothing = λ e. absurd (none_of 0 (omega arith) (omega arith) (omega arith) (omega arith) e);
    worn = λ e. absurd (omega arith);
    complete = λ none. inl refl;
  }
  as_summary (end.BadLine n why) cause h same = absurd cause
  as_summary end.ReadFault cause h same = absurd cause
  as_summary end.WriteFault cause h same = record {
    whole = λ e. absurd (omega arith);
    same = λ e. absurd (omega arith);
    cut = λ e. h;
    nothing = λ e. absurd (none_of 5 (omega arith) (omega arith) (omega arith) (omega arith) e);
    worn = λ e. absurd (omega arith);
    complete = λ none. absurd (none.sink cause);
  }
  as_summary (end.KeeperFault note) cause h same = record {
    whole = λ e. absurd (omega arith);
    same = λ e. absurd (omega arith);
    cut = λ e. absurd (omega arith);
    nothing = λ e. h;
    worn = λ e. absurd (omega arith);
    complete = λ none. absurd (none.shelves cause.1.1);
  }
  as_summary (end.StoreFault note) cause h same = record {
    whole = λ e. absurd (omega arith);
    same = λ e. absurd (omega arith);
    cut = λ e. absurd (omega arith);
    nothing = λ e. h;
    worn = λ e. absurd (omega arith);
    complete = λ none. absurd (none.store (noted_rose before.store now.store note cause.1));
  }
  as_summary (end.BadStored fault) cause h same = record {
    whole = λ e. absurd (omega arith);
    same = λ e. absurd (omega arith);
    cut = λ e. absurd (omega arith);
    nothing = λ e. h.1.1;
    worn = λ e. (subst (IsRefusedBy before now) h.0 cause.1, h.1.0);
    complete = λ none. inr (inr (refl, h.1.0));
  }
  as_summary end.NoMemory cause h same = record {
    whole = λ e. absurd (omega arith);
    same = λ e. absurd (omega arith);
    cut = λ e. absurd (omega arith);
    nothing = λ e. h;
    worn = λ e. absurd (omega arith);
    complete = λ none. inr (inl refl);
  }

module _ (told : Option World) (number clients ops : ℕ) (before now : Outside) (back : AreWhole now.shelves) where
  quiet_of : (e : ScriptEnd) → CameBy before now e → (code_of (script_status e) ≡ 5 → ⊥) → IsQuiet before now
  quiet_of end.Done cause five = cause
  quiet_of (end.BadLine n why) cause five = absurd cause
  quiet_of end.ReadFault cause five = absurd cause
  quiet_of end.WriteFault cause five = absurd (five refl)
  quiet_of (end.KeeperFault note) cause five = cause.0
  quiet_of (end.StoreFault note) cause five = cause.0
  quiet_of (end.BadStored fault) cause five = cause.0
  quiet_of end.NoMemory cause five = cause

  write_of : (e : ScriptEnd) → CameBy before now e → code_of (script_status e) ≡ 5 → Rose before.sink.faults now.sink.faults
  write_of end.WriteFault cause is = cause
  write_of end.Done cause is = absurd (omega (arith, is))
  write_of (end.BadLine n why) cause is = absurd cause
  write_of end.ReadFault cause is = absurd cause
  write_of (end.KeeperFault note) cause is = absurd (omega (arith, is))
  write_of (end.StoreFault note) cause is = absurd (omega (arith, is))
  write_of (end.BadStored fault) cause is = absurd (omega (arith, is))
  write_of end.NoMemory cause is = absurd (omega (arith, is))

  keeper_of : (e : ScriptEnd) → CameBy before now e → code_of (script_status e) ≡ 7 → Rose before.shelves.faults now.shelves.faults
  keeper_of (end.KeeperFault note) cause is = cause.1.1
  keeper_of end.Done cause is = absurd (omega (arith, is))
  keeper_of (end.BadLine n why) cause is = absurd cause
  keeper_of end.ReadFault cause is = absurd cause
  keeper_of end.WriteFault cause is = absurd (omega (arith, is))
  keeper_of (end.StoreFault note) cause is = absurd (omega (arith, is))
  keeper_of (end.BadStored fault) cause is = absurd (omega (arith, is))
  keeper_of end.NoMemory cause is = absurd (omega (arith, is))

  store_of : (e : ScriptEnd) → CameBy before now e → code_of (script_status e) ≡ 8 → Rose before.store.faults now.store.faults
  store_of (end.StoreFault note) cause is = noted_rose before.store now.store note cause.1
  store_of end.Done cause is = absurd (omega (arith, is))
  store_of (end.BadLine n why) cause is = absurd cause
  store_of end.ReadFault cause is = absurd cause
  store_of end.WriteFault cause is = absurd (omega (arith, is))
  store_of (end.KeeperFault note) cause is = absurd (omega (arith, is))
  store_of (end.BadStored fault) cause is = absurd (omega (arith, is))
  store_of end.NoMemory cause is = absurd (omega (arith, is))

  stored_of : (e : ScriptEnd) → CameBy before now e → code_of (script_status e) ≡ 11 → (fault : StoredFault) × IsRefusedBy before now fault
  stored_of (end.BadStored fault) cause is = (fault, cause.1)
  stored_of end.Done cause is = absurd (omega (arith, is))
  stored_of (end.BadLine n why) cause is = absurd cause
  stored_of end.ReadFault cause is = absurd cause
  stored_of end.WriteFault cause is = absurd (omega (arith, is))
  stored_of (end.KeeperFault note) cause is = absurd (omega (arith, is))
  stored_of (end.StoreFault note) cause is = absurd (omega (arith, is))
  stored_of end.NoMemory cause is = absurd (omega (arith, is))

  known_of : (e : ScriptEnd) → CameBy before now e → IsWorkStatus (code_of (script_status e))
  known_of end.Done cause = inl refl
  known_of (end.BadLine n why) cause = absurd cause
  known_of end.ReadFault cause = absurd cause
  known_of end.WriteFault cause = inr (inl refl)
  known_of end.NoMemory cause = inr (inr (inl refl))
  known_of (end.KeeperFault note) cause = inr (inr (inr (inl refl)))
  known_of (end.StoreFault note) cause = inr (inr (inr (inr (inl refl))))
  known_of (end.BadStored fault) cause = inr (inr (inr (inr (inr refl))))

  pub summarizes : (e : ScriptEnd) → CameBy before now e → IfSome told (λ w. WritesSummary full w number clients ops before now e)
      → (e ≡ end.Done → IfSome told (λ w. EndsSame full w number clients ops)) → Summarizes told number clients ops before now (code_of (script_status e))
  summarizes e cause writes same = record {
    write_fault = write_of e cause;
    keeper_fault = keeper_of e cause;
    store_fault = store_of e cause;
    stored = stored_of e cause;
    quiet = quiet_of e cause;
    back = back;
    known = known_of e cause;
    writes = λ w is. as_summary w number clients ops before now e cause (subst (λ t. IfSome t (λ v. WritesSummary full v number clients ops before now e)) is writes)
        (λ done. subst (λ t. IfSome t (λ v. EndsSame full v number clients ops)) is (same done));
  }

-- memory was wanting before anything was done
pub unworked : (told : Option World) (number clients ops : ℕ) (before : Outside) → AreWhole before.shelves → Summarizes told number clients ops before before 6
unworked told number clients ops before whole = summarizes told number clients ops before before whole end.NoMemory (record { read = refl; written = refl }) (by told) (λ done. absurd (cc))
  where
    by : (told : Option World) → IfSome told (λ w. WritesSummary full w number clients ops before before end.NoMemory)
    by None = tt
    by (Some w) = refl
