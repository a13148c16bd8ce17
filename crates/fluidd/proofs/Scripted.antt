-- What the status of a script says, read off its end.
use Rattle.std.proofs.Common.{◌≡◌, ◌⊎◌, inl, inr, ℕ, ◌≤◌, Bool, true, false, List, [], Option, Some, None, refl, sym, subst, arith}
use Rattle.std.specs.Prelude.{IfSome, is_none}
use Rattle.std.specs.Str.Lines.{lines}
use Rattle.fluid_io.specs.Causes.{Rose}
use Rattle.fluid_io.specs.declared.faults.FaultNote.{FaultNote}
use Rattle.fluid_log.specs.Shelving.{AreWhole}
use Rattle.fluid_pipe.specs.Meaning.{Meaning, Accepts}
use Rattle.fluid_pipe.specs.Output.{HasRefused, IsRefused, IsRefusedFor, IsBegun, ReadFailed, Wrote}
use Rattle.fluid_pipe.specs.declared.refusal.Refusal.{Refusal}
use Rattle.fluid_pipe.proofs.Advances.{appends-none}
use Rattle.fluid_pipe.proofs.Refused.{not_both, wrote-whole, wrote-refused}
use Rattle.fluid_store.specs.Keeping.{IsNoted}
use Rattle.fluid_store.specs.Storing.{Storing}
use Rattle.fluid_steps.specs.declared.refusal.LineWhy.{LineWhy}
use Rattle.fluid_transcript.specs.World.{World}
use Rattle.fluid_desk.specs.declared.stop.StoredFault.{StoredFault}
use Rattle.fluid_world.specs.Taking.{means}
use Rattle.fluid_world.specs.Ending.{full, Outside, IsQuiet, IsRefusedBy, HasCause, DoesAll, DidRefuse, Writes, IsWholeWith}
use Rattle.fluid_world.specs.declared.ends.ScriptEnd.{ScriptEnd}
use Rattle.fluid_world.specs.declared.ends.ScriptEnd.TheVariants as end
use Rattle.fluidd.specs.Output.{code_of}
use Rattle.fluidd.specs.Scripts.{script_status, IsScriptStatus, WritesAs, Scripts}

none_of : (status : ℕ) → (status ≡ 6 → ⊥) → (status ≡ 7 → ⊥) → (status ≡ 8 → ⊥) → (status ≡ 11 → ⊥) → (status ≡ 6) ⊎ ((status ≡ 7) ⊎ ((status ≡ 8) ⊎ (status ≡ 11))) → ⊥
none_of status a b c d (inl h) = a h
none_of status a b c d (inr (inl h)) = b h
none_of status a b c d (inr (inr (inl h))) = c h
none_of status a b c d (inr (inr (inr h))) = d h

-- the count that a note tells of rose
rose_since : (a b c : ℕ) → a ≤ b → Rose b c → Rose a c
rose_since a b c le rose = omega (arith, le, rose)

noted_rose : (before now : Storing) (note : FaultNote) → IsNoted before now note → Rose before.faults now.faults
noted_rose before now note h = subst (Rose before.faults) h.after (rose_since before.faults note.before note.after h.before h.rose)

-- what was written whole has no refused line
whole_accepts : (w : World) (load : Option (List ℕ)) (before now : Outside) (bytes : List ℕ) → before.source.left ≡ Some bytes → DoesAll full w load before now → Accepts (means (is_none load) full w) [] (lines bytes)
whole_accepts w None before now bytes is h = wrote-whole (means true full w) bytes before.source.left before.sink.written now.sink.written is h.written
whole_accepts w (Some document) before now bytes is h = by before.source.left is h.written
  where
    by : (left : Option (List ℕ)) → left ≡ Some bytes → Wrote (IsWholeWith full w document) left before.sink.written now.sink.written → Accepts (means false full w) [] (lines bytes)
    by None is h = absurd (cc)
    by (Some input) is h = let same : input ≡ bytes = cc in subst (λ b. Accepts (means false full w) [] (lines b)) same h.2.accepted

refused_only : (m : Meaning LineWhy) (number : ℕ) (why : Refusal LineWhy) (left old new : Option (List ℕ)) → Wrote (IsRefusedFor m number why) left old new → Wrote (IsRefused m) left old new
refused_only m number why None old new h = tt
refused_only m number why (Some input) old new h = (h.0, h.1, h.2.is)

refused_refuses : (w : World) (load : Option (List ℕ)) (before now : Outside) (number : ℕ) (why : LineWhy) (bytes : List ℕ) → before.source.left ≡ Some bytes → DidRefuse (is_none load) full w number why before now
    → HasRefused (means (is_none load) full w) bytes
refused_refuses w load before now number why bytes is h =
    wrote-refused (means (is_none load) full w) bytes before.source.left before.sink.written now.sink.written is
    (refused_only (means (is_none load) full w) number h.refusal before.source.left before.sink.written now.sink.written h.written)

module _ (w : World) (load : Option (List ℕ)) (before now : Outside) where
  writes_as : (e : ScriptEnd) → HasCause before now e → Writes full w load before now e → WritesAs w load before now (code_of (script_status e))
  writes_as end.Done cause h = record {
    whole = λ e. h;
    refused = λ e. absurd (omega arith);
    interrupted = λ e. absurd (omega arith);
    cut = λ e. absurd (omega arith);
    begun = λ e. absurd (none_of 0 (omega arith) (omega arith) (omega arith) (omega arith) e);
    worn = λ e. absurd (omega arith);
    complete = λ bytes is all none. inl refl;
    refuses = λ bytes is refused none. absurd (not_both (means (is_none load) full w) bytes (whole_accepts w load before now bytes is h) refused);
  }
  writes_as (end.BadLine number why) cause h = record {
    whole = λ e. absurd (omega arith);
    refused = λ e. (number, (why, h));
    interrupted = λ e. absurd (omega arith);
    cut = λ e. absurd (omega arith);
    begun = λ e. absurd (none_of 3 (omega arith) (omega arith) (omega arith) (omega arith) e);
    worn = λ e. absurd (omega arith);
    complete = λ bytes is all none. absurd (not_both (means (is_none load) full w) bytes all (refused_refuses w load before now number why bytes is h));
    refuses = λ bytes is refused none. inl refl;
  }
  writes_as end.ReadFault cause h = record {
    whole = λ e. absurd (omega arith);
    refused = λ e. absurd (omega arith);
    interrupted = λ e. h;
    cut = λ e. absurd (omega arith);
    begun = λ e. absurd (none_of 4 (omega arith) (omega arith) (omega arith) (omega arith) e);
    worn = λ e. absurd (omega arith);
    complete = λ bytes is all none. absurd (none.source cause.read);
    refuses = λ bytes is refused none. absurd (none.source cause.read);
  }
  writes_as end.WriteFault cause h = record {
    whole = λ e. absurd (omega arith);
    refused = λ e. absurd (omega arith);
    interrupted = λ e. absurd (omega arith);
    cut = λ e. h;
    begun = λ e. absurd (none_of 5 (omega arith) (omega arith) (omega arith) (omega arith) e);
    worn = λ e. absurd (omega arith);
    complete = λ bytes is all none. absurd (none.sink cause);
    refuses = λ bytes is refused none. absurd (none.sink cause);
  }
  writes_as (end.KeeperFault note) cause h = record {
    whole = λ e. absurd (omega arith);
    refused = λ e. absurd (omega arith);
    interrupted = λ e. absurd (omega arith);
    cut = λ e. absurd (omega arith);
    begun = λ e. h;
    worn = λ e. absurd (omega arith);
    complete = λ bytes is all none. absurd (none.shelves cause.1.1);
    refuses = λ bytes is refused none. absurd (none.shelves cause.1.1);
  }
  writes_as (end.StoreFault note) cause h = record {
    whole = λ e. absurd (omega arith);
    refused = λ e. absurd (omega arith);
    interrupted = λ e. absurd (omega arith);
    cut = λ e. absurd (omega arith);
    begun = λ e. h;
    worn = λ e. absurd (omega arith);
    complete = λ bytes is all none. absurd (none.store (noted_rose before.store now.store note cause.1));
    refuses = λ bytes is refused none. absurd (none.store (noted_rose before.store now.store note cause.1));
  }
  writes_as (end.BadStored fault) cause h = record {
    whole = λ e. absurd (omega arith);
    refused = λ e. absurd (omega arith);
    interrupted = λ e. absurd (omega arith);
    cut = λ e. absurd (omega arith);
    begun = λ e. h.1.1;
    worn = λ e. (subst (IsRefusedBy before now) h.0 cause.1, h.1.0);
    complete = λ bytes is all none. inr (inr (refl, h.1.0));
    refuses = λ bytes is refused none. inr (inr (refl, h.1.0));
  }
  writes_as end.NoMemory cause h = record {
    whole = λ e. absurd (omega arith);
    refused = λ e. absurd (omega arith);
    interrupted = λ e. absurd (omega arith);
    cut = λ e. absurd (omega arith);
    begun = λ e. h;
    worn = λ e. absurd (omega arith);
    complete = λ bytes is all none. inr (inl refl);
    refuses = λ bytes is refused none. inr (inl refl);
  }

-- nothing was read or written
begun_none : (w : World) (left written : Option (List ℕ)) (speaks : Bool) → Wrote (IsBegun (means speaks full w)) left written written
begun_none w None written speaks = tt
begun_none w (Some input) written speaks =
    ([], appends-none written, record { before = []; behind = lines input; split = refl; accepted = tt; text = sym (means speaks full w).none })

-- ---- all of it

module _ (told : Option World) (load : Option (List ℕ)) (before now : Outside) (whole : AreWhole now.shelves) where
  as_told : (e : ScriptEnd) → HasCause before now e → IfSome told (λ w. Writes full w load before now e) → (w : World) → told ≡ Some w → WritesAs w load before now (code_of (script_status e))
  as_told e cause h w is = writes_as w load before now e cause (subst (λ t. IfSome t (λ v. Writes full v load before now e)) is h)

  quiet_of : (e : ScriptEnd) → HasCause before now e → (code_of (script_status e) ≡ 4 → ⊥) → (code_of (script_status e) ≡ 5 → ⊥) → IsQuiet before now
  quiet_of end.Done cause four five = cause
  quiet_of (end.BadLine number why) cause four five = cause
  quiet_of end.ReadFault cause four five = absurd (four refl)
  quiet_of end.WriteFault cause four five = absurd (five refl)
  quiet_of (end.KeeperFault note) cause four five = cause.0
  quiet_of (end.StoreFault note) cause four five = cause.0
  quiet_of (end.BadStored fault) cause four five = cause.0
  quiet_of end.NoMemory cause four five = cause

  read_of : (e : ScriptEnd) → HasCause before now e → code_of (script_status e) ≡ 4 → ReadFailed before.source before.sink now.source now.sink
  read_of end.ReadFault cause is = cause
  read_of end.Done cause is = absurd (omega (arith, is))
  read_of (end.BadLine number why) cause is = absurd (omega (arith, is))
  read_of end.WriteFault cause is = absurd (omega (arith, is))
  read_of (end.KeeperFault note) cause is = absurd (omega (arith, is))
  read_of (end.StoreFault note) cause is = absurd (omega (arith, is))
  read_of (end.BadStored fault) cause is = absurd (omega (arith, is))
  read_of end.NoMemory cause is = absurd (omega (arith, is))

  write_of : (e : ScriptEnd) → HasCause before now e → code_of (script_status e) ≡ 5 → Rose before.sink.faults now.sink.faults
  write_of end.WriteFault cause is = cause
  write_of end.Done cause is = absurd (omega (arith, is))
  write_of (end.BadLine number why) cause is = absurd (omega (arith, is))
  write_of end.ReadFault cause is = absurd (omega (arith, is))
  write_of (end.KeeperFault note) cause is = absurd (omega (arith, is))
  write_of (end.StoreFault note) cause is = absurd (omega (arith, is))
  write_of (end.BadStored fault) cause is = absurd (omega (arith, is))
  write_of end.NoMemory cause is = absurd (omega (arith, is))

  keeper_of : (e : ScriptEnd) → HasCause before now e → code_of (script_status e) ≡ 7 → Rose before.shelves.faults now.shelves.faults
  keeper_of (end.KeeperFault note) cause is = cause.1.1
  keeper_of end.Done cause is = absurd (omega (arith, is))
  keeper_of (end.BadLine number why) cause is = absurd (omega (arith, is))
  keeper_of end.ReadFault cause is = absurd (omega (arith, is))
  keeper_of end.WriteFault cause is = absurd (omega (arith, is))
  keeper_of (end.StoreFault note) cause is = absurd (omega (arith, is))
  keeper_of (end.BadStored fault) cause is = absurd (omega (arith, is))
  keeper_of end.NoMemory cause is = absurd (omega (arith, is))

  store_of : (e : ScriptEnd) → HasCause before now e → code_of (script_status e) ≡ 8 → Rose before.store.faults now.store.faults
  store_of (end.StoreFault note) cause is = noted_rose before.store now.store note cause.1
  store_of end.Done cause is = absurd (omega (arith, is))
  store_of (end.BadLine number why) cause is = absurd (omega (arith, is))
  store_of end.ReadFault cause is = absurd (omega (arith, is))
  store_of end.WriteFault cause is = absurd (omega (arith, is))
  store_of (end.KeeperFault note) cause is = absurd (omega (arith, is))
  store_of (end.BadStored fault) cause is = absurd (omega (arith, is))
  store_of end.NoMemory cause is = absurd (omega (arith, is))

  stored_of : (e : ScriptEnd) → HasCause before now e → code_of (script_status e) ≡ 11 → (fault : StoredFault) × IsRefusedBy before now fault
  stored_of (end.BadStored fault) cause is = (fault, cause.1)
  stored_of end.Done cause is = absurd (omega (arith, is))
  stored_of (end.BadLine number why) cause is = absurd (omega (arith, is))
  stored_of end.ReadFault cause is = absurd (omega (arith, is))
  stored_of end.WriteFault cause is = absurd (omega (arith, is))
  stored_of (end.KeeperFault note) cause is = absurd (omega (arith, is))
  stored_of (end.StoreFault note) cause is = absurd (omega (arith, is))
  stored_of end.NoMemory cause is = absurd (omega (arith, is))

  known_of : (e : ScriptEnd) → IsScriptStatus (code_of (script_status e))
  known_of end.Done = inl refl
  known_of (end.BadLine number why) = inr (inl refl)
  known_of end.ReadFault = inr (inr (inl refl))
  known_of end.WriteFault = inr (inr (inr (inl refl)))
  known_of end.NoMemory = inr (inr (inr (inr (inl refl))))
  known_of (end.KeeperFault note) = inr (inr (inr (inr (inr (inl refl)))))
  known_of (end.StoreFault note) = inr (inr (inr (inr (inr (inr (inl refl))))))
  known_of (end.BadStored fault) = inr (inr (inr (inr (inr (inr (inr refl))))))

  pub scripts : (e : ScriptEnd) → HasCause before now e → IfSome told (λ w. Writes full w load before now e) → Scripts told load before now (code_of (script_status e))
  scripts e cause writes = record {
    read_fault = read_of e cause;
    write_fault = write_of e cause;
    keeper_fault = keeper_of e cause;
    store_fault = store_of e cause;
    stored = stored_of e cause;
    quiet = quiet_of e cause;
    whole = whole;
    known = known_of e;
    writes = as_told e cause writes;
  }

-- memory was wanting before anything was done
pub wanting : (told : Option World) (load : Option (List ℕ)) (before : Outside) → AreWhole before.shelves → Scripts told load before before 6
wanting told load before whole = scripts told load before before whole end.NoMemory (record { read = refl; written = refl }) (by told)
  where
    by : (told : Option World) → IfSome told (λ w. Writes full w load before before end.NoMemory)
    by None = tt
    by (Some w) = begun_none w before.source.left before.sink.written (is_none load)
