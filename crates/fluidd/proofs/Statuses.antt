-- What a status says, read off its number.
use Rattle.std.proofs.Common.{◌≡◌, ◌⊎◌, ℕ, List, [], ◌++◌, refl, sym, Option, None, Some, Result, Ok, Err, inl, inr, arith}
use Rattle.std.specs.Str.Lines.{lines}
use Rattle.fluid_io.specs.Streams.{Reading, Writing}
use Rattle.fluid_json.specs.declared.memory.NoMemory.{NoMemory}
use Rattle.fluid_pipe.specs.Output.{Finished, HasEndCause, IsBegun, IsRefused, IsRefusedFor, Wrote}
use Rattle.fluid_pipe.specs.declared.refusal.Refusal.{Refusal}
use Rattle.fluid_pipe.specs.declared.stop.Stop.{Stop}
use Rattle.fluid_pipe.specs.declared.stop.Stop.TheVariants as stop
use Rattle.fluid_pipe.proofs.Advances.{appends-none}
use Rattle.fluid_pipe.proofs.Refused.{not_both, refused-more, wrote-begun, wrote-interrupted, wrote-refused, wrote-whole}
use Rattle.fluid_rules.specs.declared.limits.Limits.{Limits}
use Rattle.fluidd.specs.declared.refusal.Why.{Why}
use Rattle.fluidd.specs.Output.{Sequences, code_of, lines-none, meaning, status_of}

-- a refused line for some reason is a refused line
refused-only : (limits : Limits) (number : ℕ) (why : Refusal Why) (left old new : Option (List ℕ)) →
    Wrote (IsRefusedFor (meaning limits) number why) left old new → Wrote (IsRefused (meaning limits)) left old new
refused-only limits number why None old new h = tt
refused-only limits number why (Some input) old new h = (h.0, h.1, h.2.is)

-- nothing was read or written
begun-none : (limits : Limits) (left written : Option (List ℕ)) → Wrote (IsBegun (meaning limits)) left written written
begun-none limits None written = tt
begun-none limits (Some input) written =
    ([], appends-none written, record { before = []; behind = lines input; split = refl; accepted = tt; text = sym lines-none })

neither : (status : ℕ) → (status ≡ 0 → ⊥) → (status ≡ 3 → ⊥) → (status ≡ 6 → ⊥) → (status ≡ 0) ⊎ ((status ≡ 3) ⊎ (status ≡ 6)) → ⊥
neither status a b c (inl h) = a h
neither status a b c (inr (inl h)) = b h
neither status a b c (inr (inr h)) = c h

pub sequences : (limits : Limits) (Keeps : List (List ℕ) → Type 0) (input : Reading) (output : Writing) (source : Reading) (sink : Writing) (ended : Result (Unit {0}) (Stop Why NoMemory)) →
    HasEndCause input output source sink ended → Finished (meaning limits) Keeps input output source sink ended → Sequences limits input output source sink (code_of (status_of ended))
sequences limits Keeps input output source sink (Ok done) cause h = record {
  whole = λ e. (h.0, h.1);
  refused = λ e. absurd (omega arith);
  read_fault = λ e. absurd (omega arith);
  write_fault = λ e. absurd (omega arith);
  no_fault = λ e. cause;
  interrupted = λ e. absurd (omega arith);
  begun = λ e. absurd (omega arith);
  cut = λ e. absurd (omega arith);
  known = inl refl;
  complete = λ bytes is all quiet calm. inl refl;
  tells = λ whole part rest is left fed refused calm. absurd (not_both (meaning limits) (whole ++ (part ++ rest)) (wrote-whole (meaning limits) _ _ _ _ is h.0) (refused-more (meaning limits) whole (part ++ rest) fed refused));
  refuses = λ bytes is refused quiet calm. absurd (not_both (meaning limits) bytes (wrote-whole (meaning limits) bytes _ _ _ is h.0) refused);
}
sequences limits Keeps input output source sink (Err (stop.Refused number why)) cause h = record {
  whole = λ e. absurd (omega arith);
  refused = λ e. refused-only _ _ _ _ _ _ h.0;
  read_fault = λ e. absurd (omega arith);
  write_fault = λ e. absurd (omega arith);
  no_fault = λ e. cause;
  interrupted = λ e. absurd (omega arith);
  begun = λ e. absurd (omega arith);
  cut = λ e. absurd (omega arith);
  known = inr (inl refl);
  complete = λ bytes is all quiet calm. absurd (not_both (meaning limits) bytes all (wrote-refused (meaning limits) bytes _ _ _ is (refused-only _ _ _ _ _ _ h.0)));
  tells = λ whole part rest is left fed refused calm. inl refl;
  refuses = λ bytes is refused quiet calm. inl refl;
}
sequences limits Keeps input output source sink (Err stop.ReadFault) cause h = record {
  whole = λ e. absurd (omega arith);
  refused = λ e. absurd (omega arith);
  read_fault = λ e. cause;
  write_fault = λ e. absurd (omega arith);
  no_fault = λ e. absurd (neither 4 (omega arith) (omega arith) (omega arith) e);
  interrupted = λ e. h;
  begun = λ e. wrote-begun _ _ _ _ _ h;
  cut = λ e. absurd (omega arith);
  known = inr (inr (inl refl));
  complete = λ bytes is all quiet calm. absurd (quiet cause.read);
  tells = λ whole part rest is left fed refused calm. absurd (wrote-interrupted (meaning limits) _ _ _ _ whole part rest is left fed h refused);
  refuses = λ bytes is refused quiet calm. absurd (quiet cause.read);
}
sequences limits Keeps input output source sink (Err stop.WriteFault) cause h = record {
  whole = λ e. absurd (omega arith);
  refused = λ e. absurd (omega arith);
  read_fault = λ e. absurd (omega arith);
  write_fault = λ e. cause;
  no_fault = λ e. absurd (neither 5 (omega arith) (omega arith) (omega arith) e);
  interrupted = λ e. absurd (omega arith);
  begun = λ e. absurd (omega arith);
  cut = λ e. h;
  known = inr (inr (inr (inl refl)));
  complete = λ bytes is all quiet calm. absurd (calm cause);
  tells = λ whole part rest is left fed refused calm. absurd (calm cause);
  refuses = λ bytes is refused quiet calm. absurd (calm cause);
}
sequences limits Keeps input output source sink (Err stop.NoMemory) cause h = record {
  whole = λ e. absurd (omega arith);
  refused = λ e. absurd (omega arith);
  read_fault = λ e. absurd (omega arith);
  write_fault = λ e. absurd (omega arith);
  no_fault = λ e. cause;
  interrupted = λ e. absurd (omega arith);
  begun = λ e. h;
  cut = λ e. absurd (omega arith);
  known = inr (inr (inr (inr refl)));
  complete = λ bytes is all quiet calm. inr refl;
  tells = λ whole part rest is left fed refused calm. inr refl;
  refuses = λ bytes is refused quiet calm. inr refl;
}
sequences limits Keeps input output source sink (Err (stop.Failed fault)) cause h = record {
  whole = λ e. absurd (omega arith);
  refused = λ e. absurd (omega arith);
  read_fault = λ e. absurd (omega arith);
  write_fault = λ e. absurd (omega arith);
  no_fault = λ e. cause;
  interrupted = λ e. absurd (omega arith);
  begun = λ e. h;
  cut = λ e. absurd (omega arith);
  known = inr (inr (inr (inr refl)));
  complete = λ bytes is all quiet calm. inr refl;
  tells = λ whole part rest is left fed refused calm. inr refl;
  refuses = λ bytes is refused quiet calm. inr refl;
}

-- memory was wanting before anything was done
pub wanting : (limits : Limits) (input : Reading) (output : Writing) → Sequences limits input output input output 6
wanting limits input output =
    sequences limits (λ before. Unit {0}) input output input output (Err stop.NoMemory) (record { read = refl; written = refl }) (begun-none limits input.left output.written)
