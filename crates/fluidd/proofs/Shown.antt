-- How a run ends that shows a text.
use Rattle.std.proofs.Common.{◌≡◌, ◌⊎◌, inl, inr, ℕ, List, refl, arith}
use Rattle.fluid_io.specs.Causes.{Rose}
use Rattle.fluid_io.specs.Streams.{Writing, Appends, AppendsPrefix}
use Rattle.fluidd.specs.Output.{Shows}
use Rattle.fluidd.specs.Tasks.{IsPage}

not_page : (status shown : ℕ) → IsPage shown → status ≡ shown → (status ≡ 5) ⊎ (status ≡ 6) → ⊥
not_page status shown (inl h) is (inl k) = absurd (omega (arith, h, is, k))
not_page status shown (inl h) is (inr k) = absurd (omega (arith, h, is, k))
not_page status shown (inr h) is (inl k) = absurd (omega (arith, h, is, k))
not_page status shown (inr h) is (inr k) = absurd (omega (arith, h, is, k))

-- it was written
pub shown : (shown : ℕ) (text : List ℕ) (output sink : Writing) → IsPage shown → Appends text output.written sink.written →
    sink.faults ≡ output.faults → Shows shown text output sink shown
shown number text output sink page appends quiet = record {
  known = inl refl;
  written = λ e. appends;
  no_fault = λ e. quiet;
  write_fault = λ e. absurd (not_page number number page refl (inl e));
  cut = λ e. absurd (not_page number number page refl (inl e));
  nothing = λ e. absurd (not_page number number page refl (inr e));
}

-- the sink failed
pub failed : (shown : ℕ) (text : List ℕ) (output sink : Writing) → IsPage shown → AppendsPrefix text output.written sink.written →
    Rose output.faults sink.faults → Shows shown text output sink 5
failed number text output sink page prefix rose = record {
  known = inr (inl refl);
  written = λ e. absurd (not_page 5 number page e (inl refl));
  no_fault = λ e. absurd (not_page 5 number page e (inl refl));
  write_fault = λ e. rose;
  cut = λ e. prefix;
  nothing = λ e. absurd (omega arith);
}
