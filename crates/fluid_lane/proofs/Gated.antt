-- Which rule refuses a call: how each way out of a call answers to its gate.
use Rattle.std.proofs.Common.{◌≡◌, true, false, [], ◌∷◌, Err, inl, inr, refl, sym, ap}
use Rattle.std.proofs.lemmas.Bool.{false≢true}
use Rattle.std.proofs.lemmas.Option.{none-some, same_Some}
use Rattle.fluid_lane.specs.declared.fault.LaneFault.{LaneFault}
use Rattle.fluid_lane.specs.declared.fault.LaneFault.TheVariants.{Worn}
use Rattle.fluid_lane.specs.Standing.{Standing, is_worn}
use Rattle.fluid_lane.specs.Laws.{RefusalsFire}
use Rattle.fluid_lane.specs.Refusals.{IsGated}

pub fires : RefusalsFire
fires [] fault is = absurd (none-some _ is)
fires ((true, own) ∷ rules) fault is = inl (refl, sym (same_Some _ _ is))
fires ((false, own) ∷ rules) fault is = inr (refl, fires rules fault is)

-- ---- a fault where there is no rule

pub gated_by : {A : Type 0} (old new : Standing) (may : LaneFault → Type 0) (fault : LaneFault) → (is_worn old ≡ true → (fault ≡ Worn) × (new ≡ old)) → (is_worn old ≡ false → may fault) → IsGated {A = A} old new [] may (Err fault)
gated_by old new may fault worn caused = record {
  worn = λ is. (ap Err (worn is).0, (worn is).1);
  passes = tt;
  refuses = caused;
  unasked = λ some. absurd (false≢true some);
  unread = λ some. absurd (false≢true some);
}
