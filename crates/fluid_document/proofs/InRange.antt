-- What is read of a checkpoint is in range.
use Rattle.std.proofs.Common.{◌≡◌, List, ℕ, Ok, inl, inr, sym}
use Rattle.fluid_json.specs.Unless.{IsUnless}
use Rattle.fluid_checkpoint.specs.declared.fault.CheckpointFault.TheVariants.{NoMemory}
use Rattle.fluid_checkpoint.specs.declared.state.Form.{Form}
use Rattle.fluid_checkpoint.specs.declared.state.Form.TheVariants.{One, Two}
use Rattle.fluid_checkpoint.specs.Reading.{answer}
use Rattle.fluid_checkpoint.proofs.Ranges.{said_counts}
use Rattle.fluid_document.specs.Taking.{IsInRange}

said_in_range : (bytes : List ℕ) (f : Form) → answer bytes ≡ Ok f → IsInRange f
said_in_range bytes (Two s) is = said_counts bytes s is
said_in_range bytes (One entered) is = tt

-- what is answered without want of memory is in range
pub read_in_range : (bytes : List ℕ) (f : Form) → IsUnless NoMemory (Ok f) (answer bytes) → IsInRange f
read_in_range bytes f read = said_in_range bytes f (elim read [
  | inl refused ↦ absurd (cc)
  | inr is ↦ sym is
])
