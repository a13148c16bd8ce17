-- What is attached and what is said to join is short.
use Rattle.std.proofs.Common.{ℕ, ◌≤◌, List, [], ◌∷◌, length, codes, refl, arith}
use Rattle.json.specs.Print.{escape_byte}
use Rattle.fluid_json.specs.Printed.{printed}
use Rattle.fluid_json.specs.Tree.{text, object, members}
use Rattle.fluid_types.specs.Printed.{Row}
use Rattle.fluid_readback.proofs.Entries.{rows_short}
use Rattle.fluid_edits.specs.declared.edit.Edit.TheVariants as edit
use Rattle.fluid_edits.specs.declared.edit.ChannelKind.{ChannelKind}
use Rattle.fluid_edits.specs.declared.edit.ChannelKind.TheVariants.{Map, Counter}
use Rattle.fluid_edits.specs.Forms.{contents_of, kind_word}
use Rattle.fluid_loader.specs.Fitting.{most_contents}
use Rattle.fluid_containers.specs.Stepping.{IsShort}
use Rattle.fluid_steps.specs.declared.steps.Step.TheVariants as step
use Rattle.fluid_world.specs.Naming.{IsShortStep}
use Rattle.fluid_turns.specs.Quiet.{IsQuietStep}
use Rattle.fluid_load.specs.Quiet.{IsOwnStep}
use Rattle.fluid_workload.specs.Working.{m, n, named, connecting}

abbrev attaching : (address : List ℕ) → ChannelKind → List Row
attaching address kind = (codes "address", text address) ∷ (codes "kind", text (kind_word kind)) ∷ (codes "type", text (codes "attach")) ∷ []

map_bytes : length (printed (object (members (attaching m Map)))) ≤ most_contents
unfolding escape_byte
map_bytes = omega (arith, rows_short (attaching m Map))

counter_bytes : length (printed (object (members (attaching n Counter)))) ≤ most_contents
unfolding escape_byte
counter_bytes = omega (arith, rows_short (attaching n Counter))

pub map_short : IsShort (edit.Attach m Map)
unfolding contents_of
map_short = record { nested = record { canonical = search arith; shallow = omega arith }; short = map_bytes }

pub counter_short : IsShort (edit.Attach n Counter)
unfolding contents_of
counter_short = record { nested = record { canonical = search arith; shallow = omega arith }; short = counter_bytes }

-- what a client says to join is short, and enters no submission
pub connect_short : (client : ℕ) → IsShortStep (step.Send (named client) connecting)
connect_short client = omega arith

pub connect_quiet : (client : ℕ) → IsQuietStep (step.Send (named client) connecting)
connect_quiet client = refl

pub connect_own : (client : ℕ) → IsOwnStep (step.Send (named client) connecting)
connect_own client = refl
