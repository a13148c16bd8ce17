-- The client number of an entry that a text spells is in range.
use Rattle.std.proofs.Common.{◌≡◌, ℕ, ◌≤◌, List, Option, Some, None, Ok, refl}
use Rattle.std.specs.Prelude.{IsSomeAnd}
use Rattle.std.proofs.lemmas.Bool.{le-leb}
use Rattle.fluid_json.specs.Tree.{Tree, find}
use Rattle.fluid_types.specs.Fits.{Fits, IsInRange}
use Rattle.fluid_types.specs.Forms.{largest}
use Rattle.fluid_types.specs.Records.{raw_spelled}
use Rattle.fluid_types.specs.Spellings.{SpellsRaw, SpellsSubmission, SpellsCount}
use Rattle.fluid_types.specs.declared.entries.Raw.{Raw}
use Rattle.fluid_types.specs.declared.entries.Raw.TheVariants.{Join, Leave, Submit, Report}
use Rattle.fluid_types.specs.declared.entries.Submission.{Submission}
use Rattle.fluid_types.specs.Printed.{raw_printed}
use Rattle.fluid_codec.proofs.Spelled.{records_are_spelled}

some_count : (n : ℕ) (o : Option Tree) → IsSomeAnd o (SpellsCount 0 n) → n ≤ largest
some_count n None h = absurd h
some_count n (Some t) h = h.most

some_submission : (s : Submission) (o : Option Tree) → IsSomeAnd o (SpellsSubmission s) → s.client_number ≤ largest
some_submission s None h = absurd h
some_submission s (Some t) h = some_count s.client_number _ h.its_client_number

in_range : (raw : Raw) (t : Tree) → SpellsRaw raw t → IsInRange raw
in_range (Join id scopes detail moment) t h = refl
in_range (Leave id moment) t h = refl
in_range (Submit id submission moment) t h = le-leb submission.client_number largest (some_submission submission _ h.its_operation)
in_range (Report summary found moment) t h = refl

pub spelled-in_range : (s : List ℕ) (raw : Raw) → raw_spelled s ≡ Ok raw → IsInRange raw
spelled-in_range s raw is = let found = (records_are_spelled s raw).0 is in in_range raw found.0 found.2

pub fitting-in_range : (raw : Raw) → Fits raw → IsInRange raw
fitting-in_range raw fits = spelled-in_range (raw_printed raw) raw fits.read_back
