use Rattle.std.specs.FinMap.{empty}
use Rattle.fluid_map.specs.Examples.{a, b, around_a_clear}
use Rattle.fluid_map.proofs.Replays.{last_word_law}
use Rattle.fluid_map.proofs.examples.around_clear.Goals as goal

pub returns : goal.returns
returns c = (last_word_law empty around_a_clear a, last_word_law empty around_a_clear b)
