use Rattle.std.proofs.Common.{refl}
use Rattle.fluid_map.specs.Content.{is_content}
use Rattle.fluid_map.proofs.Contents.{only_content}
use Rattle.fluid_map.proofs.laws.only_content_is_read.Goals as goal

pub returns : goal.returns
returns c blob shared read = only_content blob shared (is_content blob) refl read
