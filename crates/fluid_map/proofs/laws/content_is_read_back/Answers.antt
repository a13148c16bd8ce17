use Rattle.std.specs.FinMap.{entries}
use Rattle.fluid_map.proofs.Contents.{reads_back, each_pair}
use Rattle.fluid_map.proofs.laws.content_is_read_back.Goals as goal

pub returns : goal.returns
returns c values utf8 canonical shallow = reads_back c.printed_is_read_back.ensures values utf8 (each_pair (entries values) canonical) shallow
