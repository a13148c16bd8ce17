use Rattle.lane_bench.proofs.Read.{read_fits_lane}
use Rattle.lane_bench.proofs.records.enter_record.Goals as goal

pub enter-requires : goal.enter-requires
enter-requires g c = read_fits_lane c.args.text.now c.in-Ok.raw c.requires c.in-Ok.ensures
