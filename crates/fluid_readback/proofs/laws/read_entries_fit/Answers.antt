use Rattle.fluid_readback.proofs.Entries.{read_records_fit, read_joins_fit, heard_connects_fit, heard_submissions_fit}
use Rattle.fluid_readback.proofs.laws.read_entries_fit.Goals as goal

pub returns : goal.returns
returns c = record { records = read_records_fit; joins = read_joins_fit; connects = heard_connects_fit; submissions = heard_submissions_fit }
