-- What is heard fits.
use Rattle.fluid_readback.proofs.Entries.{heard_connects_fit, heard_submissions_fit}
use Rattle.fluid_voice.specs.Fitting.{IsFitting, HeardFits}
use Rattle.fluid_voice.proofs.Each.{each}

pub heard_fits : HeardFits
heard_fits s text moment short early = each IsFitting s text moment (record {
  nack = λ rule. tt;
  refusal = λ refusal. tt;
  connect = λ name write scopes client spelled not_yet id is_name. heard_connects_fit text name write scopes client short spelled id moment is_name early;
  submit = λ id submissions spelled k d lt. (tt, heard_submissions_fit text id submissions short spelled moment early k d lt);
  deltas = λ from to. tt;
  summary = λ asked. tt;
  get = λ id. tt;
  put = λ bytes. tt;
})
