-- What is said where a connection isn't made, and by a front's nack.
use Rattle.std.specs.Prelude.{ℕ, negsuc, List, None, codes}
use Rattle.fluid_types.specs.declared.nacks.NackRule.{NackRule}
use Rattle.fluid_types.specs.declared.nacks.Nack.{Nack}
use Rattle.fluid_codec.specs.declared.replies.Reply.{Reply}
use Rattle.fluid_codec.specs.declared.replies.Reply.TheVariants.{ConnectError}
use Rattle.fluid_voice.specs.declared.refusals.ConnectRefusal.{ConnectRefusal}
use Rattle.fluid_voice.specs.declared.refusals.ConnectRefusal.TheVariants.{AlreadyConnected, ReadMissing, TooManyDocuments, DocumentFull, TooManyClients}

-- the code, as in HTTP
abbrev pub refusal_code : ConnectRefusal → ℕ
refusal_code AlreadyConnected = 400
refusal_code ReadMissing = 403
refusal_code TooManyDocuments = 429
refusal_code DocumentFull = 429
refusal_code TooManyClients = 429

abbrev pub refusal_text : ConnectRefusal → List ℕ
refusal_text AlreadyConnected = codes "already connected"
refusal_text ReadMissing = codes "doc:read is missing"
refusal_text TooManyDocuments = codes "too many documents"
refusal_text DocumentFull = codes "document is full"
refusal_text TooManyClients = codes "too many clients"

-- a connect is refused
abbrev pub refused : ConnectRefusal → Reply
refused refusal = ConnectError (refusal_code refusal) (refusal_text refusal)

-- a nack of the front, which is about no entry: it has no operation, and -1 as its number
abbrev pub front_nack : NackRule → Nack
front_nack rule = record { rule = rule; operation = None; minimum = negsuc 0 }
