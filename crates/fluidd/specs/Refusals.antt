-- Why the text of a line is refused, in words.
use Rattle.std.specs.Prelude.{ℕ, List, codes}
use Rattle.fluid_types.specs.Texts.{fault_text}
use Rattle.fluidd.specs.declared.refusal.Why.{Why}
use Rattle.fluidd.specs.declared.refusal.Why.TheVariants.{Unreadable, DocumentFull, TooManyClients}

unfoldable pub why_text : Why → List ℕ
why_text (Unreadable fault) = fault_text fault
why_text DocumentFull = codes "document is full"
why_text TooManyClients = codes "too many clients"
