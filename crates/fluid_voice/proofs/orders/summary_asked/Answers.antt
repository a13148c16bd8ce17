use Rattle.std.proofs.Common.{◌≡◌, ◌∙◌, List, ap}
use Rattle.fluid_types.specs.declared.messages.Message.{Message}
use Rattle.fluid_tree.specs.declared.id.SummaryRef.{SummaryRef}
use Rattle.fluid_rules.specs.Scribe.{acks}
use Rattle.fluid_codec.specs.declared.events.Asked.{Asked}
use Rattle.fluid_codec.specs.declared.events.Asked.TheVariants.{Latest, Handle}
use Rattle.fluid_voice.specs.Ends.{summary_asked, summary_among}
use Rattle.fluid_voice.proofs.orders.summary_asked.Goals as goal

among : (list : List SummaryRef) (messages : List Message) (asked : Asked) → list ≡ acks messages → summary_among list asked ≡ summary_asked messages asked
among list messages Latest same = ap (λ (l : List SummaryRef). summary_among l Latest) same
among list messages (Handle handle) same = ap (λ (l : List SummaryRef). summary_among l (Handle handle)) same

pub returns : goal.returns
returns c = record { among = c.summary_among.ensures; order = λ messages same. c.summary_among.ensures ∙ among _ messages _ same }
