-- Values of the protocol may cross threads.
use denote.Param.Send.{IsSend, sendable}
use Rattle.std.proofs.Crossing.{crosses}
use Rattle.std.proofs.MapsCrossing as maps
use Rattle.fluid_json.proofs.value.Json.TheLaws.TheKnot as knot
use Rattle.fluid_json.specs.contracts.owned.Text as Text
use Rattle.fluid_json.specs.contracts.value.Json as Json
use Rattle.fluid_types.specs.contracts.names.DocName as DocName
use Rattle.fluid_types.specs.contracts.names.ClientId as ClientId
use Rattle.fluid_types.specs.contracts.messages.Message as Message
use Rattle.fluid_types.specs.contracts.quorum.Accepted as Accepted
use Rattle.fluid_types.specs.contracts.quorum.Member as Member
use Rattle.fluid_types.specs.contracts.quorum.Proposal as Proposal
use Rattle.fluid_quorum.specs.contracts.quorum.Quorum as Quorum
use Rattle.fluid_ticket.specs.contracts.sequencer.Sequencer as Sequencer
use Rattle.fluid_scribe.specs.contracts.scribe.Scribe as Scribe
use Rattle.fluid_core.specs.contracts.entering.Core as Core
use Rattle.fluid_deltas.specs.contracts.pages.Page as Page
use Rattle.fluid_deltas.specs.contracts.pages.Pages as Pages
use Rattle.fluid_deltas.specs.contracts.deltas.Deltas as Deltas

pub text-send : IsSend Text.the_row
text-send = search (crosses, sendable) depth 20 fits 20000

pub json-send : IsSend Json.the_row
json-send = search (crosses, knot.crosses, sendable) depth 60 fits 20000

pub document-send : IsSend DocName.the_row
document-send = search (crosses, sendable) depth 20 fits 20000

pub client-send : IsSend ClientId.the_row
client-send = search (crosses, sendable) depth 20 fits 20000

pub message-send : IsSend Message.the_row
message-send = search (crosses, text-send, json-send, client-send, sendable) depth 60 fits 20000

pub sequencer-send : IsSend Sequencer.the_row
sequencer-send = search (crosses, client-send, sendable) depth 60 fits 20000

pub member-send : IsSend Member.the_row
member-send = search (crosses, client-send, json-send, text-send, sendable) depth 60 fits 20000

pub accepted-send : IsSend Accepted.the_row
accepted-send = search (crosses, json-send, text-send, sendable) depth 60 fits 20000

pub proposal-send : IsSend Proposal.the_row
proposal-send = search (crosses, json-send, text-send, sendable) depth 60 fits 20000

pub quorum-send : IsSend Quorum.the_row
quorum-send = search (crosses, maps.crosses, member-send, accepted-send, proposal-send, sendable) depth 60 fits 20000

pub scribe-send : IsSend Scribe.the_row
scribe-send = search (crosses, quorum-send, message-send, client-send, json-send, text-send, sendable) depth 60 fits 20000

pub core-send : IsSend Core.the_row
core-send = search (crosses, sequencer-send, scribe-send, sendable) depth 60 fits 20000

pub page-send : IsSend Page.the_row
page-send = search (crosses, message-send, sendable) depth 60 fits 20000

pub pages-send : IsSend Pages.the_row
pages-send = search (crosses, page-send, message-send, sendable) depth 60 fits 20000

pub deltas-send : IsSend Deltas.the_row
deltas-send = search (crosses, pages-send, sendable) depth 60 fits 20000
