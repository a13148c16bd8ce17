-- The words of faults and nacks: each kind of refusal has one code and one name, each rule one text.
use Rattle.std.specs.Prelude.{ℕ, List, ◌++◌, codes}
use Rattle.fluid_types.specs.declared.fault.Field.{Field}
use Rattle.fluid_types.specs.declared.fault.Field.TheVariants as field
use Rattle.fluid_types.specs.declared.fault.What.{What}
use Rattle.fluid_types.specs.declared.fault.What.TheVariants.{Missing, NotText, NotWhole, NotList, NotObject, NotTruth, OutOfRange, NotAllowed, BadName}
use Rattle.fluid_types.specs.declared.fault.CodecFault.{CodecFault}
use Rattle.fluid_types.specs.declared.fault.CodecFault.TheVariants as fault
use Rattle.fluid_types.specs.declared.nacks.NackKind.{NackKind}
use Rattle.fluid_types.specs.declared.nacks.NackKind.TheVariants.{BadRequest, InvalidScope, LimitExceeded}
use Rattle.fluid_types.specs.declared.nacks.NackRule.{NackRule}
use Rattle.fluid_types.specs.declared.nacks.NackRule.TheVariants.{Gap, Nonexistent, Below, Ahead, Scope, Unread, NotConnected, ForeignClient, ReadOnly, Full}

-- the name of a member or an argument
unfoldable pub name_of : Field → List ℕ
name_of field.Absorbed = codes "absorbed"
name_of field.ApprovalSequenceNumber = codes "approvalSequenceNumber"
name_of field.CheckpointSequenceNumber = codes "checkpointSequenceNumber"
name_of field.Client = codes "client"
name_of field.ClientId = codes "clientId"
name_of field.ClientSequenceNumber = codes "clientSequenceNumber"
name_of field.Code = codes "code"
name_of field.Connect = codes "connect"
name_of field.Content = codes "content"
name_of field.Contents = codes "contents"
name_of field.Data = codes "data"
name_of field.Detail = codes "detail"
name_of field.Dropped = codes "dropped"
name_of field.Found = codes "found"
name_of field.From = codes "from"
name_of field.Handle = codes "handle"
name_of field.Head = codes "head"
name_of field.Id = codes "id"
name_of field.Key = codes "key"
name_of field.MaxMessageSize = codes "maxMessageSize"
name_of field.Message = codes "message"
name_of field.Messages = codes "messages"
name_of field.Metadata = codes "metadata"
name_of field.MinimumSequenceNumber = codes "minimumSequenceNumber"
name_of field.Mode = codes "mode"
name_of field.Moment = codes "moment"
name_of field.Nacked = codes "nacked"
name_of field.Object = codes "object"
name_of field.Operation = codes "operation"
name_of field.Pick = codes "pick"
name_of field.Raw = codes "raw"
name_of field.ReferenceSequenceNumber = codes "referenceSequenceNumber"
name_of field.Scopes = codes "scopes"
name_of field.SequenceNumber = codes "sequenceNumber"
name_of field.Sequenced = codes "sequenced"
name_of field.Summary = codes "summary"
name_of field.SummaryProposal = codes "summaryProposal"
name_of field.SummarySequenceNumber = codes "summarySequenceNumber"
name_of field.Timestamp = codes "timestamp"
name_of field.To = codes "to"
name_of field.«Type» = codes "type"
name_of field.Value = codes "value"
name_of field.Version = codes "version"

-- what is wrong with a member
unfoldable pub words_of : What → List ℕ
words_of Missing = codes "missing"
words_of NotText = codes "not a text"
words_of NotWhole = codes "not a whole number"
words_of NotList = codes "not a list"
words_of NotObject = codes "not an object"
words_of NotTruth = codes "not a truth value"
words_of OutOfRange = codes "out of range"
words_of NotAllowed = codes "not allowed"
words_of BadName = codes "bad name"

-- the text of a fault
unfoldable pub fault_text : CodecFault → List ℕ
fault_text fault.NotJson = codes "not JSON"
fault_text fault.NotWhole = codes "a number is not whole"
fault_text fault.TooDeep = codes "nested too deep"
fault_text fault.UnknownEvent = codes "unknown event"
fault_text (fault.BadField f w) = codes "bad field " ++ (name_of f ++ (codes ": " ++ words_of w))
fault_text fault.NoMemory = codes "out of memory"

-- which kind of refusal a rule is
unfoldable pub kind_of : NackRule → NackKind
kind_of Gap = BadRequest
kind_of Nonexistent = BadRequest
kind_of Below = BadRequest
kind_of Ahead = BadRequest
kind_of Scope = InvalidScope
kind_of (Unread fault) = BadRequest
kind_of NotConnected = BadRequest
kind_of ForeignClient = BadRequest
kind_of ReadOnly = InvalidScope
kind_of Full = LimitExceeded

-- the code of a kind, as in HTTP
unfoldable pub code_of : NackKind → ℕ
code_of BadRequest = 400
code_of InvalidScope = 403
code_of LimitExceeded = 429

-- the name of a kind
unfoldable pub kind_name : NackKind → List ℕ
kind_name BadRequest = codes "BadRequestError"
kind_name InvalidScope = codes "InvalidScopeError"
kind_name LimitExceeded = codes "LimitExceededError"

-- the text of a rule
unfoldable pub rule_text : NackRule → List ℕ
rule_text Gap = codes "Gap in client sequence numbers"
rule_text Nonexistent = codes "Nonexistent client"
rule_text Below = codes "Reference below the minimum"
rule_text Ahead = codes "Reference ahead of the order"
rule_text Scope = codes "summary:write is missing"
rule_text (Unread fault) = codes "bad event: " ++ fault_text fault
rule_text NotConnected = codes "not connected"
rule_text ForeignClient = codes "foreign client"
rule_text ReadOnly = codes "read only connection"
rule_text Full = codes "document is full"
