-- What comes of an act: the replies, and where the connection stands then.
use Rattle.std.specs.Prelude.{ℕ, ◌+◌, ◌-◌, Bool, true, false, is_some, not, if◌then◌else◌, List, [], ◌∷◌, ◌++◌, Option, Some, None}
use Rattle.std.specs.List.{list_any}
use Rattle.fluid_types.specs.declared.entries.Raw.{Raw}
use Rattle.fluid_types.specs.declared.entries.Raw.TheVariants.{Leave}
use Rattle.fluid_types.specs.declared.nacks.NackRule.TheVariants.{Full}
use Rattle.fluid_types.specs.declared.verdicts.Verdict.{Verdict}
use Rattle.fluid_types.specs.declared.verdicts.Verdict.TheVariants as verdict
use Rattle.fluid_codec.specs.declared.replies.Reply.{Reply}
use Rattle.fluid_codec.specs.declared.replies.Reply.TheVariants.{Connected, Nacked}
use Rattle.fluid_voice.specs.declared.refusals.ConnectRefusal.TheVariants.{AlreadyConnected, DocumentFull, TooManyClients}
use Rattle.fluid_voice.specs.declared.states.VoiceState.{VoiceState}
use Rattle.fluid_voice.specs.declared.states.VoiceState.TheVariants.{Reading, Writing, Used}
use Rattle.fluid_voice.specs.declared.actions.Act.{Act}
use Rattle.fluid_voice.specs.declared.actions.Act.TheVariants as act
use Rattle.fluid_voice.specs.declared.ends.ActEnd.{ActEnd}
use Rattle.fluid_voice.specs.declared.ends.ActEnd.TheVariants.{Joined, Told, Entered, FullNow, TooMany, Given}
use Rattle.fluid_voice.specs.States.{document_name, is_fresh, number_behind}
use Rattle.fluid_voice.specs.Refusals.{refused, front_nack}

-- ---- replies. To an end that its act can't have nothing is said

-- who writes is told the number before that of its join
abbrev pub writer_replies : ActEnd → List Reply
writer_replies (Joined id number) = Connected (number - 1) (Some id) true ∷ []
writer_replies FullNow = refused DocumentFull ∷ []
writer_replies TooMany = refused TooManyClients ∷ []
writer_replies (Given reply) = reply ∷ []
writer_replies end = []

-- who reads is told the last number
abbrev pub reader_replies : ActEnd → List Reply
reader_replies (Told last) = Connected last None false ∷ []
reader_replies (Given reply) = reply ∷ []
reader_replies end = []

-- one that is connected isn't connected again, whenever its connect was heard
abbrev pub connect_replies : VoiceState → Bool → ActEnd → List Reply
connect_replies s write end =
    if is_fresh s then (if write then writer_replies end else reader_replies end) else refused AlreadyConnected ∷ []

-- a nack of the rules is sent to the client at once. What is sequenced comes with the next collection, and of what is
-- dropped or absorbed nobody is told
abbrev pub verdict_replies : Option (List ℕ) → Verdict → List Reply
verdict_replies name (verdict.Nacked nack) = Nacked name nack ∷ []
verdict_replies name (verdict.Sequenced message) = []
verdict_replies name verdict.Dropped = []
verdict_replies name verdict.Absorbed = []

-- an entry that a full document refuses is nacked
abbrev pub entry_replies : Option (List ℕ) → ActEnd → List Reply
entry_replies name (Entered verdict) = verdict_replies name verdict
entry_replies name FullNow = Nacked name (front_nack Full) ∷ []
entry_replies name end = []

-- a nack that was given is sent under the name of the connection's document
abbrev pub addressed : Option (List ℕ) → Reply → Reply
addressed name (Nacked other nack) = Nacked name nack
addressed name reply = reply

-- what a question was given
abbrev pub given_replies : Option (List ℕ) → ActEnd → List Reply
given_replies name (Given reply) = addressed name reply ∷ []
given_replies name end = []

-- the replies to an act that ended so, of a connection that stood there
abbrev pub replies_to : VoiceState → Act → ActEnd → List Reply
replies_to s (act.Say reply) end = reply ∷ []
replies_to s (act.Connect name write scopes detail moment) end = connect_replies s write end
replies_to s (act.Enter raw) end = entry_replies (document_name s) end
replies_to s (act.Deltas from to) end = given_replies (document_name s) end
replies_to s (act.Summary asked) end = given_replies (document_name s) end
replies_to s (act.GetObject id) end = given_replies (document_name s) end
replies_to s (act.PutObject bytes) end = given_replies (document_name s) end

-- ---- states

-- who writes gets its own join first
abbrev pub writer_state : List ℕ → VoiceState → ActEnd → VoiceState
writer_state name s (Joined id number) = Writing name id number
writer_state name s end = s

-- who reads gets what comes behind the last message
abbrev pub reader_state : List ℕ → VoiceState → ActEnd → VoiceState
reader_state name s (Told last) = Reading name (number_behind last)
reader_state name s end = s

abbrev pub connect_state : List ℕ → Bool → VoiceState → ActEnd → VoiceState
connect_state name write s end =
    if is_fresh s then (if write then writer_state name s end else reader_state name s end) else s

-- the verdict of what was entered
abbrev pub entered_verdict : ActEnd → Option Verdict
entered_verdict (Entered verdict) = Some verdict
entered_verdict end = None

-- a leave was entered
abbrev pub has_left : Raw → ActEnd → Bool
has_left (Leave id moment) end = is_some (entered_verdict end)
has_left raw end = false

-- where a connection stands behind an act: a connect and its leave change that
abbrev pub state_after : VoiceState → Act → ActEnd → VoiceState
state_after s (act.Connect name write scopes detail moment) end = connect_state name write s end
state_after s (act.Enter raw) end = if has_left raw end then Used else s
state_after s (act.Say reply) end = s
state_after s (act.Deltas from to) end = s
state_after s (act.Summary asked) end = s
state_after s (act.GetObject id) end = s
state_after s (act.PutObject bytes) end = s

-- ---- acts one after another, each with its end

abbrev pub state_behind : VoiceState → List (Act × ActEnd) → VoiceState
state_behind s [] = s
state_behind s (done ∷ rest) = state_behind (state_after s done.0 done.1) rest

abbrev pub replies_behind : VoiceState → List (Act × ActEnd) → List Reply
replies_behind s [] = []
replies_behind s (done ∷ rest) = replies_to s done.0 done.1 ++ replies_behind (state_after s done.0 done.1) rest

-- ---- what is counted

abbrev pub is_sequenced : Verdict → Bool
is_sequenced (verdict.Sequenced message) = true
is_sequenced v = false

abbrev pub is_dropped : Verdict → Bool
is_dropped verdict.Dropped = true
is_dropped v = false

abbrev pub is_nacked : Verdict → Bool
is_nacked (verdict.Nacked nack) = true
is_nacked v = false

-- 1 where there is such a verdict
abbrev pub one_where : (Verdict → Bool) → Option Verdict → ℕ
one_where kind None = 0
one_where kind (Some v) = if kind v then 1 else 0

-- how many of the entries got such a verdict
abbrev pub count_of : (Verdict → Bool) → List (Act × ActEnd) → ℕ
count_of kind [] = 0
count_of kind (done ∷ rest) = one_where kind (entered_verdict done.1) + count_of kind rest

-- a nack of the front, which carries no operation
abbrev pub is_front_nack : Reply → Bool
is_front_nack (Nacked name nack) = not (is_some nack.operation)
is_front_nack reply = false

-- a text that is answered so counts as one that was not read, however many of the replies are such nacks
abbrev pub has_front_nack : List Reply → Bool
has_front_nack replies = list_any is_front_nack replies
