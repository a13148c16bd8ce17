-- A session over the documents of a service.
use Rattle.std.specs.Prelude.{◌≡◌, ◌<◌, ℕ, Bool, false, Option, Some, None, Result, Ok, Err, refl}
use Rattle.std.specs.Coded.{Coded, code_by, coded×, coded_bool, coded_option}
use Rattle.std.specs.Option.{option_or}
use Rattle.fluid_store.specs.Storing.{Storing}
use Rattle.fluid_lines.specs.Wires.{Wiring}
use Rattle.fluid_voice.specs.declared.states.VoiceState.TheVariants.{Fresh}
use Rattle.fluid_voice.specs.States.{is_used}
use Rattle.fluid_service.specs.Visiting.{Visiting}
use Rattle.fluid_service.specs.Keys.{AKey, Serving}
use Rattle.fluid_service.specs.Codes.{serving_code}
use Rattle.fluid_talk.specs.Talking.{Talking, MayBeServed}
use Rattle.fluid_connection.specs.Knowing.{keyed}
use Rattle.fluid_connection.specs.Talked.{Talked, pass_of, talked_code, talking}
use Rattle.fluid_session.specs.declared.report.Report.{Report}
use Rattle.fluid_session.specs.declared.report.SessionEnd.{SessionEnd}
use Rattle.fluid_session.specs.declared.tally.Tally.{Tally}
use Rattle.fluid_session.specs.contracts.tally.Tally as tallies
use Rattle.fluid_session.specs.Counted.{nothing}
use Rattle.fluid_session.specs.Ends.{most_unread}
use Rattle.fluid_session.specs.Events.{Stand}
use Rattle.fluid_session.specs.Running.{Runs, CyclesOnce}
use Rattle.fluid_session.specs.Outcome.{SessionOutcome}
use Rattle.fluid_session.specs.Whole.{Concludes, Serves}

-- connected to nothing, with a key and perhaps a visit that serves for its document
abbrev pub unconnected : AKey → Option Visiting → Talked
unconnected key visit = record { voice = Fresh; key = key; visit = None; handed = visit }

-- A whole session of such a connection, and what comes back of it: the key, and the visit of the last document that it reached, or else
-- the one that was handed in
pub record Hosts (key : AKey) (visit : Option Visiting) (before now : Storing) (old new : Wiring) (report : Report) (key_back : AKey) (visit_back : Option Visiting) : Type 0 where
  pub left : Talked
  pub serves : Serves (talking (unconnected key visit)) (talking left) before now old new report
  pub outcome : SessionOutcome (talking (unconnected key visit)) serves.account.runs.behind_them (talking left) serves.account.moment report serves.account.runs.events
  pub key_is : key_back ≡ left.key
  pub visit_is : visit_back ≡ option_or left.visit left.handed
  -- the visit is one of the service's documents, where the one was so that was handed in
  pub served : MayBeServed (keyed key) (pass_of visit) → MayBeServed (keyed key) (pass_of visit_back)

-- ---- cycle by cycle

-- a session between two of its cycles: the service to which its key belongs, its connection, what it counted, and whether it is over
pub record Hosting : Type 0 where
  pub service : Serving
  pub talk : Talked
  pub tally : Tally
  pub is_over : Bool

abbrev pub hosting_code : Coded Hosting
hosting_code =
    code_by (Serving × (Talked × (Tally × Bool)))
    (coded× serving_code (coded× talked_code (coded× tallies.the_row.coded coded_bool)))
    (λ h. (h.service, (h.talk, (h.tally, h.is_over))))
    (λ p. record { service = p.0; talk = p.1.0; tally = p.1.1.0; is_over = p.1.1.1 })
    (λ _. refl)

-- one that isn't over may hear a text
abbrev pub MayHear : Hosting → Type 0
MayHear h = h.is_over ≡ false → (is_used h.talk.voice ≡ false) × (h.tally.unread < most_unread)

-- where its connection stands, over this store
abbrev pub standing : Talked → Storing → Stand
standing t store = record { talk = talking t; store = store }

-- the cycle that ended it: why, and behind it one leave was tried, and this is reported
pub record LastCycle (t u : Talked) (before now : Storing) (old new : Wiring) (had has : Tally) (report : Report) : Type 0 where
  pub last : Talking
  pub end : SessionEnd
  pub cycles : CyclesOnce (standing t before) (record { talk = last; store = now }) old new had has (Err end)
  pub concludes : Concludes last (talking u) has end report

-- what one cycle did: the session went on, or this was its last cycle
abbrev pub Cycles : (t u : Talked) (before now : Storing) (old new : Wiring) (had has : Tally) → Option Report → Type 0
Cycles t u before now old new had has None = CyclesOnce (standing t before) (standing u now) old new had has (Ok tt)
Cycles t u before now old new had has (Some report) = LastCycle t u before now old new had has report

-- this is what the cycles so far made of a new session, over a store and a wire that stood so when it began
abbrev pub HasCome : (key : AKey) (visit : Option Visiting) (before now : Storing) (old new : Wiring) → Talked → Tally → Type 0
HasCome key visit before now old new t tally = Runs (standing (unconnected key visit) before) (standing t now) old new nothing tally (Ok tt)

-- with one cycle more: it has come further, or all of it is a whole session
abbrev pub ComesTo : (key : AKey) (visit : Option Visiting) (before now : Storing) (old new : Wiring) → Talked → Tally → Option Report → Type 0
ComesTo key visit before now old new t tally None = HasCome key visit before now old new t tally
ComesTo key visit before now old new t tally (Some report) = Hosts key visit before now old new report t.key (option_or t.visit t.handed)

-- whatever it began with
abbrev pub ComesFurther : (h k : Hosting) (mid now : Storing) (at new : Wiring) → Option Report → Type 0
ComesFurther h k mid now at new result =
    (key : AKey) (visit : Option Visiting) (before : Storing) (old : Wiring) → HasCome key visit before mid old at h.talk h.tally → ComesTo key visit before now old new k.talk k.tally result
