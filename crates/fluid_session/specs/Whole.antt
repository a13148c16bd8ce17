-- A whole session: its run, and the leave behind it.
use Rattle.std.specs.Prelude.{◌≡◌, ◌≤◌, ℕ, false, Result, Ok, Err}
use Rattle.fluid_types.specs.Forms.{largest}
use Rattle.fluid_store.specs.Storing.{Storing}
use Rattle.fluid_lines.specs.Wires.{Wiring}
use Rattle.fluid_voice.specs.States.{is_connected}
use Rattle.fluid_ends.specs.declared.fault.TalkFault.{TalkFault}
use Rattle.fluid_talk.specs.Talking.{Talking, IsSound}
use Rattle.fluid_talk.specs.Leaving.{Leaves}
use Rattle.fluid_session.specs.declared.report.SessionEnd.{SessionEnd}
use Rattle.fluid_session.specs.declared.report.Report.{Report}
use Rattle.fluid_session.specs.declared.tally.Tally.{Tally}
use Rattle.fluid_session.specs.Counted.{nothing}
use Rattle.fluid_session.specs.Ends.{behind_leave}
use Rattle.fluid_session.specs.Events.{Stand}
use Rattle.fluid_session.specs.Running.{Runs}
use Rattle.fluid_session.specs.Outcome.{SessionOutcome}

-- one leave was tried, and its fault may be the end
pub record Ends (t u : Talking) (moment : ℕ) (end last : SessionEnd) : Type 0 where
  pub result : Result (Unit {0}) TalkFault
  pub leaves : Leaves t u moment result
  pub sound : IsSound u
  pub last_is : last ≡ behind_leave end result

-- the report has the numbers that were counted
pub record HasNumbers (report : Report) (tally : Tally) : Type 0 where
  pub sequenced : report.sequenced ≡ tally.sequenced
  pub dropped : report.dropped ≡ tally.dropped
  pub nacked : report.nacked ≡ tally.nacked
  pub absorbed : report.absorbed ≡ tally.absorbed
  pub unread : report.unread ≡ tally.unread

-- behind the last cycle, which ended so: one leave was tried, and this is what is reported
pub record Concludes (m u : Talking) (tally : Tally) (end : SessionEnd) (report : Report) : Type 0 where
  pub moment : ℕ
  pub timely : moment ≤ largest
  pub ends : Ends m u moment end report.end
  pub numbers : HasNumbers report tally

pub record Account (s u : Talking) (before now : Storing) (old new : Wiring) (report : Report) : Type 0 where
  -- where the connection stood, and why the session ended, before the leave
  pub last : Talking
  pub end : SessionEnd
  pub tally : Tally
  pub runs : Runs (record { talk = s; store = before }) (record { talk = last; store = now }) old new nothing tally (Err end)
  pub moment : ℕ
  pub timely : moment ≤ largest
  pub ends : Ends last u moment end report.end
  pub numbers : HasNumbers report tally

-- A whole session.
pub record Serves (s u : Talking) (before now : Storing) (old new : Wiring) (report : Report) : Type 0 where
  -- what happened, event by event, what stopped it, and the leave
  pub account : Account s u before now old new report
  -- what it amounts to, of a connection that isn't connected yet
  pub outcome : is_connected s.voice ≡ false → SessionOutcome s account.runs.behind_them u account.moment report account.runs.events
  -- what holds of every connection holds of this one, the legality of all that it has seen among it
  pub sound : IsSound u

-- ---- cycle by cycle

-- what happened between two moments, and then between the second and a third, happened between the first and the third
abbrev pub CyclesGoOn : Type 0
CyclesGoOn =
    (s m t : Stand) (old mid new : Wiring) (had have has : Tally) (result : Result (Unit {0}) SessionEnd) → Runs s m old mid had have (Ok tt) → Runs m t mid new have has result
    → Runs s t old new had has result

-- cycles from a new count on, the last of which ended it, and what concludes them, are a whole session
abbrev pub CyclesAreSessions : Type 0
CyclesAreSessions =
    (s m u : Talking) (before now : Storing) (old new : Wiring) (tally : Tally) (end : SessionEnd) (report : Report)
    → Runs (record { talk = s; store = before }) (record { talk = m; store = now }) old new nothing tally (Err end) → Concludes m u tally end report → Serves s u before now old new report
