-- The visit that comes back of a session.
use Rattle.std.proofs.Common.{◌≡◌, ℕ, Bool, true, false, List, Option, Some, None, refl, sym, ap, subst, ◌∙◌}
use Rattle.std.specs.Option.{option_or}
use Rattle.std.proofs.lemmas.Bool.{false≢true}
use Rattle.fluid_service.specs.Visiting.{Visiting}
use Rattle.fluid_service.specs.Keys.{AKey}
use Rattle.fluid_voice.specs.States.{is_connected}
use Rattle.fluid_talk.specs.Talking.{Talking, MayBeServed}
use Rattle.fluid_connection.specs.Knowing.{no_pass, keyed}
use Rattle.fluid_connection.specs.Talked.{Talked, pass_of, talking}
use Rattle.fluid_session.specs.declared.report.Report.{Report}
use Rattle.fluid_session.specs.Events.{Event}
use Rattle.fluid_session.specs.Outcome.{SessionOutcome}
use Rattle.fluid_hosting.specs.Hosting.{unconnected}

none_some : {A : Type 0} (name : List ℕ) → ◌≡◌ {A = Option (List ℕ)} None (Some name) → A
none_some name same = cc

pub visits_served : (key : AKey) (visit : Option Visiting) (m : Talking) (left : Talked) (moment : ℕ) (report : Report) (events : List Event)
    → SessionOutcome (talking (unconnected key visit)) m (talking left) moment report events → MayBeServed (keyed key) (pass_of visit) → MayBeServed (keyed key) (pass_of (option_or left.visit left.handed))
visits_served key visit m left moment report events outcome is = by left.visit refl
  where
    none : MayBeServed (keyed key) no_pass
    none = λ named. absurd (false≢true named)

    apart : left.visit ≡ None → (b : Bool) → is_connected m.voice ≡ b → MayBeServed (keyed key) (pass_of left.handed)
    apart gone true joined = let j = outcome.joins joined in none_some j.name (sym (ap (λ o. (pass_of o).name) gone) ∙ j.named)
    apart gone false still = subst (MayBeServed (keyed key)) (sym (outcome.apart still).handed) is

    by : (o : Option Visiting) → left.visit ≡ o → MayBeServed (keyed key) (pass_of (option_or o left.handed))
    by None gone = apart gone (is_connected m.voice) refl
    by (Some v) same = subst (λ o. MayBeServed (keyed key) (pass_of o)) same (outcome.served none is)
