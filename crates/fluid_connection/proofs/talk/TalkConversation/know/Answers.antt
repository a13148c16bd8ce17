use Rattle.std.proofs.Common.{subst}
use Rattle.fluid_talk.specs.Talking.{IsSound}
use Rattle.fluid_connection.specs.Talked.{Talked, talking}
use Rattle.fluid_connection.proofs.Standing.{sound}
use Rattle.fluid_connection.proofs.talk.TalkConversation.know.Goals as goal

pub returns : goal.returns
returns g c =
    let t : Talked = record { voice = c.self.inside.voice; key = c.self.inside.key; visit = c.self.inside.visit; handed = c.self.inside.handed } in
    subst (λ (s : Talked). IsSound (talking s)) c.self.view_is (sound t c.self.invariant.0 c.know_visit.ensures.own c.know_visit.ensures.legal c.know_key.ensures.own c.know_key.ensures.few)
