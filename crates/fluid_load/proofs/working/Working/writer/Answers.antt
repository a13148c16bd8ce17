use Rattle.std.proofs.Common.{sym, ap, ◌∙◌}
use Rattle.std.specs.Prelude.{is_some}
use Rattle.fluid_workload.specs.Working.{named}
use Rattle.fluid_load.proofs.Said.{none_of, no_writer_named, is_writer_ok, voice_is}
use Rattle.fluid_load.proofs.working.Working.writer.Goals as goal

pub voice-requires : goal.voice-requires
voice-requires g c = sym c.refusal_as_connection.ensures ∙ none_of _ (sym c.is_some.ensures ∙ c.if-is_some.false)

pub returns-then-is_some : goal.returns-then-is_some
returns-then-is_some g c = rw (← c.self.view_is) (λ w client stands name at.
    no_writer_named w.world client c.self.inside.names.table.values c.args.name name (ap is_some (sym c.refusal_as_connection.ensures) ∙ sym c.is_some.ensures ∙ c.if-is_some.true) (stands.stands.named (named client)))

pub returns : goal.returns
returns g c = rw (← c.self.view_is) (λ w client stands name at.
    is_writer_ok w.world client c.args.name c.args.document.now c.state-state.result.now c.writer_of.result name at
    (voice_is w.world client c.self.inside.names.table.values c.args.name c.voice.result.now name c.voice.ensures (stands.stands.named (named client)) ∙ sym c.state-state.ensures) c.writer_of.ensures)
