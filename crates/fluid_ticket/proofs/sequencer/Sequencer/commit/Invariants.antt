use Rattle.fluid_ticket.proofs.sequencer.Sequencer.commit.Given as goal

abbrev pub ghosts-apply : goal.ghosts-apply
ghosts-apply a = record { name = a.blank.name; parts = a.blank.parts }
