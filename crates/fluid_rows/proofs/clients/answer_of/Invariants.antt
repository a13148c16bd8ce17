use Rattle.fluid_rows.proofs.clients.answer_of.Given as goal

abbrev pub ghosts-join : goal.ghosts-join
ghosts-join a = record { name = a.blank.name; parts = a.blank.parts }

abbrev pub ghosts-leave : goal.ghosts-leave
ghosts-leave a = record { name = a.blank.name; parts = a.blank.parts }

abbrev pub ghosts-accept : goal.ghosts-accept
ghosts-accept a = record { name = a.blank.name; parts = a.blank.parts }

abbrev pub ghosts-mark : goal.ghosts-mark
ghosts-mark a = record { name = a.blank.name; parts = a.blank.parts }
