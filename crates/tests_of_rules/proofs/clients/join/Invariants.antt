use Rattle.tests_of_rules.proofs.clients.join.Given as goal

abbrev pub ghosts-take_in : goal.ghosts-take_in
ghosts-take_in g a = record { name = a.blank.name; parts = a.blank.parts }
