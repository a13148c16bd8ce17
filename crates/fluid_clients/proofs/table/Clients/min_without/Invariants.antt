use Rattle.fluid_clients.proofs.table.Clients.min_without.Given as goal

abbrev pub ghosts-least_of_others : goal.ghosts-least_of_others
ghosts-least_of_others a = record { name = a.blank.name; parts = a.blank.parts }
