use Rattle.fluid_clients.proofs.table.Clients.put_down.Given as goal

abbrev pub ghosts-put_each_down : goal.ghosts-put_each_down
ghosts-put_each_down a = record { name = a.blank.name; parts = a.blank.parts }
