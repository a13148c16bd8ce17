use Rattle.fluid_containers.proofs.stepping.edit.Given as goal

-- the lane and the store as they are lent
abbrev pub ghosts-edit_lane : goal.ghosts-edit_lane
ghosts-edit_lane g a = record { good = g.good; began = a.lane.now; before = a.objects.now }
