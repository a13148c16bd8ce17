use Rattle.fluid_containers.proofs.stepping.pump.Given as goal

-- the lane and the store as they are lent
abbrev pub ghosts-pump_lane : goal.ghosts-pump_lane
ghosts-pump_lane g a = record { good = g.good; began = a.lane.now; before = a.objects.now }
