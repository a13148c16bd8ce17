use Rattle.fluid_containers.proofs.stepping.beat.Given as goal

-- the lane and the store as they are lent
abbrev pub ghosts-beat_lane : goal.ghosts-beat_lane
ghosts-beat_lane g a = record { good = g.good; began = a.lane.now; before = a.objects.now }
