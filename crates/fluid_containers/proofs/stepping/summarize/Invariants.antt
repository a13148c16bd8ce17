use Rattle.fluid_containers.proofs.stepping.summarize.Given as goal

-- the lane and the store as they are lent
abbrev pub ghosts-summarize_lane : goal.ghosts-summarize_lane
ghosts-summarize_lane g a = record { good = g.good; began = a.lane.now; before = a.objects.now }
