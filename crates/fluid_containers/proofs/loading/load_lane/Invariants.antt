use Rattle.fluid_containers.proofs.loading.load_lane.Given as goal

-- the lane and the store as they are lent
abbrev pub ghosts-load_as : goal.ghosts-load_as
ghosts-load_as g a = record { good = g.good; began = a.lane.now; before = a.objects.now }
