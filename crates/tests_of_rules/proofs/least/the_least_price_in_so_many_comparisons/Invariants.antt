use Rattle.tests_of_rules.proofs.least.the_least_price_in_so_many_comparisons.Given as goal

abbrev pub ghosts-take : goal.ghosts-take
ghosts-take g a = record { name = a.blank.name; parts = a.blank.parts }
