use Rattle.sx_trial.proofs.tests.check.Given as goal

abbrev pub ghosts-tried_under : goal.ghosts-tried_under
ghosts-tried_under g a = record { name = a.blank.name; parts = a.blank.parts }
