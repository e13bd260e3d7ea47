use Rattle.sx_trial.proofs.tests.compare.Given as goal

abbrev pub ghosts-strangers_under : goal.ghosts-strangers_under
ghosts-strangers_under g a = record { name = a.blank.name; parts = a.blank.parts }
