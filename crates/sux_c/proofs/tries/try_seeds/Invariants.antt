use Rattle.sux_c.proofs.tries.try_seeds.Given as goal

abbrev pub ghosts-try_under : goal.ghosts-try_under
ghosts-try_under a = record { name = a.blank.name; parts = a.blank.parts }
