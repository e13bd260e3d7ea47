use Rattle.sux_fuzz.proofs.run.Given as goal

abbrev pub ghosts-tallied : goal.ghosts-tallied
ghosts-tallied a = record { name = a.blank.name; parts = a.blank.parts }
