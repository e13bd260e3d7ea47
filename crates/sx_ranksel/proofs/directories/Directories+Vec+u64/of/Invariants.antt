use Rattle.sx_ranksel.proofs.directories.Directories+Vec+u64.of.Given as goal

abbrev pub ghosts-made_counted : goal.ghosts-made_counted
ghosts-made_counted g a = record { name = a.blank.name; parts = a.blank.parts }
