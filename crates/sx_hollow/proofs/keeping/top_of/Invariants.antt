use Rattle.sx_hollow.proofs.keeping.top_of.Given as goal

abbrev pub ghosts-top_counted : goal.ghosts-top_counted
ghosts-top_counted g a = record { name = a.blank.name; parts = a.blank.parts }
