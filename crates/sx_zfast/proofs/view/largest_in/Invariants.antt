use Rattle.sx_zfast.proofs.view.largest_in.Given as goal

abbrev pub ghosts-largest_counted : goal.ghosts-largest_counted
ghosts-largest_counted g a = record { name = a.blank.name; parts = a.blank.parts }
