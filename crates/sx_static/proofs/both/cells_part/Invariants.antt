use Rattle.sx_static.proofs.both.cells_part.Given as goal

abbrev pub ghosts-part_counted : goal.ghosts-part_counted
ghosts-part_counted a = record { name = a.blank.name; parts = a.blank.parts }
