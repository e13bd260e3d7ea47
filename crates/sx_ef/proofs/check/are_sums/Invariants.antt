use Rattle.sx_ef.proofs.check.are_sums.Given as goal

abbrev pub ghosts-are_sums_counted : goal.ghosts-are_sums_counted
ghosts-are_sums_counted g a = record { name = a.blank.name; parts = a.blank.parts }
