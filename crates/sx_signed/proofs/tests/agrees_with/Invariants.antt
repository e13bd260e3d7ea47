use Rattle.sx_signed.proofs.tests.agrees_with.Given as goal

abbrev pub ghosts-agrees_counted : goal.ghosts-agrees_counted
ghosts-agrees_counted a = record { name = a.blank.name; parts = a.blank.parts }
