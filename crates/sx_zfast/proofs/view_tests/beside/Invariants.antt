use Rattle.sx_zfast.proofs.view_tests.beside.Given as goal

abbrev pub ghosts-beside_counted : goal.ghosts-beside_counted
ghosts-beside_counted a = record { name = a.blank.name; parts = a.blank.parts }
