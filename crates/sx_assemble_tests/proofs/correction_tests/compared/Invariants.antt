use Rattle.sx_assemble_tests.proofs.correction_tests.compared.Given as goal

abbrev pub ghosts-compared_under : goal.ghosts-compared_under
ghosts-compared_under g a = record { name = a.blank.name; parts = a.blank.parts }
