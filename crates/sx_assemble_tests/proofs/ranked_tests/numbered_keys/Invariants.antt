use Rattle.sx_assemble_tests.proofs.ranked_tests.numbered_keys.Given as goal

abbrev pub ghosts-assembled_under : goal.ghosts-assembled_under
ghosts-assembled_under g a = record { name = a.blank.name; parts = a.blank.parts }
