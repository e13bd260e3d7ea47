use Rattle.sx_zfast.proofs.view_tests.block.Given as goal

abbrev pub ghosts-block_counted : goal.ghosts-block_counted
ghosts-block_counted a = record { name = a.blank.name; parts = a.blank.parts }
