use Rattle.sx_ranksel.proofs.tests.pair.Given as goal

abbrev pub ghosts-counted_pair : goal.ghosts-counted_pair
ghosts-counted_pair g a = record { name = a.blank.name; parts = a.blank.parts }
