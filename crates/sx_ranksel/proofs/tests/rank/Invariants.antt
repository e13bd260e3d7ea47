use Rattle.sx_ranksel.proofs.tests.rank.Given as goal

abbrev pub ghosts-counted_rank : goal.ghosts-counted_rank
ghosts-counted_rank g a = record { name = a.blank.name; parts = a.blank.parts }
