use Rattle.sx_ranksel.proofs.tests.select.Given as goal

abbrev pub ghosts-counted_select : goal.ghosts-counted_select
ghosts-counted_select g a = record { name = a.blank.name; parts = a.blank.parts }
