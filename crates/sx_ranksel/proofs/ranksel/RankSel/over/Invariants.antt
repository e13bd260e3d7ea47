use Rattle.sx_ranksel.proofs.ranksel.RankSel.over.Given as goal

abbrev pub ghosts-over_counted : goal.ghosts-over_counted
ghosts-over_counted g a = record { name = a.blank.name; parts = a.blank.parts }
