use Rattle.sux_c.proofs.answer.ask.Given as goal

abbrev pub ghosts-ask_under : goal.ghosts-ask_under
ghosts-ask_under a = record { name = a.blank.name; parts = a.blank.parts }
