use Rattle.sx_ef.proofs.check.starts_at_zero.Given as goal

abbrev pub ghosts-starts_counted : goal.ghosts-starts_counted
ghosts-starts_counted g a = record { name = a.blank.name; parts = a.blank.parts }
