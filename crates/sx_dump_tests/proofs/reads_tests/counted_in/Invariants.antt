use Rattle.sx_dump_tests.proofs.reads_tests.counted_in.Given as goal

abbrev pub ghosts-reply_under : goal.ghosts-reply_under
ghosts-reply_under a = record { name = a.blank.name; parts = a.blank.parts }
