use Rattle.sx_lcp.proofs.views_tests.lcp2_reply.Given as goal

abbrev pub ghosts-lcp2_counted : goal.ghosts-lcp2_counted
ghosts-lcp2_counted a = record { name = a.blank.name; parts = a.blank.parts }
