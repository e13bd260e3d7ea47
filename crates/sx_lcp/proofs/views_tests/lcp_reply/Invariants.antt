use Rattle.sx_lcp.proofs.views_tests.lcp_reply.Given as goal

abbrev pub ghosts-lcp_counted : goal.ghosts-lcp_counted
ghosts-lcp_counted a = record { name = a.blank.name; parts = a.blank.parts }
