use Rattle.sx_fields.proofs.tests.word.Given as goal

abbrev pub ghosts-read_word : goal.ghosts-read_word
ghosts-read_word g a = record { name = a.blank.name; parts = a.blank.parts }
