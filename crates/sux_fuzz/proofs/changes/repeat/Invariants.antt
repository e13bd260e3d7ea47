-- No word goes while some are repeated.
use Rattle.std.proofs.Common.{◌≤◌, vec_len}
use Rattle.sux_fuzz.proofs.changes.repeat.Given as goal

abbrev pub invariant-repeated : goal.invariant-repeated
invariant-repeated l = vec_len l.initial.words ≤ vec_len l.words
