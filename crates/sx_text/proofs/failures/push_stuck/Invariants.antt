use Rattle.std.proofs.Common.{◌≡◌, ◌++◌}
use Rattle.std.specs.Prelude.{take}
use Rattle.sx_text.specs.FailureTexts.{tries_text}
use Rattle.sx_text.proofs.failures.push_stuck.Given as goal

abbrev pub invariant-tries : goal.invariant-tries
invariant-tries l = l.text.items ≡ l.initial.text.items ++ tries_text l.seed l.part l.chunk l.word 0 (take l.attempt l.witnesses)
