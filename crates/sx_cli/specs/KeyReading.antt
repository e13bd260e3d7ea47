-- What reading the key lines of input comes to.
use Rattle.std.specs.Prelude.{◌≡◌, ⊤, ℕ, Bool, true, false, List, Option, Some, None, Result, Err}
use Rattle.sx_spec.specs.declared.Limits.{Limits}
use Rattle.sx_spec.specs.Causes.{Rose}
use Rattle.sx_spec.specs.Command.{Text}
use Rattle.sx_spec.specs.Keys.{refusal, AreKeys, standard_limits}
use Rattle.sx_bits.specs.KeyLists.{Keys, reason_of as reason_of_fault}
use Rattle.sx_bits.specs.declared.fault.KeyFault.{KeyFault}
use Rattle.sx_cli.specs.declared.keys.KeysStop.{KeysStop}
use Rattle.sx_cli.specs.declared.keys.KeysStop.TheVariants.{Refused, Failed, Memory}
use Rattle.sx_cli.specs.Building.{RefusesLine}
use Rattle.sx_text.specs.Reasons.{reason_of, fault_of}
use Rattle.sx_cli.specs.Progress.{ReadsAll, FailsBehind}
use Rattle.sx_cli.specs.Lines.{longest_line}

-- whether no key list was read since input has failed
abbrev pub keys_failed : {T : Type 0} → Result T KeysStop → Bool
keys_failed (Err Failed) = true
keys_failed _ = false

-- the keys are the lines of input, all of them
pub record ReadsKeys (old new : Option (List ℕ)) (keys : Keys) : Type 0 where
  pub limits : keys.limits ≡ standard_limits
  pub all : ReadsAll old new keys.lines
  pub valid : AreKeys standard_limits keys.lines

-- input failed behind lines that are keys
pub record FailsKeys (old new : Option (List ℕ)) (before after : ℕ) : Type 0 where
  pub keys : List Text
  pub behind : FailsBehind old new longest_line keys
  pub valid : AreKeys standard_limits keys
  pub cause : Rose before after

-- why reading stopped
abbrev pub StopsKeys : Option (List ℕ) → Option (List ℕ) → ℕ → ℕ → KeysStop → Type 0
StopsKeys old new before after (Refused line reason) = RefusesLine old new (fault_of line reason)
StopsKeys old new before after Failed = FailsKeys old new before after
StopsKeys old new before after Memory = ⊤

-- what a key list's refusal comes to
abbrev pub StopsFault : ℕ → KeyFault → KeysStop → Type 0
StopsFault number fault (Refused at reason) = (at ≡ number) × (reason_of_fault fault ≡ Some (reason_of reason))
StopsFault number fault Failed = ⊥
StopsFault number fault Memory = reason_of_fault fault ≡ None

-- why a line was not put behind the keys
abbrev pub StopsPush : Limits → List Text → Text → ℕ → KeysStop → Type 0
StopsPush limits keys line number (Refused at reason) = (at ≡ number) × (refusal limits keys line ≡ Some (reason_of reason))
StopsPush limits keys line number Failed = ⊥
StopsPush limits keys line number Memory = ⊤
