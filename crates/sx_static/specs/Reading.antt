-- Functions that are read from words, as they answer strings.
use Rattle.std.specs.Prelude.{ℕ}
use Rattle.sx_fields.specs.declared.bank.WordBank.{Ghosts}
use Rattle.sx_spec_strings.specs.Bits.{Bits}
use Rattle.sx_spec.specs.Signature.{signature}
use Rattle.sx_spec.specs.StaticFunction.{Function, value_of}
use Rattle.sx_static.specs.declared.view.FuncView.{FuncView}
use Rattle.sx_static.specs.Viewing.{viewed}

-- the function that is read
abbrev pub function_read : {B : Type 0} {bank_of : Ghosts B} (v : FuncView B bank_of) → Function
function_read {bank_of = bank_of} v = viewed (bank_of.words_of v.bank) v.first v.width v.pairs

-- what it answers a string under a seed, with so many bits of its signature
abbrev pub answers_by : {B : Type 0} {bank_of : Ghosts B} (v : FuncView B bank_of) (seed sig_bits : ℕ) → Bits → ℕ
answers_by v seed sig_bits x = value_of (function_read v) (signature seed sig_bits x)
