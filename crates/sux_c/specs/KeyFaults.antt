-- The keys of a build, and the first that breaks a rule.
use Rattle.std.specs.Prelude.{◌≡◌, ⊤, ℕ, ◌+◌, List, length, map, Option, Some}
use Rattle.std.specs.Borrow.{Bor}
use Rattle.sx_spec.specs.Keys.{Reason, too_long, zero_byte, doubled, unordered, too_many_keys, too_many_bytes, refusal, first_key_fault, standard_limits}
use Rattle.sux_c.specs.declared.keys.KeyStop.{KeyStop}
use Rattle.sux_c.specs.declared.keys.KeyStop.TheVariants.{Refused, Memory}

-- the bytes of each line
abbrev pub lines_of : List (Bor (List ℕ)) → List (List ℕ)
lines_of lines = map (λ l. l.now) lines

-- the number of a rule
abbrev pub rule_number : Reason → ℕ
rule_number too_long = 1
rule_number zero_byte = 2
rule_number doubled = 3
rule_number unordered = 4
rule_number too_many_keys = 5
rule_number too_many_bytes = 6

-- the key of this number, counted from 0, is the first that breaks a rule, and this is the first rule that it breaks
pub record IsFirstFault (lines : List (List ℕ)) (number rule : ℕ) : Type 0 where
  pub reason : Reason
  pub first : first_key_fault standard_limits lines ≡ Some (record { line = number + 1; reason = reason })
  pub rule_is : rule ≡ rule_number reason

-- why the line isn't put behind the keys
pub record Refuses (keys : List (List ℕ)) (line : List ℕ) (number rule : ℕ) : Type 0 where
  pub reason : Reason
  pub refused : refusal standard_limits keys line ≡ Some reason
  pub number_is : number ≡ length keys
  pub rule_is : rule ≡ rule_number reason

abbrev pub StopsAt : List (List ℕ) → List ℕ → KeyStop → Type 0
StopsAt keys line (Refused number rule) = Refuses keys line number rule
StopsAt keys line Memory = ⊤

-- why there is no list of the keys
abbrev pub IsKeyStop : List (List ℕ) → KeyStop → Type 0
IsKeyStop lines (Refused number rule) = IsFirstFault lines number rule
IsKeyStop lines Memory = ⊤
