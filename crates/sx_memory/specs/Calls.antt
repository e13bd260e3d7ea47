-- The calls of an object in memory, counted from 1, some of which fail.
use Rattle.std.specs.Prelude.{ℕ, ◌+◌, ◌-◌, ◌^◌, min, Bool, ◌==◌, if◌then◌else◌}
use Rattle.std.specs.List.{list_any}
use Rattle.sx_memory.specs.declared.calls.Calls.{Calls}

-- a count goes up by one, to at most 2 ^ 64 - 1
abbrev pub counted : ℕ → ℕ
counted n = min (n + 1) (2 ^ 64 - 1)

-- whether the next call is one of those that are to fail
abbrev pub is_due : Calls → Bool
is_due calls = list_any (λ n. n == counted calls.made) calls.fails.items

-- one more fault
abbrev pub failed_more : Calls → Calls
failed_more calls = record calls { faults = counted calls.faults }

-- one more call, which fails where it is to fail
abbrev pub called : Calls → Calls
called calls = record calls { made = counted calls.made; faults = if is_due calls then counted calls.faults else calls.faults }

-- one more call, which fails, whether it was to fail or not
abbrev pub refused : Calls → Calls
refused calls = record calls { made = counted calls.made; faults = counted calls.faults }
