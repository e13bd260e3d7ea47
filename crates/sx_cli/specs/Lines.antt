-- How long lines are.
use Rattle.std.specs.Prelude.{ℕ}
use Rattle.sx_spec.specs.Keys.{standard_limits}

-- how many bytes a line of input has at most, and a line of the values file
abbrev pub longest_line : ℕ
longest_line = standard_limits.max_line
