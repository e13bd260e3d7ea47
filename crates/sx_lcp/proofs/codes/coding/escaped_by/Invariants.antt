use Rattle.std.proofs.Common.{◌≡◌, ◌++◌, drop}
use Rattle.sx_lcp.specs.Rankings.{numbers_from}
use Rattle.sx_lcp.proofs.codes.coding.escaped_by.Given as goal

abbrev pub invariant-loop-number : goal.invariant-loop-number
invariant-loop-number l =
    l.escaped.items ++ numbers_from l.last l.number (drop l.number l.codes)
    ≡ numbers_from l.last 0 l.codes
