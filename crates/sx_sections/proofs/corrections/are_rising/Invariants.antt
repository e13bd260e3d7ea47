use Rattle.std.proofs.Common.{◌≡◌, ◌-◌, map}
use Rattle.std.specs.List.{range_with_len}
use Rattle.sx_sig.specs.SignatureWords.{rises, signature_at, signatures_at}
use Rattle.sx_sections.proofs.corrections.are_rising.Given as goal

abbrev pub invariant-loop-i : goal.invariant-loop-i
invariant-loop-i l =
    rises (signatures_at l.words l.body l.count)
    ≡ rises (map (signature_at l.words l.body) (range_with_len (l.i - 1) (l.count - (l.i - 1))))
