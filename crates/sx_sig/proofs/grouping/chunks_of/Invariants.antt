use Rattle.std.proofs.Common.{◌≡◌, ◌^◌, ◌<◌, map, take, All}
use Rattle.std.specs.List.{range_with_len}
use Rattle.sx_spec.specs.Chunks.{chunk_of}
use Rattle.sx_sig.specs.Grouping.{chunk_numbers}
use Rattle.sx_sig.proofs.grouping.chunks_of.Given as goal

abbrev pub invariant-loop-number : goal.invariant-loop-number
invariant-loop-number l = record {
  lists : map (λ u. u.items) l.chunks.items ≡ map (chunk_numbers l.c (take l.number l.sigs)) (range_with_len 0 (2 ^ l.c));
  within : All (λ sig. chunk_of sig l.c < 2 ^ l.c) (take l.number l.sigs);
}
