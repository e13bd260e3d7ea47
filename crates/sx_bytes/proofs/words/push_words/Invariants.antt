use Rattle.std.proofs.Common.{◌≡◌, ◌++◌, ◌^◌, ◌<◌, All}
use Rattle.sx_bytes.proofs.WordPieces.{words_from}
use Rattle.sx_bytes.proofs.words.push_words.Given as goal

abbrev pub invariant-loop-i : goal.invariant-loop-i
invariant-loop-i l = record {
  words : l.words.items ≡ l.initial.words.items ++ words_from l.bytes l.i;
  small : All (λ w. w < 2 ^ 64) l.initial.words.items → All (λ w. w < 2 ^ 64) l.words.items;
}
