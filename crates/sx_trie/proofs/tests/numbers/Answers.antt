use Rattle.std.proofs.Common.{◌≡◌, ℕ, ◌+◌, List, length, ap, arith}
use Rattle.std.specs.List.{range_with_len}
use Rattle.std.proofs.lemmas.List.FromFn.{length-range_with_len, get_or-range_with_len}
use Rattle.sx_spec_strings.proofs.Lists.{below_more}
use Rattle.sx_trie.specs.Tries.{AreRising}
use Rattle.sx_trie.proofs.tests.numbers.Goals as goal

all_rise : (lines : List (List ℕ)) (n : ℕ) → n ≡ length lines → AreRising lines (range_with_len 0 n)
all_rise lines n all =
    let many = length-range_with_len 0 n in
    record {
      inside = λ i lt. let here = get_or-range_with_len 0 n i 0 (omega arith) in omega arith;
      rising = λ i lt.
          let here = get_or-range_with_len 0 n i 0 (omega arith) in
          let next = get_or-range_with_len 0 n (i + 1) 0 (omega arith) in
          omega arith;
    }

pub loop-number-preserved : goal.loop-number-preserved
loop-number-preserved c = let e = below_more c.loop-number.number in cc (c.in_ok-push.ensures.items)

pub returns-clause-some : goal.returns-clause-some
returns-clause-some c =
    let e = c.loop-number.invariant in
    let many = length-range_with_len 0 c.loop-number.number in
    let size = ap (λ xs. length xs) e in
    let all = c.len-number-end.ensures.value in
    omega arith

pub returns-clause-rising : goal.returns-clause-rising
returns-clause-rising c =
    let rising = all_rise c.args.keys.now.lines c.loop-number.number (omega arith) in
    rw c.loop-number.invariant rising
