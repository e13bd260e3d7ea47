use Rattle.std.proofs.Common.{◌≡◌, ℕ, ◌*◌, ◌<◌, ◌≤◌, length, get_or}
use Rattle.sx_spec.specs.Fields.{words_for}
use Rattle.sx_ranksel.specs.Directory.{number_at, rank_of}
use Rattle.sx_ranksel.specs.Groups.{IsGroup}
use Rattle.sx_ranksel.proofs.groups.groups_of.Given as goal

abbrev pub invariant-loop-group : goal.invariant-loop-group
invariant-loop-group g l =
    let x = number_at l.first (g.B.WordBank.words_of l.bank) in
    record {
      size : length l.words.items ≡ l.group;
      groups : (j : ℕ) → j < l.group → IsGroup l.bits x j (get_or l.words.items j 0) l.places.items;
      few : length l.places.items ≤ 64 * l.group;
      below : l.below ≡ rank_of (64 * l.word) x;
      low : l.below ≤ 64 * l.group;
      order : l.word ≤ words_for l.bits;
    }
