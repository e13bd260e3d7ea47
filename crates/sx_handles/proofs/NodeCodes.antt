-- The block from a node and a code.
use Rattle.std.proofs.Common.{◌≡◌, ℕ, zero, suc, ◌<◌, ◌≤◌, length, Some, None, refl, ap, arith}
use Rattle.std.proofs.lemmas.Bool.{le-leb, lt-leb}
use Rattle.sx_spec_strings.specs.Bits.{Bits, bit_at}
use Rattle.sx_spec_kinds.specs.Trie.{Node}
use Rattle.sx_spec_kinds.specs.Zfast.{block_from, child_after, child_first}

module _ (v : Node) (x : Bits) where
  pub first_leaf : (code : ℕ) → code ≡ 0 → Some v.first ≡ block_from v code x
  unfolding block_from
  first_leaf code is = rw is refl

  pub after_last : (code : ℕ) → code ≡ 1 → Some v.after ≡ block_from v code x
  unfolding block_from
  after_last code is = rw is refl

  pub child_begins : (code n : ℕ) → code ≡ 2 → v.extent < length x → n ≡ child_first v (bit_at x v.extent) → Some n ≡ block_from v code x
  unfolding block_from
  child_begins code n is longer leaf = rw (is, lt-leb (length x) v.extent longer) (ap Some leaf)

  pub child_ends : (code n : ℕ) → code ≡ 3 → v.extent < length x → n ≡ child_after v (bit_at x v.extent) → Some n ≡ block_from v code x
  unfolding block_from
  child_ends code n is longer leaf = rw (is, lt-leb (length x) v.extent longer) (ap Some leaf)

  pub no_child : (code : ℕ) → 1 < code → length x ≤ v.extent → None ≡ block_from v code x
  unfolding block_from
  no_child zero above short = absurd (omega arith)
  no_child (suc zero) above short = absurd (omega arith)
  no_child (suc (suc zero)) above short = rw (le-leb (length x) v.extent short) refl
  no_child (suc (suc (suc zero))) above short = rw (le-leb (length x) v.extent short) refl
  no_child (suc (suc (suc (suc code)))) above short = refl

  pub no_code : (code : ℕ) → 3 < code → None ≡ block_from v code x
  unfolding block_from
  no_code zero above = absurd (omega arith)
  no_code (suc zero) above = absurd (omega arith)
  no_code (suc (suc zero)) above = absurd (omega arith)
  no_code (suc (suc (suc zero))) above = absurd (omega arith)
  no_code (suc (suc (suc (suc code)))) above = refl
