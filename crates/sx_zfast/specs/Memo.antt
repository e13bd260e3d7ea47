-- What is known of the answers for prefixes of a key.
use Rattle.std.specs.Prelude.{◌≡◌, ◌⊎◌, ℕ, ◌<◌, ◌≤◌, List, length, take, slice_index_or, None}
use Rattle.sx_spec_strings.specs.Bits.{Bits}
use Rattle.sx_spec_kinds.specs.Zfast.{HandleMap, probed_node}
use Rattle.sx_zfast.specs.declared.memo.Known.{Known}

-- what is in slot i; past the end nothing
abbrev pub known_at : List Known → ℕ → Known
known_at slots i = slice_index_or slots i (record { len = 0; answer = None })

-- Each answer is that for a prefix of the key, but where it is for no bits.
pub record IsKnown (m : HandleMap) (x : Bits) (k : Known) : Type 0 where
  pub within : k.len ≤ length x
  pub answer : 0 < k.len → k.answer ≡ probed_node m (take k.len x)

abbrev pub AreKnown : (m : HandleMap) (x : Bits) (slots : List Known) → Type 0
AreKnown m x slots = (i : ℕ) → IsKnown m x (known_at slots i)

-- what is left of one answer where so many bits are shared
abbrev pub IsKept : (shared : ℕ) (old new : Known) → Type 0
IsKept shared old new = ((new ≡ old) × (old.len ≤ shared)) ⊎ (new.len ≡ 0)
