-- What the steps of a reply come to.
use Rattle.std.proofs.Common.{◌≡◌, ◌≤◌, ◌^◌, ◌*◌, ◌/◌, ◌%◌, ℕ, Bool, true, false, List, length, Option, Some, None, refl, sym, ap, ◌∙◌, arith, lit<}
use Rattle.std.specs.Prelude.{take, nat_lt, if◌then◌else◌}
use Rattle.std.proofs.lemmas.Bool.{le-ltb}
use Rattle.std.proofs.Math.Nat.{pow-le-pow_right}
use Rattle.sx_spec_strings.specs.Bits.{Bits, tagged}
use Rattle.sx_spec_kinds.specs.Blocks.{block_size, place, reply_in}
use Rattle.sx_spec_kinds.specs.Lcp.{reply_at, lcp_reply, lcp2_reply}
use Rattle.sx_spec.specs.declared.Signature.{Signature}
use Rattle.sx_spec.specs.Signature.{signature}
use Rattle.sx_spec.specs.StaticFunction.{Function, value_of}
use Rattle.sx_lcp.specs.Views.{block_at, length_by}

-- a string of so many bits has a block
block_found : (prefixes : Bits → ℕ) (len : ℕ) (x : Bits) (block : ℕ) → len ≤ length x → block ≡ prefixes (take len x) → Some block ≡ block_at prefixes len x
block_found prefixes len x block long is =
    ap (λ k. Some k) is
    ∙ sym (ap (λ (t : Bool). if t then None else Some (prefixes (take len x))) (le-ltb (length x) len long))

-- the reply is the place in this block, if there is one
reply_by_block : (keys b : ℕ) (prefixes : Bits → ℕ) (offset len : ℕ) (x : Bits) → reply_in keys b offset (block_at prefixes len x) ≡ reply_at keys b prefixes offset len x
unfolding reply_at
reply_by_block keys b prefixes offset len x =
    elim (nat_lt (length x) len) as (λ t. reply_in keys b offset (if t then None else Some (prefixes (take len x))) ≡ (if t then None else place keys b (prefixes (take len x)) offset)) [ true ↦ refl | false ↦ refl ]

-- a block's size as it is computed in 64 bits
pub size_is : (log_bucket : ℕ) → log_bucket ≤ 12 → 1 * 2 ^ log_bucket % 18446744073709551616 ≡ block_size log_bucket
size_is log_bucket small =
    let few : 2 ^ log_bucket ≤ 2 ^ 12 = pow-le-pow_right (lit< tt) small in
    omega (arith, few)

-- ---- strings that are signed with so many bits under a seed

module _ (seed keep : ℕ) where
  -- what a function answers a string
  abbrev pub answered : Function → Bits → ℕ
  answered f x = value_of f (signature seed keep x)

  -- a string is signed without a tag
  signed_is : (x y : Bits) (sig : Signature) → y ≡ x → sig ≡ signature seed keep (tagged None y) → sig ≡ signature seed keep x
  unfolding tagged
  signed_is x y sig same signs = signs ∙ ap (signature seed keep) same

  -- the block by a prefix that is signed
  pub block_is : (prefixes : Function) (len : ℕ) (x y : Bits) (sig : Signature) (block : ℕ) → len ≤ length x → y ≡ take len x → sig ≡ signature seed keep (tagged None y) → block ≡ value_of prefixes sig → Some block ≡ block_at (answered prefixes) len x
  block_is prefixes len x y sig block long same signs is =
      block_found (answered prefixes) len x block long (is ∙ ap (value_of prefixes) (signed_is (take len x) y sig same signs))

  -- the reply by one number for the offset and the length
  pub lcp_is : (keys b : ℕ) (lengths prefixes : Function) (x : Bits) (sig : Signature) (number offset : ℕ) (block reply : Option ℕ) → sig ≡ signature seed keep (tagged None x) → number ≡ value_of lengths sig → offset ≡ number % b → block ≡ block_at (answered prefixes) (number / b) x → reply ≡ reply_in keys b offset block → reply ≡ lcp_reply keys b (answered lengths) (answered prefixes) x
  unfolding lcp_reply
  lcp_is keys b lengths prefixes x sig number offset block reply signs is at found replies =
      replies
      ∙ (λ i. reply_in keys b (at i) (found i))
      ∙ reply_by_block keys b (answered prefixes) (number % b) (number / b) x
      ∙ ap (λ (k : ℕ). reply_at keys b (answered prefixes) (k % b) (k / b) x) (is ∙ ap (value_of lengths) (signed_is x x sig refl signs))

  -- the reply by an offset and a code
  pub lcp2_is : (keys b : ℕ) (offsets codes : Function) (table : List ℕ) (escaped prefixes : Function) (x : Bits) (sig : Signature) (offset len : ℕ) (block reply : Option ℕ) → sig ≡ signature seed keep (tagged None x) → offset ≡ value_of offsets sig → len ≡ length_by table (value_of codes sig) (value_of escaped sig) → block ≡ block_at (answered prefixes) len x → reply ≡ reply_in keys b offset block → reply ≡ lcp2_reply keys b (answered offsets) (answered codes) table (answered escaped) (answered prefixes) x
  unfolding lcp2_reply
  lcp2_is keys b offsets codes table escaped prefixes x sig offset len block reply signs at is found replies =
      let same : sig ≡ signature seed keep x = signed_is x x sig refl signs in
      replies
      ∙ ap (reply_in keys b offset) found
      ∙ reply_by_block keys b (answered prefixes) offset len x
      ∙ (λ i. reply_at keys b (answered prefixes) (at i) (is i) x)
      ∙ ap (λ s. reply_at keys b (answered prefixes) (value_of offsets s) (length_by table (value_of codes s) (value_of escaped s)) x) same
