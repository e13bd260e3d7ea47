-- The node that a map answers a string, by what it answers the string's signature.
use Rattle.std.proofs.Common.{◌≡◌, ℕ, suc, ◌+◌, ◌^◌, ◌<◌, ◌≤◌, Bool, true, false, List, length, Option, Some, None, refl, sym, ap, ◌∙◌, arith}
use Rattle.std.specs.Prelude.{nat_lt, if◌then◌else◌}
use Rattle.std.specs.List.{slice_index}
use Rattle.std.specs.Option.{option_map}
use Rattle.std.proofs.lemmas.Bool.{and_parts, le-leb, lt-leb, ltb-true}
use Rattle.std.proofs.lemmas.List.Elements.{All-get_or}
use Rattle.std.proofs.Math.Pow.{pow_mono}
use Rattle.sx_spec_strings.specs.Bits.{Bits, tagged}
use Rattle.sx_spec_kinds.specs.Search.{reached}
use Rattle.sx_spec_kinds.specs.Signed.{signed_place}
use Rattle.sx_spec_kinds.specs.Zfast.{HandleMap, probed_node}
use Rattle.sx_spec.specs.declared.Signature.{Signature}
use Rattle.sx_spec.specs.Fields.{fields}
use Rattle.sx_spec.specs.Signature.{signature}
use Rattle.sx_spec.specs.StaticFunction.{value_of}
use Rattle.sx_fields.specs.declared.bank.WordBank.{Ghosts}
use Rattle.sx_fields.proofs.Places.{fields_fit}
use Rattle.sx_static.specs.Reading.{function_read}
use Rattle.sx_signed.specs.Lookup.{place_of_signature}
use Rattle.sx_signed.specs.declared.view.SignedView.{SignedView}
use Rattle.sx_zfast.specs.Maps.{map_read, numbers_read}

some_if : (b : Bool) (p : ℕ) → option_map suc (if b then Some p else None) ≡ (if b then Some (suc p) else None)
some_if true p = refl
some_if false p = refl

if_some : (b : Bool) (p q : ℕ) → Some q ≡ (if b then Some p else None) → (b ≡ true) × (q ≡ p)
if_some true p q h = (refl, cc)
if_some false p q h = absurd cc

if_next : (b : Bool) (p q : ℕ) → (if b then Some (suc p) else None) ≡ Some q → (b ≡ true) × (q ≡ suc p)
if_next true p q h = (refl, cc)
if_next false p q h = absurd cc

module _ {B : Type 0} {bank_of : Ghosts B} (v : SignedView B bank_of) (seed sig_bits : ℕ) (y : Bits) where
  -- the place that is answered a signature
  abbrev pub looked : Signature → Option ℕ
  looked sig = place_of_signature (numbers_read v.kept) v.kept.width sig (Some (value_of (function_read v.func) sig))

  by_signature : option_map suc (looked (signature seed sig_bits y)) ≡ probed_node (map_read v seed sig_bits) y
  unfolding probed_node signed_place
  by_signature = some_if _ _

  pub node_answered : (sig : Signature) (p : ℕ) → sig ≡ signature seed sig_bits y → Some p ≡ looked sig → Some (p + 1) ≡ probed_node (map_read v seed sig_bits) y
  node_answered sig p is at =
      let next : p + 1 ≡ suc p = omega arith in
      ap (λ (n : ℕ). Some n) next ∙ ap (option_map suc) at ∙ ap (λ (s : Signature). option_map suc (looked s)) is ∙ by_signature

  pub none_answered : (sig : Signature) → sig ≡ signature seed sig_bits y → None ≡ looked sig → None ≡ probed_node (map_read v seed sig_bits) y
  none_answered sig is at = ap (option_map suc) at ∙ ap (λ (s : Signature). option_map suc (looked s)) is ∙ by_signature

-- a place that is answered is one of the list
pub place_inside : (kept : List ℕ) (width : ℕ) (sig : Signature) (p q : ℕ) → Some q ≡ place_of_signature kept width sig (Some p) → q < length kept
unfolding signed_place
place_inside kept width sig p q h =
    let parts = if_some _ p q h in
    let inside = ltb-true p (length kept) (and_parts (nat_lt p (length kept)) _ parts.0).0 in
    let e = parts.1 in
    omega arith

-- a node that is answered is not the root, and is beside a place of the list
pub node_inside : (m : HandleMap) (y : Bits) (v : ℕ) → probed_node m y ≡ Some v → (0 < v) × (v < length m.marks + 1)
unfolding probed_node
node_inside m y v h =
    let parts = if_next _ (m.handles y) v h in
    let inside = ltb-true (m.handles y) (length m.marks) (and_parts (nat_lt (m.handles y) (length m.marks)) _ parts.0).0 in
    let e = parts.1 in
    (omega arith, omega arith)

-- a string without a tag
pub untagged : (x : Bits) → tagged None x ≡ x
unfolding tagged
untagged x = refl

-- ---- where an answer leads

module _ (lens : List ℕ) (len : ℕ) (o : Option ℕ) where
  pub reached_none : None ≡ o → None ≡ reached lens len o
  reached_none is = ap (reached lens len) is

  pub reached_there : (v : ℕ) → Some v ≡ o → len ≤ slice_index lens v → Some v ≡ reached lens len o
  reached_there v is long =
      let test = le-leb len (slice_index lens v) long in
      sym (ap (λ (b : Bool). if b then Some v else None) test) ∙ ap (reached lens len) is

  pub reached_short : (v : ℕ) → Some v ≡ o → slice_index lens v < len → None ≡ reached lens len o
  reached_short v is short =
      let test = lt-leb len (slice_index lens v) short in
      sym (ap (λ (b : Bool). if b then Some v else None) test) ∙ ap (reached lens len) is

-- ---- numbers of at most 32 bits

pub number_narrow : (width len : ℕ) (words : List ℕ) (i : ℕ) → width ≤ 32 → i < length (fields width len words) → slice_index (fields width len words) i < 2 ^ 32
number_narrow width len words i narrow within =
    let fits = All-get_or (λ x. x < 2 ^ width) (fields width len words) i 0 within (fields_fit width len words) in
    let power : 2 ^ width ≤ 2 ^ 32 = pow_mono narrow in
    omega arith
