-- What a search for a word finds.
use Rattle.std.proofs.Common.{◌≡◌, Bool, true, false, List, [], ◌∷◌, Some, refl, sym}
use Rattle.std.specs.Prelude.{find, if◌then◌else◌}
use Rattle.std.specs.Str.{bytes_eq}
use Rattle.std.proofs.lemmas.Slice.Eq.{bytes_eq-Decides}
use Rattle.sx_spec.specs.Command.{Text}

-- what is found passes
pub found_passes : {X : Type 0} (p : X → Bool) (xs : List X) (y : X) → find p xs ≡ Some y → p y ≡ true
found_passes p [] y e = absurd cc
found_passes p (x ∷ xs) y e =
    elim (p x) as (λ b. p x ≡ b → (if b then Some x else find p xs) ≡ Some y → p y ≡ true) [
      | true ↦ λ passes found. let same : x ≡ y = cc in rw same at passes
      | false ↦ λ fails rest. found_passes p xs y rest
    ] refl e

-- the word of what is found
pub word_of : {X : Type 0} (word : X → Text) (text : Text) (xs : List X) (y : X) → find (λ x. bytes_eq (word x) text) xs ≡ Some y → word y ≡ text
word_of word text xs y e = (bytes_eq-Decides (word y) text).0 (found_passes (λ x. bytes_eq (word x) text) xs y e)

-- two texts are equal either way round
pub either_way : (x y : Text) → bytes_eq x y ≡ bytes_eq y x
either_way x y =
    elim (bytes_eq x y) as (λ b. bytes_eq x y ≡ b → b ≡ bytes_eq y x) [
      | true ↦ λ same. sym ((bytes_eq-Decides y x).1 (sym ((bytes_eq-Decides x y).0 same)))
      | false ↦ λ differ. elim (bytes_eq y x) as (λ b. bytes_eq y x ≡ b → false ≡ b) [
        | true ↦ λ same. let e = (bytes_eq-Decides x y).1 (sym ((bytes_eq-Decides y x).0 same)) in absurd cc
        | false ↦ λ _. refl
      ] refl
    ] refl
