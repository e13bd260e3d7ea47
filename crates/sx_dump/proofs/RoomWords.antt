-- Rooms with the same words.
use Rattle.std.proofs.Common.{◌≡◌, ℕ, List, sym, subst}
use Rattle.sx_sections.specs.declared.place.Place.{Place}
use Rattle.sx_dump.specs.Rooms.{AreSumsRooms}

pub same_sums_rooms : (words : List ℕ) (places : List Place) (i : ℕ) (d e f d' e' f' : List ℕ) → d' ≡ d → e' ≡ e → f' ≡ f
    → AreSumsRooms words places i d e f → AreSumsRooms words places i d' e' f'
same_sums_rooms words places i d e f d' e' f' ds es fs made =
    subst (λ (x : List ℕ). AreSumsRooms words places i x e' f') (sym ds)
    (subst (λ (x : List ℕ). AreSumsRooms words places i d x f') (sym es)
    (subst (λ (x : List ℕ). AreSumsRooms words places i d e x) (sym fs) made))
