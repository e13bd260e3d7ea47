-- What is opened is the dump that the words hold.
use Rattle.std.proofs.Common.{◌≡◌, ℕ, zero, suc, ◌≤◌, true, List, [], ◌∷◌, map, drop, Some, Result, Ok, sym, ap, subst, ◌∙◌}
use Rattle.std.specs.Prelude.{slice_get}
use Rattle.std.specs.List.{AllByRecursion}
use Rattle.std.specs.Result.{result_unwrap_or}
use Rattle.sx_spec.specs.Layout.{Dump, Header, header_of, layout, sections_in, slots}
use Rattle.sx_spec_program.specs.Program.{sux_offer}
use Rattle.sx_sections.specs.declared.open.Opened.{Opened}
use Rattle.sx_sections.specs.declared.place.Place.{Place}
use Rattle.sx_sections.specs.declared.place.Place.TheVariants.{Function, List as ListPlace, Sums, Corrections}
use Rattle.sx_sections.specs.Headers.{IsBounded, header_as}
use Rattle.sx_sections.specs.Offers.{is_offered}
use Rattle.sx_sections.specs.Openings.{dump_in as opened_dump}
use Rattle.sx_sections.specs.Places.{Stands, section_at}
use Rattle.sx_sections.specs.Walks.{AreFound}
use Rattle.sx_dump.specs.Opening.{AllStand, IsOpened, dump_in, sections_read}

-- what holds of all elements holds of each
all_at : {X : Type 0} (P : X → Type 0) (xs : List X) (i : ℕ) (x : X) → AllByRecursion P xs → slice_get xs i ≡ Some x → P x
all_at P [] i x all there = absurd cc
all_at P (y ∷ xs) zero x all there = let same : y ≡ x = cc in subst P same all.0
all_at P (y ∷ xs) (suc i) x all there = all_at P xs i x all.1 there

-- sections that stand at all places stand at each
all_stand : (words : List ℕ) (places : List Place) → AllByRecursion (Stands words) places → AllStand words places
all_stand words places all = record {
  function = λ i s there. all_at (Stands words) places i (Function s) all there;
  list = λ i s there. all_at (Stands words) places i (ListPlace s) all there;
  sums = λ i s there. all_at (Stands words) places i (Sums s) all there;
  corrections = λ i s there. all_at (Stands words) places i (Corrections s) all there;
}

module _ (words : List ℕ) (o : Opened) (header : header_as o.header ≡ header_of words) (found : AreFound (header_as o.header) words o.places.items) where
  -- the sections behind the header are those at the places
  read_as : sections_read words ≡ Ok (map (section_at words) o.places.items)
  unfolding sections_read
  read_as = ap (λ (h : Header). sections_in (slots h) [] (drop 10 words)) (sym header) ∙ found.sections

  -- the dump in the words is what was opened
  pub dump_is : opened_dump words o ≡ dump_in words
  dump_is = λ i. record { header = header i; sections = result_unwrap_or (sym read_as i) [] }

  pub is_opened : IsBounded (header_as o.header) → is_offered sux_offer.kinds o.header.plan.kind ≡ true → o.header.plan.signed ≤ sux_offer.signed
      → layout (opened_dump words o) ≡ words → IsOpened words o.header o.places.items
  is_opened bounded kind signed laid = record {
    header = sym header;
    bounded = bounded;
    kind = kind;
    signed = signed;
    sections = read_as;
    stand = all_stand words o.places.items found.stand;
    laid = ap layout (sym dump_is) ∙ laid;
  }

  -- which a bank with these words holds
  pub opens : (held : List ℕ) (r : Result Dump ℕ) → held ≡ words → r ≡ Ok (opened_dump words o) → r ≡ Ok (dump_in held)
  opens held r same result = result ∙ ap (λ d. Ok d) dump_is ∙ (λ i. Ok (dump_in (sym same i)))
