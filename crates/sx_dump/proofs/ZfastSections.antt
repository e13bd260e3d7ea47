-- The sections of a dump of kind zfast, as they are read.
use Rattle.std.proofs.Common.{◌≡◌, ℕ, ◌-◌, ◌^◌, ◌<◌, ◌≤◌, List, [], length, map, ap, sym, subst, ◌∙◌, arith}
use Rattle.std.specs.Prelude.{slice_index_or}
use Rattle.sx_fields.specs.declared.bank.WordBank.{Ghosts}
use Rattle.sx_fields.specs.declared.packed.Packed.{Packed}
use Rattle.sx_spec_kinds.specs.declared.Kind.TheVariants.{Zfast}
use Rattle.sx_spec.specs.Kinds.{delimiter_count, handle_count, inner_count}
use Rattle.sx_spec.specs.Layout.{Header as HeaderOf, Section, header_of, list_of, sums_section, u32_max}
use Rattle.sx_spec.specs.Reply.{numbers_of}
use Rattle.sx_sections.specs.declared.header.Header.{Header}
use Rattle.sx_sections.specs.declared.place.Place.{Place}
use Rattle.sx_sections.specs.Places.{section_at}
use Rattle.sx_dump.specs.Opening.{AreBeside, IsCorrectionsAt, IsFunctionAt, IsListAt, IsOpened, dump_in}
use Rattle.sx_dump.specs.Viewing.{ReadsNumbers, numbers_by}
use Rattle.sx_dump.proofs.Sections.{FitsRule, IsBetween, are_beside, beside_there, corrections_there, function_there, kind_is, list_bounds_there, list_of_there, zfast_afters, zfast_codes, zfast_corrections, zfast_extents, zfast_firsts, zfast_handles, zfast_marks, zfast_middles, zfast_offsets}

module _ (words : List ℕ) (h : Header) (places : List Place) (is : IsOpened words h places) (kind : h.plan.kind ≡ Zfast) where
  abbrev head : HeaderOf
  head = header_of words

  -- the section at a place
  abbrev stands : ℕ → Section
  stands i = slice_index_or (map (section_at words) places) i (sums_section [])

  same : head.plan.kind ≡ Zfast
  same = kind_is words h places is Zfast kind

  -- ---- where they stand

  pub offsets_there : IsFunctionAt places 0
  offsets_there = function_there words h places is 0 _ _ _ _ (zfast_offsets words h places is same)

  pub extents_there : IsListAt places 1
  extents_there = list_of_there words h places is 1 _ _ _ _ (zfast_extents words h places is same)

  pub firsts_there : IsListAt places 2
  firsts_there = list_of_there words h places is 2 _ _ _ _ (zfast_firsts words h places is same)

  pub middles_there : IsListAt places 3
  middles_there = list_of_there words h places is 3 _ _ _ _ (zfast_middles words h places is same)

  pub afters_there : IsListAt places 4
  afters_there = list_of_there words h places is 4 _ _ _ _ (zfast_afters words h places is same)

  pub handles_there : IsFunctionAt places 5
  handles_there = function_there words h places is 5 _ _ _ _ (zfast_handles words h places is same)

  pub marks_there : IsListAt places 6
  marks_there = list_of_there words h places is 6 _ _ _ _ (zfast_marks words h places is same)

  pub codes_there : IsFunctionAt places 7
  codes_there = function_there words h places is 7 _ _ _ _ (zfast_codes words h places is same)

  pub signatures_there : IsCorrectionsAt places 8
  signatures_there = corrections_there words h places is 8 (zfast_corrections words h places is same)

  pub blocks_there : IsListAt places 9
  blocks_there = beside_there words h places is 8 (zfast_corrections words h places is same)

  pub blocks_beside : AreBeside words 8
  blocks_beside = are_beside words h places is 8 (zfast_corrections words h places is same)

  -- ---- how many numbers they have, and how wide these are

  -- fewer delimiters than 2 to the power 32
  pub few_delimiters : (count : ℕ) → count ≤ h.keys → count < 2 ^ 32
  few_delimiters count few = let most : h.keys ≤ u32_max = is.bounded.keys in omega arith

  module _ {B : Type 0} {bank_of : Ghosts B} (p : Packed B bank_of) where
    bounds : (i least most low high : ℕ) → FitsRule (list_of least most low high) (stands i) → ReadsNumbers words i p → IsBetween least most (length (numbers_by p)) × IsBetween low high p.width
    bounds i least most low high row reads =
        let all = list_bounds_there words h places is i least most low high row in
        let many : length (numbers_by p) ≡ length (numbers_of (dump_in words) i) = ap (λ (xs : List ℕ). length xs) reads.numbers in
        (subst (IsBetween least most) (sym many) all.0, subst (IsBetween low high) (sym reads.width) all.1)

    -- a number for each inner node
    by_nodes : (i count : ℕ) → count ≡ delimiter_count h.plan h.keys → FitsRule (list_of (inner_count head.plan head.keys) (inner_count head.plan head.keys) 0 32) (stands i) → ReadsNumbers words i p
        → (length (numbers_by p) ≡ count - 1) × (p.width ≤ 32)
    by_nodes i count counted row reads =
        let all = bounds i (inner_count head.plan head.keys) (inner_count head.plan head.keys) 0 32 row reads in
        let delimiters : count ≡ delimiter_count head.plan head.keys = counted ∙ sym (ap (λ (g : HeaderOf). delimiter_count g.plan g.keys) is.header) in
        (omega (arith, all.0.0, all.0.1), all.1.1)

    module _ (count : ℕ) (counted : count ≡ delimiter_count h.plan h.keys) where
      pub extents_are : ReadsNumbers words 1 p → (length (numbers_by p) ≡ count - 1) × (p.width ≤ 32)
      extents_are reads = by_nodes 1 count counted (zfast_extents words h places is same) reads

      pub firsts_are : ReadsNumbers words 2 p → (length (numbers_by p) ≡ count - 1) × (p.width ≤ 32)
      firsts_are reads = by_nodes 2 count counted (zfast_firsts words h places is same) reads

      pub middles_are : ReadsNumbers words 3 p → (length (numbers_by p) ≡ count - 1) × (p.width ≤ 32)
      middles_are reads = by_nodes 3 count counted (zfast_middles words h places is same) reads

      pub afters_are : ReadsNumbers words 4 p → (length (numbers_by p) ≡ count - 1) × (p.width ≤ 32)
      afters_are reads = by_nodes 4 count counted (zfast_afters words h places is same) reads

      -- a mark for each handle
      pub marks_are : ReadsNumbers words 6 p → length (numbers_by p) ≡ count - 2
      marks_are reads =
          let all = bounds 6 (handle_count head.plan head.keys) (handle_count head.plan head.keys) head.plan.handle_bits head.plan.handle_bits (zfast_marks words h places is same) reads in
          let delimiters : count ≡ delimiter_count head.plan head.keys = counted ∙ sym (ap (λ (g : HeaderOf). delimiter_count g.plan g.keys) is.header) in
          omega (arith, all.0.0, all.0.1)

    -- of the header's bits of handles
    pub marks_width : ReadsNumbers words 6 p → p.width ≡ head.plan.handle_bits
    marks_width reads =
        let all = bounds 6 (handle_count head.plan head.keys) (handle_count head.plan head.keys) head.plan.handle_bits head.plan.handle_bits (zfast_marks words h places is same) reads in
        omega (arith, all.1.0, all.1.1)
