-- Plans and sections of hollow tries.
use Rattle.std.specs.Prelude.{◌≡◌, ℕ, ◌+◌, ◌*◌, ◌^◌, ◌≤◌, List, [], ◌∷◌, length, map, flat_map}
use Rattle.std.specs.List.{AllByRecursion}
use Rattle.sx_spec_strings.specs.Bits.{key_bits}
use Rattle.sx_spec_kinds.specs.declared.Kind.TheVariants.{Hollow}
use Rattle.sx_spec_kinds.specs.Hollow.{left_counts, skips}
use Rattle.sx_spec.specs.declared.Method.TheVariants.{Mwhc}
use Rattle.sx_spec.specs.declared.Plan.{Plan}
use Rattle.sx_spec.specs.Built.{sums_list}
use Rattle.sx_parts.specs.declared.layout.SectionBuf.{SectionBuf}
use Rattle.sx_parts.specs.Sectioning.{IsWhole, held_words, section_built}

-- a plan of a hollow trie, with 0 and the first method where the kind has no use for an option
pub record IsHollowPlan (plan : Plan) : Type 0 where
  pub kind : plan.kind ≡ Hollow
  pub signed : plan.signed ≤ 64
  pub method : plan.method ≡ Mwhc
  pub buckets : plan.log_bucket ≡ 0
  pub handles : plan.handle_bits ≡ 0
  pub bits : plan.sig_bits ≤ 192

-- the sections, of few words, hold the sums of the counts of leaves, then those of the bits that are skipped, of the trie of the lines
pub record AreHollow (lines : List (List ℕ)) (sections : List SectionBuf) : Type 0 where
  pub built : map section_built sections ≡ sums_list (left_counts (map key_bits lines)) ∷ sums_list (skips (map key_bits lines)) ∷ []
  pub whole : AllByRecursion IsWhole sections
  pub few : length (flat_map held_words sections) ≤ 5 * (2 ^ 24 + 2)
