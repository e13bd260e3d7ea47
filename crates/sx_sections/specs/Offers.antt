-- The checks of a file and its header where a part of all dumps is offered.
use Rattle.std.specs.Prelude.{ℕ, Bool, ◌&&◌, ◌||◌, ◌^◌, ◌%◌, ◌==◌, nat_le, List, [], ◌∷◌, length, map, slice_index}
use Rattle.std.specs.Int.{is_in_range}
use Rattle.std.specs.List.{list_any}
use Rattle.sx_spec_kinds.specs.declared.Kind.{Kind}
use Rattle.sx_spec.specs.Kinds.{uses_method, uses_buckets, uses_handles}
use Rattle.sx_spec.specs.Layout.{header_of, kind_code, magic, u32_max}
use Rattle.sx_spec_program.specs.Offer.{Offer, offers_header}
use Rattle.sx_sections.specs.Headers.{file_checks}

-- the checks of a file of so many bytes with these words, where what isn't offered fails too
abbrev pub offered_checks : Offer → List ℕ → ℕ → List (ℕ × Bool)
offered_checks offer words bytes = map (λ c. (c.0, c.1 && offers_header offer (header_of words).plan c.0)) (file_checks words bytes)

-- whether the kind is one of these
abbrev pub is_offered : List Kind → Kind → Bool
is_offered kinds kind = list_any (λ offered. kind_code offered == kind_code kind) kinds

-- the checks of the words after the kind's, where this is the kind and so much is the greatest signed width
abbrev pub plan_checks : Kind → ℕ → List ℕ → List (ℕ × Bool)
plan_checks kind signed words =
    (5, nat_le (slice_index words 3) 1 && (uses_method kind || slice_index words 3 == 0))
    ∷ (6, nat_le (slice_index words 4) u32_max)
    ∷ (7, nat_le (slice_index words 6) 192)
    ∷ (8, nat_le (slice_index words 7) 12 && (uses_buckets kind || slice_index words 7 == 0))
    ∷ (9, nat_le (slice_index words 8) 64 && nat_le (slice_index words 8) signed)
    ∷ (10, nat_le (slice_index words 9) 64 && (uses_handles kind || slice_index words 9 == 0))
    ∷ []

-- all those checks where these kinds are offered, with that width
abbrev pub checks_where : List Kind → ℕ → List ℕ → ℕ → List (ℕ × Bool)
checks_where kinds signed words bytes =
    (1, bytes % 8 == 0 && is_in_range 80 (2 ^ 30) bytes)
    ∷ (2, slice_index words 0 == magic)
    ∷ (3, slice_index words 1 == length words)
    ∷ (4, nat_le (slice_index words 2) 5 && is_offered kinds (header_of words).plan.kind)
    ∷ plan_checks (header_of words).plan.kind signed words
