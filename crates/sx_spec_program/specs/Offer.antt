-- A program that offers a part of the whole: which dumps it opens.
use Rattle.std.specs.Prelude.{ℕ, Bool, ◌&&◌, true, List, map, Some, None, Result, Err, nat_le, ◌==◌, if◌then◌else◌}
use Rattle.std.specs.List.{list_any}
use Rattle.sx_spec_kinds.specs.declared.Kind.{Kind}
use Rattle.sx_spec_strings.specs.First.{first_failing}
use Rattle.sx_spec.specs.declared.Plan.{Plan}
use Rattle.sx_spec.specs.Layout.{Dump, kind_code, bytes_words, header_of, header_checks, opened}

-- the kinds, and the greatest signed width
pub record Offer : Type 0 where
  pub kinds : List Kind
  pub signed : ℕ

-- whether the kind is offered
abbrev pub offers_kind : Offer → Kind → Bool
offers_kind offer kind = list_any (λ offered. kind_code offered == kind_code kind) offer.kinds

-- whether what a check of the header asks is offered: the kind (4) and the signed width (9)
abbrev pub offers_header : Offer → Plan → ℕ → Bool
offers_header offer plan check =
    if check == 4 then offers_kind offer plan.kind
    else if check == 9 then nat_le plan.signed offer.signed
    else true

-- the checks of a file and its header, where what isn't offered fails too
abbrev pub offered_checks : Offer → List ℕ → List (ℕ × Bool)
offered_checks offer bytes = map (λ c. (c.0, c.1 && offers_header offer (header_of (bytes_words bytes)).plan c.0)) (header_checks bytes)

-- the dump that the bytes of a file are, or the number of the first check that fails
abbrev pub opened_by : Offer → List ℕ → Result Dump ℕ
opened_by offer bytes = elim (first_failing (offered_checks offer bytes)) [
  | Some check ↦ Err check
  | None ↦ opened bytes
]
