-- Signatures that stand in words, three words each.
use Rattle.std.specs.Prelude.{◌≡◌, ℕ, ◌+◌, ◌*◌, Bool, List, map, slice_index}
use Rattle.std.specs.List.{list_all, range_with_len}
use Rattle.std.specs.Ordering.{is_lt}
use Rattle.sx_spec.specs.declared.Signature.{Signature}
use Rattle.sx_spec.specs.Layout.{neighbours}
use Rattle.sx_spec.specs.Signature.{signature_cmp}

-- signature i of those whose words begin at a word
abbrev pub signature_at : List ℕ → (body i : ℕ) → Signature
signature_at words body i = record {
  w0 = slice_index words (body + 3 * i);
  w1 = slice_index words (body + 3 * i + 1);
  w2 = slice_index words (body + 3 * i + 2);
}

-- so many signatures whose words begin at a word
abbrev pub signatures_at : List ℕ → (body count : ℕ) → List Signature
signatures_at words body count = map (signature_at words body) (range_with_len 0 count)

-- whether each signature is below the next
abbrev pub rises : List Signature → Bool
rises sigs = list_all (λ p. is_lt (signature_cmp p.0 p.1)) (neighbours sigs)
