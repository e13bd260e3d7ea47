-- Where there are few pairs, all lie in one chunk.
use Rattle.std.proofs.Common.{◌≡◌, ℕ, ◌*◌, ◌/◌, ◌^◌, ◌<◌, ◌≤◌, ap, ◌∙◌, arith}
use Rattle.std.specs.Prelude.{nat_le}
use Rattle.std.proofs.lemmas.Bool.{le-leb}
use Rattle.sx_spec.specs.declared.Signature.{Signature}
use Rattle.sx_spec_strings.specs.Numbers.{binary_digits}
use Rattle.sx_spec_strings.proofs.NumberLaws.{least_from_le}
use Rattle.sx_spec.specs.Chunks.{chunk_size, chunk_bits, chunk_of}

one_chunk : (n : ℕ) → n ≤ 1024 → chunk_bits n ≡ 0
one_chunk n few =
    let none = least_from_le (λ c. nat_le n (chunk_size * 2 ^ c)) (binary_digits n) 0 0 (omega arith) (le-leb n 1024 few) in
    omega arith

pub in_chunk : (n : ℕ) → n ≤ 1024 → (sig : Signature) → sig.w0 < 2 ^ 64 → chunk_of sig (chunk_bits n) ≡ 0
in_chunk n few sig small = ap (chunk_of sig) (one_chunk n few) ∙ none
  where
    none : sig.w0 / 2 ^ 64 ≡ 0
    none = omega arith
