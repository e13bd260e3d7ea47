-- Plans of distributors by longest common prefixes, and the numbers of their parts.
use Rattle.std.specs.Prelude.{◌≡◌, ℕ, ◌+◌, ◌*◌, ◌%◌, ◌≤◌, List, length, map}
use Rattle.std.specs.List.{enumerate_from, range_with_len, slice_index_or}
use Rattle.sx_spec_kinds.specs.declared.Kind.{Kind}
use Rattle.sx_spec_kinds.specs.Pairs.{Pairs}
use Rattle.sx_spec.specs.declared.Plan.{Plan}
use Rattle.sx_spec.specs.declared.Signature.{Signature}
use Rattle.sx_spec.specs.Signature.{signature}
use Rattle.sx_static.specs.Answer.{entries_of}
use Rattle.sx_parts.specs.declared.Assembled.{Assembled}
use Rattle.sx_parts.specs.Assembling.{IsAssembled}

-- a plan of a kind whose keys stand in blocks, without handles
pub record IsBlockPlan (k : Kind) (plan : Plan) : Type 0 where
  pub kind : plan.kind ≡ k
  pub signed : plan.signed ≤ 64
  pub buckets : plan.log_bucket ≤ 12
  pub handles : plan.handle_bits ≡ 0
  pub bits : plan.sig_bits ≤ 192

-- what the keys come to, whatever their values
abbrev pub IsRanked : List (List ℕ) → Plan → ℕ → Assembled → Type 0
IsRanked lines plan seed a = (values : List ℕ) → length values ≡ length lines → IsAssembled lines values plan seed a

-- for each key its offset in its block of b keys
abbrev pub offset_numbers : (b count : ℕ) → List ℕ
offset_numbers b count = map (λ i. i % b) (range_with_len 0 count)

-- for each key its offset in its block of b keys and, b times, the length of the block's prefix
abbrev pub length_numbers : (b : ℕ) (lens : List ℕ) → List ℕ
length_numbers b lens = map (λ (i, len). i % b + b * len) (enumerate_from 0 lens)

-- the signatures and the numbers are those of the pairs
pub record ArePairs (sig_bits seed : ℕ) (pairs : Pairs) (sigs : List Signature) (items : List ℕ) : Type 0 where
  pub entries : entries_of sigs items ≡ map (λ p. (signature seed sig_bits p.0, p.1)) pairs
  pub numbers : items ≡ map (λ p. p.1) pairs

-- what stands for a signature where there is none
abbrev pub no_signature : Signature
no_signature = record { w0 = 0; w1 = 0; w2 = 0 }

-- the signature at a place
abbrev pub signature_at : List Signature → ℕ → Signature
signature_at sigs i = slice_index_or sigs i no_signature
