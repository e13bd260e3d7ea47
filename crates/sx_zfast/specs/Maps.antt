-- What is known of handles by a function and the numbers that are kept at its places, as they are read.
use Rattle.std.specs.Prelude.{ℕ, List, drop}
use Rattle.sx_fields.specs.declared.bank.WordBank.{Ghosts}
use Rattle.sx_fields.specs.declared.packed.Packed.{Packed}
use Rattle.sx_spec.specs.Fields.{fields}
use Rattle.sx_spec.specs.Reply.{top_bits}
use Rattle.sx_spec.specs.Signature.{signature}
use Rattle.sx_spec_kinds.specs.Zfast.{HandleMap}
use Rattle.sx_static.specs.Reading.{answers_by}
use Rattle.sx_signed.specs.declared.view.SignedView.{SignedView}

-- the numbers that a packed list reads
abbrev pub numbers_read : {B : Type 0} {bank_of : Ghosts B} (p : Packed B bank_of) → List ℕ
numbers_read {bank_of = bank_of} p = fields p.width p.len (drop p.first (bank_of.words_of p.bank))

-- the map that a signed function is under a seed, with so many bits of a signature
abbrev pub map_read : {B : Type 0} {bank_of : Ghosts B} (v : SignedView B bank_of) (seed sig_bits : ℕ) → HandleMap
map_read v seed sig_bits = record {
  handles = answers_by v.func seed sig_bits;
  mark_of = λ y. top_bits v.kept.width (signature seed sig_bits y);
  marks = numbers_read v.kept;
}
