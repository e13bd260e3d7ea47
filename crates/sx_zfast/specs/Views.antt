-- The nodes and corrections that a distributor reads.
use Rattle.std.specs.Prelude.{ℕ, List, Option}
use Rattle.sx_fields.specs.declared.bank.WordBank.{Ghosts}
use Rattle.sx_spec_strings.specs.Bits.{Bits}
use Rattle.sx_spec_kinds.specs.Trie.{Node}
use Rattle.sx_spec.specs.declared.Signature.{Signature}
use Rattle.sx_spec.specs.Reply.{block_beside, nodes_in}
use Rattle.sx_spec.specs.Signature.{signature}
use Rattle.sx_sig.specs.SignatureWords.{signatures_at}
use Rattle.sx_zfast.specs.Maps.{numbers_read}
use Rattle.sx_zfast.specs.declared.corrected.Corrections.{Corrections}
use Rattle.sx_zfast.specs.declared.view.ZfastView.{ZfastView}

-- the signatures of the corrections
abbrev pub signatures_read : {B : Type 0} {bank_of : Ghosts B} (c : Corrections B bank_of) → List Signature
signatures_read {bank_of = bank_of} c = signatures_at (bank_of.words_of c.bank) c.first c.count

-- the block that stands beside a string's signature
abbrev pub corrected_by : {B : Type 0} {bank_of : Ghosts B} (c : Corrections B bank_of) (seed sig_bits : ℕ) → Bits → Option ℕ
corrected_by c seed sig_bits y = block_beside (signatures_read c) (numbers_read c.blocks) (signature seed sig_bits y)

-- the inner nodes
abbrev pub nodes_read : {B : Type 0} {bank_of : Ghosts B} (v : ZfastView B bank_of) → List Node
nodes_read v = nodes_in (numbers_read v.extents) (numbers_read v.firsts) (numbers_read v.middles) (numbers_read v.afters)
