-- The numbers of an Elias-Fano list that is read from words, and where two such lists are read.
use Rattle.std.specs.Prelude.{ℕ, List, drop}
use Rattle.sx_fields.specs.declared.bank.WordBank.{Ghosts}
use Rattle.sx_spec.specs.Fields.{fields, ones_of}
use Rattle.sx_ranksel.specs.Directory.{number_at}
use Rattle.sx_ef.specs.Cursors.{IsCursor}
use Rattle.sx_ef.specs.Parts.{sums_of}
use Rattle.sx_ef.specs.declared.view.EliasFano.{EliasFano}
use Rattle.sx_hollow.specs.declared.cursors.Cursors.{Cursors}

-- the numbers that are read
abbrev pub sums_read : {B D : Type 0} {bank_of : Ghosts B} {dir_of : Ghosts D} (e : EliasFano B D bank_of dir_of) → List ℕ
sums_read {bank_of = bank_of} e =
    sums_of e.width (ones_of e.upper.bits (number_at e.upper.first (bank_of.words_of e.upper.bank)))
    (fields e.low.width e.low.len (drop e.low.first (bank_of.words_of e.low.bank)))

-- the places of their ones
abbrev pub places_read : {B D : Type 0} {bank_of : Ghosts B} {dir_of : Ghosts D} (e : EliasFano B D bank_of dir_of) → List ℕ
places_read {bank_of = bank_of} e =
    ones_of e.upper.bits (number_at e.upper.first (bank_of.words_of e.upper.bank))

-- two lists are read at the number of a node
pub record AreAt {B D : Type 0} {bank_of : Ghosts B} {dir_of : Ghosts D} (left skip : EliasFano B D bank_of dir_of) (node : ℕ) (c : Cursors) : Type 0 where
  pub left_at : IsCursor (places_read left) (sums_read left) node c.left
  pub skip_at : IsCursor (places_read skip) (sums_read skip) node c.skip
