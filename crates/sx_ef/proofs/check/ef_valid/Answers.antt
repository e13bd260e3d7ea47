use Rattle.std.proofs.Common.{ℕ, List, IsTrue, ◌↔◌, sym, subst}
use Rattle.sx_fields.proofs.Padding.{words_at}
use Rattle.sx_ef.specs.Parts.{IsEncoded}
use Rattle.sx_ef.proofs.Validity.{valid_exactly}
use Rattle.sx_ef.proofs.check.ef_valid.Goals as goal

pub returns-clause-lists : goal.returns-clause-lists
returns-clause-lists c =
    let words = c.args.words.now in
    subst (λ b. IsTrue b ↔ ((items : List ℕ) × IsEncoded c.args.count c.args.below words items)) (sym c.parts_pass.ensures)
    (valid_exactly c.args.count c.args.below words c.requires.some (words_at words c.type_inv.words) c.requires.size)
