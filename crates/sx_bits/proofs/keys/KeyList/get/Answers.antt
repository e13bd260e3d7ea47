use Rattle.std.proofs.Common.{length, ap, sym, arith, ◌∙◌}
use Rattle.std.specs.Prelude.{slice_get}
use Rattle.sx_bits.specs.KeyLists.{Keys}
use Rattle.sx_bits.proofs.Cuts.{cut_count}
use Rattle.sx_bits.proofs.Faultless.{key_file}
use Rattle.sx_bits.proofs.keys.KeyList.get.Goals as goal

pub piece_of-requires-clause-cut : goal.piece_of-requires-clause-cut
piece_of-requires-clause-cut c = rw (c.deref.ensures.value, c.deref-2.ensures.value) c.self.invariant.1

pub piece_of-requires-clause-within : goal.piece_of-requires-clause-within
piece_of-requires-clause-within c =
    let many = ap (λ (keys : Keys). length keys.lines) c.self.view_is in
    let count = cut_count 0 c.self.inside.ends.items c.self.inside.bytes.items in
    let ends = ap length c.deref-2.ensures.value in
    omega arith

pub returns-clause-value : goal.returns-clause-value
returns-clause-value c =
    ap (λ (keys : Keys). slice_get keys.lines c.args.i) (sym c.self.view_is) ∙ rw (c.deref.ensures.value, c.deref-2.ensures.value) at c.piece_of.ensures

pub returns-clause-short : goal.returns-clause-short
returns-clause-short c =
    let valid = c.self.invariant.0 in
    let short = (key_file _ valid).short c.args.i c.piece_of.result.now (rw (c.deref.ensures.value, c.deref-2.ensures.value) at c.piece_of.ensures) in
    let most = valid.limits.line in
    omega arith
