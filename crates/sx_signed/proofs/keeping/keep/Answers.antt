use Rattle.std.proofs.Common.{◌≡◌, ◌+◌, ◌^◌, ◌<◌, ℕ, List, get_or, length, subst, sym, ◌∙◌, arith}
use Rattle.sx_spec.specs.declared.Signature.{Signature}
use Rattle.sx_spec.specs.Reply.{top_bits}
use Rattle.sx_signed.specs.Keeping.{no_signature}
use Rattle.sx_signed.proofs.KeptNumbers.{AreKeptBefore, all_kept, one_more_kept, top_bits_below}
use Rattle.sx_signed.proofs.keeping.keep.Goals as goal

pub set-requires-clause-fits : goal.set-requires-clause-fits
set-requires-clause-fits c =
    let sig : Signature = get_or c.args.sigs.now c.loop-i.i no_signature in
    let below : top_bits c.args.width sig < 2 ^ c.args.width = top_bits_below c.args.width sig c.requires.narrow (omega (arith, c.if-prove.false)) in
    let is : c.top_bits.result ≡ top_bits c.args.width sig = c.top_bits.ensures in
    let low : c.top_bits.result < 2 ^ c.args.width = omega (arith, below, is) in
    subst (λ (w : ℕ). c.top_bits.result < 2 ^ w) (sym c.loop-i.invariant.width) low

pub loop-i-preserved : goal.loop-i-preserved
loop-i-preserved c =
    let more : AreKeptBefore c.args.width (c.loop-i.i + 1) c.args.sigs.now c.args.places.now _ =
    one_more_kept c.args.width c.loop-i.i c.args.sigs.now c.args.places.now c.loop-i.list.items c.top_bits.result c.requires.places c.requires.count c.loop-i-test.true
    c.loop-i.invariant.kept c.top_bits.ensures in
    record {
      width = c.set.ensures.width ∙ c.loop-i.invariant.width;
      kept = subst (λ (items : List ℕ). AreKeptBefore c.args.width (c.loop-i.i + 1) c.args.sigs.now c.args.places.now items) (sym c.set.ensures.items) more;
    }

pub returns : goal.returns
returns c =
    let all : c.loop-i.i ≡ length c.args.sigs.now = omega arith in
    record {
      width = c.loop-i.invariant.width;
      kept = all_kept c.args.width c.args.sigs.now c.args.places.now c.loop-i.list.items
          (subst (λ (n : ℕ). AreKeptBefore c.args.width n c.args.sigs.now c.args.places.now c.loop-i.list.items) all c.loop-i.invariant.kept);
    }
