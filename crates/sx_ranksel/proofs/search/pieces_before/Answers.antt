use Rattle.std.proofs.Common.{◌≡◌, ◌+◌, ◌-◌, ◌*◌, ◌/◌, ◌%◌, ◌<◌, ◌≤◌, ◌^◌, bit_and, sym, ap, subst, ◌∙◌, arith, inl, inr}
use Rattle.std.specs.Int.Count.{ones}
use Rattle.std.proofs.Math.Nat.{mul-le-mul}
use Rattle.std.proofs.lemmas.Bool.{cases_lt}
use Rattle.sx_fields.proofs.WordFields.{masked}
use Rattle.sx_ranksel.proofs.WordSelect.{not_after}
use Rattle.sx_ranksel.proofs.search.pieces_before.Goals.{then-below-k, else-below-k}
use Rattle.sx_ranksel.proofs.search.pieces_before.Goals as goal

pub loop-piece-preserved : goal.loop-piece-preserved
loop-piece-preserved c =
    let w = c.args.word in
    let s = c.args.size in
    let k = c.args.k in
    let l = c.loop-piece in
    let seven : l.piece ≤ 7 = omega (arith, c.loop-piece-test.true) in
    let most : s * l.piece ≤ 8 * 7 = mul-le-mul c.requires.short seven in
    let mask : ones (bit_and w ((2 ^ 64 - 1) / 2 ^ (64 - s * l.piece))) ≡ ones (w % 2 ^ (s * l.piece)) = ap ones (masked w (s * l.piece) (omega arith)) in
    elim c.if-below-k.branch [
      | then-below-k t ↦
          let past : ones (w % 2 ^ (s * l.piece)) ≤ k = subst (λ n. n ≤ k) mask t.if-below-k.true in
          let all : l.pieces + 1 ≡ l.piece = elim (cases_lt (l.pieces + 1) l.piece) [
            | inl lt ↦ absurd (not_after w s k l.pieces l.piece l.invariant.few past (l.invariant.high lt))
            | inr le ↦ omega (arith, l.invariant.few)
          ] in
          let is : c.if-below-k.pieces ≡ l.piece = t.pieces-is ∙ all in
          record {
            few = omega arith;
            low = subst (λ n. ones (w % 2 ^ (s * n)) ≤ k) (sym is) past;
            high = λ less. absurd (omega arith);
          }
      | else-below-k t ↦
          let more : k < ones (w % 2 ^ (s * l.piece)) = subst (λ n. k < n) mask t.if-below-k.false in
          let is : c.if-below-k.pieces ≡ l.pieces = t.pieces-is in
          record {
            few = omega (arith, l.invariant.few);
            low = subst (λ n. ones (w % 2 ^ (s * n)) ≤ k) (sym is) l.invariant.low;
            high = λ less. subst (λ n. k < ones (w % 2 ^ (s * (n + 1)))) (sym is) (elim (cases_lt (l.pieces + 1) l.piece) [
              | inl lt ↦ l.invariant.high lt
              | inr le ↦
                  let e : l.piece ≡ l.pieces + 1 = omega (arith, l.invariant.few) in
                  subst (λ n. k < ones (w % 2 ^ (s * n))) e more
            ]);
          }
    ]
