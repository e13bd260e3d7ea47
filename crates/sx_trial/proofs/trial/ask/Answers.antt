use Rattle.std.proofs.Common.{◌≡◌, ℕ, ◌+◌, ◌-◌, ◌∙◌, length, ap, arith}
use Rattle.sx_spec_strings.specs.Bits.{Bits, key_bits}
use Rattle.sx_spec.proofs.Signatures.{length-key_bits}
use Rattle.sx_spec.specs.Layout.{Dump}
use Rattle.sx_spec.specs.Trial.{eight_digits}
use Rattle.sx_bits.specs.Views.{bits_of}
use Rattle.sx_dump.specs.Opening.{dump_in}
use Rattle.sx_trial.specs.declared.trial.Replies.{Replies}
use Rattle.sx_trial.proofs.Answered.{one_answered, one_unanswered}
use Rattle.sx_trial.proofs.trial.ask.Goals as goal
use Rattle.sx_trial.proofs.trial.ask.Goals.{in-Some, in-None}

pub string_reply-requires : goal.string_reply-requires
string_reply-requires g c =
    let long = length-key_bits c.eight_digits-line.result in
    let same = ap (λ (bits : Bits). length bits) c.key_bits.ensures in
    omega (arith, long, same)

pub loop-number-preserved : goal.loop-number-preserved
loop-number-preserved g c =
    let d : Dump = dump_in (g.B.WordBank.words_of c.args.dump.now.bank) in
    let string : bits_of c.key_bits.result ≡ key_bits (eight_digits c.loop-number.number) = c.key_bits.ensures ∙ ap key_bits c.eight_digits-line.ensures in
    let n : ℕ = c.loop-number.number - c.args.first in
    elim c.match-string_reply.branch [
      | in-Some w ↦ record {
        asked = one_answered d c.args.first n (c.loop-number.number + 1 - c.args.first) c.loop-number.number c.loop-number.replies.count c.loop-number.replies.sum w.in-Some.value
            c.match-string_reply.replies.count c.match-string_reply.replies.sum (bits_of c.key_bits.result) c.loop-number.invariant.asked (omega arith) (omega arith)
            string w.in-Some.ensures.value (omega arith)
            (ap (λ (r : Replies). r.count) w.replies-is) (ap (λ (r : Replies). r.sum) w.replies-is ∙ ap (λ (v : ℕ). c.loop-number.replies.sum + v) w.from.ensures);
        counted = omega (arith, c.loop-number.invariant.counted, c.string_reply.ensures.counted);
      }
      | in-None w ↦ record {
        asked = one_unanswered d c.args.first n (c.loop-number.number + 1 - c.args.first) c.loop-number.number c.loop-number.replies.count c.loop-number.replies.sum
            c.match-string_reply.replies.count c.match-string_reply.replies.sum (bits_of c.key_bits.result) c.loop-number.invariant.asked (omega arith) (omega arith)
            string w.in-None.ensures.value
            (ap (λ (r : Replies). r.count) w.replies-is) (ap (λ (r : Replies). r.sum) w.replies-is);
        counted = omega (arith, c.loop-number.invariant.counted, c.string_reply.ensures.counted);
      }
    ]
