use Rattle.std.proofs.Common.{◌≡◌, ◌-◌, ℕ, map, ap, sym, ◌∙◌, arith}
use Rattle.std.specs.List.{range_with_len}
use Rattle.std.specs.Ordering.{is_lt}
use Rattle.sx_spec.specs.Signature.{signature_cmp}
use Rattle.sx_sig.specs.SignatureWords.{rises, signature_at}
use Rattle.sx_sections.proofs.Rising.{ends, goes_on, stops}
use Rattle.sx_sections.proofs.corrections.are_rising.Goals as goal

pub loop-i-init : goal.loop-i-init
loop-i-init c =
    let same : c.args.count ≡ c.args.count - 0 = omega arith in
    ap (λ (n : ℕ). rises (map (signature_at c.args.words.now c.args.body) (range_with_len 0 n))) same

pub returns-then-not-is_below : goal.returns-then-not-is_below
returns-then-not-is_below c =
    let f = signature_at c.args.words.now c.args.body in
    let test = c.is_below.ensures ∙ (λ t. is_lt (signature_cmp (c.signature_at-before.ensures t) (c.signature_at.ensures t))) in
    stops f c.loop-i.i c.args.count c.is_below.result (omega arith) (omega arith) c.loop-i.invariant test c.if-not-is_below.true

pub loop-i-preserved : goal.loop-i-preserved
loop-i-preserved c =
    let f = signature_at c.args.words.now c.args.body in
    let test = c.is_below.ensures ∙ (λ t. is_lt (signature_cmp (c.signature_at-before.ensures t) (c.signature_at.ensures t))) in
    goes_on f c.loop-i.i c.args.count c.is_below.result (omega arith) (omega arith) c.loop-i.invariant test c.if-not-is_below.false

pub returns : goal.returns
returns c =
    let f = signature_at c.args.words.now c.args.body in
    sym (c.loop-i.invariant ∙ ends f (c.loop-i.i - 1) c.args.count (omega arith))
