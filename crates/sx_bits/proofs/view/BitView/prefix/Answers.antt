use Rattle.std.proofs.Common.{◌≡◌, ◌-◌, take, ap, ◌∙◌, arith}
use Rattle.sx_bits.specs.Views.{bits_of}
use Rattle.sx_bits.proofs.view.BitView.prefix.Goals as goal

pub returns : goal.returns
returns c =
    let e : c.args.n - 0 ≡ c.args.n = omega arith in
    c.range.ensures ∙ ap (λ n. take n (bits_of c.args.self.now)) e
