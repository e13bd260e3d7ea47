use Rattle.std.proofs.Common.{length, take, ap, subst, ◌∙◌, ◌+◌, ◌-◌, arith, []}
use Rattle.sha2.specs.Hashers.{Holds256}
use Rattle.sx_spec_strings.specs.Bits.{packed_bytes}
use Rattle.sx_bits.specs.Views.{bits_of}
use Rattle.sx_sig.specs.Heading.{heading}
use Rattle.sx_sig.proofs.Messages.{front_of}
use Rattle.sx_sig.proofs.signing.begin.Goals as goal

pub returns : goal.returns
returns c =
    let bits = bits_of c.args.view.now in
    let start = c.put_heading-start.result in
    let used = c.fill-used.result in
    let piece = c.copy_from_slice.new.self in
    let same = c.copy_from_slice.ensures.after in
    let held = c.update.ensures [] c.new-hasher.ensures in
    subst (Holds256 c.update.new.self)
    (front_of c.put_heading-start.new.front piece (heading c.args.seed (length bits) c.args.tag) (packed_bytes (take 512 bits)) start (start + 64 - start) used
    (omega arith) (c.put_heading-start.ensures.put ∙ ap (λ n. heading c.args.seed n c.args.tag) c.len.ensures.value) (omega arith) (ap (take used) same ∙ c.fill-used.ensures.packed))
    held
