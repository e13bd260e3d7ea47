use Rattle.std.proofs.Common.{◌≡◌, ◌+◌, ◌<◌, ◌≤◌, ◌++◌, drop, length, [], arith}
use Rattle.std.proofs.lemmas.Grind.{common_steps}
use Rattle.sx_memory.proofs.Parts.{copied_part}
use Rattle.sx_memory.proofs.source.MemSourceSource.read.Goals as goal

pub returns-clause-bytes : goal.returns-clause-bytes
returns-clause-bytes c =
    let within : c.args.self.now.at + c.min-count.result ≤ length c.args.self.now.bytes.items = omega arith in
    let here : c.min-count.result ≡ 0 → 0 < length (c.copy_from_slice.new.self ++ drop c.min-count.result c.args.buf.now) → drop (c.args.self.now.at + c.min-count.result) c.args.self.now.bytes.items ≡ [] = λ zero room. grind (arith, common_steps) in
    (copied_part c.args.self.now.bytes.items c.deref.result.now c.copy_from_slice.new.self c.args.buf.now c.args.self.now.at c.min-count.result c.deref.ensures.value c.copy_from_slice.ensures.after within, here)
