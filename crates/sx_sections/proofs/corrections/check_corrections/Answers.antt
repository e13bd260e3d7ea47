use Rattle.std.proofs.Common.{arith}
use Rattle.sx_sections.proofs.Signatures.{corrections_found, order_fails}
use Rattle.sx_sections.proofs.corrections.check_corrections.Goals as goal

pub returns-then-not-are_rising : goal.returns-then-not-are_rising
returns-then-not-are_rising c =
    order_fails c.args.words.now c.args.at c.args.most (omega arith) (omega arith) (omega arith)
    c.are_rising.result c.are_rising.ensures c.if-not-are_rising.true

pub returns : goal.returns
returns c =
    corrections_found c.args.words.now c.args.at c.args.most (omega arith) (omega arith) (omega arith)
    c.are_rising.result c.are_rising.ensures c.if-not-are_rising.false c.requires.few
