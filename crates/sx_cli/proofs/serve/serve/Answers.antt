use Rattle.std.proofs.Common.{◌-◌, arith, refl, sym, ◌∙◌}
use Rattle.sx_cli.proofs.Serves.{begins, part_written, line_answered, output_broken, ends_done, ends_long, ends_many, ends_broken}
use Rattle.sx_cli.proofs.Advances.{breaks_behind}
use Rattle.sx_cli.proofs.serve.serve.Goals as goal

pub lines-init : goal.lines-init
lines-init g c = record {
  serving = begins _ (g.S.Source.left c.args.input.now) (g.O.Sink.written c.args.out.now) c.args.reader.now c.args.replies.now (c.args.steps.now - c.args.steps.now) c.requires.fresh c.requires.empty (omega arith);
  counted = omega arith;
  calm = refl;
  calm_out = refl;
}

pub returns-in-Err-clause-served : goal.returns-in-Err-clause-served
returns-in-Err-clause-served g c =
    let i = c.lines.invariant in
    let s = i.serving in
    output_broken _ _ _ (g.S.Source.left c.lines.input) (g.O.Sink.written c.lines.out) c.lines.reader c.lines.replies (c.lines.steps - c.args.steps.now) s (g.O.Sink.faults c.lines.out)
    (breaks_behind _ _ c.lines.reader.held c.lines.reader.ended s.lines s.progress) c.in-Err.ensures.failed (omega (arith, i.calm_out)) c.in-Err.ensures.cause.failed

pub returns-then-number-gt-MAX_QUERIES-clause-served : goal.returns-then-number-gt-MAX_QUERIES-clause-served
returns-then-number-gt-MAX_QUERIES-clause-served g c =
    let i = c.lines.invariant in
    let s = part_written _ _ _ c.lines.reader _ _ _ c.lines.replies c.write_held.new.replies (c.lines.steps - c.args.steps.now) c.has_line-ready.result i.serving c.in-Ok.ensures.ok in
    let over = c.if-number-gt-MAX_QUERIES.true in
    ends_many _ _ _ (g.S.Source.left c.lines.input) (g.O.Sink.written c.write_held.new.out) c.lines.reader c.write_held.new.replies (c.lines.steps - c.args.steps.now) s c.next.new.self (c.in-Ok-Line.ensures.line cc)
    (omega (arith, c.number.ensures)) (g.O.Sink.faults c.write_held.new.out) c.finish.result (omega (arith, i.calm_out, c.in-Ok.ensures.cause.later)) c.finish.ensures.finished

pub lines-preserved : goal.lines-preserved
lines-preserved g c =
    let i = c.lines.invariant in
    let s = part_written _ _ _ c.lines.reader _ _ _ c.lines.replies c.write_held.new.replies (c.lines.steps - c.args.steps.now) c.has_line-ready.result i.serving c.in-Ok.ensures.ok in
    let few = c.if-number-gt-MAX_QUERIES.false in
    let cost = c.put_reply.ensures.cost in
    record {
      serving = line_answered _ _ _ _ c.lines.reader c.next.new.self _ _ c.write_held.new.replies c.put_reply.new.replies (c.lines.steps - c.args.steps.now) (c.put_reply.new.steps - c.args.steps.now) s (c.in-Ok-Line.ensures.line cc) c.line.result.now (sym c.line.ensures) c.in-Ok-Line.ensures.same c.in-Ok-Line.ensures.fault
          (omega (arith, c.number.ensures)) c.put_reply.ensures.put (omega (arith, i.counted));
      counted = omega (arith, i.counted, c.put_reply.ensures.counted);
      calm = c.in-Ok-Line.ensures.counts.calm refl ∙ i.calm;
      calm_out = c.in-Ok.ensures.cause.calm ∙ i.calm_out;
    }

pub returns-in-Ok-End-clause-served : goal.returns-in-Ok-End-clause-served
returns-in-Ok-End-clause-served g c =
    let i = c.lines.invariant in
    let s = part_written _ _ _ c.lines.reader _ _ _ c.lines.replies c.write_held.new.replies (c.lines.steps - c.args.steps.now) c.has_line-ready.result i.serving c.in-Ok.ensures.ok in
    ends_done _ _ _ (g.S.Source.left c.lines.input) (g.O.Sink.written c.write_held.new.out) c.lines.reader c.write_held.new.replies (c.lines.steps - c.args.steps.now) s c.next.new.self (c.in-Ok-End.ensures.end cc)
    (g.O.Sink.faults c.write_held.new.out) c.finish-in-Ok-End.result (omega (arith, i.calm_out, c.in-Ok.ensures.cause.later)) c.finish-in-Ok-End.ensures.finished

pub returns-in-Err-TooLong-clause-served : goal.returns-in-Err-TooLong-clause-served
returns-in-Err-TooLong-clause-served g c =
    let i = c.lines.invariant in
    let s = part_written _ _ _ c.lines.reader _ _ _ c.lines.replies c.write_held.new.replies (c.lines.steps - c.args.steps.now) c.has_line-ready.result i.serving c.in-Ok.ensures.ok in
    let long = c.in-Err-TooLong.ensures.too_long c.in-Err-TooLong.line (cc) s.fault in
    ends_long _ _ _ (g.S.Source.left c.lines.input) (g.O.Sink.written c.write_held.new.out) c.lines.reader c.write_held.new.replies (c.lines.steps - c.args.steps.now) s c.next.new.self c.in-Err-TooLong.line long
    (g.O.Sink.faults c.write_held.new.out) c.finish-in-Err-TooLong.result (omega (arith, i.calm_out, c.in-Ok.ensures.cause.later)) c.finish-in-Err-TooLong.ensures.finished

pub returns-in-Err-ReadFault-clause-served : goal.returns-in-Err-ReadFault-clause-served
returns-in-Err-ReadFault-clause-served g c =
    let i = c.lines.invariant in
    let w = c.in-Ok.ensures.ok in
    let s = part_written _ _ _ c.lines.reader _ _ _ c.lines.replies c.write_held.new.replies (c.lines.steps - c.args.steps.now) c.has_line-ready.result i.serving w in
    let fails = c.in-Err-ReadFault.ensures.read_fault (cc) s.fault in
    let none = w.none (c.has_line-ready.ensures ∙ fails.0.wanted) in
    ends_broken _ _ _ (g.S.Source.left c.lines.input) (g.O.Sink.written c.write_held.new.out) c.lines.reader c.write_held.new.replies (c.lines.steps - c.args.steps.now) s c.next.new.self fails.0 none refl
    (g.S.Source.faults c.lines.input) (omega (arith, i.calm)) fails.1
