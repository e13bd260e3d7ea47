use Rattle.std.proofs.Common.{◌∙◌, arith, drop, refl}
use Rattle.sx_spec.specs.Fields.{fields}
use Rattle.sx_sections.specs.Lines.{entry_line}
use Rattle.sx_dump.proofs.Showing.{at_exit, read_at, shown_none, turn_cut, turn_shown, turns_shown}
use Rattle.sx_dump.proofs.show.show_numbers.Goals as goal

pub numbers-init : goal.numbers-init
numbers-init g c = record {
  shown = shown_none (g.O.Sink.written c.args.out.now) c.args.page.now.bytes;
  calm = refl;
  counted = omega arith;
}

pub numbers-preserved : goal.numbers-preserved
numbers-preserved g c =
    let p = c.args.numbers.now in
    let items = fields p.width p.len (drop p.first (g.B.WordBank.words_of p.bank)) in
    record {
      shown = turn_shown (λ p. entry_line c.args.word.now p.0 p.1) c.args.page.now.bytes items c.numbers.i (g.O.Sink.written c.args.out.now) (g.O.Sink.written c.numbers.out) (g.O.Sink.written c.make_room.new.out) c.read.result
          c.numbers.page.bytes c.make_room.new.page.bytes c.put_entry.new.page.bytes c.numbers.invariant.shown c.in_ok-make_room.ensures.ok c.put_entry.ensures (read_at items c.numbers.i c.read.result (omega arith) c.read.ensures.value);
      calm = c.in_ok-make_room.ensures.cause.calm ∙ c.numbers.invariant.calm;
      counted = omega (arith, c.numbers.invariant.counted, c.read.ensures.counted);
    }

pub returns-in_err-make_room-clause-failed : goal.returns-in_err-make_room-clause-failed
returns-in_err-make_room-clause-failed g c =
    let p = c.args.numbers.now in
    let items = fields p.width p.len (drop p.first (g.B.WordBank.words_of p.bank)) in
    at_exit c.from_residual.result
    (turn_cut (λ p. entry_line c.args.word.now p.0 p.1) c.args.page.now.bytes items c.numbers.i (g.O.Sink.written c.args.out.now) (g.O.Sink.written c.numbers.out) (g.O.Sink.written c.make_room.new.out)
    c.numbers.page.bytes c.numbers.invariant.shown c.in_err-make_room.ensures.failed)

pub returns-clause-ok : goal.returns-clause-ok
returns-clause-ok g c =
    let p = c.args.numbers.now in
    let items = fields p.width p.len (drop p.first (g.B.WordBank.words_of p.bank)) in
    turns_shown (λ p. entry_line c.args.word.now p.0 p.1) c.args.page.now.bytes items c.numbers.i (g.O.Sink.written c.args.out.now) (g.O.Sink.written c.numbers.out) c.numbers.page.bytes (omega arith) c.numbers.invariant.shown
