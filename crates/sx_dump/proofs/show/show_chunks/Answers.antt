use Rattle.std.proofs.Common.{◌∙◌, arith}
use Rattle.sx_spec.specs.StaticFunction.{Chunk}
use Rattle.sx_static.specs.Viewing.{viewed}
use Rattle.sx_sections.specs.Lines.{chunk_line}
use Rattle.sx_dump.proofs.Showing.{at_exit, turn_cut, turn_shown, turns_shown}
use Rattle.sx_dump.proofs.Tables.{chunks_count}
use Rattle.sx_dump.proofs.show.show_chunks.Goals as goal

pub chunks-preserved : goal.chunks-preserved
chunks-preserved g c =
    let v = c.args.values.now in
    let chunks = (viewed (g.B.WordBank.words_of v.bank) v.first v.width v.pairs).chunks in
    let chunk : Chunk = record { segment = c.chunk_at-segment.result.0; try = c.chunk_at-segment.result.1 } in
    record {
      shown = turn_shown (λ p. chunk_line p.0 p.1) c.args.page.now.bytes chunks c.chunks.i (g.O.Sink.written c.args.out.now) (g.O.Sink.written c.chunks.out) (g.O.Sink.written c.make_room.new.out) chunk
          c.chunks.page.bytes c.make_room.new.page.bytes c.put_chunk.new.page.bytes c.chunks.invariant.shown c.in_ok-make_room.ensures.ok c.put_chunk.ensures c.chunk_at-segment.ensures.chunk;
      calm = c.in_ok-make_room.ensures.cause.calm ∙ c.chunks.invariant.calm;
      counted = omega (arith, c.chunks.invariant.counted, c.chunk_at-segment.ensures.cost);
    }

pub returns-in_err-make_room-clause-failed : goal.returns-in_err-make_room-clause-failed
returns-in_err-make_room-clause-failed g c =
    let v = c.args.values.now in
    let chunks = (viewed (g.B.WordBank.words_of v.bank) v.first v.width v.pairs).chunks in
    at_exit c.from_residual.result
    (turn_cut (λ p. chunk_line p.0 p.1) c.args.page.now.bytes chunks c.chunks.i (g.O.Sink.written c.args.out.now) (g.O.Sink.written c.chunks.out) (g.O.Sink.written c.make_room.new.out)
    c.chunks.page.bytes c.chunks.invariant.shown c.in_err-make_room.ensures.failed)

pub returns-clause-ok : goal.returns-clause-ok
returns-clause-ok g c =
    let v = c.args.values.now in
    let words = g.B.WordBank.words_of v.bank in
    let chunks = (viewed words v.first v.width v.pairs).chunks in
    let count = chunks_count words v.first v.width v.pairs v.stands in
    turns_shown (λ p. chunk_line p.0 p.1) c.args.page.now.bytes chunks c.chunks.i (g.O.Sink.written c.args.out.now) (g.O.Sink.written c.chunks.out) c.chunks.page.bytes
    (omega (arith, count, c.chunk_count-i-end.ensures.value, c.chunks-test.false)) c.chunks.invariant.shown
