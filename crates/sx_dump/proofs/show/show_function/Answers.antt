use Rattle.std.proofs.Common.{◌≡◌, ◌++◌, ℕ, List, codes, drop, refl, sym, subst, ◌∙◌}
use Rattle.sx_edge.specs.Parts.{AppendsPrefix}
use Rattle.sx_spec.specs.Fields.{fields}
use Rattle.sx_spec.specs.StaticFunction.{Function}
use Rattle.sx_static.specs.Viewing.{viewed}
use Rattle.sx_sections.specs.Lines.{function_line}
use Rattle.sx_sections.specs.Names.{name_text}
use Rattle.sx_dump.specs.Showing.{chunk_lines, function_lines, number_lines}
use Rattle.sx_dump.proofs.Showing.{at_exit, cut_before, last_cut, last_shown, shown_on, shown_put, then_cut}
use Rattle.sx_dump.proofs.Tables.{chunks_count}
use Rattle.sx_dump.proofs.Texts.{function_behind}
use Rattle.sx_dump.proofs.show.show_function.Goals as goal

pub returns-in_err-make_room-clause-failed : goal.returns-in_err-make_room-clause-failed
returns-in_err-make_room-clause-failed g c =
    let v = c.args.values.now in
    at_exit c.from_residual.result
    (cut_before (g.O.Sink.written c.args.out.now) (g.O.Sink.written c.make_room.new.out) c.args.page.now.bytes
    (function_lines c.args.name (viewed (g.B.WordBank.words_of v.bank) v.first v.width v.pairs)) c.in_err-make_room.ensures.failed)

pub returns-in_err-show_chunks-clause-failed : goal.returns-in_err-show_chunks-clause-failed
returns-in_err-show_chunks-clause-failed g c =
    let v = c.args.values.now in
    let all = g.B.WordBank.words_of v.bank in
    let f : Function = viewed all v.first v.width v.pairs in
    let old = c.args.page.now.bytes in
    let a = g.O.Sink.written c.args.out.now in
    let b = g.O.Sink.written c.make_room.new.out in
    let d = g.O.Sink.written c.show_chunks.new.out in
    let line = function_line (name_text c.args.name) v.width c.from.result c.chunk_count.result c.len.result in
    let items : List ℕ = fields c.cells_of-cells.result.width c.cells_of-cells.result.len (drop c.cells_of-cells.result.first (g.B.WordBank.words_of c.cells_of-cells.result.bank)) in
    let text : old ++ function_lines c.args.name f ≡ ((old ++ line) ++ chunk_lines f.chunks) ++ number_lines (codes "cell") items =
    function_behind old line c.args.name f items c.from.result c.chunk_count.result c.len.result refl c.from.ensures
    (c.chunk_count.ensures.value ∙ sym (chunks_count all v.first v.width v.pairs v.stands)) c.len.ensures c.cells_of-cells.ensures.cells in
    let put = shown_put {a = a} {b = b} {text = old} {held = c.make_room.new.page.bytes} line c.put_function.new.page.bytes c.in_ok-make_room.ensures.ok c.put_function.ensures in
    at_exit c.from_residual-in_err-show_chunks.result
    (subst (AppendsPrefix a d) (sym text)
    (cut_before a d ((old ++ line) ++ chunk_lines f.chunks) (number_lines (codes "cell") items)
    (then_cut {a = a} {b = b} {text = old ++ line} {held = c.put_function.new.page.bytes} d (chunk_lines f.chunks) put c.in_err-show_chunks.ensures.failed)))

pub returns-clause-ok : goal.returns-clause-ok
returns-clause-ok g c =
    let v = c.args.values.now in
    let all = g.B.WordBank.words_of v.bank in
    let f : Function = viewed all v.first v.width v.pairs in
    let old = c.args.page.now.bytes in
    let a = g.O.Sink.written c.args.out.now in
    let b = g.O.Sink.written c.make_room.new.out in
    let d = g.O.Sink.written c.show_chunks.new.out in
    let e = g.O.Sink.written c.show_numbers.new.out in
    let line = function_line (name_text c.args.name) v.width c.from.result c.chunk_count.result c.len.result in
    let items : List ℕ = fields c.cells_of-cells.result.width c.cells_of-cells.result.len (drop c.cells_of-cells.result.first (g.B.WordBank.words_of c.cells_of-cells.result.bank)) in
    let text : old ++ function_lines c.args.name f ≡ ((old ++ line) ++ chunk_lines f.chunks) ++ number_lines (codes "cell") items =
    function_behind old line c.args.name f items c.from.result c.chunk_count.result c.len.result refl c.from.ensures
    (c.chunk_count.ensures.value ∙ sym (chunks_count all v.first v.width v.pairs v.stands)) c.len.ensures c.cells_of-cells.ensures.cells in
    let put = shown_put {a = a} {b = b} {text = old} {held = c.make_room.new.page.bytes} line c.put_function.new.page.bytes c.in_ok-make_room.ensures.ok c.put_function.ensures in
    let first = shown_on {a = a} {b = b} {text = old ++ line} {held = c.put_function.new.page.bytes} d (chunk_lines f.chunks) c.show_chunks.new.page.bytes put c.in_ok-show_chunks.ensures.ok in
    last_shown c.show_numbers.result a d e ((old ++ line) ++ chunk_lines f.chunks) c.show_chunks.new.page.bytes (number_lines (codes "cell") items)
    c.show_numbers.new.page.bytes (old ++ function_lines c.args.name f) text first c.show_numbers.ensures.ok

pub returns-clause-failed : goal.returns-clause-failed
returns-clause-failed g c =
    let v = c.args.values.now in
    let all = g.B.WordBank.words_of v.bank in
    let f : Function = viewed all v.first v.width v.pairs in
    let old = c.args.page.now.bytes in
    let a = g.O.Sink.written c.args.out.now in
    let b = g.O.Sink.written c.make_room.new.out in
    let d = g.O.Sink.written c.show_chunks.new.out in
    let e = g.O.Sink.written c.show_numbers.new.out in
    let line = function_line (name_text c.args.name) v.width c.from.result c.chunk_count.result c.len.result in
    let items : List ℕ = fields c.cells_of-cells.result.width c.cells_of-cells.result.len (drop c.cells_of-cells.result.first (g.B.WordBank.words_of c.cells_of-cells.result.bank)) in
    let text : old ++ function_lines c.args.name f ≡ ((old ++ line) ++ chunk_lines f.chunks) ++ number_lines (codes "cell") items =
    function_behind old line c.args.name f items c.from.result c.chunk_count.result c.len.result refl c.from.ensures
    (c.chunk_count.ensures.value ∙ sym (chunks_count all v.first v.width v.pairs v.stands)) c.len.ensures c.cells_of-cells.ensures.cells in
    let put = shown_put {a = a} {b = b} {text = old} {held = c.make_room.new.page.bytes} line c.put_function.new.page.bytes c.in_ok-make_room.ensures.ok c.put_function.ensures in
    let first = shown_on {a = a} {b = b} {text = old ++ line} {held = c.put_function.new.page.bytes} d (chunk_lines f.chunks) c.show_chunks.new.page.bytes put c.in_ok-show_chunks.ensures.ok in
    last_cut c.show_numbers.result a d e ((old ++ line) ++ chunk_lines f.chunks) c.show_chunks.new.page.bytes (number_lines (codes "cell") items)
    (old ++ function_lines c.args.name f) text first c.show_numbers.ensures.failed
