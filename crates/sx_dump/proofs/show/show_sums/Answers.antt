use Rattle.std.proofs.Common.{◌≡◌, ◌++◌, ℕ, List, codes, refl, sym}
use Rattle.sx_sections.specs.Lines.{sums_line}
use Rattle.sx_sections.specs.Names.{name_text}
use Rattle.sx_dump.specs.Showing.{number_lines, sums_lines, sums_read}
use Rattle.sx_dump.proofs.Showing.{at_exit, cut_before, last_cut, last_shown, shown_put}
use Rattle.sx_dump.proofs.SumsOnes.{read_count, read_end}
use Rattle.sx_dump.proofs.Texts.{sums_behind}
use Rattle.sx_dump.proofs.show.show_sums.Goals as goal

pub returns-in_err-make_room-clause-failed : goal.returns-in_err-make_room-clause-failed
returns-in_err-make_room-clause-failed g c =
    at_exit c.from_residual.result
    (cut_before (g.O.Sink.written c.args.out.now) (g.O.Sink.written c.make_room.new.out) c.args.page.now.bytes
    (sums_lines c.args.name (sums_read (g.B.WordBank.words_of c.args.bank) c.args.sums.now)) c.in_err-make_room.ensures.failed)

pub returns-clause-ok : goal.returns-clause-ok
returns-clause-ok g c =
    let s = c.args.sums.now in
    let all = g.B.WordBank.words_of c.args.bank in
    let old = c.args.page.now.bytes in
    let a = g.O.Sink.written c.args.out.now in
    let b = g.O.Sink.written c.make_room.new.out in
    let d = g.O.Sink.written c.show_sums_items.new.out in
    let line = sums_line (name_text c.args.name) s.count s.below in
    let items : List ℕ = sums_read all s in
    let text : old ++ sums_lines c.args.name items ≡ (old ++ line) ++ number_lines (codes "item") items =
    sums_behind old line c.args.name s.count s.below items refl (sym (read_count all s c.requires)) (sym (read_end all s c.requires)) in
    let first = shown_put {a = a} {b = b} {text = old} {held = c.make_room.new.page.bytes} line c.put_sums.new.page.bytes c.in_ok-make_room.ensures.ok c.put_sums.ensures in
    last_shown c.show_sums_items.result a b d (old ++ line) c.put_sums.new.page.bytes (number_lines (codes "item") items)
    c.show_sums_items.new.page.bytes (old ++ sums_lines c.args.name items) text first c.show_sums_items.ensures.ok

pub returns-clause-failed : goal.returns-clause-failed
returns-clause-failed g c =
    let s = c.args.sums.now in
    let all = g.B.WordBank.words_of c.args.bank in
    let old = c.args.page.now.bytes in
    let a = g.O.Sink.written c.args.out.now in
    let b = g.O.Sink.written c.make_room.new.out in
    let d = g.O.Sink.written c.show_sums_items.new.out in
    let line = sums_line (name_text c.args.name) s.count s.below in
    let items : List ℕ = sums_read all s in
    let text : old ++ sums_lines c.args.name items ≡ (old ++ line) ++ number_lines (codes "item") items =
    sums_behind old line c.args.name s.count s.below items refl (sym (read_count all s c.requires)) (sym (read_end all s c.requires)) in
    let first = shown_put {a = a} {b = b} {text = old} {held = c.make_room.new.page.bytes} line c.put_sums.new.page.bytes c.in_ok-make_room.ensures.ok c.put_sums.ensures in
    last_cut c.show_sums_items.result a b d (old ++ line) c.put_sums.new.page.bytes (number_lines (codes "item") items)
    (old ++ sums_lines c.args.name items) text first c.show_sums_items.ensures.failed
