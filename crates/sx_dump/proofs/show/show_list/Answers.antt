use Rattle.std.proofs.Common.{◌≡◌, ◌++◌, ℕ, List, codes, drop, refl, sym}
use Rattle.sx_fields.proofs.Places.{length-fields}
use Rattle.sx_spec.specs.Fields.{fields}
use Rattle.sx_sections.specs.Lines.{list_line}
use Rattle.sx_sections.specs.Names.{name_text}
use Rattle.sx_dump.specs.Showing.{list_lines, number_lines}
use Rattle.sx_dump.proofs.Showing.{at_exit, cut_before, last_cut, last_shown, shown_put}
use Rattle.sx_dump.proofs.Texts.{list_behind}
use Rattle.sx_dump.proofs.show.show_list.Goals as goal

pub returns-in_err-make_room-clause-failed : goal.returns-in_err-make_room-clause-failed
returns-in_err-make_room-clause-failed g c =
    let s = c.args.list.now in
    at_exit c.from_residual.result
    (cut_before (g.O.Sink.written c.args.out.now) (g.O.Sink.written c.make_room.new.out) c.args.page.now.bytes
    (list_lines c.args.name s.width (fields s.width s.count (drop s.body (g.B.WordBank.words_of c.args.bank)))) c.in_err-make_room.ensures.failed)

pub returns-clause-ok : goal.returns-clause-ok
returns-clause-ok g c =
    let s = c.args.list.now in
    let all = g.B.WordBank.words_of c.args.bank in
    let old = c.args.page.now.bytes in
    let a = g.O.Sink.written c.args.out.now in
    let b = g.O.Sink.written c.make_room.new.out in
    let d = g.O.Sink.written c.show_numbers.new.out in
    let line = list_line (name_text c.args.name) s.count s.width in
    let items : List ℕ = fields s.width s.count (drop s.body all) in
    let n = c.new-numbers.result in
    let numbers : List ℕ = fields n.width n.len (drop n.first (g.B.WordBank.words_of n.bank)) in
    let text : old ++ list_lines c.args.name s.width items ≡ (old ++ line) ++ number_lines (codes "item") numbers =
    list_behind old line c.args.name s.width s.count items numbers refl (sym (length-fields s.width s.count (drop s.body all))) c.new-numbers.ensures.items in
    let first = shown_put {a = a} {b = b} {text = old} {held = c.make_room.new.page.bytes} line c.put_list.new.page.bytes c.in_ok-make_room.ensures.ok c.put_list.ensures in
    last_shown c.show_numbers.result a b d (old ++ line) c.put_list.new.page.bytes (number_lines (codes "item") numbers)
    c.show_numbers.new.page.bytes (old ++ list_lines c.args.name s.width items) text first c.show_numbers.ensures.ok

pub returns-clause-failed : goal.returns-clause-failed
returns-clause-failed g c =
    let s = c.args.list.now in
    let all = g.B.WordBank.words_of c.args.bank in
    let old = c.args.page.now.bytes in
    let a = g.O.Sink.written c.args.out.now in
    let b = g.O.Sink.written c.make_room.new.out in
    let d = g.O.Sink.written c.show_numbers.new.out in
    let line = list_line (name_text c.args.name) s.count s.width in
    let items : List ℕ = fields s.width s.count (drop s.body all) in
    let n = c.new-numbers.result in
    let numbers : List ℕ = fields n.width n.len (drop n.first (g.B.WordBank.words_of n.bank)) in
    let text : old ++ list_lines c.args.name s.width items ≡ (old ++ line) ++ number_lines (codes "item") numbers =
    list_behind old line c.args.name s.width s.count items numbers refl (sym (length-fields s.width s.count (drop s.body all))) c.new-numbers.ensures.items in
    let first = shown_put {a = a} {b = b} {text = old} {held = c.make_room.new.page.bytes} line c.put_list.new.page.bytes c.in_ok-make_room.ensures.ok c.put_list.ensures in
    last_cut c.show_numbers.result a b d (old ++ line) c.put_list.new.page.bytes (number_lines (codes "item") numbers)
    (old ++ list_lines c.args.name s.width items) text first c.show_numbers.ensures.failed
