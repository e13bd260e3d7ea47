use Rattle.std.proofs.Common.{◌≡◌, ◌++◌, List, sym, subst, ◌∙◌}
use Rattle.sx_edge.specs.Parts.{AppendsPrefix}
use Rattle.sx_sections.specs.declared.place.Place.{Place}
use Rattle.sx_sections.specs.Headers.{header_as}
use Rattle.sx_dump.specs.Opening.{IsOpened}
use Rattle.sx_dump.specs.Showing.{places_lines, text_in}
use Rattle.sx_dump.proofs.Showing.{at_exit, end_cut, end_written}
use Rattle.sx_dump.proofs.Texts.{text_is}
use Rattle.sx_dump.proofs.dump.Dump.show_counted.Goals as goal

pub show_places-requires : goal.show_places-requires
show_places-requires g c =
    let d = c.args.self.now in
    subst (λ (places : List Place). IsOpened (g.B.WordBank.words_of d.bank) d.header places) (sym c.as_slice-places.ensures.value) d.opened

pub returns-in_err-show_places-clause-failed : goal.returns-in_err-show_places-clause-failed
returns-in_err-show_places-clause-failed g c =
    let d = c.args.self.now in
    let words = g.B.WordBank.words_of d.bank in
    let places = c.as_slice-places.result.now in
    let is : IsOpened words d.header places = subst (λ (places : List Place). IsOpened words d.header places) (sym c.as_slice-places.ensures.value) d.opened in
    let text : text_in words ≡ c.put_header.new.page.bytes ++ places_lines (header_as d.header) words places =
    text_is words c.new-page.result.bytes c.put_header.new.page.bytes d.header places is c.new-page.ensures c.put_header.ensures.text in
    at_exit c.from_residual.result
    (subst (AppendsPrefix (g.O.Sink.written c.args.out.now) (g.O.Sink.written c.show_places.new.out)) (sym text) c.in_err-show_places.ensures.failed)

pub returns-clause-ok : goal.returns-clause-ok
returns-clause-ok g c =
    let d = c.args.self.now in
    let words = g.B.WordBank.words_of d.bank in
    let places = c.as_slice-places.result.now in
    let is : IsOpened words d.header places = subst (λ (places : List Place). IsOpened words d.header places) (sym c.as_slice-places.ensures.value) d.opened in
    let page = c.put_header.new.page.bytes in
    let text : text_in words ≡ page ++ places_lines (header_as d.header) words places =
    text_is words c.new-page.result.bytes page d.header places is c.new-page.ensures c.put_header.ensures.text in
    end_written c.write_all.result (g.O.Sink.written c.args.out.now) (g.O.Sink.written c.show_places.new.out) (g.O.Sink.written c.write_all.new.sink) (page ++ places_lines (header_as d.header) words places)
    c.show_places.new.page.bytes c.as_bytes.result.now (text_in words) text (c.as_bytes.ensures.value ∙ c.as_str.ensures.value) c.in_ok-show_places.ensures.ok c.write_all.ensures.ok

pub returns-clause-failed : goal.returns-clause-failed
returns-clause-failed g c =
    let d = c.args.self.now in
    let words = g.B.WordBank.words_of d.bank in
    let places = c.as_slice-places.result.now in
    let is : IsOpened words d.header places = subst (λ (places : List Place). IsOpened words d.header places) (sym c.as_slice-places.ensures.value) d.opened in
    let page = c.put_header.new.page.bytes in
    let text : text_in words ≡ page ++ places_lines (header_as d.header) words places =
    text_is words c.new-page.result.bytes page d.header places is c.new-page.ensures c.put_header.ensures.text in
    end_cut c.write_all.result (g.O.Sink.written c.args.out.now) (g.O.Sink.written c.show_places.new.out) (g.O.Sink.written c.write_all.new.sink) (page ++ places_lines (header_as d.header) words places)
    c.show_places.new.page.bytes c.as_bytes.result.now (text_in words) text (c.as_bytes.ensures.value ∙ c.as_str.ensures.value) c.in_ok-show_places.ensures.ok c.write_all.ensures.failed
