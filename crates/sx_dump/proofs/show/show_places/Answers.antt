use Rattle.std.proofs.Common.{◌≡◌, ◌+◌, ◌++◌, ◌∷◌, [], ℕ, List, ap, arith, length, length-append, refl, subst, sym, ◌∙◌}
use Rattle.std.specs.Prelude.{Some, flat_map, slice_get, zip}
use Rattle.std.proofs.lemmas.Option.{slice_get-get_or}
use Rattle.std.proofs.lemmas.Slice.Zip.{length-zip, zip_end, zip_turn}
use Rattle.sx_edge.specs.Parts.{AppendsPrefix}
use Rattle.sx_sections.specs.Headers.{header_as}
use Rattle.sx_sections.specs.declared.place.Place.{Place}
use Rattle.sx_dump.specs.Showing.{IsShown, place_lines, places_lines}
use Rattle.sx_dump.proofs.Showing.{at_exit, shown_none, text_cut, text_shown, texts_shown}
use Rattle.sx_dump.proofs.ShownPlaces.{places_are, place_stands, zip_item}
use Rattle.sx_dump.proofs.show.show_places.Goals as goal

pub sections-init : goal.sections-init
sections-init g c = record {
  shown = shown_none (g.O.Sink.written c.args.out.now) c.args.page.now.bytes;
  calm = refl;
  counted = omega arith;
}

pub sections-preserved : goal.sections-preserved
sections-preserved g c =
    let s = c.into_iter-slot-iterator.result in
    let ks = s.a.rest.now in
    let vs = s.b.rest.now in
    let turn = zip_turn ks vs c.sections.yielded s c.sections.slot-iterator c.next.new.self c.next.result refl refl c.sections.yielded_by (c.in-Some.slot, c.in-Some.place) c.in-Some.is c.next.ensures.steps in
    let n = length c.sections.yielded in
    let next : length (c.sections.yielded ++ (c.in-Some.slot, c.in-Some.place) ∷ []) ≡ n + 1 = simp length-append (omega arith) in
    record {
      shown = text_shown (λ p. place_lines (g.B.WordBank.words_of c.args.bank) p.0.name p.1) c.args.page.now.bytes (zip ks vs) n
          (length (c.sections.yielded ++ (c.in-Some.slot, c.in-Some.place) ∷ []))
          (g.O.Sink.written c.args.out.now) (g.O.Sink.written c.sections.out) (g.O.Sink.written c.show_section.new.out) (c.in-Some.slot.now, c.in-Some.place.now)
          c.sections.page.bytes c.show_section.new.page.bytes next c.sections.invariant.shown c.in_ok-show_section.ensures.ok
          (zip_item ks vs n c.in-Some.slot.now c.in-Some.place.now turn.0 turn.1 (turn.2 c.in-Some.slot.now) (turn.3 c.in-Some.place.now));
      calm = c.in_ok-show_section.ensures.cause.calm ∙ c.sections.invariant.calm;
      counted = omega (arith, c.sections.invariant.counted, c.show_section.ensures.counted);
    }

pub show_section-requires : goal.show_section-requires
show_section-requires g c =
    let s = c.into_iter-slot-iterator.result in
    let ks = s.a.rest.now in
    let vs = s.b.rest.now in
    let turn = zip_turn ks vs c.sections.yielded s c.sections.slot-iterator c.next.new.self c.next.result refl refl c.sections.yielded_by (c.in-Some.slot, c.in-Some.place) c.in-Some.is c.next.ensures.steps in
    let second : c.zip-slot-items.result.b.rest.now ≡ c.args.places.now = c.zip-slot-items.ensures.second.0 in
    let vs_are : vs ≡ c.args.places.now = (λ i. (c.into_iter-slot-iterator.ensures.into_iter_gives i).b.rest.now) ∙ second in
    let n = length c.sections.yielded in
    let at : slice_get vs n ≡ Some c.in-Some.place.now = slice_get-get_or vs n c.in-Some.place.now turn.1 ∙ ap (λ (p : Place). Some p) (sym (turn.3 c.in-Some.place.now)) in
    place_stands (g.B.WordBank.words_of c.args.bank) c.args.places.now n c.in-Some.place.now c.requires.stand
    (subst (λ (places : List Place). slice_get places n ≡ Some c.in-Some.place.now) vs_are at)

pub returns-in_err-show_section-clause-failed : goal.returns-in_err-show_section-clause-failed
returns-in_err-show_section-clause-failed g c =
    let s = c.into_iter-slot-iterator.result in
    let ks = s.a.rest.now in
    let vs = s.b.rest.now in
    let turn = zip_turn ks vs c.sections.yielded s c.sections.slot-iterator c.next.new.self c.next.result refl refl c.sections.yielded_by (c.in-Some.slot, c.in-Some.place) c.in-Some.is c.next.ensures.steps in
    let second : c.zip-slot-items.result.b.rest.now ≡ c.args.places.now = c.zip-slot-items.ensures.second.0 in
    let vs_are : vs ≡ c.args.places.now = (λ i. (c.into_iter-slot-iterator.ensures.into_iter_gives i).b.rest.now) ∙ second in
    let words = g.B.WordBank.words_of c.args.bank in
    let n = length c.sections.yielded in
    let ks_are : ks ≡ c.slots-all.result.items =
    (λ i. (c.into_iter-slot-iterator.ensures.into_iter_gives i).a.rest.now) ∙ (λ i. (c.zip-slot-items.ensures.first i).rest.now) ∙ c.iter.ensures.rest ∙ c.as_slice-listed.ensures.value in
    let text : flat_map (λ p. place_lines words p.0.name p.1) (zip ks vs) ≡ places_lines (header_as c.args.header.now) words c.args.places.now =
    (λ i. flat_map (λ p. place_lines words p.0.name p.1) (zip (ks_are i) (vs_are i)))
    ∙ places_are words (header_as c.args.header.now) c.slots-all.result.items c.args.places.now c.slots-all.ensures.table in
    at_exit c.from_residual.result
    (subst (λ (lines : List ℕ). AppendsPrefix (g.O.Sink.written c.args.out.now) (g.O.Sink.written c.show_section.new.out) (c.args.page.now.bytes ++ lines)) text
    (text_cut (λ p. place_lines words p.0.name p.1) c.args.page.now.bytes (zip ks vs) n
    (g.O.Sink.written c.args.out.now) (g.O.Sink.written c.sections.out) (g.O.Sink.written c.show_section.new.out) (c.in-Some.slot.now, c.in-Some.place.now)
    c.sections.page.bytes c.sections.invariant.shown c.in_err-show_section.ensures.failed
    (zip_item ks vs n c.in-Some.slot.now c.in-Some.place.now turn.0 turn.1 (turn.2 c.in-Some.slot.now) (turn.3 c.in-Some.place.now))))

pub returns-clause-ok : goal.returns-clause-ok
returns-clause-ok g c =
    let s = c.into_iter-slot-iterator.result in
    let ks = s.a.rest.now in
    let vs = s.b.rest.now in
    let words = g.B.WordBank.words_of c.args.bank in
    let n = length c.sections.yielded in
    let end = zip_end ks vs c.sections.yielded s c.sections.slot-iterator c.next.new.self c.next.result refl refl c.sections.yielded_by c.in-None.is c.next.ensures.steps in
    let long = length-zip ks vs in
    let second : c.zip-slot-items.result.b.rest.now ≡ c.args.places.now = c.zip-slot-items.ensures.second.0 in
    let vs_are : vs ≡ c.args.places.now = (λ i. (c.into_iter-slot-iterator.ensures.into_iter_gives i).b.rest.now) ∙ second in
    let ks_are : ks ≡ c.slots-all.result.items =
    (λ i. (c.into_iter-slot-iterator.ensures.into_iter_gives i).a.rest.now) ∙ (λ i. (c.zip-slot-items.ensures.first i).rest.now) ∙ c.iter.ensures.rest ∙ c.as_slice-listed.ensures.value in
    let text : flat_map (λ p. place_lines words p.0.name p.1) (zip ks vs) ≡ places_lines (header_as c.args.header.now) words c.args.places.now =
    (λ i. flat_map (λ p. place_lines words p.0.name p.1) (zip (ks_are i) (vs_are i)))
    ∙ places_are words (header_as c.args.header.now) c.slots-all.result.items c.args.places.now c.slots-all.ensures.table in
    subst (λ (lines : List ℕ). IsShown (g.O.Sink.written c.args.out.now) (g.O.Sink.written c.sections.out) (c.args.page.now.bytes ++ lines) c.sections.page.bytes) text
    (texts_shown (λ p. place_lines words p.0.name p.1) c.args.page.now.bytes (zip ks vs) n (g.O.Sink.written c.args.out.now) (g.O.Sink.written c.sections.out)
    c.sections.page.bytes (omega (arith, end, long)) c.sections.invariant.shown)
