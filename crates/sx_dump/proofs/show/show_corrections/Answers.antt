use Rattle.std.proofs.Common.{◌≡◌, ◌++◌, ◌∙◌, List, arith, refl, subst, sym, ℕ}
use Rattle.sx_edge.specs.Parts.{AppendsPrefix}
use Rattle.sx_sig.specs.SignatureWords.{signatures_at}
use Rattle.sx_sections.specs.Lines.{correction_line, number_line}
use Rattle.sx_sections.specs.Names.{name_text}
use Rattle.sx_dump.specs.Showing.{IsShown, corrections_lines, signature_lines}
use Rattle.sx_dump.proofs.CorrectionWords.{signature_there, signatures_count}
use Rattle.sx_dump.proofs.Showing.{at_exit, cut_before, shown_none, shown_on, shown_put, then_cut, turn_cut, turn_shown, turns_shown}
use Rattle.sx_dump.proofs.Texts.{corrections_behind}
use Rattle.sx_dump.proofs.show.show_corrections.Goals as goal

pub returns-in_err-make_room-clause-failed : goal.returns-in_err-make_room-clause-failed
returns-in_err-make_room-clause-failed g c =
    let s = c.args.corrections.now in
    at_exit c.from_residual.result
    (cut_before (g.O.Sink.written c.args.out.now) (g.O.Sink.written c.make_room.new.out) c.args.page.now.bytes
    (corrections_lines c.args.name (signatures_at (g.B.WordBank.words_of c.args.bank) s.body s.count)) c.in_err-make_room.ensures.failed)

pub signatures-init : goal.signatures-init
signatures-init g c = record {
  shown = shown_none (g.O.Sink.written c.make_room.new.out) c.put_corrections.new.page.bytes;
  calm = refl;
  counted = omega arith;
}

pub signatures-preserved : goal.signatures-preserved
signatures-preserved g c =
    let s = c.args.corrections.now in
    let words = g.B.WordBank.words_of c.args.bank in
    let sigs = signatures_at words s.body s.count in
    let h = c.signatures.invariant in
    record {
      shown = turn_shown (λ p. correction_line p.0 p.1) c.put_corrections.new.page.bytes sigs c.signatures.i (g.O.Sink.written c.make_room.new.out) (g.O.Sink.written c.signatures.out) (g.O.Sink.written c.make_room-in-signatures.new.out) c.signature_in.result
          c.signatures.page.bytes c.make_room-in-signatures.new.page.bytes c.put_correction.new.page.bytes h.shown c.in_ok-make_room-2.ensures.ok c.put_correction.ensures
          (signature_there words s.body s.count c.signatures.i c.signature_in.result c.signatures-test.true c.signature_in.ensures.value);
      calm = c.in_ok-make_room-2.ensures.cause.calm ∙ h.calm;
      counted = omega (arith, h.counted, c.signature_in.ensures.counted);
    }

pub returns-in_err-make_room-2-clause-failed : goal.returns-in_err-make_room-2-clause-failed
returns-in_err-make_room-2-clause-failed g c =
    let s = c.args.corrections.now in
    let sigs = signatures_at (g.B.WordBank.words_of c.args.bank) s.body s.count in
    let old = c.args.page.now.bytes in
    let a = g.O.Sink.written c.args.out.now in
    let b = g.O.Sink.written c.make_room.new.out in
    let d = g.O.Sink.written c.make_room-in-signatures.new.out in
    let line = number_line (name_text c.args.name) s.count in
    let text : old ++ corrections_lines c.args.name sigs ≡ (old ++ line) ++ signature_lines sigs =
    corrections_behind old line c.args.name s.count sigs refl (sym (signatures_count (g.B.WordBank.words_of c.args.bank) s.body s.count)) in
    let first = shown_put {a = a} {b = b} {text = old} {held = c.make_room.new.page.bytes} line c.put_corrections.new.page.bytes c.in_ok-make_room.ensures.ok c.put_corrections.ensures in
    at_exit c.from_residual-in_err-make_room-2.result
    (subst (AppendsPrefix a d) (sym text)
    (then_cut {a = a} {b = b} {text = old ++ line} {held = c.put_corrections.new.page.bytes} d (signature_lines sigs) first
    (turn_cut (λ p. correction_line p.0 p.1) c.put_corrections.new.page.bytes sigs c.signatures.i b (g.O.Sink.written c.signatures.out) d
    c.signatures.page.bytes c.signatures.invariant.shown c.in_err-make_room-2.ensures.failed)))

pub returns-clause-ok : goal.returns-clause-ok
returns-clause-ok g c =
    let s = c.args.corrections.now in
    let sigs = signatures_at (g.B.WordBank.words_of c.args.bank) s.body s.count in
    let old = c.args.page.now.bytes in
    let a = g.O.Sink.written c.args.out.now in
    let b = g.O.Sink.written c.make_room.new.out in
    let d = g.O.Sink.written c.signatures.out in
    let line = number_line (name_text c.args.name) s.count in
    let count = signatures_count (g.B.WordBank.words_of c.args.bank) s.body s.count in
    let text : old ++ corrections_lines c.args.name sigs ≡ (old ++ line) ++ signature_lines sigs =
    corrections_behind old line c.args.name s.count sigs refl (sym count) in
    let first = shown_put {a = a} {b = b} {text = old} {held = c.make_room.new.page.bytes} line c.put_corrections.new.page.bytes c.in_ok-make_room.ensures.ok c.put_corrections.ensures in
    let rest = turns_shown (λ p. correction_line p.0 p.1) c.put_corrections.new.page.bytes sigs c.signatures.i b d c.signatures.page.bytes
    (omega (arith, count, c.signatures-test.false)) c.signatures.invariant.shown in
    subst (λ (l : List ℕ). IsShown a d l c.signatures.page.bytes) (sym text)
    (shown_on {a = a} {b = b} {text = old ++ line} {held = c.put_corrections.new.page.bytes} d (signature_lines sigs) c.signatures.page.bytes first rest)
