use Rattle.std.proofs.Common.{ℕ, List, subst}
use Rattle.std.specs.Prelude.{OnOk, OnErr}
use Rattle.std.specs.Io.KnownBytes.{Appends}
use Rattle.sx_edge.specs.Parts.{AppendsPrefix}
use Rattle.sx_dump.proofs.Texts.{text_in_is}
use Rattle.sx_dump.proofs.dump.Dump.show.Goals as goal

pub returns-clause-ok : goal.returns-clause-ok
returns-clause-ok g c =
    subst (λ (text : List ℕ). OnOk c.show_counted.result (Appends (g.O.Sink.written c.args.out.now) (g.O.Sink.written c.show_counted.new.out) text)) (text_in_is (g.B.WordBank.words_of c.args.self.now.bank)) c.show_counted.ensures.ok

pub returns-clause-failed : goal.returns-clause-failed
returns-clause-failed g c =
    subst (λ (text : List ℕ). OnErr c.show_counted.result (AppendsPrefix (g.O.Sink.written c.args.out.now) (g.O.Sink.written c.show_counted.new.out) text)) (text_in_is (g.B.WordBank.words_of c.args.self.now.bank)) c.show_counted.ensures.failed
