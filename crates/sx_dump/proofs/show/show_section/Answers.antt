use Rattle.std.proofs.Common.{◌++◌, ℕ, List, subst}
use Rattle.std.specs.Prelude.{OnOk, OnErr}
use Rattle.sx_edge.specs.Parts.{AppendsPrefix}
use Rattle.sx_static.specs.Viewing.{viewed}
use Rattle.sx_dump.specs.Showing.{IsShown}
use Rattle.sx_dump.proofs.ShownPlaces.{corrections_is, function_is, list_is, sums_is}
use Rattle.sx_dump.proofs.show.show_section.Goals as goal

pub returns-in-Function-clause-ok : goal.returns-in-Function-clause-ok
returns-in-Function-clause-ok g c =
    let words = g.B.WordBank.words_of c.args.bank in
    let v = c.function_in.result in
    let same = function_is words c.args.name c.args.place.now c.in-Function.section (viewed (g.B.WordBank.words_of v.bank) v.first v.width v.pairs) c.in-Function.is c.function_in.ensures in
    subst (λ (lines : List ℕ). OnOk c.show_function.result (IsShown (g.O.Sink.written c.args.out.now) (g.O.Sink.written c.show_function.new.out) (c.args.page.now.bytes ++ lines) c.show_function.new.page.bytes))
    same c.show_function.ensures.ok

pub returns-in-Function-clause-failed : goal.returns-in-Function-clause-failed
returns-in-Function-clause-failed g c =
    let words = g.B.WordBank.words_of c.args.bank in
    let v = c.function_in.result in
    let same = function_is words c.args.name c.args.place.now c.in-Function.section (viewed (g.B.WordBank.words_of v.bank) v.first v.width v.pairs) c.in-Function.is c.function_in.ensures in
    subst (λ (lines : List ℕ). OnErr c.show_function.result (AppendsPrefix (g.O.Sink.written c.args.out.now) (g.O.Sink.written c.show_function.new.out) (c.args.page.now.bytes ++ lines)))
    same c.show_function.ensures.failed

pub returns-in-List-clause-ok : goal.returns-in-List-clause-ok
returns-in-List-clause-ok g c =
    let same = list_is (g.B.WordBank.words_of c.args.bank) c.args.name c.args.place.now c.in-List.section c.in-List.is in
    subst (λ (lines : List ℕ). OnOk c.show_list.result (IsShown (g.O.Sink.written c.args.out.now) (g.O.Sink.written c.show_list.new.out) (c.args.page.now.bytes ++ lines) c.show_list.new.page.bytes))
    same c.show_list.ensures.ok

pub returns-in-List-clause-failed : goal.returns-in-List-clause-failed
returns-in-List-clause-failed g c =
    let same = list_is (g.B.WordBank.words_of c.args.bank) c.args.name c.args.place.now c.in-List.section c.in-List.is in
    subst (λ (lines : List ℕ). OnErr c.show_list.result (AppendsPrefix (g.O.Sink.written c.args.out.now) (g.O.Sink.written c.show_list.new.out) (c.args.page.now.bytes ++ lines)))
    same c.show_list.ensures.failed

pub returns-in-Sums-clause-ok : goal.returns-in-Sums-clause-ok
returns-in-Sums-clause-ok g c =
    let same = sums_is (g.B.WordBank.words_of c.args.bank) c.args.name c.args.place.now c.in-Sums.sums c.in-Sums.is in
    subst (λ (lines : List ℕ). OnOk c.show_sums.result (IsShown (g.O.Sink.written c.args.out.now) (g.O.Sink.written c.show_sums.new.out) (c.args.page.now.bytes ++ lines) c.show_sums.new.page.bytes))
    same c.show_sums.ensures.ok

pub returns-in-Sums-clause-failed : goal.returns-in-Sums-clause-failed
returns-in-Sums-clause-failed g c =
    let same = sums_is (g.B.WordBank.words_of c.args.bank) c.args.name c.args.place.now c.in-Sums.sums c.in-Sums.is in
    subst (λ (lines : List ℕ). OnErr c.show_sums.result (AppendsPrefix (g.O.Sink.written c.args.out.now) (g.O.Sink.written c.show_sums.new.out) (c.args.page.now.bytes ++ lines)))
    same c.show_sums.ensures.failed

pub returns-in-Corrections-clause-ok : goal.returns-in-Corrections-clause-ok
returns-in-Corrections-clause-ok g c =
    let same = corrections_is (g.B.WordBank.words_of c.args.bank) c.args.name c.args.place.now c.in-Corrections.corrections c.in-Corrections.is in
    subst (λ (lines : List ℕ). OnOk c.show_corrections.result (IsShown (g.O.Sink.written c.args.out.now) (g.O.Sink.written c.show_corrections.new.out) (c.args.page.now.bytes ++ lines) c.show_corrections.new.page.bytes))
    same c.show_corrections.ensures.ok

pub returns-in-Corrections-clause-failed : goal.returns-in-Corrections-clause-failed
returns-in-Corrections-clause-failed g c =
    let same = corrections_is (g.B.WordBank.words_of c.args.bank) c.args.name c.args.place.now c.in-Corrections.corrections c.in-Corrections.is in
    subst (λ (lines : List ℕ). OnErr c.show_corrections.result (AppendsPrefix (g.O.Sink.written c.args.out.now) (g.O.Sink.written c.show_corrections.new.out) (c.args.page.now.bytes ++ lines)))
    same c.show_corrections.ensures.failed
