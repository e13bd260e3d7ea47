use Rattle.std.proofs.Common.{◌*◌, arith, ◌∙◌}
use Rattle.std.proofs.lemmas.List.Elements.{All-push}
use Rattle.sx_spec.specs.declared.Signature.{Signature}
use Rattle.sx_solve.specs.Solving.{IsEquationWithin}
use Rattle.sx_static.proofs.Entries.{equations_more, equations_whole}
use Rattle.sx_static.proofs.edges.equations_of.Goals as goal

pub loop-place-preserved : goal.loop-place-preserved
loop-place-preserved c =
    let s = c.args.s in
    let d : Signature = record { w0 = 0; w1 = 0; w2 = 0 } in
    let q = c.equation_of.ensures in
    record {
      equations = rw c.in_ok-push.ensures.items (equations_more s c.args.t c.args.sigs.now c.args.values.now c.loop-place.place d 0 c.loop-place.equations.items c.equation_of.result c.requires.values (omega arith) q.equation c.loop-place.invariant.equations);
      within = rw c.in_ok-push.ensures.items (All-push (IsEquationWithin (3 * s)) c.loop-place.equations.items c.equation_of.result c.loop-place.invariant.within q.within);
    }

pub returns-clause-equations : goal.returns-clause-equations
returns-clause-equations c = c.loop-place.invariant.equations ∙ equations_whole c.args.s c.args.t c.args.sigs.now c.args.values.now c.loop-place.place c.requires.values (omega arith)
