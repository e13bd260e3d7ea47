use Rattle.std.proofs.Common.{◌∙◌, arith, Ok, Err, OnErr}
use Rattle.sx_spec.specs.Layout.{words_bytes}
use Rattle.sx_edge.specs.Shelf.{AppendsFilePrefix}
use Rattle.sx_bytes.proofs.Pieces.{prefix_more, written_more}
use Rattle.sx_bytes.proofs.words.put_pieces.Goals as goal

pub returns-in_err-write_file-clause-failed : goal.returns-in_err-write_file-clause-failed
returns-in_err-write_file-clause-failed g c =
    let count = c.div_ceil-i-end.ensures in
    let test = c.pieces-test.true in
    let cut = prefix_more (g.F.Shelf.writing_to c.args.files.now) (g.F.Shelf.files c.args.files.now) (g.F.Shelf.files c.pieces.files) (g.F.Shelf.files c.write_file.new.files) c.args.words.now _ c.pieces.i c.min.result (omega arith) c.min.ensures c.fill.ensures c.pieces.invariant.wrote (rw c.pieces.invariant.same at c.in_err-write_file.ensures.failed) in
    elim c.from_residual.result as (λ r. OnErr r (AppendsFilePrefix (g.F.Shelf.writing_to c.args.files.now) (g.F.Shelf.files c.args.files.now) (g.F.Shelf.files c.write_file.new.files) (words_bytes c.args.words.now))) [
      | Ok _ ↦ tt
      | Err _ ↦ cut
    ]

pub pieces-preserved : goal.pieces-preserved
pieces-preserved g c =
    let count = c.div_ceil-i-end.ensures in
    let test = c.pieces-test.true in
    record {
      wrote = written_more (g.F.Shelf.writing_to c.args.files.now) (g.F.Shelf.files c.args.files.now) (g.F.Shelf.files c.pieces.files) (g.F.Shelf.files c.write_file.new.files) c.args.words.now _ c.pieces.i c.min.result (omega arith) c.min.ensures c.fill.ensures c.pieces.invariant.wrote (rw c.pieces.invariant.same at c.in_ok-write_file.ensures.ok);
      stays = c.in_ok-write_file.ensures.stays;
      same = c.in_ok-write_file.ensures.same ∙ c.pieces.invariant.same;
      calm = c.in_ok-write_file.ensures.cause.calm ∙ c.pieces.invariant.calm;
    }
