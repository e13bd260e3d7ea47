use Rattle.std.proofs.Common.{◌≡◌, length, refl, arith, ◌∙◌}
use Rattle.sx_edge.specs.Kept.{KeepsFiles-trans}
use Rattle.sx_cli.proofs.FileReadings.{words_counted, piece_read, file_ends, last_read}
use Rattle.sx_cli.proofs.file_words.read_words.Goals as goal

pub returns-then-count-lt-PIECE-clause-words : goal.returns-then-count-lt-PIECE-clause-words
returns-then-count-lt-PIECE-clause-words g c =
    let room : length c.deref_mut.result.now ≡ 65536 = c.deref_mut.ensures.len ∙ c.pieces.invariant.size in
    let less = c.if-count-lt-PIECE.true in
    let more = c.pieces-test.true in
    file_ends _ _ _ _ _ c.pieces.i _ c.in_ok-count.count c.pieces.invariant.so_far c.in_ok-count.ensures.took (omega arith) (omega arith)

pub invariant_of-result : goal.invariant_of-result
invariant_of-result g c =
    let room : length c.deref_mut.result.now ≡ 65536 = c.deref_mut.ensures.len ∙ c.pieces.invariant.size in
    let less = c.if-count-lt-PIECE.true in
    let more = c.pieces-test.true in
    record { sized = words_counted _ _ _ (file_ends _ _ _ _ _ c.pieces.i _ c.in_ok-count.count c.pieces.invariant.so_far c.in_ok-count.ensures.took (omega arith) (omega arith)) }

pub pieces-preserved : goal.pieces-preserved
pieces-preserved g c =
    let i = c.pieces.invariant in
    let room : length c.deref_mut.result.now ≡ 65536 = c.deref_mut.ensures.len ∙ i.size in
    let full = c.if-count-lt-PIECE.false in
    record {
      so_far = piece_read _ _ _ _ _ c.pieces.i _ c.in_ok-count.count i.so_far c.in_ok-count.ensures.took room (omega arith);
      size = i.size;
      stays = c.in_ok-count.ensures.stays;
      kept = KeepsFiles-trans _ _ _ i.kept c.in_ok-count.ensures.files;
      calm = c.in_ok-count.ensures.counts.calm refl ∙ i.calm;
    }

pub returns-clause-words : goal.returns-clause-words
returns-clause-words g c =
    let end = c.pieces-test.false in
    let so_far = c.pieces.auto.i-end in
    last_read _ _ _ _ _ c.pieces.i _ c.in_ok-count-2.count c.pieces.invariant.so_far c.in_ok-count-2.ensures.took refl (omega arith)

pub invariant_of-result-2 : goal.invariant_of-result-2
invariant_of-result-2 g c =
    let end = c.pieces-test.false in
    let so_far = c.pieces.auto.i-end in
    record { sized = words_counted _ _ _ (last_read _ _ _ _ _ c.pieces.i _ c.in_ok-count-2.count c.pieces.invariant.so_far c.in_ok-count-2.ensures.took refl (omega arith)) }
