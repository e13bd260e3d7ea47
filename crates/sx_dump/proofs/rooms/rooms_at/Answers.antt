use Rattle.std.proofs.Common.{◌+◌}
use Rattle.sx_dump.proofs.RoomWords.{same_sums_rooms}
use Rattle.sx_dump.proofs.rooms.rooms_at.Goals as goal

pub top_at-requires-clause-left : goal.top_at-requires-clause-left
top_at-requires-clause-left g c =
    let words = g.B.WordBank.words_of c.args.bank in
    let places = c.args.opened.now.places.items in
    let lent = c.lent-lefts.ensures in
    same_sums_rooms words places c.args.first _ _ _ _ _ _ lent.directory lent.groups lent.places c.in_ok-left.ensures

pub top_at-requires-clause-skip : goal.top_at-requires-clause-skip
top_at-requires-clause-skip g c =
    let words = g.B.WordBank.words_of c.args.bank in
    let places = c.args.opened.now.places.items in
    let lent = c.lent-skips.ensures in
    same_sums_rooms words places (c.args.first + 1) _ _ _ _ _ _ lent.directory lent.groups lent.places c.in_ok-skip.ensures

pub returns : goal.returns
returns g c = record { left = c.in_ok-left.ensures; skip = c.in_ok-skip.ensures; top = c.in_ok-top.ensures }
