use Rattle.std.proofs.Common.{sym, subst}
use Rattle.std.specs.Prelude.{IfOk}
use Rattle.sx_spec_kinds.specs.declared.Kind.{Kind}
use Rattle.sx_dump.specs.Rooms.{AreTrieRooms, lists_at, room_words}
use Rattle.sx_dump.proofs.rooms.TrieRooms+Vec+u64.of.Goals as goal

pub returns-in-Hollow : goal.returns-in-Hollow
returns-in-Hollow g c =
    let words = g.B.WordBank.words_of c.args.bank in
    let places = c.args.opened.now.places.items in
    subst (λ (k : Kind). IfOk c.hollow_rooms.result (λ r. AreTrieRooms words (lists_at k) places (room_words r (λ v. v.items)))) (sym c.in-Hollow.is) c.hollow_rooms.ensures

pub returns-in-HollowDist : goal.returns-in-HollowDist
returns-in-HollowDist g c =
    let words = g.B.WordBank.words_of c.args.bank in
    let places = c.args.opened.now.places.items in
    subst (λ (k : Kind). IfOk c.hollow_dist_rooms.result (λ r. AreTrieRooms words (lists_at k) places (room_words r (λ v. v.items)))) (sym c.in-HollowDist.is) c.hollow_dist_rooms.ensures
