use Rattle.std.proofs.Common.{sym, subst}
use Rattle.sx_dump.specs.Rooms.{AreTrieRooms, RoomWords, lists_at}
use Rattle.sx_dump.proofs.view.view_of.Goals as goal

pub trie_view-requires-clause-rooms : goal.trie_view-requires-clause-rooms
trie_view-requires-clause-rooms g c =
    let words = g.B.WordBank.words_of c.args.bank in
    let o = c.args.opened.now in
    subst (λ (r : RoomWords). AreTrieRooms words (lists_at o.header.plan.kind) o.places.items r) (sym c.owned.ensures) c.in_ok-rooms-in-None.ensures
