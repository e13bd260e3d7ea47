use Rattle.std.proofs.Common.{◌≡◌, subst}
use Rattle.sx_spec_kinds.specs.declared.Kind.{Kind}
use Rattle.sx_dump.specs.Rooms.{AreTrieRooms, lists_at, room_words}
use Rattle.sx_dump.specs.Viewing.{IsHollowDistView, IsHollowView}
use Rattle.sx_dump.proofs.view.trie_view.Goals as goal

pub hollow_view-requires-clause-rooms : goal.hollow_view-requires-clause-rooms
hollow_view-requires-clause-rooms g c =
    let words = g.B.WordBank.words_of c.args.bank in
    let rooms = room_words c.args.rooms g.D.WordBank.words_of in
    subst (λ (k : Kind). AreTrieRooms words (lists_at k) c.args.opened.now.places.items rooms) c.in-Hollow.is c.requires.rooms

pub hollow_dist_view-requires-clause-rooms : goal.hollow_dist_view-requires-clause-rooms
hollow_dist_view-requires-clause-rooms g c =
    let words = g.B.WordBank.words_of c.args.bank in
    let rooms = room_words c.args.rooms g.D.WordBank.words_of in
    subst (λ (k : Kind). AreTrieRooms words (lists_at k) c.args.opened.now.places.items rooms) c.in-HollowDist.is c.requires.rooms

pub returns-in-Hollow : goal.returns-in-Hollow
returns-in-Hollow g c =
    let words = g.B.WordBank.words_of c.args.bank in
    record {
      func = λ v same. absurd cc;
      lcp = λ v same. absurd cc;
      lcp2 = λ v same. absurd cc;
      hollow = λ v same. let e : c.hollow_view.result ≡ v = cc in subst (λ w. IsHollowView words w) e c.hollow_view.ensures;
      hollow_dist = λ v same. absurd cc;
      zfast = λ v same. absurd cc;
    }

pub returns-in-HollowDist : goal.returns-in-HollowDist
returns-in-HollowDist g c =
    let words = g.B.WordBank.words_of c.args.bank in
    record {
      func = λ v same. absurd cc;
      lcp = λ v same. absurd cc;
      lcp2 = λ v same. absurd cc;
      hollow = λ v same. absurd cc;
      hollow_dist = λ v same. let e : c.hollow_dist_view.result ≡ v = cc in subst (λ w. IsHollowDistView words w) e c.hollow_dist_view.ensures;
      zfast = λ v same. absurd cc;
    }
