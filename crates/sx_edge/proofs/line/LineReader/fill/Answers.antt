use Rattle.std.proofs.Common.{◌≡◌, ℕ, ◌-◌, ◌+◌, length, rules, arith, ◌∙◌}
use Rattle.std.proofs.lemmas.List.{with_items_is}
use Rattle.std.specs.Vec.{with_items}
use Rattle.sx_edge.specs.Places.{bytes_between, HasNoFeed, IsFeedPlace}
use Rattle.sx_edge.proofs.Feeds.{feed_extends}
use Rattle.sx_edge.proofs.Fills.{free_front}
use Rattle.sx_edge.proofs.Readies.{waits}
use Rattle.sx_edge.proofs.line.LineReader.fill.Goals as goal

pub invariant_of-self-2 : goal.invariant_of-self-2
invariant_of-self-2 g c =
    let held : c.args.self.now.held ≡ bytes_between c.self.inside.buf.items c.self.inside.start c.self.inside.end = search rules in
    let free : HasNoFeed (bytes_between c.self.inside.buf.items c.self.inside.start c.self.inside.end) = rw held at (waits c.args.self.now c.requires.ready).no_feed in
    let size : length c.read_behind.new.buf ≡ c.copy_within.new.self.len = omega (arith, c.read_behind.auto.buf, c.deref_mut.ensures.len) in
    let back : (with_items c.copy_within.new.self c.read_behind.new.buf).items ≡ c.read_behind.new.buf = with_items_is c.copy_within.new.self _ size in
    let took = c.in_ok-count.ensures.took in
    let room : length c.self.inside.buf.items ≡ length c.read_behind.new.buf = omega (arith, size, c.copy_within.ensures.len) in
    let len : ℕ = c.self.inside.end - c.self.inside.start in
    let at : IsFeedPlace c.read_behind.new.buf len (len + c.in_ok-count.count) c.feed_place-self-inside.result = rw (c.deref.ensures.value ∙ back) at c.feed_place-self-inside.ensures in
    let front = free_front c.self.inside.buf.items c.deref_mut.result.now c.read_behind.new.buf c.self.inside.start c.self.inside.end (c.deref_mut.ensures.value ∙ c.copy_within.ensures.items) c.self.invariant.order c.self.invariant.within c.read_behind.ensures.front free in
    record {
      order = omega arith;
      within = rw back took.within;
      room = rw back (omega (arith, room, c.self.invariant.room));
      small = c.self.invariant.small;
      feed = rw back (feed_extends c.read_behind.new.buf 0 len (len + c.in_ok-count.count) c.feed_place-self-inside.result (omega arith) front at);
      line_order = c.self.invariant.line_order;
      line_within = rw back (omega (arith, room, c.self.invariant.line_within));
    }
