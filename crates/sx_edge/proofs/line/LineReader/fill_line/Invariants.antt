use Rattle.std.proofs.Common.{◌≡◌, ◌+◌, ◌-◌, length, None, [], true, cond}
use Rattle.sx_edge.specs.Reading.{Takes, SameBut, ReadsNothing, is_ready}
use Rattle.sx_edge.proofs.line.LineReader.fill_line.Given as goal

abbrev pub invariant-reads : goal.invariant-reads
invariant-reads g l = record {
  takes : Takes l.initial.self l.self (g.P.Feed.left l.initial.from) (g.P.Feed.left l.from) [];
  same : SameBut l.initial.self l.self;
  none : l.initial.self.fault ≡ None;
  ready : is_ready l.initial.self ≡ true → (l.self ≡ l.initial.self) × ReadsNothing (g.P.Feed.left l.initial.from) (g.P.Feed.left l.from) (g.P.Feed.faults l.initial.from) (g.P.Feed.faults l.from);
  calm : g.P.Feed.faults l.from ≡ g.P.Feed.faults l.initial.from;
  stays : g.P.Feed.may_read l.from;
  keeps : g.P.Feed.keeps l.initial.from l.from;
}

abbrev pub decreases-reads : goal.decreases-reads
decreases-reads g l = (l.self.max + 2 - length l.self.held) + (cond l.self.ended 0 1)
