use Rattle.std.proofs.Common.{◌≤◌, get_or, arith}
use Rattle.std.proofs.lemmas.Option.{slice_get-get_or}
use Rattle.sx_spec.specs.declared.Edge.{Edge}
use Rattle.sx_peel.specs.UnderWay.{IsUnderWay, work_left}
use Rattle.sx_peel.proofs.Visits.{vertex_below, passed, seat, seats_taken, number_below, taken_under_way, taken_work, on_ok_both}
use Rattle.sx_peel.proofs.peeling.Peeling.visit.Goals as goal

pub only_seat-requires : goal.only_seat-requires
only_seat-requires c = vertex_below c.args.edges.now c.args.links.now c.args.self.now.order.items c.args.self.now.waiting.items c.args.vertex c.requires.under_way

pub overflow_cast-taken : goal.overflow_cast-taken
overflow_cast-taken c =
    let p = c.args.self.now in
    let here = seat c.args.edges.now c.args.links.now p.order.items p.waiting.items c.args.vertex c.requires.under_way c.requires.within c.in-Some.seat c.in-Some.ensures in
    let fits = here.fits in
    omega arith

pub bounds-edges-seat : goal.bounds-edges-seat
bounds-edges-seat c =
    let p = c.args.self.now in
    number_below c.args.edges.now c.args.links.now p.order.items p.waiting.items c.args.vertex c.requires.under_way c.requires.within c.in-Some.seat c.in-Some.ensures

pub take-requires-clause-within : goal.take-requires-clause-within
take-requires-clause-within c =
    let p = c.args.self.now in
    let low = number_below c.args.edges.now c.args.links.now p.order.items p.waiting.items c.args.vertex c.requires.under_way c.requires.within c.in-Some.seat c.in-Some.ensures in
    c.requires.within _ _ low

pub take-requires-clause-item : goal.take-requires-clause-item
take-requires-clause-item c =
    let p = c.args.self.now in
    let low = number_below c.args.edges.now c.args.links.now p.order.items p.waiting.items c.args.vertex c.requires.under_way c.requires.within c.in-Some.seat c.in-Some.ensures in
    let items = c.requires.under_way.linked.items in
    omega arith

pub take-requires-clause-seats : goal.take-requires-clause-seats
take-requires-clause-seats c =
    let p = c.args.self.now in
    seats_taken c.args.edges.now c.args.links.now p.order.items p.waiting.items c.args.vertex c.requires.under_way c.requires.within c.in-Some.seat c.in-Some.ensures

pub returns-in-Some-clause-under_way : goal.returns-in-Some-clause-under_way
returns-in-Some-clause-under_way c =
    let p = c.args.self.now in
    let edges = c.args.edges.now in
    let s = c.in-Some.seat in
    let low = number_below edges c.args.links.now p.order.items p.waiting.items c.args.vertex c.requires.under_way c.requires.within s c.in-Some.ensures in
    let none : Edge = record { a = 0; b = 0; c = 0 } in
    let now = taken_under_way edges c.args.links.now p.order.items p.waiting.items c.args.vertex c.requires.under_way c.requires.within s c.in-Some.ensures
    (get_or edges s.item none) (slice_get-get_or edges s.item none low) in
    on_ok_both (IsUnderWay edges c.take.new.links) c.take.new.self.order.items _ c.take.new.self.waiting.items _ c.take.result
    (rw c.take.ensures.links now) c.take.ensures.order (rw c.take.ensures.links at c.take.ensures.waiting)

pub returns-in-Some-clause-work : goal.returns-in-Some-clause-work
returns-in-Some-clause-work c =
    let p = c.args.self.now in
    let edges = c.args.edges.now in
    let s = c.in-Some.seat in
    let low = number_below edges c.args.links.now p.order.items p.waiting.items c.args.vertex c.requires.under_way c.requires.within s c.in-Some.ensures in
    let none : Edge = record { a = 0; b = 0; c = 0 } in
    let now = taken_work edges c.args.links.now p.order.items p.waiting.items c.args.vertex c.requires.under_way c.requires.within s c.in-Some.ensures
    (get_or edges s.item none) (slice_get-get_or edges s.item none low) in
    on_ok_both (λ order waiting. work_left edges order waiting ≤ work_left edges p.order.items p.waiting.items) c.take.new.self.order.items _ c.take.new.self.waiting.items _ c.take.result
    now c.take.ensures.order (rw c.take.ensures.links at c.take.ensures.waiting)

pub returns-in-None-clause-under_way : goal.returns-in-None-clause-under_way
returns-in-None-clause-under_way c =
    let p = c.args.self.now in
    passed c.args.edges.now c.args.links.now p.order.items p.waiting.items c.args.vertex c.requires.under_way c.in-None.ensures
