use Rattle.std.proofs.Common.{arith, refl}
use Rattle.sx_links.proofs.tests.a_seat_between_two_is_taken_out.Goals as goal

pub unlink-requires-clause-taken : goal.unlink-requires-clause-taken
unlink-requires-clause-taken g c =
    rw (c.push-4.ensures, c.push-3.ensures, c.push-2.ensures, c.push.ensures, c.in_ok-links.ensures)
    (1, (omega arith, (1, omega arith, refl)))
