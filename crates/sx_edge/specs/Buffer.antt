-- The buffer of a line reader.
use Rattle.std.specs.Prelude.{◌+◌, ◌^◌, ◌≤◌, length}
use Rattle.sx_edge.specs.declared.line.LineReader.TheInside.{Inside}
use Rattle.sx_edge.specs.Places.{IsFeedPlace}

-- the places in the buffer are in order, and it has room for a line that is too long
pub record IsBuffer (r : Inside) : Type 0 where
  pub order : r.start ≤ r.end
  pub within : r.end ≤ length r.buf.items
  pub room : r.max + 2 ≤ length r.buf.items
  pub small : r.max ≤ 2 ^ 20
  pub feed : IsFeedPlace r.buf.items r.start r.end r.feed
  pub line_order : r.line_start ≤ r.line_end
  pub line_within : r.line_end ≤ length r.buf.items
