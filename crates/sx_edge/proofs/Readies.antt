-- When a reader needs no read for its next line.
use Rattle.std.proofs.Common.{◌≡◌, ℕ, ◌-◌, ◌≤◌, nat_lt, Bool, true, false, ◌||◌, List, None, is_some, length, arith, refl, sym, ◌∙◌}
use Rattle.std.proofs.lemmas.Bool.Decides.{nat_tests}
use Rattle.std.specs.List.{list_any}
use Rattle.sx_spec_strings.specs.Lines.{is_line_feed}
use Rattle.sx_edge.specs.Places.{bytes_between, IsFeedPlace}
use Rattle.sx_edge.specs.Reading.{Reading, is_ready, Waits}
use Rattle.sx_edge.proofs.Betweens.{length-between}
use Rattle.sx_edge.proofs.Feeds.{has_feed}

-- the test by places in the buffer
pub ready_is : (r : Reading) (buf : List ℕ) (start end place : ℕ) → r.held ≡ bytes_between buf start end → end ≤ length buf → IsFeedPlace buf start end place → is_ready r ≡ (is_some r.fault || r.ended || nat_lt place end || nat_lt r.max (end - start))
ready_is r buf start end place held within at = rw (held, has_feed buf start end place within at, length-between buf start end within) refl

none_of : (a b c d : Bool) → (a || b || c || d) ≡ false → (a ≡ false) × (b ≡ false) × (c ≡ false) × (d ≡ false)
none_of false false false false e = (refl, refl, refl, refl)
none_of false false false true e = absurd cc
none_of false false true d e = absurd cc
none_of false true c d e = absurd cc
none_of true b c d e = absurd cc

pub waits : (r : Reading) → is_ready r ≡ false → Waits r
waits r e =
    let parts = none_of (is_some r.fault) r.ended (list_any is_line_feed r.held) (nat_lt r.max (length r.held)) e in
    record {
      no_feed = parts.2;
      short = grind (arith, nat_tests, parts.3);
      goes_on = parts.1;
    }

ended_of : (b : Bool) → (false || b || false || false) ≡ true → b ≡ true
ended_of true e = refl
ended_of false e = cc

-- a reader that is ready without a fault, and holds no line feed and no more than a line may have, has its end
pub ready_ends : (r : Reading) (buf : List ℕ) (start end place : ℕ) → r.held ≡ bytes_between buf start end → end ≤ length buf → IsFeedPlace buf start end place → is_ready r ≡ true → r.fault ≡ None → place ≡ end → place - start ≤ r.max → r.ended ≡ true
ready_ends r buf start end place held within at ready none last short =
    let e = ready_is r buf start end place held within at in
    let quiet : is_some r.fault ≡ false = rw none refl in
    let past : nat_lt place end ≡ false = grind (arith, nat_tests, last) in
    let little : nat_lt r.max (end - start) ≡ false = grind (arith, nat_tests, last, short) in
    ended_of r.ended (rw (quiet, past, little) at (sym e ∙ ready))
