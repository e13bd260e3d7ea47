-- How the calls of a line reader bring the lines of input forward.
use Rattle.std.proofs.Common.{◌≡◌, ◌≢◌, ℕ, ◌+◌, ◌<◌, ◌≤◌, Bool, true, List, [], ◌∷◌, ◌++◌, length, refl, sym, ap, subst, ◌∙◌, arith, inl, inr, ◌⊎◌, Option, Some, None}
use Rattle.std.specs.Prelude.{IfSome, slice_index_or}
use Rattle.sx_spec.specs.Command.{Text}
use Rattle.sx_spec.specs.Keys.{standard_limits}
use Rattle.sx_spec.specs.Keys.{Reason, too_long, KeyFault, refusal, first_key_fault, AreKeys}
use Rattle.sx_spec_strings.specs.Lines.{lines}
use Rattle.sx_edge.specs.Reading.{Reading, Takes, GivesLine, GivesEnd, FailsRead, IsTooLong}
use Rattle.sx_cli.specs.Building.{RefusesLine}
use Rattle.sx_cli.specs.Progress.{Progress, ReadsAll, FailsBehind, StopsAt}
use Rattle.sx_cli.proofs.Advances.{line_fed, line_last, all_read, fails_behind, long_line, stops_at_last}
use Rattle.sx_cli.proofs.FirstFaults.{first_fault_is, long_refused}
use Rattle.sx_cli.specs.Lines.{longest_line}

some_bytes : (line : List ℕ) → line ≢ [] → 0 < length line
some_bytes [] ne = absurd (ne refl)
some_bytes (b ∷ line) ne = omega arith

same_line : (line given : List ℕ) (told : Option (List ℕ)) → told ≡ Some given → told ≡ Some line → given ≡ line
same_line line given told a b = cc

module _ (first now then : Option (List ℕ)) (old new : Reading) (ls : List Text) (progress : Progress first now old.held old.ended ls) where
  -- a line was given
  pub after_line : GivesLine old new now then → (line : Text) → new.line ≡ Some line → Progress first then new.held new.ended (ls ++ line ∷ [])
  after_line gives line is = let same = same_line line gives.line new.line gives.is is in subst (λ (l : Text). Progress first then new.held new.ended (ls ++ l ∷ [])) same (by_takes gives.takes)
    where
      by_takes : Takes old new now then (gives.line ++ 10 ∷ []) ⊎ (Takes old new now then gives.line × (new.held ≡ []) × (new.ended ≡ true) × (gives.line ≢ [])) → Progress first then new.held new.ended (ls ++ gives.line ∷ [])
      by_takes (inl t) = line_fed first now then old.held new.held t.bytes old.ended new.ended ls t.consumed t.end t.ended gives.line gives.no_feed t.whole progress
      by_takes (inr (t, none, ended, some)) = line_last first now then old.held new.held t.bytes old.ended new.ended ls t.consumed t.end t.ended gives.line gives.no_feed (some_bytes gives.line some) t.whole none ended progress

  -- the line is short
  pub line_short : GivesLine old new now then → (line : Text) → new.line ≡ Some line → length line ≤ old.max
  line_short gives line is = let same = same_line line gives.line new.line gives.is is in subst (λ (l : Text). length l ≤ old.max) same gives.short

  -- no line is left
  pub at_end : GivesEnd old new now then → ReadsAll first then ls
  at_end gives = let t = gives.takes in all_read first now then old.held new.held t.bytes old.ended new.ended ls t.consumed t.end t.ended t.whole gives.none gives.ended progress

  -- the source failed
  pub at_fault : FailsRead old new now then → FailsBehind first then old.max ls
  at_fault fails = let t = fails.takes in fails_behind first now then old.held new.held t.bytes old.ended new.ended ls t.consumed t.end t.ended old.max t.whole fails.no_feed fails.short fails.goes_on progress

  -- a line is too long
  pub at_long_line : (n : ℕ) → IsTooLong old new now then n → StopsAt first then ls (λ line. old.max < length line)
  at_long_line n long =
      let t = long.takes in
      long_line first now then old.held new.held t.bytes old.ended new.ended ls t.consumed t.end t.ended old.max t.whole (λ ys. begun (lines (new.held ++ ys)) (long.long ys)) progress
    where
      begun : (all : List Text) → old.max < length (slice_index_or all 0 []) → (line : Text) × (more : List Text) × (all ≡ line ∷ more) × (old.max < length line)
      begun [] lt = absurd (omega arith)
      begun (l ∷ all) lt = (l, all, refl, lt)

-- ---- lines that are no keys

-- a line behind keys that is no key is the first fault of input
pub refused_line : (first now : Option (List ℕ)) (ls : List Text) (IsLine : Text → Type 0) (fault : KeyFault) → StopsAt first now ls IsLine
    → ((line : Text) (more : List Text) → IsLine line → first_key_fault standard_limits (ls ++ line ∷ more) ≡ Some fault) → RefusesLine first now fault
refused_line first now ls IsLine fault stops refuses = record { taken = stops.taken; consumed = stops.consumed; first_fault = told first stops.told }
  where
    told : (f : Option (List ℕ)) → IfSome f (λ bytes. (rest : List Text) × (other : Text) × IsLine other × (lines bytes ≡ ls ++ other ∷ rest)) → IfSome f (λ bytes. first_key_fault standard_limits (lines bytes) ≡ Some fault)
    told None h = tt
    told (Some bytes) (rest, other, is, are) = ap (first_key_fault standard_limits) are ∙ refuses other rest is

-- a line that is too long
pub long_key : (first now : Option (List ℕ)) (ls : List Text) (max n number : ℕ) → max ≡ longest_line → number ≡ length ls → n ≡ number + 1 → AreKeys standard_limits ls → StopsAt first now ls (λ line. max < length line)
    → RefusesLine first now (record { line = n; reason = too_long })
long_key first now ls max n number is_max count at valid stops =
    let e : length ls + 1 ≡ n = omega arith in
    refused_line first now ls (λ line. max < length line) (record { line = n; reason = too_long }) stops
    (λ line more long. first_fault_is standard_limits ls line more too_long valid (long_refused standard_limits ls line (omega arith)) ∙ ap (λ (k : ℕ). Some (record { line = k; reason = too_long })) e)

-- a line that the keys refuse
pub pushed_key : (first now : Option (List ℕ)) (held : List ℕ) (ended : Bool) (ls : List Text) (line : Text) (n : ℕ) (reason : Reason) → n ≡ length ls + 1 → AreKeys standard_limits ls → refusal standard_limits ls line ≡ Some reason
    → Progress first now held ended (ls ++ line ∷ []) → RefusesLine first now (record { line = n; reason = reason })
pushed_key first now held ended ls line n reason at valid refused progress =
    refused_line first now ls (λ l. l ≡ line) (record { line = n; reason = reason }) (stops_at_last first now held ended ls line (λ l. l ≡ line) refl progress)
    (λ other more same.
    let refused_other : refusal standard_limits ls other ≡ Some reason = ap (refusal standard_limits ls) same ∙ refused in
    first_fault_is standard_limits ls other more reason valid refused_other ∙ ap (λ (k : ℕ). Some (record { line = k; reason = reason })) (sym at))
