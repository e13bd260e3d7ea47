-- How the calls of a line reader bring the values of a file forward.
use Rattle.std.proofs.Common.{◌≡◌, ℕ, ◌+◌, ◌<◌, false, List, [], ◌∷◌, ◌++◌, length, refl, sym, ap, subst, ◌∙◌, arith, Option, Some, None, Result, Ok, Err}
use Rattle.std.specs.Prelude.{IfSome, MatchResult, filter_map}
use Rattle.std.specs.List.{enumerate_from}
use Rattle.std.proofs.lemmas.List.{length-append, length-map, map-append}
use Rattle.sx_spec.specs.Command.{Text}
use Rattle.sx_spec.specs.Values.{ValuesFault as SpecFault, fewer_than_keys, numeral_value, value_fault, values_faults, values_on}
use Rattle.sx_spec_strings.specs.First.{first as first_of}
use Rattle.sx_spec_strings.specs.Lines.{lines}
use Rattle.sx_edge.specs.Reading.{Reading, GivesLine, GivesEnd, IsTooLong}
use Rattle.sx_cli.specs.Progress.{ReadsAll, StopsAt}
use Rattle.sx_cli.specs.ValueLines.{ReadingValues, ReadsValues, StopsLines, StopsValue, PutsValue, IsTooFew}
use Rattle.sx_text.specs.Reasons.{values_fault_of}
use Rattle.sx_cli.specs.declared.values.ValuesStop.{ValuesStop}
use Rattle.sx_cli.specs.declared.values.ValuesStop.TheVariants.{Refused, Failed, Memory}
use Rattle.sx_cli.proofs.Advances.{starts, stops_at_last}
use Rattle.sx_cli.proofs.Builds.{all_lines}
use Rattle.sx_cli.proofs.Readings.{after_line, at_end, at_long_line}
use Rattle.sx_cli.proofs.ValueFaults.{values_grow, first_value_fault, enough_values, few_values}
use Rattle.sx_cli.specs.Lines.{longest_line}

-- before the first line
pub no_values : (keys : ℕ) (first : Option (List ℕ)) (reader : Reading) (values : List ℕ) → reader ≡ record { max = longest_line; number = 0; held = []; ended = false; fault = None; line = None } → values ≡ []
    → ReadingValues keys first first reader values
no_values keys first reader values fresh none = record {
  lines_read = [];
  progress = rw fresh (starts first);
  number = ap (λ (r : Reading). r.number) fresh;
  max = ap (λ (r : Reading). r.max) fresh;
  fault = ap (λ (r : Reading). r.fault) fresh;
  within = omega arith;
  fine = refl;
  values_are = none;
}

-- a stop at a line behind lines with values
stops_behind : (keys : ℕ) (first now : Option (List ℕ)) (ls : List Text) (IsLine : Text → Type 0) (at before after : ℕ) (stop : ValuesStop) → at ≡ length ls + 1 → filter_map (value_fault keys) (enumerate_from 1 ls) ≡ []
    → StopsAt first now ls IsLine → ((line : Text) → IsLine line → StopsValue keys at line stop) → StopsLines keys first before after stop
stops_behind keys first now ls IsLine at before after (Refused fault) number fine stops refuses = told first stops.told
  where
    told : (f : Option (List ℕ)) → IfSome f (λ bytes. (rest : List Text) × (other : Text) × IsLine other × (lines bytes ≡ ls ++ other ∷ rest))
        → IfSome f (λ bytes. first_of (values_faults keys (lines bytes)) ≡ Some (values_fault_of fault))
    told None h = tt
    told (Some bytes) (rest, other, is, are) =
        ap (λ (l : List Text). first_of (values_faults keys l)) are ∙ first_value_fault keys ls other rest at (values_fault_of fault) number fine (refuses other is)
stops_behind keys first now ls IsLine at before after Failed number fine stops refuses = absurd (refuses stops.line stops.is)
stops_behind keys first now ls IsLine at before after Memory number fine stops refuses = tt

module _ (keys : ℕ) (first now then : Option (List ℕ)) (reader new : Reading) (values : List ℕ) (r : ReadingValues keys first now reader values) where
  -- one more line has a value
  pub value_read : GivesLine reader new now then → (line : Text) → new.line ≡ Some line → new.max ≡ reader.max → new.fault ≡ None → (at : ℕ) → at ≡ new.number → (more : List ℕ)
      → PutsValue keys at line values more → ReadingValues keys first then new more
  value_read gives line is max fault at number more puts =
      let count = length-append r.lines_read (line ∷ []) in
      let number_now = gives.number in
      let number_before = r.number in
      let within = puts.within in
      record {
        lines_read = r.lines_read ++ line ∷ [];
        progress = after_line first now then reader new r.lines_read r.progress gives line is;
        number = omega (arith, count, number_now, number_before);
        max = max ∙ r.max;
        fault = fault;
        within = omega (arith, count, number, number_now, number_before, within);
        fine = values_grow keys r.lines_read line at (omega (arith, number, number_now, number_before)) r.fine puts.fine;
        values_are = puts.put ∙ ap (λ (l : List ℕ). l ++ numeral_value line ∷ []) r.values_are ∙ sym (map-append numeral_value r.lines_read (line ∷ []));
      }

  -- the next line has none
  pub value_stops : GivesLine reader new now then → (line : Text) → new.line ≡ Some line → (at : ℕ) → at ≡ new.number → (before after : ℕ) (stop : ValuesStop)
      → StopsValue keys at line stop → StopsLines keys first before after stop
  value_stops gives line is at number before after stop stops =
      let number_now = gives.number in
      let number_before = r.number in
      let progress = after_line first now then reader new r.lines_read r.progress gives line is in
      stops_behind keys first then r.lines_read (λ l. l ≡ line) at before after stop (omega (arith, number, number_now, number_before)) r.fine
      (stops_at_last first then new.held new.ended r.lines_read line (λ l. l ≡ line) refl progress)
      (λ other same. subst (λ (l : Text). StopsValue keys at l stop) (sym same) stops)

  -- the next line is too long
  pub long_stops : (n : ℕ) → IsTooLong reader new now then n → (before after : ℕ) (stop : ValuesStop) → ((text : Text) → longest_line < length text → StopsValue keys n text stop) → StopsLines keys first before after stop
  long_stops n long before after stop stops =
      let number = long.at in
      let number_before = r.number in
      let at = subst (λ (m : ℕ). StopsAt first then r.lines_read (λ line. m < length line)) r.max (at_long_line first now then reader new r.lines_read r.progress n long) in
      stops_behind keys first then r.lines_read (λ line. longest_line < length line) n before after stop (omega (arith, number, number_before)) r.fine at stops

  -- all lines were read
  pub values_end : GivesEnd reader new now then → (before after : ℕ) (V : Type 0) (items_of : V → List ℕ) (result : Result V ValuesStop)
      → MatchResult result (λ v. (items_of v ≡ values) × (length values ≡ keys)) (IsTooFew keys (length values))
      → MatchResult result (λ v. ReadsValues keys first (items_of v)) (StopsLines keys first before after)
  values_end gives before after V items_of result comes = by_result result comes
    where
      all : ReadsAll first then r.lines_read
      all = at_end first now then reader new r.lines_read r.progress gives

      many : length values ≡ length r.lines_read
      many = ap (λ (l : List ℕ). length l) r.values_are ∙ length-map r.lines_read numeral_value

      told : (f : Option (List ℕ)) → IfSome f (λ bytes. r.lines_read ≡ lines bytes) → length values ≡ keys → IfSome f (λ bytes. (values_faults keys (lines bytes) ≡ []) × (values ≡ values_on (lines bytes)))
      told None h same = tt
      told (Some bytes) h same = subst (λ (l : List Text). (values_faults keys l ≡ []) × (values ≡ values_on l)) h (enough_values keys r.lines_read r.fine (sym many ∙ same), r.values_are)

      few : (f : Option (List ℕ)) → IfSome f (λ bytes. r.lines_read ≡ lines bytes) → length values < keys
          → IfSome f (λ bytes. first_of (values_faults keys (lines bytes)) ≡ Some (fewer_than_keys (length values)))
      few None h less = tt
      few (Some bytes) h less = subst (λ (l : List Text). first_of (values_faults keys l) ≡ Some (fewer_than_keys (length values))) h
          (few_values keys r.lines_read r.fine (omega (arith, many, less)) ∙ ap (λ (n : ℕ). Some (fewer_than_keys n)) (sym many))

      by_stop : (stop : ValuesStop) → IsTooFew keys (length values) stop → StopsLines keys first before after stop
      by_stop (Refused fault) (less, is) = subst (λ (f : SpecFault). IfSome first (λ bytes. first_of (values_faults keys (lines bytes)) ≡ Some f)) (sym is) (few first (all_lines first then r.lines_read all) less)
      by_stop Failed h = absurd h
      by_stop Memory h = absurd h

      by_result : (q : Result V ValuesStop) → MatchResult q (λ v. (items_of v ≡ values) × (length values ≡ keys)) (IsTooFew keys (length values)) → MatchResult q (λ v. ReadsValues keys first (items_of v)) (StopsLines keys first before after)
      by_result (Ok v) (is, same) = subst (ReadsValues keys first) (sym is) (record { as_many = same; told = told first (all_lines first then r.lines_read all) same })
      by_result (Err stop) few = by_stop stop few
