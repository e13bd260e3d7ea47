-- Rows of a parser, each with one text, and what a use of a rule makes of them.
use Rattle.std.proofs.Common.{◌≡◌, ℕ, Bool, true, false, ◌&&◌, ◌||◌, List, [], ◌∷◌, ◌++◌, Option, Some, None, ◌∙◌, refl, ap}
use Rattle.std.specs.Prelude.{if◌then◌else◌, option_and_then}
use Rattle.std.specs.Str.{bytes_eq}
use Rattle.std.proofs.lemmas.List.{append-nil}
use Rattle.clap.specs.Words.{Row, reading_of}
use Rattle.clap.specs.Walk.{has_row, at_row, without, with_values, used, more_values}
use Rattle.clap.specs.Kinds.{Kinds, or_else}
use Rattle.clap.specs.Faults.{use_fault}
use Rattle.clap.specs.declared.builder.value_parser.ValueParser.TheVariants as parser
use Rattle.clap.specs.declared.parser.matches.ValueSource.TheVariants.{CommandLine}
use Rattle.clap.specs.declared.error.kind.ErrorKind.TheVariants as kind
use Rattle.sx_spec.specs.Command.{Text}
use Rattle.sx_words.proofs.Shapes.{one_rule}

-- ---- faults

-- the answer, unless there is a fault
abbrev pub unless_fault : {X : Type 0} → Kinds → Option X → Option X
unless_fault [] answer = answer
unless_fault (k ∷ ks) answer = None

pub unless_either : {X : Type 0} (a b : Kinds) (answer : Option X) → unless_fault (or_else a b) answer ≡ unless_fault a (unless_fault b answer)
unless_either [] b answer = refl
unless_either (k ∷ ks) b answer = refl

-- ---- rows

-- the row of an id with one text
abbrev pub row : Text → Text → Row
row id value = record { id = id; values = value ∷ []; count = None; source = Some CommandLine; reading = reading_of parser.String }

-- the rows with one more; none where the id has a row
abbrev pub added : List Row → Text → Text → Option (List Row)
added rows id value = if has_row id rows then None else Some (rows ++ row id value ∷ [])

pub row_at_end : (id : Text) (change : Row → List Row) (missing rows : List Row) → has_row id rows ≡ false → at_row id change missing rows ≡ rows ++ missing
row_at_end id change missing [] absent = refl
row_at_end id change missing (r ∷ rows) absent =
    elim (bytes_eq r.id id) as (λ b. (b || has_row id rows) ≡ false → (if b then change r ++ rows else r ∷ at_row id change missing rows) ≡ r ∷ (rows ++ missing)) [
      | true ↦ λ absent. absurd cc
      | false ↦ λ absent. ap (λ (rs : List Row). r ∷ rs) (row_at_end id change missing rows absent)
    ] absent

used_at_end : (id value : Text) (rows : List Row) → has_row id rows ≡ false → with_values id (reading_of parser.String) CommandLine (value ∷ []) (without id rows) ≡ rows ++ row id value ∷ []
used_at_end id value rows absent =
    ap (with_values id (reading_of parser.String) CommandLine (value ∷ [])) (row_at_end id (λ r. []) [] rows absent ∙ append-nil rows)
    ∙ row_at_end id (more_values CommandLine (value ∷ [])) (row id value ∷ []) rows absent

-- a use of a rule with one text
pub use_is : {X : Type 0} (long : Option Text) (index : Option ℕ) (required : Bool) (id value : Text) (rows : List Row) (next : List Row → Option X)
    → unless_fault (use_fault false (one_rule long index required id) (value ∷ []) rows) (next (used (one_rule long index required id) (value ∷ []) rows)) ≡ option_and_then next (added rows id value)
use_is {X = X} long index required id value rows next =
    elim (has_row id rows) as (λ b. has_row id rows ≡ b
    → unless_fault (or_else (if b && true then kind.ArgumentConflict ∷ [] else []) []) (next (used (one_rule long index required id) (value ∷ []) rows))
    ≡ option_and_then next (if b then None else Some (rows ++ row id value ∷ []))) [
      | true ↦ λ there. refl
      | false ↦ λ absent. ap next (used_at_end id value rows absent)
    ] refl
