-- What keys and values come to by the seeds.
use Rattle.std.specs.Prelude.{flat_map, zip, ◌≡◌, ℕ, List}
use Rattle.std.specs.List.{AllZip}
use Rattle.sx_spec.specs.declared.Plan.{Plan}
use Rattle.sx_spec.specs.Built.{IsBuilt}
use Rattle.sx_spec.specs.Command.{Text}
use Rattle.sx_spec.specs.Layout.{Dump, layout, Passes}
use Rattle.sx_spec.specs.Messages.{built_line, seeds_text, failure_text}
use Rattle.sx_spec.specs.Reply.{AnswersMembers}
use Rattle.sx_spec.specs.StaticFunction.{Part, SeedFailure, IsSeedFailure, IsFirstWorkingSeed}
use Rattle.sx_spec.specs.Parts.{parts_of, least_width}
use Rattle.sx_trial.specs.declared.seeds.Tried.{Tried}
use Rattle.sx_trial.specs.declared.seeds.Tried.TheVariants.{Dump as TriedDump, Failed}

-- the parts of these keys and values
abbrev pub parts_for : Plan → List Text → List ℕ → List Part
parts_for plan keys values = parts_of plan (least_width values) keys values

-- the words are those of a dump that is built with the first seed that works, and the line is the one on it
pub record IsReady (plan : Plan) (seeds : List ℕ) (keys : List Text) (values words line : List ℕ) : Type 0 where
  pub seed : ℕ
  pub dump : Dump
  pub first_seed : IsFirstWorkingSeed plan.method 64 plan.sig_bits (parts_for plan keys values) seeds seed
  pub built : IsBuilt 64 plan keys (parts_for plan keys values) seed dump
  pub passes : Passes dump
  pub members : AnswersMembers dump keys values
  pub words_are : words ≡ layout dump
  pub line_is : line ≡ built_line dump

-- each seed fails, and the message tells how
pub record AllFail (plan : Plan) (seeds : List ℕ) (keys : List Text) (values message : List ℕ) : Type 0 where
  pub failures : List SeedFailure
  pub each_seed : AllZip (λ seed failure. IsSeedFailure plan.method 64 plan.sig_bits (parts_for plan keys values) seed failure) seeds failures
  pub message_is : message ≡ seeds_text plan seeds failures

-- these seeds fail, and the message tells how so far
pub record FailSoFar (plan : Plan) (seeds : List ℕ) (keys : List Text) (values message : List ℕ) : Type 0 where
  pub failures : List SeedFailure
  pub each_seed : AllZip (λ seed failure. IsSeedFailure plan.method 64 plan.sig_bits (parts_for plan keys values) seed failure) seeds failures
  pub message_is : message ≡ flat_map (λ p. failure_text plan p.0 p.1) (zip seeds failures)

-- a dump by the first seed that works, or a failure of each seed
abbrev pub IsTried : Plan → List ℕ → List Text → List ℕ → Tried → Type 0
IsTried plan seeds keys values (TriedDump words line) = IsReady plan seeds keys values words.items line.items
IsTried plan seeds keys values (Failed message) = AllFail plan seeds keys values message.items
