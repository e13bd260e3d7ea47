-- What a build comes to.
use Rattle.std.specs.Prelude.{◌≡◌, ⊤, ℕ, ◌<◌, ◌≤◌, Bool, ◌&&◌, ◌||◌, ◌==◌, nat_le, false, true, if◌then◌else◌, List, [], ◌∷◌, ◌++◌, length, map, take, drop, slice_get, Some}
use Rattle.std.specs.List.{AllZip}
use Rattle.sx_spec_kinds.specs.declared.Kind.{Kind}
use Rattle.sx_spec.specs.declared.OptionName.TheVariants.{Values}
use Rattle.sx_spec.specs.declared.Plan.{Plan}
use Rattle.sx_spec.specs.Built.{IsBuilt}
use Rattle.sx_spec.specs.Command.{goes_with}
use Rattle.sx_spec.specs.Keys.{AreKeys, standard_limits}
use Rattle.sx_spec.specs.Layout.{Dump, Passes, layout}
use Rattle.sx_spec.specs.Parts.{least_width, parts_of}
use Rattle.sx_spec.specs.Reply.{AnswersMembers}
use Rattle.sx_spec.specs.StaticFunction.{Part, SeedFailure, IsFirstWorkingSeed, IsSeedFailure}
use Rattle.sx_spec.specs.Values.{plain_values}
use Rattle.sux_c.specs.declared.keys.KeyStop.{KeyStop}
use Rattle.sux_c.specs.declared.keys.KeyStop.TheVariants.{Refused, Memory as KeyMemory}
use Rattle.sux_c.specs.declared.building.Stop.{Stop}
use Rattle.sux_c.specs.declared.building.Stop.TheVariants.{Asked, Count, Key, Memory}
use Rattle.sux_c.specs.declared.plan.SuxPlan.{SuxPlan}
use Rattle.sux_c.specs.declared.told.SuxFailure.{SuxFailure}
use Rattle.sux_c.specs.declared.told.SuxTold.{SuxTold}
use Rattle.sux_c.specs.declared.tries.Tried.{Tried}
use Rattle.sux_c.specs.declared.tries.Tried.TheVariants.{Dump as TriedDump, Failed}
use Rattle.sux_c.specs.KeyFaults.{IsFirstFault}
use Rattle.sux_c.specs.Plans.{IsAsked, plan_of}
use Rattle.sux_c.specs.Told.{failure_told, failures_in}

-- ---- what is handed

-- the values: the keys' numbers where none are given
abbrev pub values_of : List (List ℕ) → List ℕ → List ℕ
values_of keys values = if length values == 0 then plain_values (length keys) else values

-- whether the plan takes values
abbrev pub takes_values : Plan → Bool
takes_values plan = goes_with Values plan.kind && plan.signed == 0

-- whether there are no values or, where the plan takes them, as many as keys
abbrev pub fits_values : Plan → (keys values : ℕ) → Bool
fits_values plan keys values = values == 0 || (takes_values plan && values == keys)

-- whether there are 1 to 16 seeds, and values as there may be
abbrev pub fits_counts : Plan → (keys values seeds : ℕ) → Bool
fits_counts plan keys values seeds = nat_le 1 seeds && nat_le seeds 16 && fits_values plan keys values

-- ---- the seeds in order

-- the parts of these keys and values
abbrev pub parts_for : Plan → List (List ℕ) → List ℕ → List Part
parts_for plan keys values = parts_of plan (least_width values) keys values

-- each of the seeds fails, and the numbers of the failures are told
pub record AllFail (plan : Plan) (keys : List (List ℕ)) (values seeds : List ℕ) (told : List SuxFailure) : Type 0 where
  pub failures : List SeedFailure
  pub each_seed : AllZip (λ seed failure. IsSeedFailure plan.method 64 plan.sig_bits (parts_for plan keys values) seed failure) seeds failures
  pub told_are : told ≡ map failure_told failures

-- the words are those of a dump that is built from the keys and values with the first seed that works, passes every check and answers
-- each key; the failures of the seeds before it are told
pub record IsBuiltBy (plan : Plan) (keys : List (List ℕ)) (values seeds words : List ℕ) (seed : ℕ) (told : List SuxFailure) : Type 0 where
  pub dump : Dump
  pub first_seed : IsFirstWorkingSeed plan.method 64 plan.sig_bits (parts_for plan keys values) seeds seed
  pub built : IsBuilt 64 plan keys (parts_for plan keys values) seed dump
  pub passes : Passes dump
  pub members : AnswersMembers dump keys values
  pub words_are : words ≡ layout dump
  pub here : slice_get seeds (length told) ≡ Some seed
  pub before : AllFail plan keys values (take (length told) seeds) told

-- a dump by the first seed that works, or a failure of each seed
abbrev pub IsTried : Plan → List (List ℕ) → (values seeds : List ℕ) → Tried → Type 0
IsTried plan keys values seeds (TriedDump words seed failures) = IsBuiltBy plan keys values seeds words.items seed (failures_in failures)
IsTried plan keys values seeds (Failed failures) = AllFail plan keys values seeds (failures_in failures)

-- ---- a whole build

-- what the keys and values come to where all that is handed is as it may be
pub record IsBuilding (p : SuxPlan) (keys : List (List ℕ)) (values seeds : List ℕ) (t : Tried) : Type 0 where
  pub asked : IsAsked p
  pub counts : fits_counts (plan_of p) (length keys) (length values) (length seeds) ≡ true
  pub valid : AreKeys standard_limits keys
  pub tried : IsTried (plan_of p) keys (values_of keys values) seeds t

-- why there is no build where there is no list of the keys
abbrev pub stop_of : KeyStop → Stop
stop_of (Refused number rule) = Key number rule
stop_of KeyMemory = Memory

-- why there is no build
abbrev pub IsStop : SuxPlan → List (List ℕ) → (values seeds : List ℕ) → Stop → Type 0
IsStop p keys values seeds Asked = ¬ IsAsked p
IsStop p keys values seeds Count = IsAsked p × (fits_counts (plan_of p) (length keys) (length values) (length seeds) ≡ false)
IsStop p keys values seeds (Key number rule) = IsAsked p × (fits_counts (plan_of p) (length keys) (length values) (length seeds) ≡ true) × IsFirstFault keys number rule
IsStop p keys values seeds Memory = IsAsked p × (fits_counts (plan_of p) (length keys) (length values) (length seeds) ≡ true)

-- ---- what is told of a dump

-- the told words, seed and failures are those of a dump of these words
pub record TellsDump (plan : Plan) (keys : List (List ℕ)) (values seeds words : List ℕ) (told : SuxTold) : Type 0 where
  pub built : IsBuiltBy plan keys (values_of keys values) seeds words told.seed (failures_in told.failures)
  pub told_words : told.words ≡ length words

-- the words of a dump stand at the front of the room, and behind them it is as it was
pub record HoldsDump (plan : Plan) (keys : List (List ℕ)) (values seeds before after : List ℕ) (told : SuxTold) : Type 0 where
  pub words : List ℕ
  pub dump : TellsDump plan keys values seeds words told
  pub fits : length words ≤ length before
  pub here : after ≡ words ++ drop (length words) before

-- the words of a dump are more than the room has
pub record TakesWords (plan : Plan) (keys : List (List ℕ)) (values seeds : List ℕ) (room : ℕ) (told : SuxTold) : Type 0 where
  pub words : List ℕ
  pub dump : TellsDump plan keys values seeds words told
  pub short : room < length words
