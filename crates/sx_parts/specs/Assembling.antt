-- What keys and values come to: the words of a dump, or why a seed doesn't work for them.
use Rattle.std.specs.Prelude.{◌≡◌, ℕ, ◌<◌, ◌≤◌, ◌^◌, List, length, map, ⊤}
use Rattle.std.specs.List.{AllByRecursion}
use Rattle.sx_spec_strings.specs.Bits.{key_bits}
use Rattle.sx_spec_kinds.specs.declared.Kind.TheVariants.{Func}
use Rattle.sx_spec.specs.declared.Method.{Method}
use Rattle.sx_spec.specs.declared.Plan.{Plan}
use Rattle.sx_spec.specs.declared.Signature.{Signature}
use Rattle.sx_spec.specs.Built.{IsBuilt}
use Rattle.sx_spec.specs.Layout.{Dump, layout, Passes}
use Rattle.sx_spec.specs.Parts.{least_width, parts_of}
use Rattle.sx_spec.specs.Reply.{AnswersMembers}
use Rattle.sx_spec.specs.Signature.{signature}
use Rattle.sx_spec.specs.StaticFunction.{Cause, twins, stuck, SeedFailure, IsSeedFailure}
use Rattle.sx_static.specs.Answer.{witness_numbers, IsWitnessOf}
use Rattle.sx_parts.specs.declared.Assembled.{Assembled}
use Rattle.sx_parts.specs.declared.Assembled.TheVariants.{Words, SeedFailed}
use Rattle.sx_parts.specs.declared.PartCause.{PartCause}
use Rattle.sx_parts.specs.declared.PartCause.TheVariants.{Twins, Stuck}
use Rattle.sx_parts.specs.declared.PartFault.{PartFault}

-- how many tries each chunk has
abbrev pub tries : ℕ
tries = 64

-- ---- a seed that works

-- the words are those of a dump that is built from the keys and values with the seed, passes every check and answers each key
pub record IsDumpOf (keys : List (List ℕ)) (values : List ℕ) (plan : Plan) (seed : ℕ) (words : List ℕ) : Type 0 where
  pub dump : Dump
  pub built : IsBuilt tries plan keys (parts_of plan (least_width values) keys values) seed dump
  pub passes : Passes dump
  pub members : AnswersMembers dump keys values
  pub words_are : words ≡ layout dump
  pub few : length words < 2 ^ 27

-- ---- a seed that fails

-- why a part can't be built, with the numbers of the witnesses
abbrev pub cause_of : PartCause → Cause
cause_of (Twins first second) = twins first second
cause_of (Stuck chunk witnesses) = stuck chunk (map witness_numbers witnesses.items)

-- the first part for which the seed doesn't work, and the cause there
abbrev pub failure_of : PartFault → SeedFailure
failure_of fault = record { part = fault.part; cause = cause_of fault.cause }

-- the witnesses are cores or sums, as the method has them
abbrev pub HasWitnessesOf : Method → PartCause → Type 0
HasWitnessesOf method (Twins first second) = ⊤
HasWitnessesOf method (Stuck chunk witnesses) = AllByRecursion (IsWitnessOf method) witnesses.items

-- the seed fails so for the keys and values
pub record IsFailure (keys : List (List ℕ)) (values : List ℕ) (plan : Plan) (seed : ℕ) (fault : PartFault) : Type 0 where
  pub failure : IsSeedFailure plan.method tries plan.sig_bits (parts_of plan (least_width values) keys values) seed (failure_of fault)
  pub kinds : HasWitnessesOf plan.method fault.cause

-- ---- both

-- the words of a dump, or why the seed fails
abbrev pub IsAssembled : List (List ℕ) → List ℕ → Plan → ℕ → Assembled → Type 0
IsAssembled keys values plan seed (Words words) = IsDumpOf keys values plan seed words.items
IsAssembled keys values plan seed (SeedFailed fault) = IsFailure keys values plan seed fault

-- the signature of a key
abbrev pub key_signature : (seed sig_bits : ℕ) → List ℕ → Signature
key_signature seed sig_bits line = signature seed sig_bits (key_bits line)

-- a plan of a static function
pub record IsFuncPlan (plan : Plan) : Type 0 where
  pub kind : plan.kind ≡ Func
  pub signed : plan.signed ≤ 64
  pub buckets : plan.log_bucket ≡ 0
  pub handles : plan.handle_bits ≡ 0
  pub bits : plan.sig_bits ≤ 192
