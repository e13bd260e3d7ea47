-- What this program offers, and the program that offers so much.
use Rattle.std.specs.Prelude.{◌≡◌, ◌≢◌, ◌≤◌, ℕ, true, false, List, [], ◌∷◌, Option, None, option_map}
use Rattle.std.specs.Result.{result_err}
use Rattle.sx_spec_kinds.specs.declared.Kind.TheVariants.{Func, Lcp, Lcp2, Hollow, HollowDist, Zfast}
use Rattle.sx_spec.specs.declared.Method.TheVariants.{Mwhc}
use Rattle.sx_spec.specs.declared.Plan.{Plan}
use Rattle.sx_spec.specs.Command.{Text, BuildTask, command}
use Rattle.sx_spec.specs.Keys.{standard_limits}
use Rattle.sx_spec.specs.Kinds.{uses_buckets, uses_handles, uses_method}
use Rattle.sx_spec.specs.Messages.{key_text, seeds_text, check_text, fault_text}
use Rattle.sx_spec.specs.Outcomes.{Profile}
use Rattle.sx_spec.specs.Parts.{least_width}
use Rattle.sx_spec_program.specs.Offer.{Offer, offers_kind, opened_by}

-- the dumps that sux builds and opens: static functions with values, the kinds lcp, lcp2, hollowdist and zfast in blocks, and hollow
-- tries; functions are built by either method, and each kind may be signed
abbrev pub sux_offer : Offer
sux_offer = record {
  kinds = Func ∷ Lcp ∷ Lcp2 ∷ Hollow ∷ HollowDist ∷ Zfast ∷ [];
  signed = 64;
}

-- the plan of a dump that this program builds: what it offers, in the ranges of the options, and 0 where an option doesn't go with
-- the kind
pub record IsOfferedPlan (plan : Plan) : Type 0 where
  pub kind : offers_kind sux_offer plan.kind ≡ true
  pub signed : plan.signed ≤ sux_offer.signed
  pub no_method : uses_method plan.kind ≡ false → plan.method ≡ Mwhc
  pub buckets : plan.log_bucket ≤ 12
  pub no_buckets : uses_buckets plan.kind ≡ false → plan.log_bucket ≡ 0
  pub handles : plan.handle_bits ≤ 64
  pub no_handles : uses_handles plan.kind ≡ false → plan.handle_bits ≡ 0
  pub bits : plan.sig_bits ≤ 192

-- what a build of this program asks for: a plan that is offered, and values of a file only without a signed width
pub record IsOfferedBuild (b : BuildTask) : Type 0 where
  pub plan : IsOfferedPlan b.plan
  pub values : b.plan.signed ≢ 0 → b.values ≡ None

-- what is told of the first check that the bytes of a file fail
abbrev pub offered_fault : Offer → List ℕ → Option Text
offered_fault offer bytes = option_map check_text (result_err (opened_by offer bytes))

-- a program that offers so much: all commands, 64 tries, values as wide as the greatest of them, and every message
abbrev pub program : Offer → Profile
program offer = record {
  command = command;
  limits = standard_limits;
  tries = 64;
  value_width = least_width;
  key_text = key_text;
  seeds_text = seeds_text;
  dump_fault = offered_fault offer;
  fault_text = fault_text;
}

-- the program sux
abbrev pub sux_program : Profile
sux_program = program sux_offer
