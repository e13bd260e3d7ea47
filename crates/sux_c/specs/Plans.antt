-- What a build is asked for, by its numbers.
use Rattle.std.specs.Prelude.{◌≡◌, ◌<◌, ◌≤◌, false, slice_get, unwrap_or}
use Rattle.sx_spec_kinds.specs.declared.Kind.{Kind}
use Rattle.sx_spec_kinds.specs.declared.Kind.TheVariants.{Func}
use Rattle.sx_spec.specs.declared.Method.TheVariants.{Mwhc}
use Rattle.sx_spec.specs.declared.Plan.{Plan}
use Rattle.sx_spec.specs.Kinds.{uses_buckets, uses_handles, uses_method}
use Rattle.sx_spec.specs.Layout.{kinds, methods}
use Rattle.sx_spec_program.specs.Program.{IsOfferedPlan}
use Rattle.sux_c.specs.declared.plan.SuxPlan.{SuxPlan}

-- the plan of these numbers
abbrev pub plan_of : SuxPlan → Plan
plan_of p = record {
  kind = unwrap_or (slice_get kinds p.kind) Func;
  method = unwrap_or (slice_get methods p.method) Mwhc;
  log_bucket = p.log_bucket;
  sig_bits = p.sig_bits;
  handle_bits = p.handle_bits;
  signed = p.signed_bits;
}

-- there are such a kind and such a method, and the program builds by such a plan
pub record IsAsked (p : SuxPlan) : Type 0 where
  pub kind : p.kind < 6
  pub method : p.method < 2
  pub offered : IsOfferedPlan (plan_of p)

-- there are such a kind and such a method, and each option is within its range
pub record IsWithin (p : SuxPlan) : Type 0 where
  pub kind : p.kind < 6
  pub method : p.method < 2
  pub buckets : p.log_bucket ≤ 12
  pub bits : p.sig_bits ≤ 192
  pub handles : p.handle_bits ≤ 64
  pub signed : p.signed_bits ≤ 64

-- the options that don't go with the kind are 0
pub record GoesWith (kind : Kind) (p : SuxPlan) : Type 0 where
  pub method : uses_method kind ≡ false → p.method ≡ 0
  pub buckets : uses_buckets kind ≡ false → p.log_bucket ≡ 0
  pub handles : uses_handles kind ≡ false → p.handle_bits ≡ 0
