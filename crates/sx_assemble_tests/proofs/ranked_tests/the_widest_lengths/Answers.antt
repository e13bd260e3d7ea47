use Rattle.std.proofs.Common.{◌≡◌, true, false, refl, sym, subst, arith}
use Rattle.sx_spec_program.specs.Program.{IsOfferedPlan}
use Rattle.sx_assemble_tests.proofs.ranked_tests.the_widest_lengths.Goals as goal

pub ranked-requires : goal.ranked-requires
ranked-requires g c =
    subst IsOfferedPlan (sym c.plan_of.ensures) (record {
      kind = refl;
      signed = omega arith;
      no_method = λ e. let never : true ≡ false = e in absurd cc;
      buckets = omega arith;
      no_buckets = λ e. let never : true ≡ false = e in absurd cc;
      handles = omega arith;
      no_handles = λ e. refl;
      bits = omega arith;
    })
