use Rattle.std.proofs.Common.{ℕ, Some, drop, sym, ap, ◌∙◌, arith}
use Rattle.sx_spec_strings.specs.First.{first_failing}
use Rattle.sx_spec.specs.Layout.{sums_checks}
use Rattle.sx_ef.specs.declared.section.Sums.{Sums}
use Rattle.sx_ef.specs.Sections.{sums_at}
use Rattle.sx_sections.proofs.Outcomes.{all_passed, one_failed}
use Rattle.sx_sections.proofs.check.check_sums.Goals as goal

pub returns-in-Ok : goal.returns-in-Ok
returns-in-Ok c =
    let words = c.args.words.now in
    let both =
    all_passed (sums_at c.args.count words c.args.at) c.in-Ok.sums
    (first_failing (sums_checks c.args.count (drop c.args.at words))) c.in-Ok.ensures.found in
    let count = c.in-Ok.ensures.count in
    record {
      passes = both.0;
      section = c.in-Ok.ensures.section;
      begins = ap (λ (s : Sums). s.body) both.1;
      after = ap (λ (s : Sums). s.after) both.1;
      within = c.in-Ok.ensures.after;
      stands = record {
        some = omega arith;
        few = omega arith;
        above = c.in-Ok.ensures.above;
        size = c.in-Ok.ensures.size;
        within = c.in-Ok.ensures.after;
        valid = c.in-Ok.ensures.valid;
      };
    }

pub returns-in-Err : goal.returns-in-Err
returns-in-Err c =
    let words = c.args.words.now in
    one_failed (sums_at c.args.count words c.args.at) c.in-Err.check
    (first_failing (sums_checks c.args.count (drop c.args.at words))) c.in-Err.ensures.found
    ∙ ap (λ (n : ℕ). Some n) (sym c.of_number.ensures)
