use Rattle.std.proofs.Common.{ℕ, Some, drop, sym, ap, ◌∙◌}
use Rattle.sx_fields.specs.declared.section.Section.{Section}
use Rattle.sx_spec_strings.specs.First.{first_failing}
use Rattle.sx_spec.specs.Layout.{function_checks}
use Rattle.sx_static.specs.FunctionSections.{function_at}
use Rattle.sx_sections.proofs.Outcomes.{all_passed, one_failed}
use Rattle.sx_sections.proofs.check.check_function.Goals as goal

pub returns-in-Ok : goal.returns-in-Ok
returns-in-Ok c =
    let b = c.args.bounds in
    let words = c.args.words.now in
    let both =
    all_passed (function_at b.least b.most b.low b.high words c.args.at) c.in-Ok.section
    (first_failing (function_checks b.least b.most b.low b.high (drop c.args.at words))) c.in-Ok.ensures.found in
    record {
      passes = both.0;
      section = c.in-Ok.ensures.section;
      begins = ap (λ (s : Section). s.body) both.1;
      after = c.in-Ok.ensures.size;
      within = c.in-Ok.ensures.after;
      stands = c.in-Ok.ensures.stands;
    }

pub returns-in-Err : goal.returns-in-Err
returns-in-Err c =
    let b = c.args.bounds in
    let words = c.args.words.now in
    one_failed (function_at b.least b.most b.low b.high words c.args.at) c.in-Err.check
    (first_failing (function_checks b.least b.most b.low b.high (drop c.args.at words))) c.in-Err.ensures.found
    ∙ ap (λ (n : ℕ). Some n) (sym c.of_number.ensures)
