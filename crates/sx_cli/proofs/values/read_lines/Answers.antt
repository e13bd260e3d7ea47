use Rattle.std.proofs.Common.{refl, sym, ◌∙◌}
use Rattle.std.proofs.lemmas.Result.{err_from_is_err_and}
use Rattle.sx_edge.specs.Kept.{KeepsFiles-trans}
use Rattle.sx_cli.proofs.Endings.{same_files}
use Rattle.sx_cli.proofs.ValueReadings.{no_values, value_read, value_stops, long_stops, values_end}
use Rattle.sx_cli.proofs.values.read_lines.Goals as goal

pub lines-init : goal.lines-init
lines-init g c = record {
  reading_on = no_values c.args.keys _ c.in_ok-reader.reader c.in_ok-values.values.items c.in_ok-reader.ensures c.in_ok-values.ensures.items;
  calm = refl;
  stays = c.requires;
  kept = same_files _;
}

pub lines-preserved : goal.lines-preserved
lines-preserved g c =
    let i = c.lines.invariant in
    record {
      reading_on = value_read c.args.keys _ _ _ c.lines.reader c.next_file.new.self c.lines.values.items i.reading_on (c.in-Ok-Line.ensures.line cc) c.line.result.now (sym c.line.ensures) c.in-Ok-Line.ensures.same c.in-Ok-Line.ensures.fault
          c.number.result c.number.ensures c.push_value.new.values.items c.in_ok-push_value-in-Ok-Line.ensures;
      calm = c.in-Ok-Line.ensures.counts.calm refl ∙ i.calm;
      stays = c.in-Ok-Line.ensures.stays;
      kept = KeepsFiles-trans _ _ _ i.kept c.in-Ok-Line.ensures.files;
    }

pub returns-in_err-push_value-in-Ok-Line-clause-values : goal.returns-in_err-push_value-in-Ok-Line-clause-values
returns-in_err-push_value-in-Ok-Line-clause-values g c =
    let i = c.lines.invariant in
    let left = err_from_is_err_and c.from_residual-in_err-push_value-in-Ok-Line.result c.from_residual-in_err-push_value-in-Ok-Line.ensures.1 in
    rw (left.1, left.2) (value_stops c.args.keys _ _ _ c.lines.reader c.next_file.new.self c.lines.values.items i.reading_on (c.in-Ok-Line.ensures.line cc) c.line.result.now (sym c.line.ensures)
    c.number.result c.number.ensures _ _ c.in_err-push_value-in-Ok-Line.field-0.0 c.in_err-push_value-in-Ok-Line.ensures)

pub returns-in-Err-TooLong-clause-values : goal.returns-in-Err-TooLong-clause-values
returns-in-Err-TooLong-clause-values g c =
    let i = c.lines.invariant in
    let long = c.in-Err-TooLong.ensures.too_long c.in-Err-TooLong.line (cc) i.reading_on.fault in
    long_stops c.args.keys _ _ _ c.lines.reader c.next_file.new.self c.lines.values.items i.reading_on c.in-Err-TooLong.line long _ _ c.long_line.result (rw c.in-Err-TooLong.line-is at c.long_line.ensures)

pub returns-in-Ok-End-clause-values : goal.returns-in-Ok-End-clause-values
returns-in-Ok-End-clause-values g c =
    let i = c.lines.invariant in
    values_end c.args.keys _ _ _ c.lines.reader c.next_file.new.self c.lines.values.items i.reading_on (c.in-Ok-End.ensures.end cc) _ _ _ (λ v. v.items) c.enough.result c.enough.ensures
