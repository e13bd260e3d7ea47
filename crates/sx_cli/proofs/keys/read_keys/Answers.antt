use Rattle.std.proofs.Common.{refl, ◌≡◌, ◌++◌, ◌∷◌, [], None, Some, length, ℕ, arith, sym, ap, subst, ◌∙◌, List, Option}
use Rattle.std.proofs.lemmas.List.{length-append}
use Rattle.std.proofs.lemmas.Result.{err_from_is_err_and}
use Rattle.sx_spec.specs.declared.Limits.{Limits}
use Rattle.sx_spec.specs.Command.{Text}
use Rattle.sx_spec.specs.Keys.{refusal, AreKeys}
use Rattle.sx_spec.specs.Keys.{standard_limits}
use Rattle.sx_bits.specs.KeyLists.{Keys}
use Rattle.sx_spec.proofs.KeyFiles.{faultless_lines_are_keys}
use Rattle.sx_cli.specs.declared.keys.KeysStop.{KeysStop}
use Rattle.sx_cli.specs.declared.keys.KeysStop.TheVariants.{Refused, Failed, Memory}
use Rattle.sx_cli.specs.Building.{RefusesLine}
use Rattle.sx_cli.specs.KeyReading.{StopsKeys, StopsPush}
use Rattle.sx_text.specs.declared.messages.KeyReason.{KeyReason}
use Rattle.sx_text.specs.Reasons.{reason_of, fault_of}
use Rattle.sx_cli.specs.Progress.{Progress}
use Rattle.sx_cli.proofs.FirstFaults.{keys_grow}
use Rattle.sx_cli.proofs.Readings.{after_line, at_end, at_fault, at_long_line, long_key, pushed_key}
use Rattle.sx_cli.proofs.keys.read_keys.Goals as goal

pub returns-in-Ok-End-clause-keys : goal.returns-in-Ok-End-clause-keys
returns-in-Ok-End-clause-keys g c =
    let i = c.lines.invariant in
    record {
      limits = i.limits;
      all = at_end _ _ _ c.lines.reader c.next.new.self c.lines.keys.lines i.progress (c.in-Ok-End.ensures.end cc);
      valid = i.valid;
    }

pub returns-in-Err-TooLong-clause-keys : goal.returns-in-Err-TooLong-clause-keys
returns-in-Err-TooLong-clause-keys g c =
    let i = c.lines.invariant in
    let long = c.in-Err-TooLong.ensures.too_long c.in-Err-TooLong.line (cc) i.fault in
    rw c.in-Err-TooLong.line-is (long_key _ _ c.lines.keys.lines c.lines.reader.max c.in-Err-TooLong.line c.lines.reader.number i.max i.number long.at i.valid
    (at_long_line _ _ _ c.lines.reader c.next.new.self c.lines.keys.lines i.progress c.in-Err-TooLong.line long))

pub returns-in-Err-ReadFault-clause-keys : goal.returns-in-Err-ReadFault-clause-keys
returns-in-Err-ReadFault-clause-keys g c =
    let i = c.lines.invariant in
    let fails = c.in-Err-ReadFault.ensures.read_fault (cc) i.fault in
    let calm = i.calm in
    record {
      keys = c.lines.keys.lines;
      behind = rw i.max at (at_fault _ _ _ c.lines.reader c.next.new.self c.lines.keys.lines i.progress fails.0);
      valid = i.valid;
      cause = omega (arith, fails.1);
    }

-- the keys with one more
grown : (keys new : Keys) (line : Text) → keys.limits ≡ standard_limits → AreKeys standard_limits keys.lines → new ≡ record keys { lines = keys.lines ++ line ∷ [] } → refusal keys.limits keys.lines line ≡ None
    → (new.limits ≡ standard_limits) × (new.lines ≡ keys.lines ++ line ∷ []) × AreKeys standard_limits new.lines
grown keys new line limits valid is none =
    let same : new.lines ≡ keys.lines ++ line ∷ [] = ap (λ (k : Keys). k.lines) is in
    let none_here : refusal standard_limits keys.lines line ≡ None = subst (λ (l : Limits). refusal l keys.lines line ≡ None) limits none in
    (ap (λ (k : Keys). k.limits) is ∙ limits, same, subst (AreKeys standard_limits) (sym same) (keys_grow standard_limits keys.lines line valid none_here))

pub lines-preserved : goal.lines-preserved
lines-preserved g c =
    let i = c.lines.invariant in
    let gives = c.in-Ok-Line.ensures.line cc in
    let pushed = c.in_ok-push_key-in-Ok-Line.ensures in
    let (limits, same, valid) = grown c.lines.keys c.push_key.new.keys c.line.result.now i.limits i.valid pushed.0 pushed.1 in
    let progress = after_line _ _ _ c.lines.reader c.next.new.self c.lines.keys.lines i.progress gives c.line.result.now (sym c.line.ensures) in
    let many = (faultless_lines_are_keys standard_limits c.push_key.new.keys.lines valid).count in
    record {
      progress = subst (λ (l : List Text). Progress (g.S.Source.left c.args.input.now) (g.S.Source.left c.next.new.src) c.next.new.self.held c.next.new.self.ended l) (sym same) progress;
      limits = limits;
      valid = valid;
      number = omega (arith, gives.number, i.number, ap (λ (l : List Text). length l) same, length-append c.lines.keys.lines (c.line.result.now ∷ []));
      max = c.in-Ok-Line.ensures.same ∙ i.max;
      fault = c.in-Ok-Line.ensures.fault;
      few = many;
      calm = c.in-Ok-Line.ensures.counts.calm refl ∙ i.calm;
    }

stopped : (stop : KeysStop) (limits : Limits) (keys : List Text) (line : Text) (number : ℕ) (old new : Option (List ℕ)) (before after : ℕ) → limits ≡ standard_limits
    → ((at : ℕ) (reason : KeyReason) → at ≡ number → refusal standard_limits keys line ≡ Some (reason_of reason) → RefusesLine old new (fault_of at reason))
    → StopsPush limits keys line number stop → StopsKeys old new before after stop
stopped (Refused at reason) limits keys line number old new before after same refuses h = refuses at reason h.0 (subst (λ (l : Limits). refusal l keys line ≡ Some (reason_of reason)) same h.1)
stopped Failed limits keys line number old new before after same refuses h = absurd h
stopped Memory limits keys line number old new before after same refuses h = tt

pub returns-in_err-push_key-in-Ok-Line-clause-keys : goal.returns-in_err-push_key-in-Ok-Line-clause-keys
returns-in_err-push_key-in-Ok-Line-clause-keys g c =
    let i = c.lines.invariant in
    let gives = c.in-Ok-Line.ensures.line (cc) in
    let progress = after_line _ _ _ c.lines.reader c.next.new.self c.lines.keys.lines i.progress gives c.line.result.now (sym c.line.ensures) in
    let left = err_from_is_err_and c.from_residual-in_err-push_key-in-Ok-Line.result c.from_residual-in_err-push_key-in-Ok-Line.ensures.1 in
    rw (left.1, left.2) (stopped c.in_err-push_key-in-Ok-Line.field-0.0 c.lines.keys.limits c.lines.keys.lines c.line.result.now c.number.result _ _ _ _ i.limits
    (λ at reason same refused. pushed_key _ _ c.next.new.self.held c.next.new.self.ended c.lines.keys.lines c.line.result.now at (reason_of reason) (omega (arith, same, c.number.ensures, gives.number, i.number)) i.valid refused progress)
    c.in_err-push_key-in-Ok-Line.ensures)
