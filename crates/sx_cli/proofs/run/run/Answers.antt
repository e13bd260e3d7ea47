use Rattle.std.proofs.Common.{◌≡◌, ℕ, ◌-◌, refl, sym, ap, subst, ◌∙◌, arith}
use Rattle.std.proofs.KnownBytes.{Keeps-refl}
use Rattle.sx_spec.specs.declared.Status.{Status}
use Rattle.sx_spec.specs.Command.{Task, query, open_dump, show_dump}
use Rattle.sx_spec.specs.Run.{Promise}
use Rattle.sx_spec.specs.World.{World}
use Rattle.sx_spec_program.specs.Program.{sux_program}
use Rattle.sx_words.specs.Tasks.{task_of}
use Rattle.sx_words.proofs.Offered.{build_fits, trial_fits}
use Rattle.sx_cli.proofs.Counts.{untouched}
use Rattle.sx_cli.proofs.Endings.{same_files}
use Rattle.sx_cli.proofs.Refusals.{words_refused, words_memory}
use Rattle.sx_cli.proofs.run.run.Goals as goal

-- the promise of the same task
as_task : (before after : World) (ticks : ℕ) (result : Status) (t task : Task) → t ≡ task → Promise sux_program t before after ticks result → Promise sux_program task before after ticks result
as_task before after ticks result t task same p = subst (λ (x : Task). Promise sux_program x before after ticks result) same p

pub returns-in-Build-clause-promise : goal.returns-in-Build-clause-promise
returns-in-Build-clause-promise g c =
    as_task _ _ (c.build.new.steps - c.args.steps.now) c.build.result _ _ (ap task_of (sym c.in-Build.is) ∙ c.in-Ok.ensures) (c.build.ensures.promise (c.build.new.steps - c.args.steps.now))

pub build-requires-clause-offered : goal.build-requires-clause-offered
build-requires-clause-offered g c = build_fits c.args.words.now _ (sym c.in-Ok.ensures ∙ ap task_of c.in-Build.is)

pub returns-in-Query-clause-promise : goal.returns-in-Query-clause-promise
returns-in-Query-clause-promise g c =
    as_task _ _ (c.query.new.steps - c.args.steps.now) c.query.result _ _ (ap (λ n. query n) c.as_str.ensures ∙ ap task_of (sym c.in-Query.is) ∙ c.in-Ok.ensures) c.query.ensures.promise

pub returns-in-Usage-clause-promise : goal.returns-in-Usage-clause-promise
returns-in-Usage-clause-promise g c =
    as_task _ _ (c.args.steps.now - c.args.steps.now) c.refuse_words.result _ _ (ap task_of (sym c.in-Usage.is) ∙ c.in-Ok.ensures)
    (words_refused _ _ _ (omega arith) c.refuse_words.result (record { shelf = untouched _ _; input = untouched _ _; out = untouched _ _; err = c.refuse_words.ensures.counts })
    (record { files = same_files _; count = refl }) (record { bytes = Keeps-refl _; count = refl }) (record { bytes = Keeps-refl _; count = refl }) c.in-Usage.rule c.refuse_words.ensures.told)

pub returns-in_default-clause-promise : goal.returns-in_default-clause-promise
returns-in_default-clause-promise g c =
    words_memory _ _ _ (omega arith) c.tell_memory.result (record { shelf = untouched _ _; input = untouched _ _; out = untouched _ _; err = c.tell_memory.ensures.counts })
    (record { files = same_files _; count = refl }) (record { bytes = Keeps-refl _; count = refl }) (record { bytes = Keeps-refl _; count = refl }) _ c.tell_memory.ensures.told

pub returns-in-Open-clause-promise : goal.returns-in-Open-clause-promise
returns-in-Open-clause-promise g c =
    as_task _ _ (c.args.steps.now - c.args.steps.now) c.show.result _ _ (ap (λ n. open_dump n) c.as_str-in-Open.ensures ∙ ap task_of (sym c.in-Open.is) ∙ c.in-Ok.ensures) (c.show.ensures.promise _ _ (c.args.steps.now - c.args.steps.now))

pub returns-in-Dump-clause-promise : goal.returns-in-Dump-clause-promise
returns-in-Dump-clause-promise g c =
    as_task _ _ (c.args.steps.now - c.args.steps.now) c.show-in-Dump.result _ _ (ap (λ n. show_dump n) c.as_str-in-Dump.ensures ∙ ap task_of (sym c.in-Dump.is) ∙ c.in-Ok.ensures) (c.show-in-Dump.ensures.promise _ _ (c.args.steps.now - c.args.steps.now))

pub trial-requires : goal.trial-requires
trial-requires g c = trial_fits c.args.words.now c.in-Trial.kind c.in-Trial.keys (sym c.in-Ok.ensures ∙ ap task_of c.in-Trial.is)

pub returns-in-Trial-clause-promise : goal.returns-in-Trial-clause-promise
returns-in-Trial-clause-promise g c =
    as_task _ _ (c.trial.new.steps - c.args.steps.now) c.trial.result _ _ (ap task_of (sym c.in-Trial.is) ∙ c.in-Ok.ensures) (c.trial.ensures.promise _ _ _ _ (c.trial.new.steps - c.args.steps.now))
