use Rattle.sx_spec.specs.Layout.{words_bytes}
use Rattle.sx_cli.proofs.Shelves.{whole_set, whole_is_part, on_err}
use Rattle.sx_cli.proofs.dump.write_dump.Goals as goal

pub returns-clause-failed : goal.returns-clause-failed
returns-clause-failed g c = on_err c.close-closed.result (whole_is_part _ _ _ _ (whole_set c.args.name.now (words_bytes c.args.words.now) _ _ _ _ _ c.in_ok-create.ensures.made.1 c.in_ok-create.ensures.named c.in_ok-written.ensures.ok c.close-closed.ensures.files))
