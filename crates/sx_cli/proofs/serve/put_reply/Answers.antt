use Rattle.std.proofs.Common.{refl, ◌∙◌, rules}
use Rattle.std.specs.Int.{w128}
use Rattle.std.specs.Prelude.{FitsSigned}
use Rattle.std.proofs.lemmas.Int.{to_z-of_z}
use Rattle.sx_dump.specs.Opening.{dump_in}
use Rattle.sx_spec.specs.Reply.{reply}
use Rattle.sx_cli.proofs.Serves.{put_answer}
use Rattle.sx_cli.proofs.serve.put_reply.Goals as goal

pub returns-clause-put : goal.returns-clause-put
returns-clause-put g c =
    let fits : FitsSigned w128 c.reply.result = search rules in
    let d = dump_in (g.B.WordBank.words_of c.args.dump.now.bank) in
    put_answer c.args.replies.now c.push_reply.new.self c.push.new.self d c.args.line.now _ refl (c.push_reply.ensures.value (reply d c.args.line.now) (to_z-of_z w128 c.reply.result fits ∙ c.reply.ensures.value)) c.push.ensures
