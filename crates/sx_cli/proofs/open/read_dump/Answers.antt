use Rattle.sx_cli.proofs.Opens.{file_found}
use Rattle.sx_cli.proofs.open.read_dump.Goals as goal

pub returns-clause-found : goal.returns-clause-found
returns-clause-found g c =
    file_found c.args.name.now _ _ c.in_ok-file.file.words.items c.in_ok-file.file.bytes (c.in_ok-is_there.ensures.found cc).1 c.in_ok-file.ensures.words
