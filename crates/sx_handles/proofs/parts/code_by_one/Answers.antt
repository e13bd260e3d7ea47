use Rattle.sx_handles.specs.Ways.{key_at}
use Rattle.sx_handles.proofs.KeyCodes.{code_by_none, code_above, code_not_above, none_by, some_by}
use Rattle.sx_handles.proofs.parts.code_by_one.Goals as goal

pub returns-then-is_empty : goal.returns-then-is_empty
returns-then-is_empty c =
    code_by_none c.args.keys.now.lines c.args.delimiters.now (key_at c.args.keys.now.lines c.args.key) (none_by c.args.delimiters.now _ c.is_empty.ensures c.if-is_empty.true)

pub returns-then-delimiters-key : goal.returns-then-delimiters-key
returns-then-delimiters-key c =
    let some = some_by c.args.delimiters.now _ c.is_empty.ensures c.if-is_empty.false in
    code_above c.args.keys.now c.len-count.ensures.keys c.args.delimiters.now c.requires.rising some c.requires.few c.args.key c.requires.key c.if-delimiters-key.true

pub returns-else-delimiters-key : goal.returns-else-delimiters-key
returns-else-delimiters-key c =
    let some = some_by c.args.delimiters.now _ c.is_empty.ensures c.if-is_empty.false in
    code_not_above c.args.keys.now c.len-count.ensures.keys c.args.delimiters.now c.requires.rising some c.requires.few c.args.key c.requires.key c.if-delimiters-key.false
