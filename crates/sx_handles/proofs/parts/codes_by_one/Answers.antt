use Rattle.std.proofs.Common.{arith}
use Rattle.sx_spec_kinds.specs.Zfast.{code_of}
use Rattle.sx_trie.specs.Tries.{delimiter_bits}
use Rattle.sx_handles.proofs.KeyCodes.{next_code, all_codes}
use Rattle.sx_handles.proofs.parts.codes_by_one.Goals as goal

pub loop-key-preserved : goal.loop-key-preserved
loop-key-preserved c =
    next_code (code_of (delimiter_bits c.args.keys.now.lines c.args.delimiters.now)) c.args.keys.now.lines c.loop-key.key c.loop-key.codes.items _ _
    (let less = c.loop-key-test.true in let all = c.len-key-end.ensures.value in omega arith) c.loop-key.invariant c.code_by_one.ensures c.in_ok-push.ensures.items

pub returns : goal.returns
returns c =
    all_codes (code_of (delimiter_bits c.args.keys.now.lines c.args.delimiters.now)) c.args.keys.now.lines c.loop-key.key c.loop-key.codes.items
    (let done = c.loop-key-test.false in let all = c.len-key-end.ensures.value in omega arith) c.loop-key.invariant
