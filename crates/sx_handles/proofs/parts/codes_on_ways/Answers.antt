use Rattle.std.proofs.Common.{◌≡◌, ◌+◌, ◌-◌, sym, ap, ◌∙◌, arith}
use Rattle.sx_spec_kinds.specs.Zfast.{code_of}
use Rattle.sx_trie.specs.Tries.{delimiter_bits}
use Rattle.sx_handles.specs.Ways.{key_at, key_block}
use Rattle.sx_handles.proofs.KeyCodes.{next_code, all_codes}
use Rattle.sx_handles.proofs.parts.codes_on_ways.Goals as goal

pub loop-key-preserved : goal.loop-key-preserved
loop-key-preserved c =
    let lines = c.args.keys.now.lines in
    let numbers = c.args.delimiters.now in
    let key = c.loop-key.key in
    let code = c.code_on.ensures ∙ ap (λ ns. code_of (delimiter_bits lines ns) (key_at lines key)) c.requires.same in
    let back : key + 1 - 1 ≡ key = omega arith in
    record {
      codes = next_code (code_of (delimiter_bits lines numbers)) lines key c.loop-key.codes.items _ _
          (let less = c.loop-key-test.true in let all = c.len-key-end.ensures.value in omega arith) c.loop-key.invariant.codes code c.in_ok-push.ensures.items;
      first = λ zero'. absurd (omega arith);
      next = λ some. c.in_ok-go_to.ensures.block ∙ ap (key_block lines numbers) (sym back);
      ways = c.in_ok-go_to.ensures.ways;
    }

pub returns : goal.returns
returns c =
    all_codes (code_of (delimiter_bits c.args.keys.now.lines c.args.delimiters.now)) c.args.keys.now.lines c.loop-key.key c.loop-key.codes.items
    (let done = c.loop-key-test.false in let all = c.len-key-end.ensures.value in omega arith) c.loop-key.invariant.codes
