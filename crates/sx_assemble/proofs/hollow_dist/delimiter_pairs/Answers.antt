use Rattle.std.proofs.Common.{◌≡◌, ◌∙◌, ◌+◌, ℕ, List, IfOk, length, map, ap, subst, sym, arith}
use Rattle.sx_spec_strings.specs.Bits.{Bits, key_bits}
use Rattle.sx_spec_kinds.specs.Pairs.{turns_pairs}
use Rattle.sx_pairs.specs.Pairs.{string_turn}
use Rattle.sx_trie.specs.Tries.{AreRising, delimiter_bits}
use Rattle.sx_trie.proofs.KeyNumbers.{no_more}
use Rattle.sx_parts.proofs.BuiltDumps.{few_lines}
use Rattle.sx_assemble.proofs.HollowDistDumps.{few_pairs}
use Rattle.sx_assemble.proofs.hollow_dist.delimiter_pairs.Goals as goal

pub pairs-requires : goal.pairs-requires
pairs-requires c = record { delimiters = subst (AreRising c.args.keys.now.lines) (sym c.deref.ensures.value) c.in_ok-numbers.ensures.rising }

pub returns-clause-strings : goal.returns-clause-strings
returns-clause-strings c =
    let lines = c.args.keys.now.lines in
    subst (λ (ds : List Bits). IfOk c.pairs.result (λ ps. map (string_turn lines) ps.items ≡ turns_pairs (map key_bits lines) ds))
    (ap (delimiter_bits lines) c.deref.ensures.value ∙ c.in_ok-numbers.ensures.bits) c.pairs.ensures.strings

pub returns-clause-few : goal.returns-clause-few
returns-clause-few c =
    let list = c.args.keys.now in
    let keys = c.delimiter_numbers.ensures.keys in
    let few = few_lines list.limits list.lines keys.limits keys.faultless in
    let most = no_more list.lines c.in_ok-numbers.numbers.items c.in_ok-numbers.ensures.rising in
    let same = ap (λ (l : List ℕ). length l) c.deref.ensures.value in
    few_pairs c.pairs.result (length list.lines + length c.deref.result.now) (omega arith) c.pairs.ensures.few
