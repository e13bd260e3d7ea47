use Rattle.std.proofs.Common.{◌≡◌, ◌+◌, ◌-◌, ℕ, List, Vec, Global, refl, sym, ap, subst, ◌∙◌, arith}
use Rattle.std.specs.Prelude.{option_map}
use Rattle.sx_trie.specs.Tries.{Contents, delimiter_bits}
use Rattle.sx_handles.specs.Ways.{key_at, key_block}
use Rattle.sx_zfast.specs.Corrected.{corrected_as, correction_of}
use Rattle.sx_zfast.specs.Maps.{map_read}
use Rattle.sx_zfast.specs.Memo.{AreKnown}
use Rattle.sx_zfast.specs.declared.correcting.Corrected.{Corrected}
use Rattle.sx_zfast.proofs.MisledKeys.{HasMisled, misled_starts, misled_more, misled_same, misled_whole, none_misled}
use Rattle.sx_zfast.proofs.correcting.corrections.Goals as goal
use Rattle.sx_zfast.proofs.correcting.corrections.Goals.{in-Some+in_ok-push, in_default}

pub returns-then-delimiters-lt2-clause-value : goal.returns-then-delimiters-lt2-clause-value
returns-then-delimiters-lt2-clause-value g c =
    none_misled (map_read c.args.map.now c.args.seed c.args.sig_bits) c.args.keys.now.lines c.args.delimiters.now c.new-list.result.items c.if-delimiters-lt2.true c.new-list.ensures.items

pub loop-key-init : goal.loop-key-init
loop-key-init g c =
    let m = map_read c.args.map.now c.args.seed c.args.sig_bits in
    record {
      counted = omega arith;
      first = λ h. c.in_ok-ways.ensures.block;
      next = λ h. absurd (omega arith);
      ways = rw (← c.requires.same, c.in_ok-ways.ensures.block) c.in_ok-ways.ensures.ways;
      memo = c.new-memo.ensures m (key_at c.args.keys.now.lines (0 - 1));
      list = misled_starts m c.args.keys.now.lines (delimiter_bits c.args.keys.now.lines c.args.delimiters.now) c.new-list.result.items c.new-list.ensures.items;
    }

pub loop-key-preserved : goal.loop-key-preserved
loop-key-preserved g c =
    let m = map_read c.args.map.now c.args.seed c.args.sig_bits in
    let lines = c.args.keys.now.lines in
    let numbers = c.args.delimiters.now in
    let ds = delimiter_bits lines numbers in
    let so_far = c.loop-key.invariant.counted in
    let more = c.correction.ensures.counted in
    let last : c.loop-key.key ≡ (c.loop-key.key + 1) - 1 = omega arith in
    let count = c.len-key-end.ensures.value in
    let less = c.loop-key-test.true in
    let is : option_map corrected_as c.correction.result ≡ correction_of m ds c.loop-key.key (key_at lines c.loop-key.key) =
    c.correction.ensures.value
    ∙ ap (λ (ns : List ℕ). correction_of m (delimiter_bits lines ns) c.loop-key.key (key_at lines c.loop-key.key)) (ap (λ (t : Contents). t.delimiters) c.of-reach.ensures ∙ c.requires.same)
    in
    record {
      counted = omega arith;
      first = λ h. absurd (omega arith);
      next = λ h. c.in_ok-go_to.ensures.block ∙ ap (key_block lines numbers) last;
      ways = c.in_ok-go_to.ensures.ways;
      memo = subst (λ n. AreKnown m (key_at lines n) c.correction.new.memo.slots) last c.correction.ensures.memo;
      list = elim c.match-correction.branch [
        | in-Some+in_ok-push w ↦
            misled_more m lines ds c.loop-key.key _ c.loop-key.list.items _ w.in-Some.found (omega arith) refl c.loop-key.invariant.list
            (ap (option_map corrected_as) (sym w.in-Some.is) ∙ is)
            (ap (λ (v : Vec Corrected Global). v.items) w.list-is ∙ w.in_ok-push.ensures.items)
        | in_default w ↦
            subst (HasMisled m lines ds (c.loop-key.key + 1)) (sym (ap (λ (v : Vec Corrected Global). v.items) w.list-is))
            (misled_same m lines ds c.loop-key.key _ c.loop-key.list.items (omega arith) refl c.loop-key.invariant.list
            (ap (option_map corrected_as) (sym w.in_default.is) ∙ is))
      ];
    }

pub returns-clause-value : goal.returns-clause-value
returns-clause-value g c =
    let some = c.if-delimiters-lt2.false in
    let over = c.loop-key-test.false in
    let count = c.len-key-end.ensures.value in
    misled_whole (map_read c.args.map.now c.args.seed c.args.sig_bits) c.args.keys.now.lines c.args.delimiters.now c.loop-key.key c.loop-key.list.items (omega arith) (omega arith) c.loop-key.invariant.list

pub correction-requires-clause-memo : goal.correction-requires-clause-memo
correction-requires-clause-memo g c =
    let lines = c.args.keys.now.lines in
    let front = c.shared_with_last.ensures in
    c.go_on.ensures (map_read c.args.map.now c.args.seed c.args.sig_bits) (key_at lines (c.loop-key.key - 1)) (key_at lines c.loop-key.key) c.loop-key.invariant.memo front.within front.front
