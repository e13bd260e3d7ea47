use Rattle.std.proofs.Common.{◌≡◌, ◌∙◌, ◌<◌, ◌^◌, ◌+◌, ◌*◌, ◌/◌, ◌%◌, ◌++◌, List, ℕ, ap, sym, subst, arith, length, set, take, drop, true}
use Rattle.std.proofs.lemmas.Bool.{lt-ltb, ltb-true}
use Rattle.std.proofs.lemmas.List.{take_at}
use Rattle.sx_spec.specs.Fields.{words_number, words_for, fields, is_zero_after}
use Rattle.sx_fields.proofs.Places.{length-fields, field_ends, changed_fields}
use Rattle.sx_fields.proofs.packed_buf.PackedBufFieldsMut.set.Goals as goal

pub put-requires-clause-short : goal.put-requires-clause-short
put-requires-clause-short c =
    let p = c.self.inside in
    let size = length-fields p.width p.len p.words.items in
    let same = ap (λ n. length n.items) c.self.view_is in
    omega (arith, c.self.invariant.1, c.requires.within)

pub put-requires-clause-within : goal.put-requires-clause-within
put-requires-clause-within c =
    let p = c.self.inside in
    let size = length-fields p.width p.len p.words.items in
    let same = ap (λ n. length n.items) c.self.view_is in
    let end = field_ends c.args.i p.len p.width (omega (arith, c.requires.within)) in
    let words = ap length c.deref_mut.ensures.value in
    omega (arith, c.self.invariant.2)

-- the words after the change, whose vector holds them and nothing else
held : (n : ℕ) (words slice new : List ℕ) → slice ≡ words → n ≡ length words → length new ≡ length slice → take n (new ++ drop (length new) words) ≡ new
held n words slice new same size kept = let all = ap length same in take_at new (drop (length new) words) n (omega arith)

kept_fields : (words slice new : List ℕ) (width len i v : ℕ) → slice ≡ words → i < len → v < 2 ^ width → is_zero_after (len * width) words ≡ true → words_number new + words_number slice / 2 ^ (i * width) % 2 ^ width * 2 ^ (i * width) ≡ words_number slice + v * 2 ^ (i * width) → (fields width len new ≡ set (fields width len words) i v) × (words_number new < 2 ^ (len * width))
kept_fields words slice new width len i v same within fits padding change =
    changed_fields words new width len i v within fits (ltb-true (words_number words) (2 ^ (len * width)) padding)
    (subst (λ ws. words_number new + words_number ws / 2 ^ (i * width) % 2 ^ width * 2 ^ (i * width) ≡ words_number ws + v * 2 ^ (i * width)) same change)

pub invariant_of-self : goal.invariant_of-self
invariant_of-self c =
    let p = c.self.inside in
    let new = c.put.new.words in
    let size = length-fields p.width p.len p.words.items in
    let same = ap (λ n. length n.items) c.self.view_is in
    let narrow = ap (λ n. n.width) c.self.view_is in
    let whole = held p.words.len p.words.items c.deref_mut.result.now new c.deref_mut.ensures.value p.words.ok.0 c.put.auto.words in
    let kept = kept_fields p.words.items c.deref_mut.result.now new p.width p.len c.args.i c.args.v c.deref_mut.ensures.value (omega (arith, c.requires.within)) (subst (λ n. c.args.v < 2 ^ n) (sym narrow) c.requires.fits) c.self.invariant.4 c.put.ensures.change in
    let long : length new ≡ words_for (p.len * p.width) = c.put.auto.words ∙ ap length c.deref_mut.ensures.value ∙ c.self.invariant.2 in (
      c.self.invariant.0,
      c.self.invariant.1,
      rw whole long,
      rw whole c.put.ensures.small,
      rw whole (lt-ltb (words_number new) (2 ^ (p.len * p.width)) kept.1),
    )

pub returns-clause-items : goal.returns-clause-items
returns-clause-items c =
    let p = c.self.inside in
    let new = c.put.new.words in
    let size = length-fields p.width p.len p.words.items in
    let same = ap (λ n. length n.items) c.self.view_is in
    let narrow = ap (λ n. n.width) c.self.view_is in
    let whole = held p.words.len p.words.items c.deref_mut.result.now new c.deref_mut.ensures.value p.words.ok.0 c.put.auto.words in
    let kept = kept_fields p.words.items c.deref_mut.result.now new p.width p.len c.args.i c.args.v c.deref_mut.ensures.value (omega (arith, c.requires.within)) (subst (λ n. c.args.v < 2 ^ n) (sym narrow) c.requires.fits) c.self.invariant.4 c.put.ensures.change in
    ap (fields p.width p.len) whole ∙ kept.0 ∙ ap (λ n. set n.items c.args.i c.args.v) c.self.view_is
