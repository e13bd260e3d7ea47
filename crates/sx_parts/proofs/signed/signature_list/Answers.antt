use Rattle.std.proofs.Common.{◌≡◌, ◌∙◌, ℕ, List, length, ap, subst, sym}
use Rattle.std.specs.List.{range_with_len}
use Rattle.std.proofs.lemmas.List.FromFn.{length-range_with_len}
use Rattle.sx_signed.specs.Keeping.{ArePlaces}
use Rattle.sx_signed.proofs.KeptNumbers.{are_places_in_order}
use Rattle.sx_parts.proofs.SignedEnds.{all_in_order}
use Rattle.sx_parts.proofs.signed.signature_list.Goals as goal

pub keep-requires-clause-count : goal.keep-requires-clause-count
keep-requires-clause-count c =
    let n = length c.args.sigs.now in
    ap (λ (l : List ℕ). length l) (c.deref.ensures.value ∙ c.in_ok-places.ensures) ∙ length-range_with_len 0 n

pub keep-requires-clause-places : goal.keep-requires-clause-places
keep-requires-clause-places c =
    let same : c.deref.result.now ≡ range_with_len 0 (length c.args.sigs.now) = c.deref.ensures.value ∙ c.in_ok-places.ensures in
    subst ArePlaces (sym same) (are_places_in_order (length c.args.sigs.now))

pub returns-clause-items : goal.returns-clause-items
returns-clause-items c =
    let sigs = c.args.sigs.now in
    let same : c.deref.result.now ≡ range_with_len 0 (length sigs) = c.deref.ensures.value ∙ c.in_ok-places.ensures in
    all_in_order c.args.width sigs c.deref.result.now same c.keep.result c.keep.ensures.kept
