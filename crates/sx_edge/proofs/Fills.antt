-- What one read does to a buffer.
use Rattle.std.proofs.Common.{◌≡◌, ℕ, ◌+◌, ◌-◌, ◌<◌, ◌≤◌, List, ◌++◌, Option, Result, Ok, Err, IfOk, take, drop, length, arith, refl, sym, ap, ◌∙◌, zero-add, length-append, length-drop}
use Rattle.std.proofs.lemmas.List.{take-take, length-take-le, length-take}
use Rattle.std.proofs.lemmas.List.Edits.{take-paste}
use Rattle.std.specs.List.{copy_within}
use Rattle.std.proofs.lemmas.Slice.{take-put_mid}
use Rattle.std.proofs.Math.Seq.{take-append-add}
use Rattle.std.specs.Io.{ReadsAtMost}
use Rattle.std.specs.Io.KnownBytes.{ReadConsumes}
use borrow.Rule.Slice.PartMut.{put_mid}
use Rattle.sx_edge.specs.Places.{HasNoFeed, bytes_between, TakesBehind}

-- a buffer whose end was read into
filled : (buf got : List ℕ) (len room n : ℕ) → len ≤ length buf → room ≡ length buf - len → n ≤ length got → take (len + n) (put_mid len room buf got) ≡ take len buf ++ take n got
filled buf got len room n fits width le =
    let size : length (take len buf) ≡ len = length-take-le len buf fits in
    let front : take (len + length got) (put_mid len room buf got) ≡ take len buf ++ got = take-put_mid len room buf got (len + length got) refl fits in
    let cut : take (len + n) (take (len + length got) (put_mid len room buf got)) ≡ take (len + n) (put_mid len room buf got) = take-take (len + n) (len + length got) (put_mid len room buf got) (omega arith) in
    let add : take (length (take len buf) + n) (take len buf ++ got) ≡ take len buf ++ take n got = take-append-add (take len buf) got n in
    sym cut ∙ ap (λ (l : List ℕ). take (len + n) l) front ∙ (rw size at add)

pub takes_behind : {E : Type 0} (r : Result ℕ E) (a b : Option (List ℕ)) (buf got : List ℕ) (len room : ℕ) → len < length buf → room ≡ length buf - len → length got ≡ room → ReadsAtMost r got → ReadConsumes a b r got → IfOk r (λ count. TakesBehind a b buf (put_mid len room buf got) len count)
takes_behind (Ok n) a b buf got len room some width size bound bytes = record {
  part = take n got;
  number = length-take-le n got bound.0;
  within = simp (length-append, length-take, length-drop) (omega (arith, bound.0));
  grown = filled buf got len room n (omega arith) width bound.0;
  consumed = bytes.0;
  end = λ none. bytes.1 none (omega arith);
}
takes_behind (Err e) a b buf got len room some width size bound bytes = tt

-- what is moved to the front of a buffer
moved : (buf now : List ℕ) (start end : ℕ) → now ≡ copy_within buf start end 0 → start ≤ end → end ≤ length buf → take (end - start) now ≡ bytes_between buf start end
moved buf now start end is le fits =
    let room : end - start ≤ length (drop start buf) = omega (arith, length-drop start buf) in
    rw (is, zero-add) (rw zero-add at (take-paste buf 0 (drop start buf) (end - start) (omega arith) room))

-- what was held has no line feed at the front of the buffer either
pub free_front : (buf now new : List ℕ) (start end : ℕ) → now ≡ copy_within buf start end 0 → start ≤ end → end ≤ length buf → take (end - start) new ≡ take (end - start) now → HasNoFeed (bytes_between buf start end) → HasNoFeed (bytes_between new 0 (end - start))
free_front buf now new start end is order within front free =
    let width : end - start - 0 ≡ end - start = omega arith in
    rw (width, front, moved buf now start end is order within) free
