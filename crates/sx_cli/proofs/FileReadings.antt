-- The words of a file that is read piece by piece.
use Rattle.std.proofs.Common.{◌≡◌, ℕ, zero, suc, inl, inr, ◌∷◌, append_assoc, ◌+◌, ◌*◌, ◌^◌, ◌<◌, ◌≤◌, List, [], ◌++◌, Option, Some, None, length, take, refl, sym, ap, ◌∙◌, arith, append-nil, length-append}
use Rattle.std.specs.Prelude.{slice_index}
use Rattle.std.specs.Io.KnownBytes.{Consumes, IsAtEnd}
use Rattle.std.proofs.lemmas.Bool.{cases_lt}
use Rattle.std.proofs.lemmas.List.{take-append-le}
use Rattle.sx_spec.specs.Layout.{bytes_words}
use Rattle.sx_bytes.proofs.WordPieces.{words_append}
use Rattle.sx_cli.specs.FileWords.{ReadsFile, ReadsWords, TakesWords}
use Rattle.std.specs.Int.{div_ceil}
use Rattle.sx_cli.proofs.Opens.{take_all, words_count}

-- so many whole pieces were read
pub record ReadSoFar (before now : Option (List ℕ)) (words : List ℕ) (pieces : ℕ) : Type 0 where
  pub bytes : List ℕ
  pub taken : Consumes before now bytes
  pub long : length bytes ≡ 65536 * pieces
  pub small : (i : ℕ) → slice_index bytes i < 256
  pub words_are : words ≡ bytes_words bytes

-- nothing was read
pub none_read : (a : Option (List ℕ)) → ReadSoFar a a [] 0
none_read a = record { bytes = []; taken = kept a; long = refl; small = λ i. lit i; words_are = refl }
  where
    kept : (a : Option (List ℕ)) → Consumes a a []
    kept None = tt
    kept (Some xs) = refl

    lit : (i : ℕ) → slice_index [] i < 256
    lit i = omega arith

consumes_on : (a b c : Option (List ℕ)) (front back : List ℕ) → Consumes a b front → Consumes b c back → Consumes a c (front ++ back)
consumes_on None b c front back p q = tt
consumes_on (Some xs) None c front back p q = absurd p
consumes_on (Some xs) (Some ys) None front back p q = absurd q
consumes_on (Some xs) (Some ys) (Some zs) front back p q = p ∙ ap (λ (l : List ℕ). front ++ l) q ∙ sym (append_assoc front back zs)

-- bytes of two lists are small where those of each are
small_joined : (front back : List ℕ) → ((i : ℕ) → slice_index front i < 256) → ((i : ℕ) → slice_index back i < 256) → (i : ℕ) → slice_index (front ++ back) i < 256
small_joined [] back f b i = b i
small_joined (x ∷ front) back f b zero = f zero
small_joined (x ∷ front) back f b (suc i) = small_joined front back (λ k. f (suc k)) b i

module _ (before now after : Option (List ℕ)) (words new : List ℕ) (pieces room count : ℕ) (so_far : ReadSoFar before now words pieces) (takes : TakesWords now after words new room count) where
  bytes : List ℕ
  bytes = so_far.bytes ++ takes.part

  taken : Consumes before after bytes
  unfolding bytes
  taken = consumes_on before now after so_far.bytes takes.part so_far.taken takes.taken

  long : length bytes ≡ 65536 * pieces + count
  unfolding bytes
  long = length-append so_far.bytes takes.part ∙ ap (λ (n : ℕ). n + length takes.part) so_far.long ∙ ap (λ (n : ℕ). 65536 * pieces + n) takes.number

  words_are : new ≡ bytes_words bytes
  unfolding bytes
  words_are =
      let whole : length so_far.bytes ≡ 8 * (8192 * pieces) = let l = so_far.long in omega (arith, l) in
      takes.words ∙ ap (λ (w : List ℕ). w ++ bytes_words takes.part) so_far.words_are ∙ sym (words_append so_far.bytes takes.part (8192 * pieces) whole)

  small : (i : ℕ) → slice_index bytes i < 256
  unfolding bytes
  small = small_joined so_far.bytes takes.part so_far.small takes.small

  -- a whole piece more
  pub piece_read : room ≡ 65536 → room ≤ count → ReadSoFar before after new (pieces + 1)
  piece_read size full =
      let within = takes.within in
      record { bytes = bytes; taken = taken; long = long ∙ (let e : 65536 * pieces + count ≡ 65536 * (pieces + 1) = omega (arith, within) in e); small = small; words_are = words_are }

  -- the file has no more
  pub file_ends : count < room → 65536 * pieces + count ≤ 2 ^ 30 + 1 → ReadsWords before new (65536 * pieces + count)
  file_ends short fits = record {
    bytes = bytes;
    decoded = record { words_are = words_are; size_is = sym long; small = small };
    read = all before after taken (takes.end short);
  }
    where
      all : (b a : Option (List ℕ)) → Consumes b a bytes → IsAtEnd a → ReadsFile (2 ^ 30) b bytes
      all None a c e = tt
      all (Some xs) None c e = absurd c
      all (Some xs) (Some ys) c e =
          let same : xs ≡ bytes = c ∙ ap (λ (l : List ℕ). bytes ++ l) e ∙ append-nil bytes in
          let l = long in
          sym (ap (take (2 ^ 30 + 1)) same ∙ take_all bytes (2 ^ 30 + 1) (omega (arith, l)))

  -- the file is longer than a dump
  pub file_goes_on : 65536 * pieces + count ≡ 2 ^ 30 + 1 → ReadsWords before new (65536 * pieces + count)
  file_goes_on size = record {
    bytes = bytes;
    decoded = record { words_are = words_are; size_is = sym long; small = small };
    read = part before after taken;
  }
    where
      part : (b a : Option (List ℕ)) → Consumes b a bytes → ReadsFile (2 ^ 30) b bytes
      part None a c = tt
      part (Some xs) None c = absurd c
      part (Some xs) (Some ys) c =
          let l = long in
          sym (ap (take (2 ^ 30 + 1)) c ∙ take-append-le (2 ^ 30 + 1) bytes ys (omega (arith, l)) ∙ take_all bytes (2 ^ 30 + 1) (omega (arith, l)))

  -- the last read, of one byte
  pub last_read : room ≡ 1 → pieces ≡ 16384 → ReadsWords before new (2 ^ 30 + count)
  last_read one all =
      let within = takes.within in
      let size : 65536 * pieces + count ≡ 2 ^ 30 + count = omega arith in
      rw (← size) (elim (cases_lt count room) [
        | inl short ↦ file_ends short (omega arith)
        | inr full ↦ file_goes_on (omega arith)
      ])

-- there are as many words as the bytes have
pub words_counted : (rest : Option (List ℕ)) (words : List ℕ) (size : ℕ) → ReadsWords rest words size → length words ≡ div_ceil size 8
words_counted rest words size r = words_count r.bytes words r.decoded.words_are ∙ ap (λ (n : ℕ). div_ceil n 8) (sym r.decoded.size_is)
