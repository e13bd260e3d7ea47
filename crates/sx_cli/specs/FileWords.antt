-- What reading the words of a file comes to.
use Rattle.std.specs.Prelude.{◌≡◌, ℕ, ◌+◌, ◌^◌, ◌<◌, ◌≤◌, Bool, true, false, List, ◌++◌, length, take, slice_index, Option, IfSome, Result, Err}
use Rattle.std.specs.Io.KnownBytes.{Consumes, IsAtEnd}
use Rattle.sx_spec.specs.Layout.{bytes_words}
use Rattle.sx_cli.specs.declared.file_words.ReadFault.{ReadFault}
use Rattle.sx_cli.specs.declared.file_words.ReadFault.TheVariants.{Failed}

-- whether a file was not read since the shelf has failed
abbrev pub file_failed : {T : Type 0} → Result T ReadFault → Bool
file_failed (Err Failed) = true
file_failed _ = false

-- the words are those of bytes, and so many bytes there are
pub record IsDecoded (bytes words : List ℕ) (size : ℕ) : Type 0 where
  pub words_are : words ≡ bytes_words bytes
  pub size_is : size ≡ length bytes
  pub small : (i : ℕ) → slice_index bytes i < 256

-- what was read is the first bytes that were left, all of them where they are at most max, and else max + 1
abbrev pub ReadsFile : ℕ → Option (List ℕ) → List ℕ → Type 0
ReadsFile max rest bytes = IfSome rest (λ all. bytes ≡ take (max + 1) all)

-- the words are those of the rest of a file, up to one byte past the longest dump
pub record ReadsWords (rest : Option (List ℕ)) (words : List ℕ) (size : ℕ) : Type 0 where
  pub bytes : List ℕ
  pub decoded : IsDecoded bytes words size
  pub read : ReadsFile (2 ^ 30) rest bytes

-- the next bytes of a file were taken, and their words put behind those there; there was room for so many bytes
pub record TakesWords (before after : Option (List ℕ)) (old new : List ℕ) (room count : ℕ) : Type 0 where
  pub part : List ℕ
  pub number : length part ≡ count
  pub within : count ≤ room
  pub small : (i : ℕ) → slice_index part i < 256
  pub taken : Consumes before after part
  pub words : new ≡ old ++ bytes_words part
  pub end : count < room → IsAtEnd after
