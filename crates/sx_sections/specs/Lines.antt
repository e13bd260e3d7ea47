-- The lines of a dump's text.
use Rattle.std.specs.Prelude.{ℕ, List, [], ◌∷◌, decimal, codes}
use Rattle.sx_spec.specs.declared.Signature.{Signature}
use Rattle.sx_spec.specs.Layout.{Header}
use Rattle.sx_spec.specs.Show.{header_text, line_of}
use Rattle.sx_spec.specs.StaticFunction.{Chunk}

-- two words
unfoldable pub words_line : (first second : List ℕ) → List ℕ
words_line first second = line_of (first ∷ second ∷ [])

-- a word and a number
unfoldable pub number_line : List ℕ → ℕ → List ℕ
number_line word number = line_of (word ∷ decimal number ∷ [])

-- entry i of a section: a word, its place and a number
unfoldable pub entry_line : List ℕ → (i number : ℕ) → List ℕ
entry_line word i number = line_of (word ∷ decimal i ∷ decimal number ∷ [])

-- a function
unfoldable pub function_line : List ℕ → (width pairs chunks cells : ℕ) → List ℕ
function_line name width pairs chunks cells = line_of (codes "function" ∷ name ∷ codes "width" ∷ decimal width ∷ codes "pairs" ∷ decimal pairs
    ∷ codes "chunks" ∷ decimal chunks ∷ codes "cells" ∷ decimal cells ∷ [])

-- a chunk of it
unfoldable pub chunk_line : ℕ → Chunk → List ℕ
chunk_line i chunk = line_of (codes "chunk" ∷ decimal i ∷ codes "segment" ∷ decimal chunk.segment ∷ codes "try" ∷ decimal chunk.try ∷ [])

-- a list
unfoldable pub list_line : List ℕ → (count width : ℕ) → List ℕ
list_line name count width = line_of (codes "list" ∷ name ∷ codes "count" ∷ decimal count ∷ codes "width" ∷ decimal width ∷ [])

-- an Elias-Fano list
unfoldable pub sums_line : List ℕ → (count below : ℕ) → List ℕ
sums_line name count below = line_of (codes "sums" ∷ name ∷ codes "count" ∷ decimal count ∷ codes "below" ∷ decimal below ∷ [])

-- a signature
unfoldable pub correction_line : ℕ → Signature → List ℕ
correction_line i sig = line_of (codes "correction" ∷ decimal i ∷ decimal sig.w0 ∷ decimal sig.w1 ∷ decimal sig.w2 ∷ [])

-- the lines of a header
unfoldable pub header_lines : Header → List ℕ
header_lines h = header_text h
