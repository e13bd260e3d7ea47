-- Chunks that were built one after another.
use Rattle.std.specs.Prelude.{◌≡◌, ℕ, ◌+◌, ◌*◌, ◌<◌, ◌≤◌, ◌^◌, List, [], ◌∷◌, length, map, flat_map, sum_by, take, Vec}
use Rattle.std.specs.Global.{Global}
use Rattle.std.specs.List.{AllByRecursion, AllZip, range_with_len}
use Rattle.sx_spec.specs.declared.Method.{Method}
use Rattle.sx_spec.specs.declared.Signature.{Signature}
use Rattle.sx_spec.specs.Chunks.{segment}
use Rattle.sx_spec.specs.StaticFunction.{AllDiffer, AreTwins, Chunk, Entry, cell_count, chunk_segment, equations, IsLeastTry}
use Rattle.sx_spec.specs.Systems.{Solves}
use Rattle.sx_solve.specs.Solving.{IsEquationWithin}
use Rattle.sx_static.specs.declared.Built.{Built}
use Rattle.sx_static.specs.declared.Built.TheVariants.{Done, Twins, Stuck}
use Rattle.sx_static.specs.declared.Witness.{Witness}

-- how many cells a chunk of the pairs of these numbers has
abbrev pub cells_needed : Method → List ℕ → ℕ
cells_needed method numbers = 3 * segment method (length numbers)

-- there are at most 2 ^ 22 lists, and at most so many numbers in all of them
pub record ListsHold (most : ℕ) (lists : List (List ℕ)) : Type 0 where
  pub few : length lists ≤ 2 ^ 22
  pub hold : sum_by length lists ≤ most

-- a chunk with its cells
pub record Found : Type 0 where
  pub chunk : Chunk
  pub cells : List ℕ

-- the chunk was built so
pub record IsFound (method : Method) (entries : List Entry) (j : ℕ) (f : Found) : Type 0 where
  pub segment : f.chunk.segment ≡ chunk_segment method entries j
  pub small : f.chunk.try < 64
  pub try : IsLeastTry method entries j f.chunk.try
  pub count : length f.cells ≡ 3 * f.chunk.segment
  pub within : AllByRecursion (IsEquationWithin (3 * f.chunk.segment)) (equations method entries j f.chunk.try)
  pub solves : Solves f.cells (equations method entries j f.chunk.try)

-- the chunks of these
abbrev pub chunks_of : List Found → List Chunk
chunks_of found = map (λ f. f.chunk) found

-- the words of a chunk table from a start on, without the last
abbrev pub starts_from : ℕ → List Chunk → List ℕ
starts_from start [] = []
starts_from start (c ∷ cs) = (start + c.try * 2 ^ 58) ∷ starts_from (start + 3 * c.segment) cs

-- the first so many chunks were built: this is the first cell after them, these are the words of the table so far, and their cells stand at the front of the row
pub record AreFound (method : Method) (entries : List Entry) (many first : ℕ) (words row : List ℕ) : Type 0 where
  pub found : List Found
  pub each : AllZip (IsFound method entries) (range_with_len 0 many) found
  pub start : first ≡ cell_count (chunks_of found)
  pub table : words ≡ starts_from 0 (chunks_of found)
  pub cells : take first row ≡ flat_map (λ f. f.cells) found

-- the signatures have these first twins, or all differ and no try works for the chunk, with these witnesses
abbrev pub IsToldOf : List Signature → ℕ → Vec Witness Global → Built → Type 0
IsToldOf sigs chunk witnesses (Done f) = ⊥
IsToldOf sigs chunk witnesses (Twins first second) = AreTwins sigs first second
IsToldOf sigs chunk witnesses (Stuck j each) = AllDiffer sigs × (j ≡ chunk) × (each ≡ witnesses)
