use Rattle.std.proofs.Common.{◌≡◌, ◌<◌, ◌+◌, ◌*◌, ◌^◌, ◌%◌, ◌++◌, ◌∷◌, [], ◌∙◌, ℕ, List, All, length, take, get_or, refl, ap, subst, arith, Vec, Global}
use Rattle.std.specs.Prelude.{sum_by}
use Rattle.std.proofs.lemmas.List.{length-map, length-replicate, take_all}
use Rattle.std.proofs.lemmas.List.Elements.{All-from_recursion, All-replicate}
use Rattle.std.proofs.lemmas.List.Sums.{sum_by_more_le, sum_by_more}
use Rattle.std.proofs.Math.Pow.{pow_pos}
use Rattle.sx_spec.specs.Chunks.{chunk_bits, segment}
use Rattle.sx_spec.specs.Systems.{chosen}
use Rattle.sx_sig.specs.Grouping.{chunk_numbers}
use Rattle.sx_static.specs.Answer.{entries_of}
use Rattle.sx_static.specs.Chunks.{ListsHold, AreFound, cells_needed}
use Rattle.sx_static.specs.Tries.{IsTried}
use Rattle.sx_static.proofs.Counting.{lists_of, list_at, lists_hold, list_short}
use Rattle.sx_static.proofs.Wholes.{many_lists, numbers_at, within, found_chunk, more_found, chosen_fit}
use Rattle.sx_static.proofs.Functions.{done, stuck}
use Rattle.sx_static.proofs.Differing.{built_differ, chunk_differs, told}
use Rattle.sx_static.proofs.table.build_chunks.Goals as goal

pub all_cells-total-requires : goal.all_cells-total-requires
all_cells-total-requires c = record { lists = rw c.requires.lists (lists_hold c.args.sigs.now c.requires.few) }

pub loop-chunk-init : goal.loop-chunk-init
loop-chunk-init c =
    let cells = c.in_ok-cells.ensures in
    let total = c.all_cells-total.result in
    record {
      found = record { found = []; each = tt; start = refl; table = c.in_ok-table.ensures.items; cells = refl };
      start = refl;
      count = ap length cells.items ∙ length-replicate total 0;
      width = cells.width;
      fit = rw cells.items (All-replicate (λ v. v < 2 ^ c.args.width) total 0 (pow_pos c.args.width));
    }

pub build_chunk-requires-clause-within : goal.build_chunk-requires-clause-within
build_chunk-requires-clause-within c =
    let sigs = c.args.sigs.now in
    let j = c.loop-chunk.chunk in
    let are : c.deref.result.now ≡ chunk_numbers (chunk_bits (length sigs)) sigs j = c.deref.ensures.value ∙ numbers_at c.args.chunks.now sigs j c.index-chunks-chunk.result c.requires.lists (omega arith) c.index-chunks-chunk.is in
    All-from_recursion (λ i. i < length sigs) c.deref.result.now (within c.args.method sigs c.args.values.now c.requires.values j c.deref.result.now are)

pub build_chunk-requires-clause-few : goal.build_chunk-requires-clause-few
build_chunk-requires-clause-few c =
    let chunks = c.args.chunks.now in
    let j = c.loop-chunk.chunk in
    let hold : ListsHold (2 ^ 27) (lists_of chunks) = rw c.requires.lists (lists_hold c.args.sigs.now c.requires.few) in
    let many = length-map chunks (λ (v : Vec ℕ Global). v.items) in
    let at = ap length (c.deref.ensures.value ∙ list_at chunks j c.index-chunks-chunk.result (omega arith) c.index-chunks-chunk.is) in
    let short = list_short (lists_of chunks) j (omega arith) hold in
    omega arith

pub overflow_cast-chunk : goal.overflow_cast-chunk
overflow_cast-chunk c =
    let chunks = c.args.chunks.now in
    let hold : ListsHold (2 ^ 27) (lists_of chunks) = rw c.requires.lists (lists_hold c.args.sigs.now c.requires.few) in
    let few = hold.few in
    let many = length-map chunks (λ (v : Vec ℕ Global). v.items) in
    omega arith

pub put_cells-requires-clause-room : goal.put_cells-requires-clause-room
put_cells-requires-clause-room c =
    let chunks = c.args.chunks.now in
    let j = c.loop-chunk.chunk in
    let method = c.args.method in
    let now = c.deref.result.now in
    let tried = subst (IsTried method (segment method (length now)) (chosen c.args.sigs.now now) (chosen c.args.values.now now) now) c.in-Works.is c.in_ok-number.ensures in
    let size : length c.in-Works.found.items ≡ cells_needed method now = tried.1.count in
    let many = length-map chunks (λ (v : Vec ℕ Global). v.items) in
    let at : cells_needed method now ≡ cells_needed method (get_or (lists_of chunks) j []) = ap (cells_needed method) (c.deref.ensures.value ∙ list_at chunks j c.index-chunks-chunk.result (omega arith) c.index-chunks-chunk.is) in
    let more = sum_by_more_le (cells_needed method) (lists_of chunks) j [] (omega arith) in
    let total = c.all_cells-total.ensures.value in
    let so_far = c.loop-chunk.invariant.start in
    let count = c.loop-chunk.invariant.count in
    let given = ap length c.deref-in-Works.ensures.value in
    omega arith

pub put_cells-requires-clause-fit : goal.put_cells-requires-clause-fit
put_cells-requires-clause-fit c =
    let method = c.args.method in
    let width = c.args.width in
    let now = c.deref.result.now in
    let tried = subst (IsTried method (segment method (length now)) (chosen c.args.sigs.now now) (chosen c.args.values.now now) now) c.in-Works.is c.in_ok-number.ensures in
    let fit : All (λ v. v < 2 ^ width) c.in-Works.found.items = tried.1.narrow width (chosen_fit (λ v. v < 2 ^ width) c.args.values.now now c.requires.fit) in
    rw (c.deref-in-Works.ensures.value, c.loop-chunk.invariant.width) fit

pub returns-in-Fails : goal.returns-in-Fails
returns-in-Fails c =
    let chunks = c.args.chunks.now in
    let sigs = c.args.sigs.now in
    let values = c.args.values.now in
    let method = c.args.method in
    let j = c.loop-chunk.chunk in
    let now = c.deref.result.now in
    let are : now ≡ chunk_numbers (chunk_bits (length sigs)) sigs j = c.deref.ensures.value ∙ numbers_at chunks sigs j c.index-chunks-chunk.result c.requires.lists (omega arith) c.index-chunks-chunk.is in
    let tried = subst (IsTried method (segment method (length now)) (chosen sigs now) (chosen values now) now) c.in-Fails.is c.in_ok-number.ensures in
    let many = many_lists chunks sigs c.requires.lists in
    let inside : j < 2 ^ chunk_bits (length sigs) = omega arith in
    let why = c.in_ok-why-in-Fails.why in
    told method c.args.width sigs values c.requires.values j c.in-Fails.witnesses
    (λ differ. stuck method c.args.width sigs values c.requires.values differ j c.loop-chunk.start c.loop-chunk.table.items c.loop-chunk.cells.items c.loop-chunk.invariant.found inside now are c.in-Fails.witnesses.items
    (tried (chunk_differs sigs values c.requires.values j now are differ)))
    why c.in_ok-why-in-Fails.ensures

pub loop-chunk-preserved : goal.loop-chunk-preserved
loop-chunk-preserved c =
    let chunks = c.args.chunks.now in
    let sigs = c.args.sigs.now in
    let values = c.args.values.now in
    let method = c.args.method in
    let at = c.loop-chunk in
    let j = at.chunk in
    let now = c.deref.result.now in
    let number = c.in-Works.number in
    let cells = c.in-Works.found in
    let put = c.put_cells.ensures in
    let row = c.put_cells.new.cells.items in
    let are : now ≡ chunk_numbers (chunk_bits (length sigs)) sigs j = c.deref.ensures.value ∙ numbers_at chunks sigs j c.index-chunks-chunk.result c.requires.lists (omega arith) c.index-chunks-chunk.is in
    let tried = subst (IsTried method (segment method (length now)) (chosen sigs now) (chosen values now) now) c.in-Works.is c.in_ok-number.ensures in
    let size : length cells.items ≡ cells_needed method now = tried.1.count in
    let long : c.len-start.result ≡ length cells.items = c.len-start.ensures ∙ cells.ok.0 in
    let small : number < 64 = tried.0 in
    let word : at.start + c.from.result * 2 ^ 58 % 2 ^ 64 ≡ at.start + number * 2 ^ 58 = omega (arith, c.from.ensures) in
    let words : c.push.new.self.items ≡ at.table.items ++ (at.start + number * 2 ^ 58) ∷ [] = c.in_ok-push-in-Works.ensures.items ∙ ap (λ (n : ℕ). at.table.items ++ n ∷ []) word in
    let next : at.start + c.len-start.result ≡ at.start + length cells.items = ap (λ (n : ℕ). at.start + n) long in
    let front : take (at.start + c.len-start.result) row ≡ take at.start at.cells.items ++ cells.items =
    ap (λ (n : ℕ). take n row) next
    ∙ subst (λ (xs : List ℕ). take (at.start + length xs) row ≡ take at.start at.cells.items ++ xs) c.deref-in-Works.ensures.value put.items in
    let many = length-map chunks (λ (v : Vec ℕ Global). v.items) in
    let needed : cells_needed method now ≡ cells_needed method (get_or (lists_of chunks) j []) = ap (cells_needed method) (c.deref.ensures.value ∙ list_at chunks j c.index-chunks-chunk.result (omega arith) c.index-chunks-chunk.is) in
    let more = sum_by_more (cells_needed method) (lists_of chunks) j [] (omega arith) in
    let so_far = at.invariant.start in
    record {
      found = more_found method (entries_of sigs values) j at.start at.table.items at.cells.items at.invariant.found
          (record { chunk = record { segment = segment method (length now); try = number }; cells = cells.items })
          (found_chunk method sigs values c.requires.values j now are number cells.items small tried.1 tried.2)
          (at.start + c.len-start.result) c.push.new.self.items row next words front;
      start = omega arith;
      count = put.count ∙ at.invariant.count;
      width = put.width ∙ at.invariant.width;
      fit = subst (λ (w : ℕ). All (λ v. v < 2 ^ w) at.cells.items → All (λ v. v < 2 ^ w) row) at.invariant.width put.fit at.invariant.fit;
    }

pub returns : goal.returns
returns c =
    let chunks = c.args.chunks.now in
    let sigs = c.args.sigs.now in
    let method = c.args.method in
    let at = c.loop-chunk in
    let many = many_lists chunks sigs c.requires.lists in
    let all : at.chunk ≡ 2 ^ chunk_bits (length sigs) = omega arith in
    let found : AreFound method (entries_of sigs c.args.values.now) (2 ^ chunk_bits (length sigs)) at.start at.table.items at.cells.items =
    subst (λ (n : ℕ). AreFound method (entries_of sigs c.args.values.now) n at.start at.table.items at.cells.items) all at.invariant.found in
    let lists = lists_of chunks in
    let long = length-map chunks (λ (v : Vec ℕ Global). v.items) in
    let whole : sum_by (cells_needed method) (take at.chunk lists) ≡ sum_by (cells_needed method) lists = ap (sum_by (cells_needed method)) (take_all at.chunk lists (omega arith)) in
    let start = at.invariant.start in
    let total = c.all_cells-total.ensures in
    let count = at.invariant.count in
    let differ = built_differ method sigs c.args.values.now c.requires.values lists c.requires.gathers c.requires.lists c.requires.differ found.found found.each in
    done method c.args.width sigs c.args.values.now c.requires.values differ
    (record { width = c.args.width; pairs = length sigs; table = c.push-2.new.self; cells = at.cells }) at.start at.table.items found refl refl c.in_ok-push.ensures.items at.invariant.width (omega arith) (omega arith) at.invariant.fit
