use Rattle.std.proofs.Common.{◌≡◌, ◌∙◌, ℕ, [], length, take, ap, arith}
use Rattle.std.specs.Prelude.{sum_by}
use Rattle.std.proofs.Common.{Vec, Global}
use Rattle.std.proofs.lemmas.List.{length-map, take_all}
use Rattle.std.proofs.lemmas.List.Sums.{sum_by_more}
use Rattle.sx_spec.specs.Chunks.{segment}
use Rattle.sx_static.specs.Chunks.{cells_needed}
use Rattle.sx_static.proofs.Counting.{lists_of, list_at, list_short, cells_more, cells_short}
use Rattle.sx_static.proofs.table.all_cells.Goals as goal

pub overflow_cast-len : goal.overflow_cast-len
overflow_cast-len c =
    let chunks = c.args.chunks.now in
    let i = c.loop-numbers.numbers-index in
    let many = length-map chunks (λ (v : Vec ℕ Global). v.items) in
    let at = ap length (list_at chunks i c.numbers-item.result (omega arith) c.numbers-item.is) in
    let short = list_short (lists_of chunks) i (omega arith) c.requires.lists in
    omega arith

pub overflow_add-cells : goal.overflow_add-cells
overflow_add-cells c =
    let chunks = c.args.chunks.now in
    let i = c.loop-numbers.numbers-index in
    let many = length-map chunks (λ (v : Vec ℕ Global). v.items) in
    let at = ap (cells_needed c.args.method) (list_at chunks i c.numbers-item.result (omega arith) c.numbers-item.is) in
    let more = cells_more c.args.method (lists_of chunks) i (omega arith) c.requires.lists in
    let size : c.segment.result ≡ segment c.args.method (length c.numbers-item.result.items) = c.segment.ensures ∙ ap (segment c.args.method) (c.len.ensures ∙ c.numbers-item.result.ok.0) in
    let so_far = c.loop-numbers.invariant in
    omega arith

pub loop-numbers-preserved : goal.loop-numbers-preserved
loop-numbers-preserved c =
    let chunks = c.args.chunks.now in
    let i = c.loop-numbers.numbers-index in
    let many = length-map chunks (λ (v : Vec ℕ Global). v.items) in
    let at = ap (cells_needed c.args.method) (list_at chunks i c.numbers-item.result (omega arith) c.numbers-item.is) in
    let more = sum_by_more (cells_needed c.args.method) (lists_of chunks) i [] (omega arith) in
    let size : c.segment.result ≡ segment c.args.method (length c.numbers-item.result.items) = c.segment.ensures ∙ ap (segment c.args.method) (c.len.ensures ∙ c.numbers-item.result.ok.0) in
    let so_far = c.loop-numbers.invariant in
    omega arith

pub returns-clause-short : goal.returns-clause-short
returns-clause-short c =
    let lists = lists_of c.args.chunks.now in
    let many = length-map c.args.chunks.now (λ (v : Vec ℕ Global). v.items) in
    let whole : take c.loop-numbers.numbers-index lists ≡ lists = take_all c.loop-numbers.numbers-index lists (omega arith) in
    let all = ap (sum_by (cells_needed c.args.method)) whole in
    let short = cells_short c.args.method lists c.requires.lists in
    omega arith
