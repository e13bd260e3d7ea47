use Rattle.std.proofs.Common.{◌≡◌, ◌∙◌, ◌<◌, ◌^◌, ◌+◌, length, drop, sym, subst, ap, arith}
use Rattle.std.proofs.lemmas.List.Elements.{All-same}
use Rattle.sx_spec.specs.Fields.{words_number, fields, low_width, upper_bits, ones_of}
use Rattle.sx_fields.proofs.Places.{length-fields}
use Rattle.sx_ranksel.specs.Directory.{number_at, rank_of}
use Rattle.sx_ef.specs.Parts.{sums_of, low_size, low_part, upper_part, numbers_in}
use Rattle.sx_ef.proofs.Numbers.{length-sums}
use Rattle.sx_ef.proofs.Views.{upper_ones, numbers_are, list_sums, valid_ones, valid_small}
use Rattle.sx_ef.proofs.view.EliasFano.over.Goals as goal

pub invariant_of-result : goal.invariant_of-result
invariant_of-result g c =
    let bank = g.B.WordBank.words_of c.args.bank in
    let count = c.args.count in
    let below = c.args.below in
    let rest = drop c.args.first bank in
    let u = c.over-upper.result in
    let low = c.new-low.result in
    let width = c.low_bits-width.ensures.width in
    let ones : ones_of u.bits (number_at u.first (g.B.WordBank.words_of u.bank)) ≡ ones_of (upper_bits count below) (number_at (c.args.first + low_size count below) bank) =
    (λ j. ones_of (c.over-upper.ensures.bits j) (number_at (c.over-upper.ensures.first j) (g.B.WordBank.words_of (c.over-upper.ensures.bank j))))
    ∙ (λ j. ones_of (c.upper_of-start.ensures.bits j) (number_at (c.upper_of-start.ensures.start j) bank)) in
    let lows : fields low.width low.len (drop low.first (g.B.WordBank.words_of low.bank)) ≡ fields (low_width count below) count rest = c.new-low.ensures.items ∙ ap (λ w. fields w count rest) width in
    let numbers : sums_of c.low_bits-width.result (ones_of u.bits (number_at u.first (g.B.WordBank.words_of u.bank))) (fields low.width low.len (drop low.first (g.B.WordBank.words_of low.bank))) ≡ numbers_in count below rest =
    (λ j. sums_of (width j) (ones j) (lows j)) ∙ numbers_are bank c.args.first count below c.requires.within in
    let valid = list_sums count below rest c.requires.valid in
    let upper = ones_of (upper_bits count below) (words_number (upper_part count below rest)) in
    let fields_in = fields (low_width count below) count (low_part count below rest) in
    let many : rank_of u.bits (number_at u.first (g.B.WordBank.words_of u.bank)) ≡ count =
    ap length ones ∙ ap length (upper_ones bank c.args.first count below c.requires.within) ∙ valid_ones count below (low_width count below) upper fields_in valid in
    let size : low.len ≡ count = sym (length-fields low.width low.len (drop low.first (g.B.WordBank.words_of low.bank))) ∙ c.new-low.ensures.len in
    record {
      narrow = c.low_bits-width.ensures.narrow;
      few = c.requires.few;
      ones = many;
      lows = size;
      low_width = c.new-low.ensures.width;
      fit = All-same (λ x. x < 2 ^ 64) _ (numbers_in count below rest) numbers (valid_small count below (low_width count below) upper fields_in c.ranges.below.fits valid);
    }

pub returns-clause-items : goal.returns-clause-items
returns-clause-items g c =
    let bank = g.B.WordBank.words_of c.args.bank in
    let count = c.args.count in
    let below = c.args.below in
    let rest = drop c.args.first bank in
    let u = c.over-upper.result in
    let low = c.new-low.result in
    let width = c.low_bits-width.ensures.width in
    let ones : ones_of u.bits (number_at u.first (g.B.WordBank.words_of u.bank)) ≡ ones_of (upper_bits count below) (number_at (c.args.first + low_size count below) bank) =
    (λ j. ones_of (c.over-upper.ensures.bits j) (number_at (c.over-upper.ensures.first j) (g.B.WordBank.words_of (c.over-upper.ensures.bank j))))
    ∙ (λ j. ones_of (c.upper_of-start.ensures.bits j) (number_at (c.upper_of-start.ensures.start j) bank)) in
    let lows : fields low.width low.len (drop low.first (g.B.WordBank.words_of low.bank)) ≡ fields (low_width count below) count rest = c.new-low.ensures.items ∙ ap (λ w. fields w count rest) width in
    (λ j. sums_of (width j) (ones j) (lows j)) ∙ numbers_are bank c.args.first count below c.requires.within

pub returns-clause-len : goal.returns-clause-len
returns-clause-len g c =
    let bank = g.B.WordBank.words_of c.args.bank in
    let count = c.args.count in
    let below = c.args.below in
    let rest = drop c.args.first bank in
    let upper = ones_of (upper_bits count below) (words_number (upper_part count below rest)) in
    let fields_in = fields (low_width count below) count (low_part count below rest) in
    let valid = list_sums count below rest c.requires.valid in
    let many = valid_ones count below (low_width count below) upper fields_in valid in
    let size = length-fields (low_width count below) count (low_part count below rest) in
    ap length (returns-clause-items g c)
    ∙ length-sums 0 (low_width count below) upper fields_in (omega arith)
    ∙ many
