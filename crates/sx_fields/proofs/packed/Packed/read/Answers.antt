use Rattle.std.proofs.Common.{◌≡◌, ◌*◌, ◌+◌, ◌/◌, ◌%◌, ◌^◌, ◌-◌, get_or, sym, drop, ◌∙◌, arith}
use Rattle.sx_fields.proofs.Places.{bits_small, word_within, next_within, length-fields, field_empty, bank_inside, bank_across}
use Rattle.sx_fields.proofs.packed.Packed.read.Goals as goal

pub returns-then-self-eq0-clause-value : goal.returns-then-self-eq0-clause-value
returns-then-self-eq0-clause-value g c =
    let p = c.args.self.now in
    let words = drop p.first (g.B.WordBank.words_of p.bank) in
    let size = length-fields p.width p.len words in
    sym (field_empty p.width p.len c.args.i words c.if-self-eq0.true (omega arith))

pub overflow_mul-at : goal.overflow_mul-at
overflow_mul-at g c =
    let p = c.args.self.now in
    let size = length-fields p.width p.len (drop p.first (g.B.WordBank.words_of p.bank)) in
    let small = bits_small c.args.i p.len p.width (omega arith) p.short p.narrow in
    omega arith

pub overflow_add-word : goal.overflow_add-word
overflow_add-word g c =
    let p = c.args.self.now in
    let size = length-fields p.width p.len (drop p.first (g.B.WordBank.words_of p.bank)) in
    let in_words = word_within c.args.i p.len p.width (omega arith) (omega arith) in
    omega (arith, p.within, p.long)

pub word-low-requires : goal.word-low-requires
word-low-requires g c =
    let p = c.args.self.now in
    let size = length-fields p.width p.len (drop p.first (g.B.WordBank.words_of p.bank)) in
    let in_words = word_within c.args.i p.len p.width (omega arith) (omega arith) in
    omega (arith, p.within)

pub returns-then-shift-self-le64-clause-value : goal.returns-then-shift-self-le64-clause-value
returns-then-shift-self-le64-clause-value g c =
    let p = c.args.self.now in
    let bank = g.B.WordBank.words_of p.bank in
    let size = length-fields p.width p.len (drop p.first bank) in
    let is = bank_inside bank p.first p.width p.len c.args.i p.small (omega arith) (omega arith) in
    let read : c.inside.result ≡ get_or bank (p.first + c.args.i * p.width / 64) 0 / 2 ^ (c.args.i * p.width % 64) % 2 ^ p.width = rw (← c.word-low.ensures.word) c.inside.ensures in
    read ∙ is

pub overflow_add-word-2 : goal.overflow_add-word-2
overflow_add-word-2 g c =
    let p = c.args.self.now in
    let size = length-fields p.width p.len (drop p.first (g.B.WordBank.words_of p.bank)) in
    let in_words = next_within c.args.i p.len p.width (omega arith) (omega arith) in
    omega (arith, p.within, p.long)

pub word-high-requires : goal.word-high-requires
word-high-requires g c =
    let p = c.args.self.now in
    let size = length-fields p.width p.len (drop p.first (g.B.WordBank.words_of p.bank)) in
    let in_words = next_within c.args.i p.len p.width (omega arith) (omega arith) in
    omega (arith, p.within)

pub returns-clause-value : goal.returns-clause-value
returns-clause-value g c =
    let p = c.args.self.now in
    let bank = g.B.WordBank.words_of p.bank in
    let size = length-fields p.width p.len (drop p.first bank) in
    let is = bank_across bank p.first p.width p.len c.args.i p.small (omega arith) p.narrow in
    let s = c.args.i * p.width % 64 in
    c.across.ensures
    ∙ (λ j. (c.word-low.ensures.word j / 2 ^ s + c.word-high.ensures.word j * 2 ^ (64 - s)) % 2 ^ p.width)
    ∙ is
