use Rattle.std.proofs.Common.{◌≡◌, ◌<◌, ◌^◌, ◌+◌, ◌-◌, ◌*◌, ◌/◌, ◌%◌, suc, arith, get_or}
use Rattle.std.proofs.lemmas.List.Elements.{recursion_from_All, All-set}
use Rattle.sx_spec.specs.Fields.{words_number}
use Rattle.sx_fields.proofs.WordFields.{put_inside, put_across}
use Rattle.sx_fields.proofs.Places.{put_nothing}
use Rattle.sx_fields.proofs.place.put.Goals as goal

pub returns-then-width-eq0-clause-change : goal.returns-then-width-eq0-clause-change
returns-then-width-eq0-clause-change c =
    put_nothing (words_number c.args.words.now) (c.args.i * c.args.width) c.args.v c.args.width c.if-width-eq0.true c.requires.fits

pub returns-then-shift-width-le64-clause-small : goal.returns-then-shift-width-le64-clause-small
returns-then-shift-width-le64-clause-small c =
    All-set (λ w. w < 2 ^ 64) c.args.words.now (c.args.i * c.args.width / 64) _ c.turn_low.type_inv c.requires.small

pub returns-then-shift-width-le64-clause-change : goal.returns-then-shift-width-le64-clause-change
returns-then-shift-width-le64-clause-change c =
    let at = c.args.i * c.args.width in
    let words = c.args.words.now in
    let is = c.inside.ensures in
    rw (c.turn_low.ensures, is) (put_inside words c.args.width (at / 64) (at % 64) at c.args.v (recursion_from_All (λ w. w < 2 ^ 64) words c.requires.small) (omega arith) (omega arith) c.requires.fits (omega arith))

pub returns-clause-small : goal.returns-clause-small
returns-clause-small c =
    let at = c.args.i * c.args.width in
    All-set (λ w. w < 2 ^ 64) _ (at / 64 + 1) _ c.turn_high.type_inv (All-set (λ w. w < 2 ^ 64) c.args.words.now (at / 64) _ c.turn_low-2.type_inv c.requires.small)

pub returns-clause-change : goal.returns-clause-change
returns-clause-change c =
    let at = c.args.i * c.args.width in
    let words = c.args.words.now in
    let is = c.across.ensures in
    let low : get_or words (at / 64) 0 < 2 ^ 64 = c.requires.small (at / 64) 0 (omega arith) in
    let next : at / 64 + 1 ≡ suc (at / 64) = omega arith in
    rw (c.turn_low-2.ensures, c.turn_high.ensures, is, next) (put_across words c.args.width (at / 64) (at % 64) (64 - at % 64) at c.args.v (recursion_from_All (λ w. w < 2 ^ 64) words c.requires.small) (omega arith) low (omega arith) c.requires.fits (omega arith) (omega arith) c.requires.narrow)
