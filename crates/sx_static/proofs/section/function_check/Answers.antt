use Rattle.std.proofs.Common.{◌≡◌, Ok, arith, drop}
use Rattle.std.proofs.lemmas.List.{take_rest}
use Rattle.sx_static.specs.FunctionSections.{size_found}
use Rattle.sx_static.proofs.FunctionSections.{section_viewed, is_viewed, size_is_section, size_within}
use Rattle.sx_static.proofs.section.function_check.Goals as goal

pub returns-in-Ok-clause-section : goal.returns-in-Ok-clause-section
returns-in-Ok-clause-section c =
    let rest = take_rest c.args.words.now c.args.at in
    let found : Ok c.in-Ok.size ≡ size_found c.args.least c.args.most c.args.low_width c.args.high_width (drop c.args.at c.args.words.now) = rw (← rest) c.in-Ok.ensures in
    rw rest (section_viewed c.args.least c.args.most c.args.low_width c.args.high_width c.args.words.now c.args.at c.in-Ok.size found)

pub returns-in-Ok-clause-stands : goal.returns-in-Ok-clause-stands
returns-in-Ok-clause-stands c =
    let rest = take_rest c.args.words.now c.args.at in
    let found : Ok c.in-Ok.size ≡ size_found c.args.least c.args.most c.args.low_width c.args.high_width (drop c.args.at c.args.words.now) = rw (← rest) c.in-Ok.ensures in
    rw rest (is_viewed c.args.least c.args.most c.args.low_width c.args.high_width c.args.words.now c.args.at c.in-Ok.size found c.requires.few c.requires.narrow)

pub returns-in-Ok-clause-size : goal.returns-in-Ok-clause-size
returns-in-Ok-clause-size c =
    let rest = take_rest c.args.words.now c.args.at in
    let found : Ok c.in-Ok.size ≡ size_found c.args.least c.args.most c.args.low_width c.args.high_width (drop c.args.at c.args.words.now) = rw (← rest) c.in-Ok.ensures in
    let is = size_is_section c.args.least c.args.most c.args.low_width c.args.high_width c.args.words.now c.args.at c.in-Ok.size found in
    omega (arith, is)

pub returns-in-Ok-clause-after : goal.returns-in-Ok-clause-after
returns-in-Ok-clause-after c =
    let rest = take_rest c.args.words.now c.args.at in
    let found : Ok c.in-Ok.size ≡ size_found c.args.least c.args.most c.args.low_width c.args.high_width (drop c.args.at c.args.words.now) = rw (← rest) c.in-Ok.ensures in
    let inside = size_within c.args.least c.args.most c.args.low_width c.args.high_width c.args.words.now c.args.at c.in-Ok.size found in
    omega (arith, inside, c.requires.inside)
