use Rattle.std.proofs.Common.{◌∙◌, List, map, sym, string_bytes}
use Rattle.clap.specs.Words.{app_of, found_of, rows_of}
use Rattle.sx_spec.specs.Command.{Text}
use Rattle.sx_words.proofs.Parsing.{one_is_unfit}
use Rattle.sx_words.proofs.Parses.{is_known, is_plain, have_values, rows_read, bad_words}
use Rattle.sx_words.proofs.arguments.read_arguments.Goals as goal

pub returns-then-not-all_may_stand : goal.returns-then-not-all_may_stand
returns-then-not-all_may_stand c = sym (one_is_unfit c.args.command (map (λ word. string_bytes word) c.args.words.now) (sym c.if-not-all_may_stand.ensures))

pub invariant_of-result : goal.invariant_of-result
invariant_of-result c =
    let words : List Text = map (λ word. string_bytes word) c.args.words.now in
    let app = app_of c.in_ok-parser_of.field-0 in
    let fit = sym c.if-not-all_may_stand.ensures in
    have_values c.args.command app words c.in_ok-parser_of.ensures fit (rows_of (found_of c.in-Ok.matches))
    (c.in-Ok.ensures.kinds (is_known c.args.command app words c.in_ok-parser_of.ensures fit))
    ((c.in-Ok.ensures.matches (is_plain c.args.command app words c.in_ok-parser_of.ensures fit)).0)

pub returns-in-Ok : goal.returns-in-Ok
returns-in-Ok c =
    let words : List Text = map (λ word. string_bytes word) c.args.words.now in
    let app = app_of c.in_ok-parser_of.field-0 in
    let fit = sym c.if-not-all_may_stand.ensures in
    rows_read c.args.command app words c.in_ok-parser_of.ensures fit (rows_of (found_of c.in-Ok.matches))
    (c.in-Ok.ensures.kinds (is_known c.args.command app words c.in_ok-parser_of.ensures fit))
    ((c.in-Ok.ensures.matches (is_plain c.args.command app words c.in_ok-parser_of.ensures fit)).0)

pub returns : goal.returns
returns c =
    let words : List Text = map (λ word. string_bytes word) c.args.words.now in
    let app = app_of c.in_ok-parser_of.field-0 in
    let fit = sym c.if-not-all_may_stand.ensures in
    bad_words c.args.command app words c.in_ok-parser_of.ensures fit c.in-Err.error
    (λ full. let same = c.kind.ensures ∙ full in let e = rw same at c.if-eq.ensures in absurd cc)
    (c.in-Err.ensures.kinds (is_known c.args.command app words c.in_ok-parser_of.ensures fit))
