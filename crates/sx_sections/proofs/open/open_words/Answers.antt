use Rattle.std.proofs.Common.{Ok, Err, map}
use Rattle.sx_fields.proofs.Padding.{words_at}
use Rattle.sx_sections.specs.Checks.{check_number}
use Rattle.sx_sections.specs.Headers.{header_as}
use Rattle.sx_sections.specs.Openings.{dump_as}
use Rattle.sx_sections.specs.Places.{section_at}
use Rattle.sx_sections.proofs.Offered.{file_opened, header_fails, laid_out, sections_tell}
use Rattle.sx_sections.proofs.open.open_words.Goals as goal

pub returns-in-Some-clause-found : goal.returns-in-Some-clause-found
returns-in-Some-clause-found c = header_fails c.args.words.now c.args.bytes (check_number c.in-Some.check) c.in-Some.ensures.first

pub returns-in-Some-clause-opened : goal.returns-in-Some-clause-opened
returns-in-Some-clause-opened c =
    file_opened c.args.words.now c.args.bytes (Err (check_number c.in-Some.check))
    (header_fails c.args.words.now c.args.bytes (check_number c.in-Some.check) c.in-Some.ensures.first)

pub returns-in-Ok-clause-found : goal.returns-in-Ok-clause-found
returns-in-Ok-clause-found c =
    let words = c.args.words.now in
    sections_tell words c.args.bytes (header_as c.read_header-header.result) (Ok (map (section_at words) c.in-Ok.places.items))
    c.in-None.ensures.first c.read_header-header.ensures.header c.in-Ok.ensures.sections

pub returns-in-Ok-clause-opened : goal.returns-in-Ok-clause-opened
returns-in-Ok-clause-opened c =
    let words = c.args.words.now in
    file_opened words c.args.bytes (dump_as words (Ok (record { header = c.read_header-header.result; places = c.in-Ok.places })))
    (sections_tell words c.args.bytes (header_as c.read_header-header.result) (Ok (map (section_at words) c.in-Ok.places.items))
    c.in-None.ensures.first c.read_header-header.ensures.header c.in-Ok.ensures.sections)

pub returns-in-Ok-clause-laid : goal.returns-in-Ok-clause-laid
returns-in-Ok-clause-laid c =
    let words = c.args.words.now in
    laid_out words c.args.bytes (header_as c.read_header-header.result) (map (section_at words) c.in-Ok.places.items)
    (words_at words c.type_inv.words) c.in-None.ensures.first c.in-None.ensures.passed.long c.read_header-header.ensures.header c.in-Ok.ensures.sections

pub returns-in-Err-clause-found : goal.returns-in-Err-clause-found
returns-in-Err-clause-found c =
    sections_tell c.args.words.now c.args.bytes (header_as c.read_header-header.result) (Err (check_number c.in-Err.check))
    c.in-None.ensures.first c.read_header-header.ensures.header c.in-Err.ensures

pub returns-in-Err-clause-opened : goal.returns-in-Err-clause-opened
returns-in-Err-clause-opened c =
    file_opened c.args.words.now c.args.bytes (Err (check_number c.in-Err.check))
    (sections_tell c.args.words.now c.args.bytes (header_as c.read_header-header.result) (Err (check_number c.in-Err.check))
    c.in-None.ensures.first c.read_header-header.ensures.header c.in-Err.ensures)
