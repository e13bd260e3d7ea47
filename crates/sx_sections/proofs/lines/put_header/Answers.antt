use Rattle.sx_sections.specs.Headers.{header_as}
use Rattle.sx_sections.proofs.Pages.{header_put}
use Rattle.sx_sections.proofs.lines.put_header.Goals as goal

pub returns-clause-text : goal.returns-clause-text
returns-clause-text c =
    header_put (header_as c.args.header.now) c.args.page.now.bytes c.put_words.new.page.bytes c.put_words-2.new.page.bytes c.put_words-3.new.page.bytes
    c.put_number_line.new.page.bytes c.put_number_line-2.new.page.bytes c.put_number_line-3.new.page.bytes c.put_number_line-4.new.page.bytes
    c.put_number_line-5.new.page.bytes c.put_number_line-6.new.page.bytes c.kind_word.result.now c.method_word.result.now
    c.from.result c.from-2.result c.from-3.result c.from-4.result c.from-5.result
    c.kind_word.ensures.word c.method_word.ensures.word c.from.ensures c.from-2.ensures c.from-3.ensures c.from-4.ensures c.from-5.ensures
    c.put_words.ensures.text c.put_words-2.ensures.text c.put_words-3.ensures.text c.put_number_line.ensures.text c.put_number_line-2.ensures.text
    c.put_number_line-3.ensures.text c.put_number_line-4.ensures.text c.put_number_line-5.ensures.text c.put_number_line-6.ensures.text
