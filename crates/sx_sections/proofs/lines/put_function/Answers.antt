use Rattle.sx_sections.proofs.Pages.{function_put}
use Rattle.sx_sections.specs.Names.{name_text}
use Rattle.sx_sections.proofs.lines.put_function.Goals as goal

pub returns : goal.returns
returns c =
    function_put c.args.page.now.bytes c.push_str.new.self.bytes c.push_str-2.new.self.bytes c.put_number.new.page.bytes c.put_number-2.new.page.bytes
    c.put_number-3.new.page.bytes c.put_number-4.new.page.bytes c.push_str-3.new.self.bytes (name_text c.args.name) c.text_of.result.now
    c.args.width c.from.result c.args.pairs c.args.sizes.chunks c.args.sizes.cells c.text_of.ensures.text c.from.ensures
    c.push_str.ensures.bytes c.push_str-2.ensures.bytes c.put_number.ensures.text c.put_number-2.ensures.text c.put_number-3.ensures.text c.put_number-4.ensures.text c.push_str-3.ensures.bytes
