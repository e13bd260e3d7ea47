-- The bits of a key list's lines.
use Rattle.std.proofs.Common.{◌<◌}
use Rattle.std.specs.Prelude.{map}
use Rattle.std.specs.List.{AllByRecursion}
use Rattle.sx_spec_strings.specs.Bits.{AreKeyBits, key_bits}
use Rattle.sx_spec_strings.specs.Laws.{IsText}
use Rattle.sx_spec_strings.proofs.KeyBits.{rising_texts_are_key_bits}
use Rattle.sx_spec.proofs.Counts.{all_at}
use Rattle.sx_spec.proofs.Functions.{each_element}
use Rattle.sx_spec.proofs.KeyFiles.{faultless_lines_are_keys}
use Rattle.sx_spec.proofs.Replies.{text_of}
use Rattle.sx_bits.specs.KeyLists.{Keys, IsKeyList}

-- they are keys: they rise, and none is the beginning of the next
pub key_list_bits : (keys : Keys) → IsKeyList keys → AreKeyBits (map key_bits keys.lines)
key_list_bits keys valid =
    let file = faultless_lines_are_keys keys.limits keys.lines valid.faultless in
    let texts : AllByRecursion IsText keys.lines =
    each_element IsText keys.lines (λ i line at. text_of line (file.texts i line at) (all_at (AllByRecursion (λ b. b < 256)) keys.lines valid.bytes i line at)) in
    rising_texts_are_key_bits keys.lines texts file.rising
