-- The worked examples hold, by computing.
use Rattle.std.proofs.Common.{refl}
use Rattle.sx_spec_strings.specs.First as first
use Rattle.sx_spec_strings.specs.Numbers as numbers
use Rattle.sx_spec_program.specs.Examples.{WordExamples, OpenExamples}

pub word_examples : WordExamples
word_examples = record {
  none = refl;
  no_command = refl;
  padded_number = refl;
  trial_of_no_kind = refl;
  trial_of_no_number = refl;
  trial_with_option = refl;
  query_with_option = refl;
  too_few = refl;
  twice = refl;
  no_handles = refl;
  no_kind = refl;
  wide_handles = refl;
  bad_value = refl;
  large_blocks = refl;
  no_blocks = refl;
  no_values = refl;
  no_method = refl;
  no_width = refl;
  wide = refl;
  signed_values = refl;
  no_values_first = refl;
  plain = refl;
  seeds = refl;
  blocks = refl;
  plain_blocks = refl;
  plain_hollow = refl;
  plain_hollow_dist = refl;
  plain_zfast = refl;
  no_bits = refl;
  signed = refl;
  query_words = refl;
  dump_words = refl;
  trial_words = refl;
}

pub open_examples : OpenExamples
unfolding numbers.binary_digits first.least_from numbers.lowest_digits
open_examples = record { hollow = refl; zfast = refl; kind = refl; signed = refl; wide = refl; kept = refl }
