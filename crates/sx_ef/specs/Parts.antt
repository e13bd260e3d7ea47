-- The two parts of an Elias-Fano list, and which words are one.
use Rattle.std.specs.Prelude.{◌≡◌, ℕ, ◌+◌, ◌-◌, ◌*◌, ◌/◌, ◌^◌, Bool, true, ◌&&◌, List, ◌++◌, length, map, take, drop, sum_by, nat_le, ◌==◌}
use Rattle.std.specs.List.{list_all, enumerate_from}
use Rattle.sx_spec.specs.Fields.{words_for, words_number, fields, is_zero_after, below_of, low_width, upper_bits, low_words, upper_words, ones_of, joined, sums_items}
use Rattle.sx_spec.specs.Layout.{neighbours}

-- the numbers whose ones stand at these places and whose low bits these are
abbrev pub sums_of : ℕ → List ℕ → List ℕ → List ℕ
sums_of l ones lows = joined l (map (λ p. p.1 - p.0) (enumerate_from 0 ones)) lows

-- the number with a one at the place of each number of a list, which is its high part and its index
abbrev pub places_number : ℕ → List ℕ → ℕ
places_number l items = sum_by (λ p. 2 ^ (p.1 / 2 ^ l + p.0)) (enumerate_from 0 items)

-- how many words the low part has, and how many the upper part
abbrev pub low_size : ℕ → ℕ → ℕ
low_size count below = words_for (count * low_width count below)

abbrev pub upper_size : ℕ → ℕ → ℕ
upper_size count below = words_for (upper_bits count below)

-- the low words, and the upper words after them
abbrev pub low_part : ℕ → ℕ → List ℕ → List ℕ
low_part count below words = take (low_size count below) words

abbrev pub upper_part : ℕ → ℕ → List ℕ → List ℕ
upper_part count below words = take (upper_size count below) (drop (low_size count below) words)

-- the numbers that they stand for
abbrev pub numbers_in : ℕ → ℕ → List ℕ → List ℕ
numbers_in count below words = sums_items count below (low_part count below words) (upper_part count below words)

-- whether no number is above the next
abbrev pub never_falls : List ℕ → Bool
never_falls numbers = list_all (λ p. nat_le p.0 p.1) (neighbours numbers)

-- whether so many ones and these low bits are as many numbers that never fall and end below a number
abbrev pub is_sums_of : ℕ → ℕ → ℕ → List ℕ → List ℕ → Bool
is_sums_of count below l ones lows =
    length ones == count
    && (never_falls (sums_of l ones lows)
    && below_of (sums_of l ones lows) == below)

-- whether the words begin with the parts of such a list: the bits after each part are zero, there are as many ones as
-- numbers, and the numbers never fall and end below a number
abbrev pub is_sums_list : ℕ → ℕ → List ℕ → Bool
is_sums_list count below words =
    is_zero_after (count * low_width count below) (low_part count below words)
    && (is_zero_after (upper_bits count below) (upper_part count below words)
    && is_sums_of count below (low_width count below)
    (ones_of (upper_bits count below) (words_number (upper_part count below words)))
    (fields (low_width count below) count (low_part count below words)))

-- words that are the low and the upper words of so many numbers, which never fall and of which the last is one below a number
pub record IsEncoded (count below : ℕ) (words items : List ℕ) : Type 0 where
  pub size : length items ≡ count
  pub end : below_of items ≡ below
  pub keeps : never_falls items ≡ true
  pub parts : low_words items ++ upper_words items ≡ words
