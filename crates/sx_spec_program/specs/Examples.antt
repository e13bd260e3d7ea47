-- Worked examples of what the program reads and opens.
use Rattle.std.specs.Prelude.{◌≡◌, ℕ, List, [], ◌∷◌, None, Err, codes}
use Rattle.std.specs.Result.{result_err}
use Rattle.sx_spec_kinds.specs.declared.Kind.{Kind}
use Rattle.sx_spec_kinds.specs.declared.Kind.TheVariants.{Func, Lcp, Lcp2, Hollow, HollowDist, Zfast}
use Rattle.sx_spec.specs.declared.Method.TheVariants.{Mwhc}
use Rattle.sx_spec.specs.declared.OptionName.TheVariants.{Method as MethodName, LogBucket, SigBits, HandleBits, Signed as SignedName, Values}
use Rattle.sx_spec.specs.declared.Rule.TheVariants.{NoCommand, UnknownCommand, BadWords, UnknownKind, BadNumber, BadValue, DoesNotGo, SignedAndValues}
use Rattle.sx_spec.specs.Command.{Text, Task, BuildTask, usage, build, query, show_dump, trial, command}
use Rattle.sx_spec.specs.Layout.{words_bytes, magic}
use Rattle.sx_spec_program.specs.Offer.{opened_by}
use Rattle.sx_spec_program.specs.Program.{sux_offer}

-- the words as the program reads them
abbrev pub reads : List Text → Task
reads words = command words

-- `build` of the file D: a kind with blocks of so many keys by their logarithm, these seeds, and so many bits of signatures
abbrev pub builds : Kind → ℕ → List ℕ → ℕ → BuildTask
builds kind log_bucket seeds bits = record {
  plan = record { kind = kind; method = Mwhc; log_bucket = log_bucket; sig_bits = bits; handle_bits = 0; signed = 0 };
  seeds = seeds;
  values = None;
  dump = codes "D";
}

-- the same where so many bits of each key's signature are kept, of a kind without blocks
abbrev pub builds_signed : Kind → ℕ → List ℕ → ℕ → BuildTask
builds_signed kind signed seeds bits =
    let plain = builds kind 0 seeds bits in
    record plain { plan = record plain.plan { signed = signed } }

-- `build` of the file D with handles of so many bits
abbrev pub builds_handles : ℕ → BuildTask
builds_handles bits =
    let plain = builds Zfast 5 (0 ∷ 1 ∷ 2 ∷ 3 ∷ []) 192 in
    record plain { plan = record plain.plan { handle_bits = bits } }

-- which words are refused, and by which rule
pub record WordExamples : Type 0 where
  pub none : reads [] ≡ usage NoCommand
  pub no_command : reads (codes "frob" ∷ []) ≡ usage UnknownCommand
  pub padded_number : reads (codes "trial" ∷ codes "func" ∷ codes "01" ∷ []) ≡ usage BadNumber
  pub trial_of_no_kind : reads (codes "trial" ∷ codes "tree" ∷ codes "3" ∷ []) ≡ usage UnknownKind
  pub trial_of_no_number : reads (codes "trial" ∷ codes "func" ∷ []) ≡ usage BadWords
  pub trial_with_option : reads (codes "trial" ∷ codes "func" ∷ codes "3" ∷ codes "--seeds=1" ∷ []) ≡ usage BadWords
  pub query_with_option : reads (codes "query" ∷ codes "D" ∷ codes "--seeds" ∷ codes "1" ∷ []) ≡ usage BadWords
  pub too_few : reads (codes "build" ∷ codes "lcp" ∷ []) ≡ usage BadWords
  pub twice : reads (codes "build" ∷ codes "lcp" ∷ codes "D" ∷ codes "--seeds" ∷ codes "1" ∷ codes "--seeds" ∷ codes "2" ∷ []) ≡ usage BadWords
  pub no_handles : reads (codes "build" ∷ codes "lcp" ∷ codes "D" ∷ codes "--handle-bits" ∷ codes "8" ∷ []) ≡ usage (DoesNotGo HandleBits Lcp)
  pub no_kind : reads (codes "build" ∷ codes "tree" ∷ codes "D" ∷ []) ≡ usage UnknownKind
  pub wide_handles : reads (codes "build" ∷ codes "zfast" ∷ codes "D" ∷ codes "--handle-bits" ∷ codes "65" ∷ []) ≡ usage (BadValue HandleBits)
  pub bad_value : reads (codes "build" ∷ codes "func" ∷ codes "D" ∷ codes "--sig-bits" ∷ codes "193" ∷ []) ≡ usage (BadValue SigBits)
  pub large_blocks : reads (codes "build" ∷ codes "lcp2" ∷ codes "D" ∷ codes "--log-bucket" ∷ codes "13" ∷ []) ≡ usage (BadValue LogBucket)
  pub no_blocks : reads (codes "build" ∷ codes "func" ∷ codes "D" ∷ codes "--log-bucket" ∷ codes "3" ∷ []) ≡ usage (DoesNotGo LogBucket Func)
  pub no_values : reads (codes "build" ∷ codes "lcp" ∷ codes "D" ∷ codes "--values" ∷ codes "f" ∷ []) ≡ usage (DoesNotGo Values Lcp)
  pub no_method : reads (codes "build" ∷ codes "hollow" ∷ codes "D" ∷ codes "--method" ∷ codes "mwhc" ∷ []) ≡ usage (DoesNotGo MethodName Hollow)
  pub no_width : reads (codes "build" ∷ codes "hollow" ∷ codes "D" ∷ codes "--signed" ∷ codes "0" ∷ []) ≡ usage (BadValue SignedName)
  pub wide : reads (codes "build" ∷ codes "lcp" ∷ codes "D" ∷ codes "--signed" ∷ codes "65" ∷ []) ≡ usage (BadValue SignedName)
  pub signed_values : reads (codes "build" ∷ codes "func" ∷ codes "D" ∷ codes "--signed" ∷ codes "8" ∷ codes "--values" ∷ codes "V" ∷ []) ≡ usage SignedAndValues
  pub no_values_first : reads (codes "build" ∷ codes "lcp" ∷ codes "D" ∷ codes "--signed" ∷ codes "8" ∷ codes "--values" ∷ codes "V" ∷ []) ≡ usage (DoesNotGo Values Lcp)
  pub plain : reads (codes "build" ∷ codes "func" ∷ codes "D" ∷ []) ≡ build (builds Func 0 (0 ∷ 1 ∷ 2 ∷ 3 ∷ []) 192)
  pub seeds : reads (codes "build" ∷ codes "func" ∷ codes "--seeds=7,8" ∷ codes "D" ∷ codes "--sig-bits" ∷ codes "0" ∷ []) ≡ build (builds Func 0 (7 ∷ 8 ∷ []) 0)
  pub blocks : reads (codes "build" ∷ codes "lcp" ∷ codes "D" ∷ codes "--log-bucket" ∷ codes "3" ∷ []) ≡ build (builds Lcp 3 (0 ∷ 1 ∷ 2 ∷ 3 ∷ []) 192)
  pub plain_blocks : reads (codes "build" ∷ codes "lcp2" ∷ codes "D" ∷ []) ≡ build (builds Lcp2 5 (0 ∷ 1 ∷ 2 ∷ 3 ∷ []) 192)
  pub plain_hollow : reads (codes "build" ∷ codes "hollow" ∷ codes "D" ∷ []) ≡ build (builds Hollow 0 (0 ∷ 1 ∷ 2 ∷ 3 ∷ []) 192)
  pub plain_hollow_dist : reads (codes "build" ∷ codes "hollowdist" ∷ codes "D" ∷ codes "--method" ∷ codes "mwhc" ∷ []) ≡ build (builds HollowDist 5 (0 ∷ 1 ∷ 2 ∷ 3 ∷ []) 192)
  pub plain_zfast : reads (codes "build" ∷ codes "zfast" ∷ codes "D" ∷ []) ≡ build (builds_handles 32)
  pub no_bits : reads (codes "build" ∷ codes "zfast" ∷ codes "D" ∷ codes "--handle-bits" ∷ codes "0" ∷ []) ≡ build (builds_handles 0)
  pub signed : reads (codes "build" ∷ codes "hollow" ∷ codes "D" ∷ codes "--signed" ∷ codes "64" ∷ []) ≡ build (builds_signed Hollow 64 (0 ∷ 1 ∷ 2 ∷ 3 ∷ []) 192)
  pub query_words : reads (codes "query" ∷ codes "D" ∷ []) ≡ query (codes "D")
  pub dump_words : reads (codes "dump" ∷ codes "D" ∷ []) ≡ show_dump (codes "D")
  pub trial_words : reads (codes "trial" ∷ codes "zfast" ∷ codes "1000000" ∷ []) ≡ trial Zfast 1000000

-- the words of an empty hollow dump, of an empty z-fast dump with handles of 32 bits, of the header of a dump of no kind, of an empty function with a signed width
-- and without the list that is kept, of the same with a width that is too large, and of the same with the list
abbrev pub hollow_words : List ℕ
hollow_words = magic ∷ 16 ∷ 3 ∷ 0 ∷ 0 ∷ 0 ∷ 192 ∷ 0 ∷ 0 ∷ 0 ∷ 1 ∷ 1 ∷ 1 ∷ 1 ∷ 1 ∷ 1 ∷ []

abbrev pub zfast_words : List ℕ
zfast_words =
    magic ∷ 35 ∷ 5 ∷ 0 ∷ 0 ∷ 0 ∷ 192 ∷ 5 ∷ 0 ∷ 32 ∷ 0 ∷ 0 ∷ 0 ∷ 0 ∷ 0 ∷ 0 ∷ 0 ∷ 0 ∷ 0 ∷ 0 ∷ 0 ∷ 0 ∷ 0 ∷ 0 ∷ 0 ∷ 0 ∷ 0 ∷ 32 ∷ 0 ∷ 0 ∷ 0 ∷ 0 ∷ 0 ∷ 0 ∷ 0 ∷ []

abbrev pub other_words : List ℕ
other_words = magic ∷ 10 ∷ 6 ∷ 0 ∷ 0 ∷ 0 ∷ 192 ∷ 0 ∷ 0 ∷ 0 ∷ []

abbrev pub signed_words : List ℕ
signed_words = magic ∷ 14 ∷ 0 ∷ 0 ∷ 0 ∷ 0 ∷ 192 ∷ 0 ∷ 8 ∷ 0 ∷ 0 ∷ 0 ∷ 0 ∷ 0 ∷ []

abbrev pub wide_words : List ℕ
wide_words = magic ∷ 14 ∷ 0 ∷ 0 ∷ 0 ∷ 0 ∷ 192 ∷ 0 ∷ 65 ∷ 0 ∷ 0 ∷ 0 ∷ 0 ∷ 0 ∷ []

abbrev pub kept_words : List ℕ
kept_words = magic ∷ 16 ∷ 0 ∷ 0 ∷ 0 ∷ 0 ∷ 192 ∷ 0 ∷ 8 ∷ 0 ∷ 0 ∷ 0 ∷ 0 ∷ 0 ∷ 0 ∷ 8 ∷ []

-- which dumps are opened, and which aren't
pub record OpenExamples : Type 0 where
  pub hollow : result_err (opened_by sux_offer (words_bytes hollow_words)) ≡ None
  pub zfast : result_err (opened_by sux_offer (words_bytes zfast_words)) ≡ None
  pub kind : opened_by sux_offer (words_bytes other_words) ≡ Err 4
  pub signed : opened_by sux_offer (words_bytes signed_words) ≡ Err 11
  pub wide : opened_by sux_offer (words_bytes wide_words) ≡ Err 9
  pub kept : result_err (opened_by sux_offer (words_bytes kept_words)) ≡ None
