-- What a file holds, by what was read of it.
use Rattle.std.proofs.Common.{◌≡◌, ◌<◌, ◌≤◌, ◌+◌, ◌*◌, ◌^◌, ℕ, zero, suc, Bool, true, false, List, [], ◌∷◌, length, take, drop, map, ap, sym, ◌∙◌, arith, refl, Option, Some, None, inl, inr, ◌⊎◌, Result, Ok, Err}
use Rattle.std.specs.Prelude.{IsSome, IfSome, ◌&&◌, ◌==◌, ◌%◌, nat_le, slice_index, option_map}
use Rattle.std.specs.Int.{is_in_range, div_ceil, from_le_bytes, w64}
use Rattle.std.proofs.lemmas.List.FromFn.{length-map-range_with_len}
use Rattle.std.specs.Result.{result_err}
use Rattle.std.proofs.lemmas.Bool.{cases_lt, and_parts, leb-true}
use Rattle.std.proofs.lemmas.List.{length-take-le}
use Rattle.sx_spec_strings.specs.First.{first_failing}
use Rattle.sx_spec.specs.Command.{Text}
use Rattle.sx_spec.specs.Layout.{Dump, bytes_words, dump_bytes, header_of, word_checks, Passes, opened}
use Rattle.sx_spec.specs.Messages.{check_text, memory_text, no_dump_text}
use Rattle.sx_spec.specs.Outcomes.{dump_refusal}
use Rattle.sx_spec.specs.World.{Files}
use Rattle.sx_spec.proofs.Reading.{passing_bytes_are_layouts}
use Rattle.sx_spec_program.specs.Offer.{opened_by, offered_checks, offers_header}
use Rattle.sx_spec_program.specs.Program.{sux_program, sux_offer, offered_fault}
use Rattle.sx_edge.specs.Shelf.{Opens}
use Rattle.sx_cli.specs.FileWords.{ReadsFile, ReadsWords}
use Rattle.sx_cli.specs.Opening.{IsFile, IsOpened, StopsAtCheck}
use Rattle.sx_cli.specs.Telling.{Tells}
use Rattle.sx_spec.specs.declared.Status.{Status}
use Rattle.sx_spec.specs.declared.Status.TheVariants.{BadDump, Memory}

pub take_all : (xs : List ℕ) (n : ℕ) → length xs ≤ n → take n xs ≡ xs
take_all [] zero le = refl
take_all [] (suc n) le = refl
take_all (x ∷ xs) zero le = absurd (omega arith)
take_all (x ∷ xs) (suc n) le = ap (λ (l : List ℕ). x ∷ l) (take_all xs n (omega arith))

-- ---- the file

-- how many words bytes have
pub words_count : (bytes words : List ℕ) → words ≡ bytes_words bytes → length words ≡ div_ceil (length bytes) 8
words_count bytes words is = ap (λ (l : List ℕ). length l) is ∙ length-map-range_with_len (λ i. from_le_bytes w64 (take 8 (drop (8 * i) bytes))) 0 (div_ceil (length bytes) 8)

-- what was read up to one byte past the most is the file's
pub file_found : (name : Text) (files : Option Files) (rest : Option (List ℕ)) (words : List ℕ) (size : ℕ) → Opens name files rest → ReadsWords rest words size
    → IsFile name files words size
file_found name files rest words size opens reads = record { bytes = reads.bytes; decoded = reads.decoded; told = told files opens }
  where
    bytes : List ℕ
    bytes = reads.bytes

    by_rest : (fs : Files) (r there : Option (List ℕ)) → IsSome there → r ≡ there → fs name ≡ there → ReadsFile (2 ^ 30) r bytes
        → (all : List ℕ) × (fs name ≡ Some all) × (bytes ≡ take (2 ^ 30 + 1) all)
    by_rest fs r None some e at read = absurd cc
    by_rest fs None (Some all) some e at read = absurd cc
    by_rest fs (Some xs) (Some all) some e at read =
        let same : xs ≡ all = cc in
        (all, at, read ∙ ap (λ (x : List ℕ). take (2 ^ 30 + 1) x) same)

    told : (f : Option Files) → Opens name f rest → IfSome f (λ fs. (all : List ℕ) × (fs name ≡ Some all) × (bytes ≡ take (2 ^ 30 + 1) all))
    told None o = tt
    told (Some fs) o = by_rest fs rest (fs name) o.0 o.1 refl reads.read

-- ---- checks

-- the first of some checks fails
fails_first : (n : ℕ) (test : Bool) (rows : List (ℕ × Bool)) → test ≡ false → first_failing ((n, test) ∷ rows) ≡ Some n
fails_first n true rows e = absurd cc
fails_first n false rows e = refl

-- whether there are as many bytes as a dump may have
abbrev sizes : List ℕ → Bool
sizes bytes = length bytes % 8 == 0 && is_in_range 80 (2 ^ 30) (length bytes)

false_and : (b : Bool) → b ≡ false → (b && true) ≡ false
false_and true e = absurd cc
false_and false e = refl

-- what a file comes to by the first of the header's checks that fails
abbrev by_check : List ℕ → Option ℕ → Result Dump ℕ
by_check bytes (Some check) = Err check
by_check bytes None = opened bytes

-- a file that fails the first check
first_fails : (bytes : List ℕ) → sizes bytes ≡ false → opened_by sux_offer bytes ≡ Err 1
first_fails bytes e = ap (by_check bytes)
    (fails_first 1 (sizes bytes && true) (map (λ c. (c.0, c.1 && offers_header sux_offer (header_of (bytes_words bytes)).plan c.0)) (word_checks (bytes_words bytes))) (false_and (sizes bytes) e))

-- a file that passes it is no larger than a dump may be
small_size : (n : ℕ) → (n % 8 == 0 && is_in_range 80 (2 ^ 30) n) ≡ true → n ≤ 2 ^ 30
small_size n e =
    let (_, within) = and_parts (n % 8 == 0) (is_in_range 80 (2 ^ 30) n) e in
    let (_, small) = and_parts (nat_le 80 n) (nat_le n (2 ^ 30)) within in
    leb-true n (2 ^ 30) small

either : (b : Bool) → (b ≡ true) ⊎ (b ≡ false)
either true = inl refl
either false = inr refl

-- a file of more bytes than a dump may have fails the first check
too_large : (bytes : List ℕ) → 2 ^ 30 < length bytes → opened_by sux_offer bytes ≡ Err 1
too_large bytes long = by_test (either (sizes bytes))
  where
    by_test : (sizes bytes ≡ true) ⊎ (sizes bytes ≡ false) → opened_by sux_offer bytes ≡ Err 1
    by_test (inl e) = let small = small_size (length bytes) e in absurd (omega arith)
    by_test (inr e) = first_fails bytes e

-- what opens has no more bytes than a dump may have
not_large : (bytes : List ℕ) (d : Dump) → opened_by sux_offer bytes ≡ Ok d → length bytes ≤ 2 ^ 30
not_large bytes d e = by_test (either (sizes bytes))
  where
    by_test : (sizes bytes ≡ true) ⊎ (sizes bytes ≡ false) → length bytes ≤ 2 ^ 30
    by_test (inl is) = small_size (length bytes) is
    by_test (inr is) = absurd (let f = first_fails bytes is in cc)

-- what opens passes every check
opens_whole : (bytes : List ℕ) (d : Dump) → opened_by sux_offer bytes ≡ Ok d → opened bytes ≡ Ok d
opens_whole bytes d e = by_checks (first_failing (offered_checks sux_offer bytes)) e
  where
    by_checks : (o : Option ℕ) → by_check bytes o ≡ Ok d → opened bytes ≡ Ok d
    by_checks (Some check) h = absurd cc
    by_checks None h = h

-- ---- dumps

-- the dump that was read from bytes that are opened
pub bytes_dump : (bytes : List ℕ) (d : Dump) → ((i : ℕ) → slice_index bytes i < 256) → opened_by sux_offer bytes ≡ Ok d
    → (dump_bytes d ≡ bytes) × Passes d × (offered_fault sux_offer (dump_bytes d) ≡ None)
bytes_dump bytes d small e =
    let whole = opens_whole bytes d e in
    let same : dump_bytes d ≡ bytes = passing_bytes_are_layouts.layout bytes d small whole in (
      same,
      ap opened same ∙ whole,
      ap (λ (b : List ℕ). option_map check_text (result_err (opened_by sux_offer b))) same ∙ ap (λ (r : Result Dump ℕ). option_map check_text (result_err r)) e,
    )

le_or_lt : (a b : ℕ) → (a ≤ b) ⊎ (b < a)
le_or_lt a b = elim (cases_lt b a) [ inl h ↦ inr h | inr h ↦ inl h ]

-- what was read is all of a file that isn't too large
read_whole : (all bytes : List ℕ) → bytes ≡ take (2 ^ 30 + 1) all → length bytes ≤ 2 ^ 30 → bytes ≡ all
read_whole all bytes is small = by_size (le_or_lt (length all) (2 ^ 30))
  where
    by_size : (length all ≤ 2 ^ 30) ⊎ (2 ^ 30 < length all) → bytes ≡ all
    by_size (inl le) = is ∙ take_all all (2 ^ 30 + 1) (omega arith)
    by_size (inr lt) =
        let size : length bytes ≡ 2 ^ 30 + 1 = ap (λ (b : List ℕ). length b) is ∙ length-take-le (2 ^ 30 + 1) all (omega arith) in
        absurd (omega arith)

-- the file that was read is the dump
pub file_opened : (name : Text) (files : Option Files) (words : List ℕ) (size : ℕ) (file : IsFile name files words size) (d : Dump) → opened_by sux_offer file.bytes ≡ Ok d → IsOpened name files d
file_opened name files words size file d e =
    let (same, passes, accepted) = bytes_dump file.bytes d file.decoded.small e in
    record { file = told files file.told same; passes = passes; accepted = accepted }
  where
    told : (f : Option Files) → IfSome f (λ fs. (all : List ℕ) × (fs name ≡ Some all) × (file.bytes ≡ take (2 ^ 30 + 1) all)) → dump_bytes d ≡ file.bytes
        → IfSome f (λ fs. fs name ≡ Some (dump_bytes d))
    told None h same = tt
    told (Some fs) (all, at, is) same =
        at ∙ ap (λ (b : List ℕ). Some b) (sym (same ∙ read_whole all file.bytes is (not_large file.bytes d e)))

-- the file that was read fails the same check
pub file_refused : (name : Text) (files : Option Files) (words : List ℕ) (size : ℕ) (file : IsFile name files words size) (check : ℕ) → opened_by sux_offer file.bytes ≡ Err check
    → IfSome files (λ fs. dump_refusal sux_program (fs name) ≡ Some (check_text check))
file_refused name files words size file check e = told files file.told
  where
    same_check : (all : List ℕ) → file.bytes ≡ take (2 ^ 30 + 1) all → opened_by sux_offer all ≡ Err check
    same_check all is = by_size (le_or_lt (length all) (2 ^ 30))
      where
        by_size : (length all ≤ 2 ^ 30) ⊎ (2 ^ 30 < length all) → opened_by sux_offer all ≡ Err check
        by_size (inl le) = ap (opened_by sux_offer) (sym (is ∙ take_all all (2 ^ 30 + 1) (omega arith))) ∙ e
        by_size (inr lt) =
            let size : length file.bytes ≡ 2 ^ 30 + 1 = ap (λ (b : List ℕ). length b) is ∙ length-take-le (2 ^ 30 + 1) all (omega arith) in
            too_large all lt ∙ sym (too_large file.bytes (omega arith)) ∙ e

    told : (f : Option Files) → IfSome f (λ fs. (all : List ℕ) × (fs name ≡ Some all) × (file.bytes ≡ take (2 ^ 30 + 1) all)) → IfSome f (λ fs. dump_refusal sux_program (fs name) ≡ Some (check_text check))
    told None h = tt
    told (Some fs) (all, at, is) =
        ap (dump_refusal sux_program) at ∙ ap (λ (r : Result Dump ℕ). option_map check_text (result_err r)) (same_check all is)

-- no file has the name
pub none_refused : (name : Text) (files : Option Files) → IfSome files (λ fs. fs name ≡ None) → IfSome files (λ fs. dump_refusal sux_program (fs name) ≡ Some no_dump_text)
none_refused name None none = tt
none_refused name (Some fs) none = ap (dump_refusal sux_program) none

-- a check that fails is told, or memory is wanting for that
pub check_stops : (name : Text) (files : Option Files) (check : ℕ) (old new : Option (List ℕ)) (before after : ℕ) (result : Status) → IfSome files (λ fs. dump_refusal sux_program (fs name) ≡ Some (check_text check))
    → Tells (check_text check) BadDump old new before after result ⊎ Tells memory_text Memory old new before after result → StopsAtCheck name files old new before after result
check_stops name files check old new before after result refused (inl told) = inl (record { reason = check_text check; first_reason = refused; told = told })
check_stops name files check old new before after result refused (inr told) = inr told
