-- A dump that was built is opened, as itself.
use Rattle.std.proofs.Common.{◌≡◌, ℕ, ◌*◌, ◌^◌, ◌<◌, List, [], ◌∷◌, length, get_or, suc, Option, Some, None, Result, Ok, Err, refl, sym, ap, ◌∙◌, arith}
use Rattle.std.specs.Prelude.{sum}
use Rattle.std.specs.List.{AllByRecursion}
use Rattle.sx_spec_strings.specs.First.{first_failing}
use Rattle.sx_spec_kinds.specs.declared.Kind.{Kind}
use Rattle.sx_spec.specs.Command.{Text}
use Rattle.sx_spec.specs.Outcomes.{trial_line}
use Rattle.sx_spec.specs.Layout.{Dump, bytes_words, dump_bytes, kinds, words_bytes}
use Rattle.sx_spec.proofs.Words.{length-words_bytes, words_again}
use Rattle.sx_spec_program.specs.Program.{sux_offer}
use Rattle.sx_sections.specs.Headers.{file_checks}
use Rattle.sx_sections.specs.Openings.{opened_words, opened_words_by}
use Rattle.sx_sections.proofs.Offered.{all_offered, by_offer, file_opened, header_fails}
use Rattle.sx_dump.specs.Opening.{IsRefused}
use Rattle.sx_dump.specs.declared.open.OpenFault.TheVariants.{Malformed}
use Rattle.sx_trial.specs.Trials.{IsMade, replies_from}
use Rattle.sx_trial.proofs.Answered.{line_told, line_with}

all_small : (words : List ℕ) → ((i : ℕ) → get_or words i 0 < 2 ^ 64) → AllByRecursion (λ w. w < 2 ^ 64) words
all_small [] each = tt
all_small (w ∷ words) each = (each 0, all_small words (λ i. each (suc i)))

-- what words are opened as by their first check that fails
abbrev after_checks : List ℕ → ℕ → Option ℕ → Result Dump ℕ
after_checks words bytes o = elim o [ Some check ↦ Err check | None ↦ opened_words words bytes ]

-- sux offers every dump
all_offered_here : (words : List ℕ) (bytes : ℕ) → opened_words_by sux_offer words bytes ≡ opened_words words bytes
all_offered_here words bytes =
    ap (after_checks words bytes) (by_offer words bytes sux_offer kinds 64 refl refl ∙ all_offered words bytes) ∙ same_again (first_failing (file_checks words bytes)) refl
  where
    same_again : (o : Option ℕ) → first_failing (file_checks words bytes) ≡ o → after_checks words bytes o ≡ opened_words words bytes
    same_again None first = refl
    same_again (Some check) first = sym (header_fails words bytes check (sym first))

-- the words of a made dump are opened as it
pub made_opens : (kind : Kind) (n : ℕ) (words : List ℕ) (d : Dump) → IsMade kind n words d → ((i : ℕ) → get_or words i 0 < 2 ^ 64) → opened_words_by sux_offer words (length words * 8) ≡ Ok d
made_opens kind n words d made small =
    let held : bytes_words (dump_bytes d) ≡ words = ap (λ (ws : List ℕ). bytes_words (words_bytes ws)) (sym made.words_are) ∙ words_again words (all_small words small) in
    let size : length (dump_bytes d) ≡ length words * 8 = ap (λ (ws : List ℕ). length (words_bytes ws)) (sym made.words_are) ∙ length-words_bytes words ∙ (let e : 8 * length words ≡ length words * 8 = omega arith in e) in
    all_offered_here words (length words * 8)
    ∙ sym (file_opened words (length words * 8) (opened_words words (length words * 8)) refl (dump_bytes d) (record { held = held; size = size }))
    ∙ made.passes

-- so no check fails
pub not_malformed : (kind : Kind) (n : ℕ) (words : List ℕ) (d : Dump) → IsMade kind n words d → ((i : ℕ) → get_or words i 0 < 2 ^ 64)
    → (check : ℕ) → IsRefused words (length words * 8) (Malformed check) → ⊥
not_malformed kind n words d made small check refused = let opens = made_opens kind n words d made small in absurd cc

-- and the dump that was opened is it
opened_is : (kind : Kind) (n : ℕ) (words : List ℕ) (d e : Dump) → IsMade kind n words d → ((i : ℕ) → get_or words i 0 < 2 ^ 64)
    → opened_words_by sux_offer words (length words * 8) ≡ Ok e → e ≡ d
opened_is kind n words d e made small opened = let opens = made_opens kind n words d made small in cc

-- so what it was asked makes the line on what was built
pub line_opened : (kind : Kind) (n : ℕ) (words : List ℕ) (e : Dump) → ((i : ℕ) → get_or words i 0 < 2 ^ 64) → opened_words_by sux_offer words (length words * 8) ≡ Ok e
    → (keys answers total strangers : ℕ) → keys ≡ n → answers ≡ length (replies_from e 0 n) → total ≡ sum (replies_from e 0 n) → strangers ≡ sum (replies_from e n n)
    → (line : Text) → line ≡ line_with kind keys answers total strangers → (d : Dump) → IsMade kind n words d → line ≡ trial_line kind n d
line_opened kind n words e small opened keys answers total strangers keys_are answers_are total_is strangers_are line is d made =
    let same = opened_is kind n words d e made small opened in
    is ∙ line_told kind n words d made keys answers total strangers keys_are
    (answers_are ∙ ap (λ (x : Dump). length (replies_from x 0 n)) same)
    (total_is ∙ ap (λ (x : Dump). sum (replies_from x 0 n)) same)
    (strangers_are ∙ ap (λ (x : Dump). sum (replies_from x n n)) same)
