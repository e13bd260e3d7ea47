-- A parser that grows by an argument at a time.
use Rattle.std.proofs.Common.{◌≡◌, ℕ, ◌+◌, ◌<◌, List, [], ◌∷◌, ◌++◌, length, map, take, get_or, ◌∙◌, ap, sym}
use Rattle.std.proofs.lemmas.List.{take_more, map-append}
use Rattle.std.proofs.lemmas.List.Sums.{fold-append}
use Rattle.clap.specs.Words.{App, Rule, with_rule}
use Rattle.sx_words.specs.Parsers.{with_rules}

-- with the rules up to a place, and that at the place
pub one_more : {X : Type 0} (f : X → Rule) (xs : List X) (i : ℕ) (d : X) (first app next : App) → i < length xs
    → app ≡ with_rules first (map f (take i xs)) → next ≡ with_rule app (f (get_or xs i d)) → next ≡ with_rules first (map f (take (i + 1) xs))
one_more f xs i d first app next lt before after =
    let more : map f (take (i + 1) xs) ≡ map f (take i xs) ++ f (get_or xs i d) ∷ [] = ap (map f) (take_more xs i d lt) ∙ map-append f (take i xs) (get_or xs i d ∷ []) in
    after ∙ ap (λ (a : App). with_rule a (f (get_or xs i d))) before ∙ sym (ap (with_rules first) more ∙ fold-append with_rule first (map f (take i xs)) (f (get_or xs i d) ∷ []))
