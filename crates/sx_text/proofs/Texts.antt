-- Texts that are put together are those that are put one behind the other.
use Rattle.std.proofs.Common.{◌≡◌, ℕ, [], ◌∷◌, ◌++◌, sym, ap, ◌∙◌, append_assoc, append-nil}
use Rattle.std.specs.Prelude.{codes, decimal, OnOk, Result, Ok, Err, if◌then◌else◌}
use Rattle.std.specs.Result.{is_ok}
use Rattle.std.specs.List.{concat}
use Rattle.sx_spec_kinds.specs.declared.Kind.{Kind}
use Rattle.sx_spec.specs.declared.OptionName.{OptionName}
use Rattle.sx_spec.specs.declared.Rule.TheVariants.{BadValue, DoesNotGo}
use Rattle.sx_spec.specs.Command.{Text, option_word}
use Rattle.sx_spec.specs.Kinds.{kind_word}
use Rattle.sx_spec.specs.Messages.{message, usage_text, values_text}
use Rattle.sx_spec.specs.Values.{fewer_than_keys}
use Rattle.sx_text.specs.Reasons.{counts_text}

pub five : (c1 a c2 b c3 end : Text) → concat (c1 ∷ a ∷ c2 ∷ b ∷ c3 ∷ end ∷ []) ≡ c1 ++ (a ++ (c2 ++ (b ++ (c3 ++ end))))
five c1 a c2 b c3 end = ap (λ (l : Text). c1 ++ (a ++ (c2 ++ (b ++ (c3 ++ l))))) (append-nil end)

pub behind_five : (c1 a c2 b c3 end rest : Text) → (c1 ++ (a ++ (c2 ++ (b ++ (c3 ++ end))))) ++ rest ≡ c1 ++ (a ++ (c2 ++ (b ++ (c3 ++ (end ++ rest)))))
behind_five c1 a c2 b c3 end rest =
    append_assoc c1 (a ++ (c2 ++ (b ++ (c3 ++ end)))) rest
    ∙ ap (λ (l : Text). c1 ++ l) (append_assoc a (c2 ++ (b ++ (c3 ++ end))) rest
    ∙ ap (λ (l : Text). a ++ l) (append_assoc c2 (b ++ (c3 ++ end)) rest
    ∙ ap (λ (l : Text). c2 ++ l) (append_assoc b (c3 ++ end) rest
    ∙ ap (λ (l : Text). b ++ l) (append_assoc c3 end rest))))

-- a value that is none
pub bad_value : (name : OptionName) → codes "sux: usage: " ++ (codes "bad value for " ++ (option_word name ++ ([] ++ 10 ∷ []))) ≡ usage_text (BadValue name)
bad_value name = ap (λ (l : Text). codes "sux: usage: bad value for " ++ (l ++ 10 ∷ [])) (sym (append-nil (option_word name)))

-- an option that doesn't go with the kind
pub does_not_go : (name : OptionName) (kind : Kind) → codes "sux: usage: " ++ (option_word name ++ (codes " does not go with " ++ (kind_word kind ++ 10 ∷ []))) ≡ usage_text (DoesNotGo name kind)
does_not_go name kind = laid (option_word name) (kind_word kind)
  where
    laid : (a b : Text) → codes "sux: usage: " ++ (a ++ (codes " does not go with " ++ (b ++ 10 ∷ []))) ≡ message (codes "usage: " ∷ a ∷ codes " does not go with " ∷ b ∷ [])
    laid a b = ap (λ (l : Text). codes "sux: usage: " ++ l)
        (ap (λ (l : Text). a ++ (codes " does not go with " ++ (l ++ 10 ∷ []))) (sym (append-nil b))
        ∙ ap (λ (l : Text). a ++ l) (sym (append_assoc (codes " does not go with ") (b ++ []) (10 ∷ [])))
        ∙ sym (append_assoc a (codes " does not go with " ++ (b ++ [])) (10 ∷ [])))

-- too few values
pub few_values : (values keys : ℕ) → codes "sux: " ++ counts_text values keys ≡ values_text keys (fewer_than_keys values)
few_values values keys = laid (decimal values) (decimal keys)
  where
    laid : (v k : Text) → codes "sux: " ++ concat (codes "values: " ∷ v ∷ codes " values for " ∷ k ∷ codes " keys" ∷ (10 ∷ []) ∷ []) ≡ message (codes "values: " ∷ v ∷ codes " values for " ∷ k ∷ codes " keys" ∷ [])
    laid v k = ap (λ (l : Text). codes "sux: " ++ l) (sym (behind_five (codes "values: ") v (codes " values for ") k (codes " keys") [] (10 ∷ [])))

-- the numbers of values and keys were put at the end
pub counts_put : {T E : Type 0} (r : Result T E) (t0 t1 t2 t3 t4 t5 : Text) (values k keys : ℕ) → t1 ≡ t0 ++ codes "values: " → t2 ≡ t1 ++ decimal values → t3 ≡ t2 ++ codes " values for " → k ≡ keys → t4 ≡ t3 ++ decimal k
    → t5 ≡ (if is_ok r then t4 ++ codes " keys\n" else t4) → OnOk r (t5 ≡ t0 ++ counts_text values keys)
counts_put (Err e) t0 t1 t2 t3 t4 t5 values k keys a b c same d h = tt
counts_put (Ok x) t0 t1 t2 t3 t4 t5 values k keys a b c same d h = laid (decimal values) (decimal keys) b (d ∙ ap (λ (n : ℕ). t3 ++ decimal n) same)
  where
    laid : (v w : Text) → t2 ≡ t1 ++ v → t4 ≡ t3 ++ w → t5 ≡ t0 ++ concat (codes "values: " ∷ v ∷ codes " values for " ∷ w ∷ codes " keys" ∷ (10 ∷ []) ∷ [])
    laid v w p q =
        h ∙ ap (λ (l : Text). l ++ codes " keys\n") (q ∙ ap (λ (l : Text). l ++ w) (c ∙ ap (λ (l : Text). l ++ codes " values for ") (p ∙ ap (λ (l : Text). l ++ v) a)))
        ∙ append_assoc ((((t0 ++ codes "values: ") ++ v) ++ codes " values for ")) w (codes " keys\n")
        ∙ append_assoc ((t0 ++ codes "values: ") ++ v) (codes " values for ") (w ++ codes " keys\n")
        ∙ append_assoc (t0 ++ codes "values: ") v (codes " values for " ++ (w ++ codes " keys\n"))
        ∙ append_assoc t0 (codes "values: ") (v ++ (codes " values for " ++ (w ++ codes " keys\n")))
