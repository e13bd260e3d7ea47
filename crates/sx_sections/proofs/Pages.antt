-- Lines put together from labels and numbers.
use Rattle.std.proofs.Common.{◌≡◌, ℕ, List, [], ◌∷◌, ◌++◌, codes, decimal, ap, ◌∙◌, append_assoc}
use Rattle.sx_spec.specs.Kinds.{kind_word, method_word}
use Rattle.sx_spec.specs.Layout.{Header}
use Rattle.sx_spec.specs.Show.{line_of}
use Rattle.sx_sections.specs.Lines.{function_line, header_lines, number_line, words_line}

flat : (o f m a w b x c y d z n : List ℕ) → ((((((o ++ f) ++ m) ++ (a ++ w)) ++ (b ++ x)) ++ (c ++ y)) ++ (d ++ z)) ++ n ≡ o ++ ((f ++ (m ++ (a ++ (w ++ (b ++ (x ++ (c ++ (y ++ (d ++ z))))))))) ++ n)
flat o f m a w b x c y d z n = simp append_assoc

pub function_put : (old t u p q r s new name word : List ℕ) (width w pairs chunks cells : ℕ) → word ≡ name → w ≡ width
    → t ≡ old ++ codes "function " → u ≡ t ++ word → p ≡ u ++ (codes " width " ++ decimal w) → q ≡ p ++ (codes " pairs " ++ decimal pairs)
    → r ≡ q ++ (codes " chunks " ++ decimal chunks) → s ≡ r ++ (codes " cells " ++ decimal cells) → new ≡ s ++ (10 ∷ [])
    → new ≡ old ++ function_line name width pairs chunks cells
unfolding function_line
function_put old t u p q r s new name word width w pairs chunks cells e_word ew et eu ep eq er es en =
    en ∙ ap (λ l. l ++ (10 ∷ [])) (es ∙ ap (λ l. l ++ (codes " cells " ++ decimal cells)) (er ∙ ap (λ l. l ++ (codes " chunks " ++ decimal chunks))
    (eq ∙ ap (λ l. l ++ (codes " pairs " ++ decimal pairs)) (ep ∙ (λ i. (eu i) ++ (codes " width " ++ decimal (ew i)))
    ∙ (λ i. (et i ++ e_word i) ++ (codes " width " ++ decimal width))))))
    ∙ flat old (codes "function ") name (codes " width ") (decimal width) (codes " pairs ") (decimal pairs) (codes " chunks ") (decimal chunks) (codes " cells ") (decimal cells) (10 ∷ [])

-- ---- a header

nine : (o a b c d e f g h i : List ℕ) → ((((((((o ++ a) ++ b) ++ c) ++ d) ++ e) ++ f) ++ g) ++ h) ++ i ≡ o ++ ((((((((a ++ b) ++ c) ++ d) ++ e) ++ f) ++ g) ++ h) ++ i)
nine o a b c d e f g h i = simp append_assoc

pub header_put : (h : Header) (old p q r s t u v w new kind method : List ℕ) (keys bits bucket signed handle : ℕ)
    → kind ≡ kind_word h.plan.kind → method ≡ method_word h.plan.method → keys ≡ h.keys → bits ≡ h.plan.sig_bits → bucket ≡ h.plan.log_bucket → signed ≡ h.plan.signed → handle ≡ h.plan.handle_bits
    → p ≡ old ++ words_line (codes "layout") (codes "1") → q ≡ p ++ words_line (codes "kind") kind → r ≡ q ++ words_line (codes "method") method
    → s ≡ r ++ number_line (codes "keys") keys → t ≡ s ++ number_line (codes "seed") h.seed → u ≡ t ++ number_line (codes "sig-bits") bits
    → v ≡ u ++ number_line (codes "log-bucket") bucket → w ≡ v ++ number_line (codes "signed") signed → new ≡ w ++ number_line (codes "handle-bits") handle
    → new ≡ old ++ header_lines h
unfolding header_lines words_line number_line
header_put h old p q r s t u v w new kind method keys bits bucket signed handle ek em en eb el e_s eh ep eq er es et eu ev ew e_new =
    let a = line_of (codes "layout" ∷ codes "1" ∷ []) in
    let b = line_of (codes "kind" ∷ kind_word h.plan.kind ∷ []) in
    let c = line_of (codes "method" ∷ method_word h.plan.method ∷ []) in
    let d = line_of (codes "keys" ∷ decimal h.keys ∷ []) in
    let e = line_of (codes "seed" ∷ decimal h.seed ∷ []) in
    let f = line_of (codes "sig-bits" ∷ decimal h.plan.sig_bits ∷ []) in
    let g = line_of (codes "log-bucket" ∷ decimal h.plan.log_bucket ∷ []) in
    let k = line_of (codes "signed" ∷ decimal h.plan.signed ∷ []) in
    let l = line_of (codes "handle-bits" ∷ decimal h.plan.handle_bits ∷ []) in
    let q_is : q ≡ (old ++ a) ++ b = eq ∙ (λ i. ep i ++ line_of (codes "kind" ∷ ek i ∷ [])) in
    let r_is : r ≡ ((old ++ a) ++ b) ++ c = er ∙ (λ i. q_is i ++ line_of (codes "method" ∷ em i ∷ [])) in
    let s_is : s ≡ (((old ++ a) ++ b) ++ c) ++ d = es ∙ (λ i. r_is i ++ line_of (codes "keys" ∷ decimal (en i) ∷ [])) in
    let t_is : t ≡ ((((old ++ a) ++ b) ++ c) ++ d) ++ e = et ∙ ap (λ x. x ++ e) s_is in
    let u_is : u ≡ (((((old ++ a) ++ b) ++ c) ++ d) ++ e) ++ f = eu ∙ (λ i. t_is i ++ line_of (codes "sig-bits" ∷ decimal (eb i) ∷ [])) in
    let v_is : v ≡ ((((((old ++ a) ++ b) ++ c) ++ d) ++ e) ++ f) ++ g = ev ∙ (λ i. u_is i ++ line_of (codes "log-bucket" ∷ decimal (el i) ∷ [])) in
    let w_is : w ≡ (((((((old ++ a) ++ b) ++ c) ++ d) ++ e) ++ f) ++ g) ++ k = ew ∙ (λ i. v_is i ++ line_of (codes "signed" ∷ decimal (e_s i) ∷ [])) in
    e_new ∙ (λ i. w_is i ++ line_of (codes "handle-bits" ∷ decimal (eh i) ∷ [])) ∙ nine old a b c d e f g k l
