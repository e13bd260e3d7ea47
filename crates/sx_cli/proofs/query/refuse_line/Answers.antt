use Rattle.std.proofs.Common.{◌≡◌, ℕ, List, [], ◌∷◌, ◌++◌, append_assoc, append-nil, sym, ap, subst, ◌∙◌, codes, decimal}
use Rattle.sx_spec.specs.declared.Status.TheVariants.{BadInput}
use Rattle.sx_spec.specs.Messages.{message}
use Rattle.sx_cli.specs.Telling.{Tells}
use Rattle.sx_cli.proofs.query.refuse_line.Goals as goal

-- what was pushed is the message
pushed : (text first second third whole : List ℕ) (line : ℕ) (told : List ℕ) → text ≡ [] → first ≡ text ++ codes "sux: query line " → second ≡ first ++ decimal line → third ≡ second ++ told → whole ≡ third ++ 10 ∷ []
    → whole ≡ message (codes "query line " ∷ decimal line ∷ told ∷ [])
pushed text first second third whole line told none a b c d =
    let start : first ≡ codes "sux: query line " = a ∙ ap (λ (t : List ℕ). t ++ codes "sux: query line ") none in
    let front : second ≡ codes "sux: query line " ++ decimal line = b ∙ ap (λ (t : List ℕ). t ++ decimal line) start in
    let most : third ≡ (codes "sux: query line " ++ decimal line) ++ told = c ∙ ap (λ (t : List ℕ). t ++ told) front in
    let all : whole ≡ ((codes "sux: query line " ++ decimal line) ++ told) ++ 10 ∷ [] = d ∙ ap (λ (t : List ℕ). t ++ 10 ∷ []) most in
    all ∙ ap (λ (t : List ℕ). t ++ 10 ∷ []) (append_assoc (codes "sux: query line ") (decimal line) told) ∙ append_assoc (codes "sux: query line ") (decimal line ++ told) (10 ∷ [])
    ∙ ap (λ (t : List ℕ). codes "sux: query line " ++ ((decimal line ++ t) ++ 10 ∷ [])) (sym (append-nil told))

pub returns-clause-told : goal.returns-clause-told
returns-clause-told g c =
    let same = pushed c.args.text.now c.push.new.self c.push_number.new.self c.push-2.new.self c.push-3.new.self c.args.line c.args.told.now c.requires.empty c.push.ensures c.push_number.ensures.value
    (c.push-2.ensures ∙ ap (λ (t : List ℕ). c.push_number.new.self ++ t) c.as_bytes.ensures.value) c.push-3.ensures in
    subst (λ (t : List ℕ). Tells t BadInput (g.E.Sink.written c.args.err.now) (g.E.Sink.written c.tell.new.err) (g.E.Sink.faults c.args.err.now) (g.E.Sink.faults c.tell.new.err) c.tell.result) (c.as_slice.ensures ∙ same) c.tell.ensures.told
