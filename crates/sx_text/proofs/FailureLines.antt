-- The lines on seeds that don't work, piece by piece.
use Rattle.std.proofs.Common.{◌≡◌, ℕ, ◌+◌, ◌<◌, suc, List, [], ◌∷◌, ◌++◌, length, take, refl, sym, ap, ◌∙◌, arith, append_assoc, append-nil, Vec, Global}
use Rattle.std.specs.Prelude.{codes, decimal, map, flat_map, slice_get, unwrap_or}
use Rattle.std.specs.Prelude.{OnOk, Result, Ok, Err, get_or}
use Rattle.std.specs.List.{concat, enumerate_from}
use Rattle.std.proofs.Math.Seq.{take-suc}
use Rattle.std.proofs.lemmas.List.{length-take-le}
use Rattle.sx_spec.specs.declared.Method.{Method}
use Rattle.sx_spec.specs.declared.Plan.{Plan}
use Rattle.sx_spec.specs.Command.{Text}
use Rattle.sx_spec.specs.Kinds.{part_names}
use Rattle.sx_spec.specs.Messages.{message, spaced, witness_word, cause_text, failure_text}
use Rattle.sx_spec.specs.StaticFunction.{twins, stuck}
use Rattle.sx_static.specs.Answer.{witness_numbers}
use Rattle.sx_static.specs.declared.Witness.{Witness}
use Rattle.sx_parts.specs.Assembling.{failure_of, cause_of}
use Rattle.sx_parts.specs.declared.PartFault.{PartFault}
use Rattle.sx_parts.specs.declared.PartCause.{PartCause}
use Rattle.sx_parts.specs.declared.PartCause.TheVariants.{Stuck}
use Rattle.sx_text.proofs.Texts.{five, behind_five}
use Rattle.sx_text.specs.FailureTexts.{place_of_part, front_text, witness_text, tries_text, twins_text}

-- the line of two strings, as the message has it
pub twins_message : (method : Method) (seed first second : ℕ) (part : Text) → twins_text seed part first second ≡ cause_text method (place_of_part seed part) (twins first second)
twins_message method seed first second part = laid (place_of_part seed part) (decimal first) (decimal second)
  where
    laid : (place a b : Text) → (codes "sux: " ++ place) ++ concat (codes "strings " ∷ a ∷ codes " and " ∷ b ∷ codes " have one signature" ∷ (10 ∷ []) ∷ [])
        ≡ message (place ∷ codes "strings " ∷ a ∷ codes " and " ∷ b ∷ codes " have one signature" ∷ [])
    laid place a b =
        ap (λ (l : Text). codes "sux: " ++ l)
        (ap (λ (l : Text). place ++ l) (sym (behind_five (codes "strings ") a (codes " and ") b (codes " have one signature") [] (10 ∷ [])))
        ∙ sym (append_assoc place (concat (codes "strings " ∷ a ∷ codes " and " ∷ b ∷ codes " have one signature" ∷ [])) (10 ∷ [])))

-- the line of a witness, as the message has it
pub witness_message : (seed chunk try : ℕ) (part word : Text) (w : Witness)
    → front_text seed part ++ witness_text chunk word try w ≡ message (place_of_part seed part ∷ codes "chunk " ∷ decimal chunk ∷ codes ": try " ∷ decimal try ∷ codes ": " ∷ word ∷ spaced (witness_numbers w) ∷ [])
witness_message seed chunk try part word w = laid (place_of_part seed part) (decimal chunk) (decimal try) word (spaced (witness_numbers w))
  where
    laid : (place a b word numbers : Text) → (codes "sux: " ++ place) ++ (concat (codes "chunk " ∷ a ∷ codes ": try " ∷ b ∷ codes ": " ∷ word ∷ []) ++ (numbers ++ 10 ∷ []))
        ≡ message (place ∷ codes "chunk " ∷ a ∷ codes ": try " ∷ b ∷ codes ": " ∷ word ∷ numbers ∷ [])
    laid place a b word numbers =
        ap (λ (l : Text). codes "sux: " ++ l)
        (ap (λ (l : Text). place ++ l) (ap (λ (l : Text). l ++ (numbers ++ 10 ∷ [])) (five (codes "chunk ") a (codes ": try ") b (codes ": ") word)
        ∙ behind_five (codes "chunk ") a (codes ": try ") b (codes ": ") word (numbers ++ 10 ∷ []))
        ∙ sym (append_assoc place (codes "chunk " ++ (a ++ (codes ": try " ++ (b ++ (codes ": " ++ (word ++ (numbers ++ []))))))) (10 ∷ [])
        ∙ ap (λ (l : Text). place ++ l) (behind_five (codes "chunk ") a (codes ": try ") b (codes ": ") (word ++ (numbers ++ [])) (10 ∷ [])
        ∙ ap (λ (l : Text). codes "chunk " ++ (a ++ (codes ": try " ++ (b ++ (codes ": " ++ l))))) (append_assoc word (numbers ++ []) (10 ∷ []) ∙ ap (λ (l : Text). word ++ (l ++ 10 ∷ [])) (append-nil numbers)))))

-- the lines of all tries, as the message has them
pub tries_message : (seed chunk try : ℕ) (part word : Text) (ws : List Witness)
    → tries_text seed part chunk word try ws
    ≡ flat_map (λ w. message (place_of_part seed part ∷ codes "chunk " ∷ decimal chunk ∷ codes ": try " ∷ decimal w.0 ∷ codes ": " ∷ word ∷ spaced w.1 ∷ [])) (enumerate_from try (map witness_numbers ws))
tries_message seed chunk try part word [] = refl
tries_message seed chunk try part word (w ∷ ws) =
    ap (λ (l : Text). l ++ tries_text seed part chunk word (try + 1) ws) (witness_message seed chunk try part word w)
    ∙ ap (λ (l : Text). message (place_of_part seed part ∷ codes "chunk " ∷ decimal chunk ∷ codes ": try " ∷ decimal try ∷ codes ": " ∷ word ∷ spaced (witness_numbers w) ∷ []) ++ l) (tries_message seed chunk (try + 1) part word ws)

-- one more try
pub tries_next : (seed chunk try : ℕ) (part word : Text) (ws : List Witness) (w : Witness)
    → tries_text seed part chunk word try (ws ++ w ∷ []) ≡ tries_text seed part chunk word try ws ++ (front_text seed part ++ witness_text chunk word (try + length ws) w)
tries_next seed chunk try part word [] w =
    let e : try + 0 ≡ try = omega arith in
    append-nil (front_text seed part ++ witness_text chunk word try w) ∙ ap (λ (n : ℕ). front_text seed part ++ witness_text chunk word n w) (sym e)
tries_next seed chunk try part word (x ∷ ws) w =
    let e : try + 1 + length ws ≡ try + suc (length ws) = omega arith in
    ap (λ (l : Text). (front_text seed part ++ witness_text chunk word try x) ++ l) (tries_next seed chunk (try + 1) part word ws w ∙ ap (λ (n : ℕ). tries_text seed part chunk word (try + 1) ws ++ (front_text seed part ++ witness_text chunk word n w)) e)
    ∙ sym (append_assoc (front_text seed part ++ witness_text chunk word try x) (tries_text seed part chunk word (try + 1) ws) (front_text seed part ++ witness_text chunk word (try + suc (length ws)) w))

-- the line on one more try was put at the end
pub tries_step : (old now mid new : Text) (seed chunk i : ℕ) (part word : Text) (ws : List Witness) (w : Witness) → i < length ws → w ≡ get_or ws i w → now ≡ old ++ tries_text seed part chunk word 0 (take i ws)
    → mid ≡ now ++ front_text seed part → new ≡ mid ++ witness_text chunk word i w → new ≡ old ++ tries_text seed part chunk word 0 (take (i + 1) ws)
tries_step old now mid new seed chunk i part word ws w lt is before front line =
    let one : i + 1 ≡ suc i = omega arith in
    let more : take (i + 1) ws ≡ take i ws ++ w ∷ [] = ap (λ (n : ℕ). take n ws) one ∙ take-suc ws i w lt ∙ ap (λ (x : Witness). take i ws ++ x ∷ []) (sym is) in
    let size = length-take-le i ws (omega arith) in
    let at : 0 + length (take i ws) ≡ i = omega (arith, size) in
    line ∙ ap (λ (l : Text). l ++ witness_text chunk word i w) front
    ∙ append_assoc now (front_text seed part) (witness_text chunk word i w)
    ∙ ap (λ (l : Text). l ++ (front_text seed part ++ witness_text chunk word i w)) before
    ∙ append_assoc old (tries_text seed part chunk word 0 (take i ws)) (front_text seed part ++ witness_text chunk word i w)
    ∙ ap (λ (l : Text). old ++ l)
    (ap (λ (n : ℕ). tries_text seed part chunk word 0 (take i ws) ++ (front_text seed part ++ witness_text chunk word n w)) (sym at)
    ∙ sym (tries_next seed chunk 0 part word (take i ws) w) ∙ ap (λ (l : List Witness). tries_text seed part chunk word 0 l) (sym more))

-- the lines on a chunk that no try works for, as the message has them
pub stuck_message : (method : Method) (seed chunk : ℕ) (part : Text) (ws : List Witness)
    → tries_text seed part chunk (witness_word method) 0 ws ≡ cause_text method (place_of_part seed part) (stuck chunk (map witness_numbers ws))
stuck_message method seed chunk part ws = tries_message seed chunk 0 part (witness_word method) ws

-- what holds at Ok by one equation holds by the next
pub on_ok : {E : Type 0} {T : Type 0} (r : Result T E) (new old text other : Text) → text ≡ other → OnOk r (new ≡ old ++ text) → OnOk r (new ≡ old ++ other)
on_ok (Ok x) new old text other same h = h ∙ ap (λ (l : Text). old ++ l) same
on_ok (Err e) new old text other same h = tt

-- the lines on a part whose chunk no try works for
pub stuck_failure : (plan : Plan) (seed chunk : ℕ) (part : Text) (witnesses : Vec Witness Global) (fault : PartFault) → fault.cause ≡ Stuck chunk witnesses → part ≡ unwrap_or (slice_get (part_names plan.kind) fault.part) []
    → tries_text seed part chunk (witness_word plan.method) 0 witnesses.items ≡ failure_text plan seed (failure_of fault)
stuck_failure plan seed chunk part witnesses fault is named =
    stuck_message plan.method seed chunk part witnesses.items
    ∙ ap (λ (p : Text). cause_text plan.method (place_of_part seed p) (stuck chunk (map witness_numbers witnesses.items))) named
    ∙ ap (λ (c : PartCause). cause_text plan.method (place_of_part seed (unwrap_or (slice_get (part_names plan.kind) fault.part) [])) (cause_of c)) (sym is)
