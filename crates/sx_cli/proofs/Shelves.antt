-- What is known of files after several calls on a shelf.
use Rattle.std.proofs.Common.{◌≡◌, ◌≢◌, ℕ, List, [], ◌++◌, refl, sym, ap, subst, ◌∙◌, Option, Some, None, append-nil, inl, inr, ◌⊎◌, Result, Ok, Err}
use Rattle.std.specs.Prelude.{IsSome, IfSome, OnErr}
use Rattle.sx_spec.specs.Command.{Text}
use Rattle.sx_spec.specs.World.{Files, KeepsFiles, SetsFile}
use Rattle.sx_edge.specs.Shelf.{AppendsFile, AppendsFilePrefix}
use Rattle.sx_edge.proofs.Files.{SetsFile-kept}
use Rattle.sx_cli.specs.Writing.{SetsPart}

-- the same with the set file put in: what was appended to an empty file is all of it
appended_all : (name part : List ℕ) (f : Files) (now : Option (List ℕ)) (g : Files) (new : Option Files) → now ≡ Some [] → ((other : Text) → other ≢ name → g other ≡ f other) → IfSome now (λ bytes. SetsFile name (bytes ++ part) (Some g) new) → SetsFile name part (Some f) new
appended_all name part f None g new here others set = absurd cc
appended_all name part f (Some xs) g None here others set = absurd set
appended_all name part f (Some xs) g (Some h) here others set =
    let none : xs ≡ [] = cc in
    (set.0 ∙ ap (λ (l : List ℕ). Some (l ++ part)) none, λ other ne. set.1 other ne ∙ others other ne)

pub set_appended : (name part : List ℕ) (to : Option Text) (a b c : Option Files) → SetsFile name [] a b → (IsSome a → to ≡ Some name) → AppendsFile to b c part → SetsFile name part a c
set_appended name part to None b c s named h = tt
set_appended name part to (Some f) None c s named h = absurd s
set_appended name part None (Some f) (Some g) c s named h = absurd (let e = named refl in cc)
set_appended name part (Some t) (Some f) (Some g) c s named h =
    let same : t ≡ name = (let e = named refl in cc) in
    let there : IfSome (g name) (λ bytes. SetsFile name (bytes ++ part) (Some g) c) = subst (λ (n : Text). IfSome (g n) (λ bytes. SetsFile n (bytes ++ part) (Some g) c)) same h in
    appended_all name part f (g name) g c s.0 s.1 there

-- a prefix was written, and then the file was closed
pub part_set : (name bytes : List ℕ) (to : Option Text) (a b c d : Option Files) → SetsFile name [] a b → (IsSome a → to ≡ Some name) → AppendsFilePrefix to b c bytes → KeepsFiles c d → SetsPart name bytes a d
part_set name bytes to a b c d s named (part, begins, h) k = inr (part, begins, SetsFile-kept name part a c d (set_appended name part to a b c s named h) k)

-- the whole file was written, and then closed
pub whole_set : (name bytes : List ℕ) (to : Option Text) (a b c d : Option Files) → SetsFile name [] a b → (IsSome a → to ≡ Some name) → AppendsFile to b c bytes → KeepsFiles c d → SetsFile name bytes a d
whole_set name bytes to a b c d s named h k = SetsFile-kept name bytes a c d (set_appended name bytes to a b c s named h) k

-- a file that was set whole was set in part
pub whole_is_part : (name bytes : List ℕ) (a b : Option Files) → SetsFile name bytes a b → SetsPart name bytes a b
whole_is_part name bytes a b s = inr (bytes, ([], sym (append-nil bytes)), s)

-- after `create` failed
pub none_set : (name bytes : List ℕ) (a b : Option Files) → KeepsFiles a b ⊎ SetsFile name [] a b → SetsPart name bytes a b
none_set name bytes a b (inl k) = inl k
none_set name bytes a b (inr s) = inr ([], (bytes, refl), s)

-- what holds at an error holds as well where it holds always
pub on_err : {T E : Type 0} {P : Type 0} (r : Result T E) → P → OnErr r P
on_err (Ok x) p = tt
on_err (Err e) p = p
