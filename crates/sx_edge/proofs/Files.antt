-- Files that stay, that are made and that grow, one step after the other.
use Rattle.std.proofs.Common.{◌≡◌, ℕ, List, [], ◌++◌, Option, Some, None, IfSome, IsSome, refl, sym, ap, ◌∙◌, subst, append_assoc, append-nil}
use Rattle.sx_spec.specs.Command.{Text}
use Rattle.sx_spec.specs.World.{Files, KeepsFiles, SetsFile}
use Rattle.sx_edge.specs.Shelf.{AppendsFile}

pub SetsFile-kept : (name : Text) (bytes : List ℕ) (a b c : Option Files) → SetsFile name bytes a b → KeepsFiles b c → SetsFile name bytes a c
SetsFile-kept name bytes None b c p q = tt
SetsFile-kept name bytes (Some f) None c p q = absurd p
SetsFile-kept name bytes (Some f) (Some g) None p q = absurd q
SetsFile-kept name bytes (Some f) (Some g) (Some h) p q = (q name ∙ p.0, λ other ne. q other ∙ p.1 other ne)

pub SetsFile-after_kept : (name : Text) (bytes : List ℕ) (a b c : Option Files) → KeepsFiles a b → SetsFile name bytes b c → SetsFile name bytes a c
SetsFile-after_kept name bytes None b c p q = tt
SetsFile-after_kept name bytes (Some f) None c p q = absurd p
SetsFile-after_kept name bytes (Some f) (Some g) None p q = absurd q
SetsFile-after_kept name bytes (Some f) (Some g) (Some h) p q = (q.0, λ other ne. q.1 other ne ∙ p other)

-- a file that was set and is set again
pub SetsFile-again : (name : Text) (bytes more : List ℕ) (a b c : Option Files) → SetsFile name bytes a b → SetsFile name more b c → SetsFile name more a c
SetsFile-again name bytes more None b c p q = tt
SetsFile-again name bytes more (Some f) None c p q = absurd p
SetsFile-again name bytes more (Some f) (Some g) None p q = absurd q
SetsFile-again name bytes more (Some f) (Some g) (Some h) p q = (q.0, λ other ne. q.1 other ne ∙ p.1 other ne)

-- ---- a file that grows

grows_by_none : (f : Files) (name : Text) (o : Option (List ℕ)) → f name ≡ o → IfSome o (λ bytes. SetsFile name (bytes ++ []) (Some f) (Some f))
grows_by_none f name None e = tt
grows_by_none f name (Some bytes) e = (e ∙ ap (λ (l : List ℕ). Some l) (sym (append-nil bytes)), λ other ne. refl)

pub AppendsFile-nil : (to : Option Text) (a : Option Files) → AppendsFile to a a []
AppendsFile-nil None a = tt
AppendsFile-nil (Some name) None = tt
AppendsFile-nil (Some name) (Some f) = grows_by_none f name (f name) refl

-- a file with these bytes, which grows
grown : (name : Text) (bytes more : List ℕ) (g : Files) (c : Option Files) → g name ≡ Some bytes → AppendsFile (Some name) (Some g) c more → SetsFile name (bytes ++ more) (Some g) c
grown name bytes more g c is p = subst (λ o. IfSome o (λ (l : List ℕ). SetsFile name (l ++ more) (Some g) c)) is p

grows_twice : (name : Text) (o : Option (List ℕ)) (f : Files) (b c : Option Files) (part more : List ℕ) → IfSome o (λ bytes. SetsFile name (bytes ++ part) (Some f) b) → AppendsFile (Some name) b c more → IfSome o (λ bytes. SetsFile name (bytes ++ (part ++ more)) (Some f) c)
grows_twice name None f b c part more p q = tt
grows_twice name (Some bytes) f None c part more p q = absurd p
grows_twice name (Some bytes) f (Some g) c part more p q =
    rw (← append_assoc bytes part more) (SetsFile-again name (bytes ++ part) ((bytes ++ part) ++ more) (Some f) (Some g) c p (grown name (bytes ++ part) more g c p.0 q))

pub AppendsFile-trans : (to : Option Text) (a b c : Option Files) (part more : List ℕ) → AppendsFile to a b part → AppendsFile to b c more → AppendsFile to a c (part ++ more)
AppendsFile-trans None a b c part more p q = tt
AppendsFile-trans (Some name) None b c part more p q = tt
AppendsFile-trans (Some name) (Some f) b c part more p q = grows_twice name (f name) f b c part more p q

grown_kept : (name : Text) (o : Option (List ℕ)) (f : Files) (b c : Option Files) (part : List ℕ) → IfSome o (λ bytes. SetsFile name (bytes ++ part) (Some f) b) → KeepsFiles b c → IfSome o (λ bytes. SetsFile name (bytes ++ part) (Some f) c)
grown_kept name None f b c part p q = tt
grown_kept name (Some bytes) f b c part p q = SetsFile-kept name (bytes ++ part) (Some f) b c p q

pub AppendsFile-kept : (to : Option Text) (a b c : Option Files) (part : List ℕ) → AppendsFile to a b part → KeepsFiles b c → AppendsFile to a c part
AppendsFile-kept None a b c part p q = tt
AppendsFile-kept (Some name) None b c part p q = tt
AppendsFile-kept (Some name) (Some f) b c part p q = grown_kept name (f name) f b c part p q

-- a file that was made and then written has just what was written
pub written_file : (name : Text) (to : Option Text) (a b c : Option Files) (bytes : List ℕ) → SetsFile name [] a b → (IsSome a → to ≡ Some name) → AppendsFile to b c bytes → SetsFile name bytes a c
written_file name to None b c bytes made named p = tt
written_file name to (Some f) None c bytes made named p = absurd made
written_file name to (Some f) (Some g) c bytes made named p =
    SetsFile-again name [] bytes (Some f) (Some g) c made (grown name [] bytes g c made.0 (subst (λ o. AppendsFile o (Some g) c bytes) (named refl) p))
