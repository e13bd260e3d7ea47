-- Files that stay, one step after the other: the laws of what is read from.
use Rattle.std.proofs.Common.{Option, Some, None, refl, ◌∙◌}
use Rattle.sx_spec.specs.World.{Files, KeepsFiles}

pub KeepsFiles-refl : (a : Option Files) → KeepsFiles a a
KeepsFiles-refl None = tt
KeepsFiles-refl (Some f) = λ name. refl

pub KeepsFiles-trans : (a b c : Option Files) → KeepsFiles a b → KeepsFiles b c → KeepsFiles a c
KeepsFiles-trans None b c p q = tt
KeepsFiles-trans (Some f) None c p q = absurd p
KeepsFiles-trans (Some f) (Some g) None p q = absurd q
KeepsFiles-trans (Some f) (Some g) (Some h) p q = λ name. q name ∙ p name
