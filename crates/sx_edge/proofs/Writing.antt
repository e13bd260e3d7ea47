-- What a loop over writes has written so far, to a sink and to a file.
use Rattle.std.proofs.Common.{◌≡◌, ℕ, ◌-◌, List, ◌++◌, Option, length, take, drop, sym, ap, ◌∙◌, append_assoc, take-append-drop}
use Rattle.std.proofs.lemmas.List.{take_rest}
use Rattle.std.specs.Io.KnownBytes.{Appends}
use Rattle.std.proofs.KnownBytes.{Appends-trans}
use Rattle.sx_spec.specs.Command.{Text}
use Rattle.sx_spec.specs.World.{Files}
use Rattle.sx_edge.specs.Shelf.{AppendsFile}
use Rattle.sx_edge.proofs.Files.{AppendsFile-trans}

-- a part of all the bytes was written, and the rest was not
pub record Wrote (before now : Option (List ℕ)) (all rest : List ℕ) : Type 0 where
  pub part : List ℕ
  pub split : all ≡ part ++ rest
  pub appended : Appends before now part

moves_front : (all part rest : List ℕ) (n : ℕ) → all ≡ part ++ rest → all ≡ (part ++ take n rest) ++ take (length rest - n) (drop n rest)
moves_front all part rest n e =
    e ∙ ap (λ l. part ++ l) (sym (take-append-drop n rest)) ∙ sym (append_assoc part (take n rest) (drop n rest)) ∙ ap (λ l. (part ++ take n rest) ++ l) (sym (take_rest rest n))

pub wrote_more : {a b : Option (List ℕ)} {all rest : List ℕ} (c : Option (List ℕ)) (n : ℕ) → Wrote a b all rest → Appends b c (take n rest) → Wrote a c all (take (length rest - n) (drop n rest))
wrote_more {a} {b} {all} {rest} c n w more = record {
  part = w.part ++ take n rest;
  split = moves_front all w.part rest n w.split;
  appended = Appends-trans a b c w.part (take n rest) w.appended more;
}

-- ---- the same of a file

pub record WroteFile (to : Option Text) (before now : Option Files) (all rest : List ℕ) : Type 0 where
  pub part : List ℕ
  pub split : all ≡ part ++ rest
  pub appended : AppendsFile to before now part

pub wrote_file_more : {to : Option Text} {a b : Option Files} {all rest : List ℕ} (c : Option Files) (n : ℕ) → WroteFile to a b all rest → AppendsFile to b c (take n rest) → WroteFile to a c all (take (length rest - n) (drop n rest))
wrote_file_more {to} {a} {b} {all} {rest} c n w more = record {
  part = w.part ++ take n rest;
  split = moves_front all w.part rest n w.split;
  appended = AppendsFile-trans to a b c w.part (take n rest) w.appended more;
}
