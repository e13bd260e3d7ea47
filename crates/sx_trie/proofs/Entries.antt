-- The entries of a trie as its nodes and names.
use Rattle.std.proofs.Common.{◌≡◌, ℕ, ◌<◌, List, length, get_or, sym, ap, ◌∙◌}
use Rattle.std.specs.Prelude.{map}
use Rattle.std.proofs.lemmas.List.{get_or-map}
use Rattle.sx_trie.specs.declared.nodes.Entry.{Entry}

-- the name of the entry that is read at i
pub name_of_entry : (es : List Entry) (i : ℕ) (e : Entry) → i < length es → e ≡ get_or es i e → get_or (map (λ (e : Entry). e.name) es) i 0 ≡ e.name
name_of_entry es i e lt read = get_or-map (λ (e : Entry). e.name) es i e 0 lt ∙ ap (λ (e : Entry). e.name) (sym read)
