use Rattle.std.proofs.Common.{ℕ, Bool, sym, ap, ◌∙◌}
use Rattle.std.specs.Prelude.{if◌then◌else◌}
use Rattle.sx_spec_kinds.specs.Trie.{leaves_at, block_at_exit}
use Rattle.sx_trie.specs.Tries.{place_of}
use Rattle.sx_trie.proofs.tries.Trie.block.Goals as goal

pub returns-then-e : goal.returns-then-e
unfolding block_at_exit
returns-then-e c =
    let both = leaves_at c.args.self.now.nodes (place_of c.args.e.now.place) in
    ap (λ (t : ℕ × ℕ). t.1) c.leaves-first.ensures ∙ sym (ap (λ (b : Bool). if b then both.1 else both.0) c.if-e.true)

pub returns-else-e : goal.returns-else-e
unfolding block_at_exit
returns-else-e c =
    let both = leaves_at c.args.self.now.nodes (place_of c.args.e.now.place) in
    ap (λ (t : ℕ × ℕ). t.0) c.leaves-first.ensures ∙ sym (ap (λ (b : Bool). if b then both.1 else both.0) c.if-e.false)
