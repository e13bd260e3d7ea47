-- A search asks a length beyond the longest extent: no node is accepted there, whatever is answered.
use Rattle.std.proofs.Common.{◌≡◌, ℕ, ◌-◌, ◌<◌, false, List, Option, take, refl, sym, ap, arith}
use Rattle.std.specs.Option.{is_some}
use Rattle.sx_spec_strings.specs.Bits.{Bits}
use Rattle.sx_spec_kinds.specs.Trie.{Node}
use Rattle.sx_spec_kinds.specs.Search.{reached}
use Rattle.sx_spec_kinds.specs.Zfast.{HandleMap, probed_node}
use Rattle.sx_zfast.specs.Largest.{largest}
use Rattle.sx_zfast.proofs.Longest.{reached_beyond}
use Rattle.sx_zfast.proofs.ProbeStages.{Asks, Probing, lens_in, probing_shorter}

pub probing_beyond : (m : HandleMap) (nodes : List Node) (x : Bits) (at limit extent f longest : ℕ) → Probing m nodes x at limit → Asks nodes x at limit extent f → longest ≡ largest (lens_in nodes) → longest < f → Probing m nodes x at (f - 1)
probing_beyond m nodes x at limit extent f longest h asks is beyond =
    let answer = probed_node m (take f x) in
    probing_shorter m nodes x at limit extent f answer h asks refl (reached_beyond (lens_in nodes) f answer (omega arith))

-- nothing there leads to a node
pub leads_nowhere : (nodes : List Node) (f longest : ℕ) (answer : Option ℕ) → longest ≡ largest (lens_in nodes) → longest < f → false ≡ is_some (reached (lens_in nodes) f answer)
leads_nowhere nodes f longest answer is beyond = sym (ap is_some (reached_beyond (lens_in nodes) f answer (omega arith)))
