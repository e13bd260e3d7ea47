-- Links as numbers in flat lists, and the links between seats that they stand for.
use Rattle.std.specs.Prelude.{◌≡◌, ◌+◌, ◌/◌, ◌%◌, ◌^◌, ◌<◌, ℕ, zero, suc, List, length, map, take, drop, Option, Some, None}
use Rattle.sx_links.specs.declared.Seat.{Seat}
use Rattle.sx_links.specs.declared.places.Neighbours.{Neighbours}
use Rattle.sx_links.specs.Chains.{Net, IsNet, walks}

-- the seat of a link, or None where it leads to the head of a list
abbrev pub seat_at : ℕ → ℕ → Option Seat
seat_at hooks zero = None
seat_at hooks (suc place) = Some (record { item = place / hooks; hook = place % hooks })

-- where the neighbours stand of what a link of a list leads to
abbrev pub place_at : ℕ → ℕ → ℕ
place_at zero head = head
place_at (suc place) head = place

-- the list of an owner, or None for no owner
abbrev pub owner_list : ℕ → Option ℕ
owner_list zero = None
owner_list (suc list) = Some list

-- the links to what stands before
abbrev pub befores_of : List Neighbours → List ℕ
befores_of neighbours = map (λ n. n.before) neighbours

-- the links to what stands after
abbrev pub afters_of : List Neighbours → List ℕ
afters_of neighbours = map (λ n. n.after) neighbours

-- links to the head of a list on both sides
abbrev pub lone : Neighbours
lone = record { before = 0; after = 0 }

-- the links as numbers: those of all seats, and behind them those of the head of each list
pub record FlatNet : Type 0 where
  pub hooks : ℕ
  pub lens : List ℕ
  pub owners : List ℕ
  pub befores : List ℕ
  pub afters : List ℕ

abbrev pub flat_of : ℕ → List ℕ → List ℕ → List Neighbours → FlatNet
flat_of hooks lens owners neighbours = record {
  hooks = hooks;
  lens = lens;
  owners = owners;
  befores = befores_of neighbours;
  afters = afters_of neighbours;
}

-- the links between seats
abbrev pub net_of : FlatNet → Net
net_of flat = record {
  hooks = flat.hooks;
  firsts = map (seat_at flat.hooks) (drop (length flat.owners) flat.afters);
  lens = flat.lens;
  owners = map owner_list flat.owners;
  befores = map (seat_at flat.hooks) (take (length flat.owners) flat.befores);
  afters = map (seat_at flat.hooks) (take (length flat.owners) flat.afters);
}

-- the seats of each list
abbrev pub lists_of : FlatNet → List (List Seat)
lists_of flat = walks (net_of flat).hooks (net_of flat).afters (net_of flat).firsts (net_of flat).lens

-- the numbers are those of lists, and each seat and each head has its two
pub record IsFlatNet (items : ℕ) (flat : FlatNet) : Type 0 where
  pub net : IsNet items (net_of flat)
  pub befores : length flat.befores ≡ length flat.owners + length flat.lens
  pub afters : length flat.afters ≡ length flat.owners + length flat.lens
  pub few : length flat.lens < 2 ^ 32
