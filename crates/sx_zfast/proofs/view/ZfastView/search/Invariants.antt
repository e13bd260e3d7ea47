use Rattle.std.proofs.Common.{◌≡◌, ◌-◌, ◌<◌, ◌≤◌, length}
use Rattle.std.specs.List.{slice_index}
use Rattle.sx_bits.specs.Views.{bits_of}
use Rattle.sx_zfast.specs.Maps.{map_read, numbers_read}
use Rattle.sx_zfast.proofs.SearchTurns.{IsLeft}
use Rattle.sx_zfast.proofs.view.ZfastView.search.Given as goal

abbrev pub invariant-loop-at : goal.invariant-loop-at
invariant-loop-at g l = record {
  inside : l.at.node < l.self.delimiters - 1;
  extent : l.at.extent ≡ slice_index (numbers_read l.self.extents) l.at.node;
  limit : l.limit ≤ length (bits_of l.view);
  counted : l.initial.steps ≤ l.steps;
  left : IsLeft (map_read l.self.map l.signing.seed l.signing.sig_bits) (numbers_read l.self.extents) (bits_of l.view) l.initial.steps l.at.node l.limit l.steps;
}

abbrev pub decreases-loop-at : goal.decreases-loop-at
decreases-loop-at g l = l.limit - l.at.extent
