use Rattle.std.specs.Prelude.{◌≡◌, take}
use Rattle.sx_spec.specs.Keys.{AreKeys, standard_limits}
use Rattle.sux_c.specs.KeyFaults.{lines_of}
use Rattle.sux_c.proofs.keys.list_of.Given as goal

abbrev pub invariant-keys : goal.invariant-keys
invariant-keys l = record {
  limits : l.list.limits ≡ standard_limits;
  lines : l.list.lines ≡ lines_of (take l.key-index l.keys);
  valid : AreKeys standard_limits l.list.lines;
}
