use Rattle.std.proofs.Common.{◌∙◌}
use Rattle.sx_dump.proofs.rooms.TrieRooms+Vec+u64.lent.Goals as goal

pub returns : goal.returns
returns c = λ i. record {
  left_directory = c.lent-left.ensures.directory i;
  left_groups = c.lent-left.ensures.groups i;
  left_places = c.lent-left.ensures.places i;
  skip_directory = c.lent-skip.ensures.directory i;
  skip_groups = c.lent-skip.ensures.groups i;
  skip_places = c.lent-skip.ensures.places i;
  top = (c.new-top.ensures ∙ c.deref.ensures.value) i;
}
