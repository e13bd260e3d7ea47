use Rattle.sx_dump.proofs.rooms.TrieRooms+Vec+u64.owned.Goals as goal

pub returns : goal.returns
returns c = λ i. record {
  left_directory = c.owned-left.ensures.directory i;
  left_groups = c.owned-left.ensures.groups i;
  left_places = c.owned-left.ensures.places i;
  skip_directory = c.owned-skip.ensures.directory i;
  skip_groups = c.owned-skip.ensures.groups i;
  skip_places = c.owned-skip.ensures.places i;
  top = c.new-top.ensures i;
}
