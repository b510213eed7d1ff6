use Rattle.connections.proofs.adding.make_rooms.Goals as goal

pub returns-clause-kept : goal.returns-clause-kept
returns-clause-kept c = record {
  in_cells = c.reserve.ensures.rest_kept;
  in_lists = c.make_room.ensures.kept c.reserve.new.self;
  in_marked = c.reserve-2.ensures.items;
  many_marked = c.reserve-2.ensures.len;
  room = c.reserve-2.ensures.capacity;
}
