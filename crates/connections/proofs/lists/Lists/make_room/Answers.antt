use Rattle.std.proofs.Common.{inl, refl, ◌∙◌}
use Rattle.connections.proofs.lists.Lists.make_room.Goals as goal

pub returns-in_err-make_room-clause-kept : goal.returns-in_err-make_room-clause-kept
returns-in_err-make_room-clause-kept c = λ cells. record { all = inl c.reserve.ensures.items; by_signal = λ s g. inl (c.make_room.ensures.lists (s, g)); by_object = λ o. inl refl }

pub returns-in_err-make_room-2-clause-kept : goal.returns-in_err-make_room-2-clause-kept
returns-in_err-make_room-2-clause-kept c = λ cells. record { all = inl c.reserve.ensures.items; by_signal = λ s g. inl (c.make_room.ensures.lists (s, g)); by_object = λ o. inl (c.make_room-2.ensures.lists o) }

pub returns-in_err-make_room-3-clause-kept : goal.returns-in_err-make_room-3-clause-kept
returns-in_err-make_room-3-clause-kept c = λ cells. record { all = inl c.reserve.ensures.items; by_signal = λ s g. inl (c.make_room.ensures.lists (s, g)); by_object = λ o. inl (c.make_room-3.ensures.lists o ∙ c.make_room-2.ensures.lists o) }

pub returns-clause-kept : goal.returns-clause-kept
returns-clause-kept c = λ cells. record { all = inl c.reserve.ensures.items; by_signal = λ s g. inl (c.make_room.ensures.lists (s, g)); by_object = λ o. inl (c.make_room-3.ensures.lists o ∙ c.make_room-2.ensures.lists o) }

pub returns-clause-rooms : goal.returns-clause-rooms
returns-clause-rooms c = record {
  all = c.in_ok-reserve.ensures.room;
  signal = rw (← c.number.ensures) c.in_ok-make_room.ensures.room;
  sender = rw (← c.number-2.ensures) (c.in_ok-make_room-3.ensures.others c.number-2.result c.in_ok-make_room-2.ensures.room);
  receiver = rw (← c.number-3.ensures) c.in_ok-make_room-3.ensures.room;
}
