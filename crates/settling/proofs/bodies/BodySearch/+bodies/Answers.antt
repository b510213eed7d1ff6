use Rattle.std.proofs.Common.{refl}
use Rattle.settling.proofs.Handing.{no, hands_more, hands_all, hands_at, hands_if, hands_chosen, hands_otherwise, hands_group, group_hands, hands_nothing, value_decides, group_decides, not_on}
use Rattle.settling.proofs.bodies.BodySearch.+bodies.Goals as goal

pub all_hand_on-returns-then-not-hands_on : goal.all_hand_on-returns-then-not-hands_on
all_hand_on-returns-then-not-hands_on t c =
    let s = c.args.self.now in
    no (λ all. not_on _ (c.hands_on.ensures.1 (hands_at s.meta.now s.class s.types.now s.to c.args.grouped c.args.body.now _ _ c.loop-statement-test.true c.statement-item.is all)) c.if-not-hands_on.true)

pub all_hand_on-loop-statement-preserved : goal.all_hand_on-loop-statement-preserved
all_hand_on-loop-statement-preserved t c =
    let s = c.args.self.now in
    hands_more s.meta.now s.class s.types.now s.to c.args.grouped c.args.body.now _ _ c.loop-statement-test.true c.statement-item.is c.loop-statement.invariant
    (c.hands_on.ensures.0 c.if-not-hands_on.false)

pub all_hand_on-returns : goal.all_hand_on-returns
all_hand_on-returns t c =
    let s = c.args.self.now in
    (λ h. hands_all s.meta.now s.class s.types.now s.to c.args.grouped c.args.body.now _ c.loop-statement-test.false c.loop-statement.invariant, λ all. refl)

pub hands_on-returns-then-not-all_hand_on : goal.hands_on-returns-then-not-all_hand_on
hands_on-returns-then-not-all_hand_on t c =
    let s = c.args.self.now in
    no (λ all. not_on _ (c.all_hand_on.ensures.1 (hands_chosen s.meta.now s.class s.types.now s.to c.args.statement.now _ _ _ _ _ c.in-If.is c.as_slice.ensures refl c.args.grouped all)) c.if-not-all_hand_on.true)

pub hands_on-returns-else-not-all_hand_on : goal.hands_on-returns-else-not-all_hand_on
hands_on-returns-else-not-all_hand_on t c =
    let s = c.args.self.now in (
      λ h. hands_if s.meta.now s.class s.types.now s.to c.args.statement.now _ _ _ _ _ c.in-If.is c.as_slice.ensures c.as_slice-in-If.ensures c.args.grouped
          (c.all_hand_on.ensures.0 c.if-not-all_hand_on.false) (c.all_hand_on-in-If.ensures.0 h),
      λ all. c.all_hand_on-in-If.ensures.1 (hands_otherwise s.meta.now s.class s.types.now s.to c.args.statement.now _ _ _ _ _ c.in-If.is refl c.as_slice-in-If.ensures c.args.grouped all),
    )

pub hands_on-returns-in-Group : goal.hands_on-returns-in-Group
hands_on-returns-in-Group t c =
    let s = c.args.self.now in (
      λ h. hands_group s.meta.now s.class s.types.now s.to c.args.statement.now _ _ c.in-Group.is c.as_slice-in-Group.ensures c.args.grouped (c.all_hand_on-in-Group.ensures.0 h),
      λ all. c.all_hand_on-in-Group.ensures.1 (group_hands s.meta.now s.class s.types.now s.to c.args.statement.now _ _ c.in-Group.is c.as_slice-in-Group.ensures c.args.grouped all),
    )

pub hands_on-returns-then-not-grouped : goal.hands_on-returns-then-not-grouped
hands_on-returns-then-not-grouped t c =
    let s = c.args.self.now in
    value_decides s.meta.now s.class s.types.now s.to c.args.grouped _ c.args.statement.now (c.in_default.not-If, c.in_default.not-Group) (c.is_done_by.ensures.0 c.if-is_done_by.true) c.if-not-grouped.true c.hands_value.ensures

pub hands_on-returns-else-not-grouped : goal.hands_on-returns-else-not-grouped
hands_on-returns-else-not-grouped t c =
    let s = c.args.self.now in
    group_decides s.meta.now s.class s.types.now s.to c.args.grouped c.args.statement.now (c.is_done_by.ensures.0 c.if-is_done_by.true) c.if-not-grouped.false

pub hands_on-returns-else-is_done_by : goal.hands_on-returns-else-is_done_by
hands_on-returns-else-is_done_by t c =
    let s = c.args.self.now in (
      λ h. hands_nothing s.meta.now s.class s.types.now s.to c.args.statement.now (c.in_default.not-If, c.in_default.not-Group) c.args.grouped
          (λ d. let on = c.is_done_by.ensures.1 d in let off = c.if-is_done_by.false in cc),
      λ all. refl,
    )
