use Rattle.type_check.proofs.Methods.{method_here, no_method, body_typed, typed_body, no_body}
use Rattle.type_check.proofs.Judging.{untyped_statement}
use Rattle.type_check.proofs.members.method_flaw.Goals as goal

pub returns-in_default : goal.returns-in_default
returns-in_default c = no_method c.args.meta.now c.requires.sound c.args.class c.args.method c.in_default.ensures.value c.requires.own

pub returns-in_default-work : goal.returns-in_default-work
returns-in_default-work c =
    (method_here c.args.meta.now c.requires.sound c.args.class c.args.method _ c.in-Some.ensures.value c.requires.own).0
    (no_body c.args.meta.now c.args.class _ _ c.in_default-work.not-Slot)

pub returns-in-Break : goal.returns-in-Break
returns-in-Break c =
    let h = rw c.in-Break.is at c.in_ok-flaw.ensures in (
      λ all. h.0 (typed_body c.args.meta.now c.requires.sound c.args.class c.args.method _ _ _ _ c.in-Some.ensures.value c.requires.own c.in-Slot.is c.as_slice-2.ensures c.as_slice.ensures all),
      untyped_statement c.args.meta.now c.args.class c.args.method _ c.in-Some.ensures.value _ _ _ c.in-Slot.is c.as_slice-2.ensures c.as_slice.ensures c.in-Break.flaw.statement h.1,
    )

pub returns-in-Continue : goal.returns-in-Continue
returns-in-Continue c =
    let h = rw c.in-Continue.is at c.in_ok-flaw.ensures in
    body_typed c.args.meta.now c.requires.sound c.args.class c.args.method _ _ _ _ c.in-Some.ensures.value c.requires.own c.in-Slot.is c.as_slice-2.ensures c.as_slice.ensures h.0
