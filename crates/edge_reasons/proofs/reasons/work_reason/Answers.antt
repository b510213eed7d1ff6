use Rattle.edge_reasons.proofs.Drawing.{by_body, by_native}
use Rattle.edge_reasons.proofs.Undrawn.{no_method, no_signal, no_body, no_native}
use Rattle.edge_reasons.proofs.Seeking.{statement_draws}
use Rattle.edge_reasons.proofs.reasons.work_reason.Goals as goal

pub returns-in_default-clause-none : goal.returns-in_default-clause-none
returns-in_default-clause-none c = no_method c.args.meta.now c.args.from c.args.to c.args.method c.requires c.in_default.ensures.value

pub returns-in-Signal-clause-none : goal.returns-in-Signal-clause-none
returns-in-Signal-clause-none c = no_signal c.args.meta.now c.args.from c.args.to c.args.method c.requires _ c.in-Some.ensures.value c.in-Signal.is

pub returns-in-Continue-clause-none : goal.returns-in-Continue-clause-none
returns-in-Continue-clause-none c =
    no_body c.args.meta.now c.args.from c.args.to c.args.method c.requires _ c.in-Some.ensures.value _ _ _ c.in-Slot.is c.as_slice-in-Slot.ensures c.as_slice.ensures
    c.in-Continue.ensures.0

pub returns-in-Break-clause-draws : goal.returns-in-Break-clause-draws
returns-in-Break-clause-draws c = (
  by_body c.args.meta.now c.args.from c.args.to c.args.method _ c.in-Some.ensures.value c.requires _ _ _ c.in-Slot.is c.as_slice-in-Slot.ensures c.as_slice.ensures c.in-Break.ensures.0,
  statement_draws c.args.meta.now c.args.from c.args.to c.args.method _ c.in-Some.ensures.value c.requires _ _ _ c.in-Slot.is c.as_slice-in-Slot.ensures c.as_slice.ensures c.in-Break.number c.in-Break.ensures.1,
)

pub returns-then-native_leads-clause-draws : goal.returns-then-native_leads-clause-draws
returns-then-native_leads-clause-draws c = (
  by_native c.args.meta.now c.args.from c.args.to c.args.method _ c.in-Some.ensures.value c.requires _ c.in-Native.is (c.native_leads.ensures.0 c.if-native_leads.true),
  record { number = c.args.method; method = c.in-Some.found.now; is = c.in-Some.ensures.value; from = c.requires; effects = _; native = c.in-Native.is },
)

pub returns-else-native_leads-clause-none : goal.returns-else-native_leads-clause-none
returns-else-native_leads-clause-none c =
    no_native c.args.meta.now c.args.from c.args.to c.args.method c.requires _ c.in-Some.ensures.value _ c.in-Native.is
    (λ h. let on = c.native_leads.ensures.1 h in let off = c.if-native_leads.false in cc)
