use Rattle.std.proofs.Common.{sym, ◌∙◌}
use Rattle.edge_reasons.proofs.Drawing.{native_emits, native_sets}
use Rattle.edge_reasons.proofs.Undrawn.{no, native_class, native_emitted, native_set, native_spares}
use Rattle.edge_reasons.proofs.reasons.native_leads.Goals as goal

pub returns-then-to-class : goal.returns-then-to-class
returns-then-to-class c = no (λ h. c.if-to-class.true (native_class c.args.class c.args.native.now c.args.to h))

pub returns-in-Method : goal.returns-in-Method
returns-in-Method c = (
  λ h. native_emits c.args.class c.args.native.now c.args.to c.in-Method.signal c.as_slice.result.now (sym c.contains.ensures.value ∙ h) c.if-to-class.false c.as_slice.ensures c.in-Method.is,
  λ h. c.contains.ensures.value ∙ native_emitted c.args.class c.args.native.now c.args.to c.in-Method.signal c.as_slice.result.now c.as_slice.ensures c.in-Method.is h,
)

pub returns-in-Property : goal.returns-in-Property
returns-in-Property c = (
  λ h.
      native_sets c.args.class c.args.native.now c.args.to c.in-Property.property c.as_slice-in-Property.result.now (sym c.contains-in-Property.ensures.value ∙ h) c.if-to-class.false c.as_slice-in-Property.ensures c.in-Property.is,
  λ h.
      c.contains-in-Property.ensures.value
      ∙ native_set c.args.class c.args.native.now c.args.to c.in-Property.property c.as_slice-in-Property.result.now c.as_slice-in-Property.ensures c.in-Property.is h,
)

pub returns-in-Destruction : goal.returns-in-Destruction
returns-in-Destruction c = no (native_spares c.args.class c.args.native.now c.args.to c.in-Destruction.is)
