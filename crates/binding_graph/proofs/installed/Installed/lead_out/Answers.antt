use Rattle.std.proofs.Common.{sym, ◌∙◌}
use Rattle.binding_graph.specs.Bindings.{leads_out}
use Rattle.binding_graph.proofs.Slots.{hit-at, passed-at}
use Rattle.binding_graph.proofs.installed.Installed.lead_out.Goals as goal

pub returns-then-leads_out_at : goal.returns-then-leads_out_at
returns-then-leads_out_at c =
    sym (hit-at (leads_out c.args.objects.now) c.args.self.now.slots.items c.loop-slot.slot c.leads_out_at.result c.leads_out_at.ensures c.if-leads_out_at.true)

pub loop-slot-preserved : goal.loop-slot-preserved
loop-slot-preserved c =
    passed-at (leads_out c.args.objects.now) c.args.self.now.slots.items c.loop-slot.slot c.leads_out_at.result c.leads_out_at.ensures c.if-leads_out_at.false
    ∙ c.loop-slot.invariant
