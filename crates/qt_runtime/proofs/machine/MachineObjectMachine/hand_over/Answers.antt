use Rattle.std.proofs.Common.{List, sym, ap, ◌∙◌, subst}
use Rattle.trace_entries.specs.declared.entry.Entry.{Entry}
use Rattle.object_machine.specs.Checked.{IsChecked}
use Rattle.object_machine.specs.Seen.{Seen, cleared}
use Rattle.qt_runtime.proofs.Checking.{cleared-checked}
use Rattle.qt_runtime.proofs.Prefixes.{invariant-with}
use Rattle.qt_runtime.proofs.Halting.{seen}
use Rattle.qt_runtime.proofs.machine.MachineObjectMachine.hand_over.Goals as goal

pub invariant_of-self : goal.invariant_of-self
invariant_of-self g c = invariant-with c.replace.new.dest c.self.invariant

pub returns-clause-cleared : goal.returns-clause-cleared
returns-clause-cleared g c =
    let inside = c.self.inside in
    let tracing : List Entry → Seen _ = λ trace. seen inside.interpreter.context.meta inside.interpreter.natives inside.interpreter.context.depth (record inside.world { trace = trace }) inside.stopped in
    ap tracing (c.replace.ensures.after ∙ c.requires) ∙ ap (λ (m : Seen _). cleared m) c.self.view_is

pub returns-clause-checked : goal.returns-clause-checked
returns-clause-checked g c checked =
    let inside = c.self.inside in
    let gives = g.N.Answering.gives in
    let tracing : List Entry → Seen _ = λ trace. seen inside.interpreter.context.meta inside.interpreter.natives inside.interpreter.context.depth (record inside.world { trace = trace }) inside.stopped in
    let same = ap tracing (c.replace.ensures.after ∙ c.requires) ∙ ap (λ (m : Seen _). cleared m) c.self.view_is in
    subst (λ (m : Seen _). IsChecked gives m) (sym same) (cleared-checked gives c.args.self.now checked)
