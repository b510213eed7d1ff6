use Rattle.std.proofs.lemmas.Result.{IfOk-weaker}
use Rattle.settled_runs.proofs.Claiming.{settling-claims}
use Rattle.settled_runs.proofs.machine.settling_machine.Goals as goal

pub unchecked-requires-clause-promises : goal.unchecked-requires-clause-promises
unchecked-requires-clause-promises g c = rw c.into_meta.ensures c.requires.promises

pub returns-clause-arguments : goal.returns-clause-arguments
returns-clause-arguments g c =
    IfOk-weaker c.unchecked.result _ _
    (λ machine is. (settling-claims g.M.Natives.Answering.takes g.M.Natives.Answering.gives c.stacks_are_shallow.ensures (rw c.meta.ensures.value at c.classes.ensures.sound) c.meta.ensures.valid c.requires.promises c.into_meta.ensures is).arguments)
    c.unchecked.ensures

pub returns-clause-acyclic : goal.returns-clause-acyclic
returns-clause-acyclic g c =
    IfOk-weaker c.unchecked.result _ _
    (λ machine is. (settling-claims g.M.Natives.Answering.takes g.M.Natives.Answering.gives c.stacks_are_shallow.ensures (rw c.meta.ensures.value at c.classes.ensures.sound) c.meta.ensures.valid c.requires.promises c.into_meta.ensures is).acyclic)
    c.unchecked.ensures

pub returns-clause-spared : goal.returns-clause-spared
returns-clause-spared g c =
    IfOk-weaker c.unchecked.result _ _
    (λ machine is. (settling-claims g.M.Natives.Answering.takes g.M.Natives.Answering.gives c.stacks_are_shallow.ensures (rw c.meta.ensures.value at c.classes.ensures.sound) c.meta.ensures.valid c.requires.promises c.into_meta.ensures is).spared)
    c.unchecked.ensures

pub returns-clause-shallow : goal.returns-clause-shallow
returns-clause-shallow g c =
    IfOk-weaker c.unchecked.result _ _
    (λ machine is. (settling-claims g.M.Natives.Answering.takes g.M.Natives.Answering.gives c.stacks_are_shallow.ensures (rw c.meta.ensures.value at c.classes.ensures.sound) c.meta.ensures.valid c.requires.promises c.into_meta.ensures is).shallow)
    c.unchecked.ensures

pub returns-clause-typed : goal.returns-clause-typed
returns-clause-typed g c =
    IfOk-weaker c.unchecked.result _ _
    (λ machine is. (settling-claims g.M.Natives.Answering.takes g.M.Natives.Answering.gives c.stacks_are_shallow.ensures (rw c.meta.ensures.value at c.classes.ensures.sound) c.meta.ensures.valid c.requires.promises c.into_meta.ensures is).typed)
    c.unchecked.ensures

pub returns-clause-settled : goal.returns-clause-settled
returns-clause-settled g c =
    IfOk-weaker c.unchecked.result _ _
    (λ machine is. (settling-claims g.M.Natives.Answering.takes g.M.Natives.Answering.gives c.stacks_are_shallow.ensures (rw c.meta.ensures.value at c.classes.ensures.sound) c.meta.ensures.valid c.requires.promises c.into_meta.ensures is).settled)
    c.unchecked.ensures

pub returns-clause-carries : goal.returns-clause-carries
returns-clause-carries g c =
    IfOk-weaker c.unchecked.result _ _
    (λ machine is. (settling-claims g.M.Natives.Answering.takes g.M.Natives.Answering.gives c.stacks_are_shallow.ensures (rw c.meta.ensures.value at c.classes.ensures.sound) c.meta.ensures.valid c.requires.promises c.into_meta.ensures is).carries)
    c.unchecked.ensures

pub returns-clause-changes : goal.returns-clause-changes
returns-clause-changes g c =
    IfOk-weaker c.unchecked.result _ _
    (λ machine is. (settling-claims g.M.Natives.Answering.takes g.M.Natives.Answering.gives c.stacks_are_shallow.ensures (rw c.meta.ensures.value at c.classes.ensures.sound) c.meta.ensures.valid c.requires.promises c.into_meta.ensures is).changes)
    c.unchecked.ensures

pub returns-clause-stops : goal.returns-clause-stops
returns-clause-stops g c =
    IfOk-weaker c.unchecked.result _ _
    (λ machine is. (settling-claims g.M.Natives.Answering.takes g.M.Natives.Answering.gives c.stacks_are_shallow.ensures (rw c.meta.ensures.value at c.classes.ensures.sound) c.meta.ensures.valid c.requires.promises c.into_meta.ensures is).stops)
    c.unchecked.ensures
