use Rattle.std.proofs.lemmas.Result.{IfOk-weaker}
use Rattle.qt_runtime.proofs.Checking.{begun-checked, begun-claims}
use Rattle.qt_runtime.proofs.machine.MachineObjectMachine.checked.Goals as goal

pub unchecked-requires-clause-promises : goal.unchecked-requires-clause-promises
unchecked-requires-clause-promises g c = rw c.into_meta.ensures c.requires.promises

pub returns-clause-checked : goal.returns-clause-checked
returns-clause-checked g c =
    IfOk-weaker c.unchecked.result _ _
    (λ machine is. begun-checked g.N.Answering.gives c.into_meta.ensures c.bound-depth.ensures.value c.bound-depth.ensures.valid is)
    c.unchecked.ensures

pub returns-clause-arguments : goal.returns-clause-arguments
returns-clause-arguments g c =
    IfOk-weaker c.unchecked.result _ _
    (λ machine is. (begun-claims g.N.Answering.takes g.N.Answering.gives (rw c.meta.ensures.value at c.classes.ensures.sound) c.requires.promises c.into_meta.ensures c.bound-depth.ensures.value c.bound-depth.ensures.valid is).arguments)
    c.unchecked.ensures

pub returns-clause-acyclic : goal.returns-clause-acyclic
returns-clause-acyclic g c =
    IfOk-weaker c.unchecked.result _ _
    (λ machine is. (begun-claims g.N.Answering.takes g.N.Answering.gives (rw c.meta.ensures.value at c.classes.ensures.sound) c.requires.promises c.into_meta.ensures c.bound-depth.ensures.value c.bound-depth.ensures.valid is).acyclic)
    c.unchecked.ensures

pub returns-clause-spared : goal.returns-clause-spared
returns-clause-spared g c =
    IfOk-weaker c.unchecked.result _ _
    (λ machine is. (begun-claims g.N.Answering.takes g.N.Answering.gives (rw c.meta.ensures.value at c.classes.ensures.sound) c.requires.promises c.into_meta.ensures c.bound-depth.ensures.value c.bound-depth.ensures.valid is).spared)
    c.unchecked.ensures

pub returns-clause-shallow : goal.returns-clause-shallow
returns-clause-shallow g c =
    IfOk-weaker c.unchecked.result _ _
    (λ machine is. (begun-claims g.N.Answering.takes g.N.Answering.gives (rw c.meta.ensures.value at c.classes.ensures.sound) c.requires.promises c.into_meta.ensures c.bound-depth.ensures.value c.bound-depth.ensures.valid is).shallow)
    c.unchecked.ensures

pub returns-clause-typed : goal.returns-clause-typed
returns-clause-typed g c =
    IfOk-weaker c.unchecked.result _ _
    (λ machine is. (begun-claims g.N.Answering.takes g.N.Answering.gives (rw c.meta.ensures.value at c.classes.ensures.sound) c.requires.promises c.into_meta.ensures c.bound-depth.ensures.value c.bound-depth.ensures.valid is).typed)
    c.unchecked.ensures

pub returns-clause-settled : goal.returns-clause-settled
returns-clause-settled g c =
    IfOk-weaker c.unchecked.result _ _
    (λ machine is. (begun-claims g.N.Answering.takes g.N.Answering.gives (rw c.meta.ensures.value at c.classes.ensures.sound) c.requires.promises c.into_meta.ensures c.bound-depth.ensures.value c.bound-depth.ensures.valid is).settled)
    c.unchecked.ensures
