use Rattle.std.proofs.Common.{IsTrue, Ok, sym, subst}
use Rattle.native_slots.specs.Effects.{accepts}
use Rattle.native_slots.proofs.Promising.{promised}
use Rattle.trace_tool.proofs.Accepted.{accepted_settling_comes}
use Rattle.trace_tool.proofs.Preparing.{carried-as, carried-failed, carried-of, carried-writes}
use Rattle.trace_tool.proofs.Claims.{settling-prepared}
use Rattle.trace_tool.proofs.settling_runs.run_settling.Goals as goal

pub carry_out-requires : goal.carry_out-requires
carry_out-requires g c = c.prepare_settling_run-prepared.ensures.may

pub returns-clause-written : goal.returns-clause-written
returns-clause-written g c = carried-writes (carried-of (rw c.standard.ensures at c.prepare_settling_run-prepared.ensures) c.carry_out.ensures) c.sent.ensures.status

pub returns-clause-accepted : goal.returns-clause-accepted
returns-clause-accepted g c =
    λ loaded read events accepts.
    carried-writes (carried-as (λ end comes. accepted_settling_comes accepts comes) (carried-of (rw c.standard.ensures at c.prepare_settling_run-prepared.ensures) c.carry_out.ensures)) c.sent.ensures.status

pub returns-clause-failed : goal.returns-clause-failed
returns-clause-failed g c = carried-failed c.carry_out.ensures c.sent.ensures.status c.sent.ensures.writing

pub returns-clause-arguments : goal.returns-clause-arguments
returns-clause-arguments g c =
    λ loaded read events accepted.
    (settling-prepared c.prepare_settling_run-prepared.ensures c.stacks_are_shallow.ensures c.args.natives c.args.steps
    (λ fits.
    promised (λ slot. slot.head) _ c.args.natives.slots.items loaded fits
    (λ slot arguments reads v h ret.
    slot.within ret.first ret.second (Ok v)
    (subst (λ xs. IsTrue (accepts slot.head.effects ret.first.now xs)) (sym ret.shows.1)
    (subst (λ xs. IsTrue (accepts slot.head.effects xs reads)) (sym ret.shows.0) h))
    ret.says.met))
    accepted).arguments

pub returns-clause-acyclic : goal.returns-clause-acyclic
returns-clause-acyclic g c =
    λ loaded read events accepted.
    (settling-prepared c.prepare_settling_run-prepared.ensures c.stacks_are_shallow.ensures c.args.natives c.args.steps
    (λ fits.
    promised (λ slot. slot.head) _ c.args.natives.slots.items loaded fits
    (λ slot arguments reads v h ret.
    slot.within ret.first ret.second (Ok v)
    (subst (λ xs. IsTrue (accepts slot.head.effects ret.first.now xs)) (sym ret.shows.1)
    (subst (λ xs. IsTrue (accepts slot.head.effects xs reads)) (sym ret.shows.0) h))
    ret.says.met))
    accepted).acyclic

pub returns-clause-spared : goal.returns-clause-spared
returns-clause-spared g c =
    λ loaded read events accepted.
    (settling-prepared c.prepare_settling_run-prepared.ensures c.stacks_are_shallow.ensures c.args.natives c.args.steps
    (λ fits.
    promised (λ slot. slot.head) _ c.args.natives.slots.items loaded fits
    (λ slot arguments reads v h ret.
    slot.within ret.first ret.second (Ok v)
    (subst (λ xs. IsTrue (accepts slot.head.effects ret.first.now xs)) (sym ret.shows.1)
    (subst (λ xs. IsTrue (accepts slot.head.effects xs reads)) (sym ret.shows.0) h))
    ret.says.met))
    accepted).spared

pub returns-clause-shallow : goal.returns-clause-shallow
returns-clause-shallow g c =
    λ loaded read events accepted.
    (settling-prepared c.prepare_settling_run-prepared.ensures c.stacks_are_shallow.ensures c.args.natives c.args.steps
    (λ fits.
    promised (λ slot. slot.head) _ c.args.natives.slots.items loaded fits
    (λ slot arguments reads v h ret.
    slot.within ret.first ret.second (Ok v)
    (subst (λ xs. IsTrue (accepts slot.head.effects ret.first.now xs)) (sym ret.shows.1)
    (subst (λ xs. IsTrue (accepts slot.head.effects xs reads)) (sym ret.shows.0) h))
    ret.says.met))
    accepted).shallow

pub returns-clause-typed : goal.returns-clause-typed
returns-clause-typed g c =
    λ loaded read events accepted.
    (settling-prepared c.prepare_settling_run-prepared.ensures c.stacks_are_shallow.ensures c.args.natives c.args.steps
    (λ fits.
    promised (λ slot. slot.head) _ c.args.natives.slots.items loaded fits
    (λ slot arguments reads v h ret.
    slot.within ret.first ret.second (Ok v)
    (subst (λ xs. IsTrue (accepts slot.head.effects ret.first.now xs)) (sym ret.shows.1)
    (subst (λ xs. IsTrue (accepts slot.head.effects xs reads)) (sym ret.shows.0) h))
    ret.says.met))
    accepted).typed

pub returns-clause-settled : goal.returns-clause-settled
returns-clause-settled g c =
    λ loaded read events accepted.
    (settling-prepared c.prepare_settling_run-prepared.ensures c.stacks_are_shallow.ensures c.args.natives c.args.steps
    (λ fits.
    promised (λ slot. slot.head) _ c.args.natives.slots.items loaded fits
    (λ slot arguments reads v h ret.
    slot.within ret.first ret.second (Ok v)
    (subst (λ xs. IsTrue (accepts slot.head.effects ret.first.now xs)) (sym ret.shows.1)
    (subst (λ xs. IsTrue (accepts slot.head.effects xs reads)) (sym ret.shows.0) h))
    ret.says.met))
    accepted).settled

pub returns-clause-carries : goal.returns-clause-carries
returns-clause-carries g c =
    λ loaded read events accepted.
    (settling-prepared c.prepare_settling_run-prepared.ensures c.stacks_are_shallow.ensures c.args.natives c.args.steps
    (λ fits.
    promised (λ slot. slot.head) _ c.args.natives.slots.items loaded fits
    (λ slot arguments reads v h ret.
    slot.within ret.first ret.second (Ok v)
    (subst (λ xs. IsTrue (accepts slot.head.effects ret.first.now xs)) (sym ret.shows.1)
    (subst (λ xs. IsTrue (accepts slot.head.effects xs reads)) (sym ret.shows.0) h))
    ret.says.met))
    accepted).carries

pub returns-clause-changes : goal.returns-clause-changes
returns-clause-changes g c =
    λ loaded read events accepted.
    (settling-prepared c.prepare_settling_run-prepared.ensures c.stacks_are_shallow.ensures c.args.natives c.args.steps
    (λ fits.
    promised (λ slot. slot.head) _ c.args.natives.slots.items loaded fits
    (λ slot arguments reads v h ret.
    slot.within ret.first ret.second (Ok v)
    (subst (λ xs. IsTrue (accepts slot.head.effects ret.first.now xs)) (sym ret.shows.1)
    (subst (λ xs. IsTrue (accepts slot.head.effects xs reads)) (sym ret.shows.0) h))
    ret.says.met))
    accepted).changes

pub returns-clause-stops : goal.returns-clause-stops
returns-clause-stops g c =
    λ loaded read events accepted.
    (settling-prepared c.prepare_settling_run-prepared.ensures c.stacks_are_shallow.ensures c.args.natives c.args.steps
    (λ fits.
    promised (λ slot. slot.head) _ c.args.natives.slots.items loaded fits
    (λ slot arguments reads v h ret.
    slot.within ret.first ret.second (Ok v)
    (subst (λ xs. IsTrue (accepts slot.head.effects ret.first.now xs)) (sym ret.shows.1)
    (subst (λ xs. IsTrue (accepts slot.head.effects xs reads)) (sym ret.shows.0) h))
    ret.says.met))
    accepted).stops
