use Rattle.std.proofs.Common.{◌≡◌, List, inr, refl, ap}
use Rattle.binding_graph.specs.declared.place.Place.{Place}
use Rattle.binding_graph.specs.Bindings.{without}
use Rattle.prop_bindings.specs.Changes.{one}
use Rattle.prop_bindings.specs.Plans.{after}
use Rattle.machine_state.specs.Telling.{Alone}
use Rattle.machine_state.specs.code.Changing.{noted}
use Rattle.machine_state.proofs.Bound.{has-written, written-agrees, noted-over}
use Rattle.trace_entries.specs.declared.entry.Entry.{Entry}
use Rattle.machine_state.proofs.Changed.{written-ahead}
use Rattle.machine_state.proofs.Trying.{tries-not}
use Rattle.machine_state.proofs.world.World.write_followed.Goals as goal

pub note-requires : goal.note-requires
note-requires c =
    let store = c.args.self.now.store in
    record { can = written-ahead c.args.meta.now store.tree store.bindings (one c.args.place.now c.args.value) c.in_ok-planned.planned.planned c.requires.agree (c.in_ok-planned.ensures.fits, tt) c.in_ok-planned.ensures.ok.will }

pub returns-clause-value : goal.returns-clause-value
returns-clause-value c =
    let w = c.args.self.now in
    let plan = c.in_ok-planned.planned.planned in
    let target = c.in_ok-planned.planned.target in
    let lines = c.in_ok-note.ensures.ok.lines in
    let cs_are : without target w.store.bindings ≡ without c.args.place.now w.store.bindings = ap (λ (q : Place). without q w.store.bindings) c.in_ok-planned.ensures.ok.target in (
      c.in_ok-planned.ensures.fits,
      has-written c.args.meta.now (Alone c.args.place.now c.args.value) w c.carry_out.new.self plan (without target w.store.bindings) cs_are c.in_ok-planned.ensures.ok.will lines c.args.depth (noted w) c.carry_out.result c.in_ok-note.ensures.ok.told c.carry_out.ensures.changed
          (noted-over w c.carry_out.new.self (after plan w.store.tree) (without target w.store.bindings) lines c.note.new.trace c.in_ok-note.ensures.ok.are c.carry_out.ensures.world),
    )

pub returns-in_err-planned-clause-value : goal.returns-in_err-planned-clause-value
returns-in_err-planned-clause-value c =
    let w = c.args.self.now in
    tries-not c.args.meta.now c.args.depth c.args.place.now c.args.value w w refl c.from_residual.result c.in_err-planned.ensures.err c.from_residual.ensures.1

pub returns-in_err-note-clause-value : goal.returns-in_err-note-clause-value
returns-in_err-note-clause-value c =
    let w = c.args.self.now in
    tries-not c.args.meta.now c.args.depth c.args.place.now c.args.value w _
    (ap (λ (s : List Entry). record w { trace = s }) c.in_err-note.ensures.err)
    c.from_residual-in_err-note.result (inr refl) c.from_residual-in_err-note.ensures.1

pub returns-clause-agree : goal.returns-clause-agree
returns-clause-agree c =
    let w = c.args.self.now in
    let plan = c.in_ok-planned.planned.planned in
    let target = c.in_ok-planned.planned.target in
    let lines = c.in_ok-note.ensures.ok.lines in
    let cs_are : without target w.store.bindings ≡ without c.args.place.now w.store.bindings = ap (λ (q : Place). without q w.store.bindings) c.in_ok-planned.ensures.ok.target in
    written-agrees c.args.meta.now (Alone c.args.place.now c.args.value) w c.carry_out.new.self plan (without target w.store.bindings) cs_are c.in_ok-planned.ensures.ok.will lines (noted w lines)
    (noted-over w c.carry_out.new.self (after plan w.store.tree) (without target w.store.bindings) lines c.note.new.trace c.in_ok-note.ensures.ok.are c.carry_out.ensures.world)
