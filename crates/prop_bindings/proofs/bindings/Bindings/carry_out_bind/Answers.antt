use Rattle.std.proofs.Common.{◌≡◌, ◌∙◌, List, ap, refl, sym, subst}
use Rattle.binding_graph.specs.declared.place.Place.{Place}
use Rattle.binding_graph.specs.declared.binding.Binding.{Binding}
use Rattle.binding_graph.specs.Bindings.{binding_at, replaced}
use Rattle.prop_bindings.specs.Counts.{Kept}
use Rattle.binding_graph.specs.code.Graph.{bindings_of}
use Rattle.binding_graph.specs.code.Orders.{IsLater}
use Rattle.prop_bindings.proofs.Short.{on-err}
use Rattle.prop_bindings.proofs.bindings.Bindings.carry_out_bind.Goals as goal

pub install-requires-clause-later : goal.install-requires-clause-later
install-requires-clause-later c =
    let read : bindings_of c.make_room.new.self ≡ c.args.self.now.installed = c.make_room.ensures.same ∙ ap (λ (k : Kept). k.installed) c.self.view_is in
    subst (λ (ps : List Place). IsLater (binding_at (bindings_of c.make_room.new.self)) (binding_at (replaced (bindings_of c.make_room.new.self) c.args.planned.reader)) c.args.planned.reader.target ps) (sym c.deref.ensures.value)
    (subst (λ (bs : List Binding). IsLater (binding_at bs) (binding_at (replaced bs c.args.planned.reader)) c.args.planned.reader.target c.args.planned.moved.items) (sym read) c.requires.may.later)

pub returns-clause-installed : goal.returns-clause-installed
returns-clause-installed c =
    let read : bindings_of c.make_room.new.self ≡ c.args.self.now.installed = c.make_room.ensures.same ∙ ap (λ (k : Kept). k.installed) c.self.view_is in
    c.install.ensures.replaced ∙ ap (λ (bs : List Binding). replaced bs c.args.planned.reader) read

pub returns-in_err-make_room-clause-err : goal.returns-in_err-make_room-clause-err
returns-in_err-make_room-clause-err c =
    let one : List Binding → Kept = λ bs. record { installed = bs; evaluated = c.self.inside.evaluated } in
    on-err c.from_residual.result (ap one c.make_room.ensures.same ∙ c.self.view_is, refl)
