use Rattle.std.proofs.Common.{◌≡◌, ℕ, List, sym, ◌∙◌, ap, ◌∷◌, [], ◌++◌, arith, ◌+◌, ◌<◌}
use Rattle.connections.specs.Connected.{Held}
use Rattle.std.specs.Vec.{vec_len}
use Rattle.connections.specs.code.Lists.{shown_in}
use Rattle.connections.specs.declared.connection.Connection.{Connection}
use Rattle.connections.proofs.Standing.{on_err_always}
use Rattle.connections.proofs.Added.{Tied-kept, Tied-put, shown-put, shown-kept}
use Rattle.connections.proofs.connections.Connections.append.Goals as goal

pub invariant_of-self : goal.invariant_of-self
invariant_of-self c =
    Tied-kept c.self.inside.cells c.make_rooms.new.cells c.self.inside.lists c.make_rooms.new.lists c.self.inside.marked c.make_rooms.new.marked c.make_rooms.ensures.kept c.self.inside.last c.self.invariant

pub invariant_of-self-2 : goal.invariant_of-self-2
invariant_of-self-2 c =
    let kept = Tied-kept c.self.inside.cells c.make_rooms.new.cells c.self.inside.lists c.make_rooms.new.lists c.self.inside.marked c.make_rooms.new.marked c.make_rooms.ensures.kept c.self.inside.last c.self.invariant in
    let n : c.args.connection.number ≡ c.self.inside.last + 1 = c.requires.number ∙ ap (λ (h : Held). h.connected.last + 1) (sym c.self.view_is) in
    let above : c.self.inside.last < c.args.connection.number = omega (arith, n) in
    Tied-put c.make_rooms.new.cells c.put.new.cells c.make_rooms.new.lists c.put.new.lists c.self.inside.last c.put.result c.args.connection c.put.ensures.cell above c.put.ensures.all c.put.ensures.signals c.put.ensures.objects kept.leads c.make_rooms.new.marked c.put.ensures.len c.in_ok-make_rooms.ensures.mark kept

pub returns-clause-made : goal.returns-clause-made
returns-clause-made c =
    let kept = Tied-kept c.self.inside.cells c.make_rooms.new.cells c.self.inside.lists c.make_rooms.new.lists c.self.inside.marked c.make_rooms.new.marked c.make_rooms.ensures.kept c.self.inside.last c.self.invariant in
    let n : c.args.connection.number ≡ c.self.inside.last + 1 = c.requires.number ∙ ap (λ (h : Held). h.connected.last + 1) (sym c.self.view_is) in
    let above : c.self.inside.last < c.args.connection.number = omega (arith, n) in
    shown-put c.make_rooms.new.cells c.put.new.cells c.make_rooms.new.lists c.put.new.lists c.self.inside.last c.put.result c.args.connection c.put.ensures.cell above c.put.ensures.all c.put.ensures.signals c.put.ensures.objects kept.leads
    ∙ ap (λ cs. cs ++ c.args.connection ∷ []) (shown-kept c.self.inside.cells c.make_rooms.new.cells c.self.inside.lists c.make_rooms.new.lists c.self.inside.marked c.make_rooms.new.marked c.make_rooms.ensures.kept)
    ∙ ap (λ (h : Held). h.connected.connections ++ c.args.connection ∷ []) c.self.view_is

pub returns-in_err-make_rooms-clause-err : goal.returns-in_err-make_rooms-clause-err
returns-in_err-make_rooms-clause-err c =
    let with : List Connection → ℕ → Held = λ cs n. record { connected = record { connections = cs; last = c.self.inside.last }; marked = n } in
    on_err_always c.from_residual.result
    (ap (λ (cs : List Connection). with cs (vec_len c.make_rooms.new.marked)) (shown-kept c.self.inside.cells c.make_rooms.new.cells c.self.inside.lists c.make_rooms.new.lists c.self.inside.marked c.make_rooms.new.marked c.make_rooms.ensures.kept)
    ∙ ap (λ (n : ℕ). with (shown_in c.self.inside.cells c.self.inside.lists) n) c.make_rooms.ensures.kept.many_marked
    ∙ c.self.view_is)
