use Rattle.std.proofs.Common.{◌≡◌, ◌∙◌, ℕ, true, false, not, eqb, Option, None, Some, refl, ap, sym, subst}
use Rattle.std.proofs.lemmas.Bool.{false≢true}
use Rattle.binding_graph.specs.declared.place.Place.{Place}
use Rattle.binding_graph.specs.declared.binding.Binding.{Binding}
use Rattle.binding_graph.specs.Bindings.{binding_at, dropped}
use Rattle.binding_graph.specs.code.Graph.{bindings_of, touches_too}
use Rattle.binding_graph.proofs.Dropping.{dropped-bound}
use Rattle.binding_graph.proofs.Graphs.{removed-away, removed-fewer, removed-touched}
use Rattle.binding_graph.proofs.graph.Graph.remove_if_touching.Goals as goal

pub is_touching-requires : goal.is_touching-requires
is_touching-requires c = c.requires.indexed.keyed

pub returns-clause-left : goal.returns-clause-left
returns-clause-left c =
    ap (dropped c.args.object) c.remove_bound.ensures.left
    ∙ dropped-bound c.args.object (bindings_of c.args.self.now) c.args.place.now c.requires.indexed.apart (sym c.is_touching.ensures ∙ c.if-not-is_touching.false)

pub returns-clause-touched : goal.returns-clause-touched
returns-clause-touched c =
    removed-touched c.args.self.now c.remove_bound.new.self c.args.place.now c.remove_bound.ensures.left (λ o. not (eqb c.args.object o)) c.remove_bound.ensures.touched c.requires.touched

pub returns-clause-gone : goal.returns-clause-gone
returns-clause-gone c = λ q b some t.
    (removed-fewer c.args.self.now c.remove_bound.new.self c.args.place.now c.remove_bound.ensures.left q b some, removed-away c.args.self.now c.remove_bound.new.self c.args.place.now c.remove_bound.ensures.left q b some)

pub returns-then-not-is_touching-clause-gone : goal.returns-then-not-is_touching-clause-gone
returns-then-not-is_touching-clause-gone c = λ q b some t. (
  some,
  λ e.
      let here : binding_at (bindings_of c.args.self.now) c.args.place.now ≡ Some b = ap (binding_at (bindings_of c.args.self.now)) e ∙ some in
      false≢true (sym (sym c.is_touching.ensures ∙ c.if-not-is_touching.true) ∙ ap (λ (there : Option Binding). touches_too there c.args.object) here ∙ t),
)
