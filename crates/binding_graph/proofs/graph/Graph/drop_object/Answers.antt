use Rattle.std.proofs.Common.{◌≡◌, ◌∙◌, ℕ, Bool, true, false, not, eqb, List, inl, inr, refl, ap, sym}
use Rattle.std.proofs.lemmas.Bool.{cases_Bool, eqb-true, false≢true}
use Rattle.binding_graph.specs.declared.place.Place.{Place}
use Rattle.binding_graph.specs.declared.binding.Binding.{Binding}
use Rattle.binding_graph.specs.Bindings.{binding_at, touches}
use Rattle.binding_graph.specs.code.Graph.{bindings_of}
use Rattle.binding_graph.specs.code.Keys.{key_of}
use Rattle.binding_graph.specs.code.Lists.{has, is_key_in}
use Rattle.binding_graph.proofs.Dropping.{none-dropped}
use Rattle.binding_graph.proofs.Members.{cleared-kept}
use Rattle.binding_graph.proofs.graph.Graph.drop_object.Goals as goal

not-true : (b : Bool) → not b ≡ true → b ≡ false
not-true true h = sym h
not-true false h = refl

pub remove_touching-requires-clause-indexed : goal.remove_touching-requires-clause-indexed
remove_touching-requires-clause-indexed c = record {
  keyed = c.requires.keyed;
  apart = c.requires.apart;
  ranks = c.requires.ranks;
  readers = c.requires.readers;
}

pub remove_touching-requires-clause-touched : goal.remove_touching-requires-clause-touched
remove_touching-requires-clause-touched c = λ q b o some t passes.
    cleared-kept eqb eqb-true (has eqb c.args.self.now.touching.by_object) (has eqb c.take.new.self.by_object) c.args.object (key_of q) c.take.ensures.left o (key_of q) (not-true (eqb c.args.object o) passes) (c.requires.touched q b o some t refl)

pub remove_touching-requires-clause-listed : goal.remove_touching-requires-clause-listed
remove_touching-requires-clause-listed c = λ q b some t.
    ap (is_key_in (key_of q)) (c.as_slice.ensures ∙ c.in-Some.ensures.taken) ∙ c.requires.touched q b c.args.object some t refl

pub returns-in-None-clause-left : goal.returns-in-None-clause-left
returns-in-None-clause-left c =
    sym (none-dropped c.args.object (bindings_of c.args.self.now) false c.requires.apart (λ q b some t. ap (is_key_in (key_of q)) c.in-None.ensures.taken ∙ c.requires.touched q b c.args.object some t refl) refl)

pub returns-in-None-clause-graph : goal.returns-in-None-clause-graph
returns-in-None-clause-graph c = record {
  keyed = c.requires.keyed;
  apart = c.requires.apart;
  ranks = c.requires.ranks;
  readers = c.requires.readers;
  touched = λ q b o some t passes. elim (cases_Bool (eqb c.args.object o)) [
    | inl e ↦
        let own : touches c.args.object b ≡ true = ap (λ (k : ℕ). touches k b) (eqb-true c.args.object o e) ∙ t in
        absurd (false≢true (ap (is_key_in (key_of q)) c.in-None.ensures.taken ∙ c.requires.touched q b c.args.object some own refl))
    | inr f ↦ cleared-kept eqb eqb-true (has eqb c.args.self.now.touching.by_object) (has eqb c.take.new.self.by_object) c.args.object (key_of q) c.in-None.ensures.left o (key_of q) f (c.requires.touched q b o some t refl)
  ];
}
