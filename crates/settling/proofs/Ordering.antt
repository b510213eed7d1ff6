-- The order of nodes.
use Rattle.std.proofs.Common.{◌≡◌, inl, inr, ℕ, suc, ◌+◌, ◌≤◌, List, [], ◌∷◌, length, map, take, slice_get, Some, sym, ap, ◌∙◌, subst, arith}
use Rattle.std.proofs.lemmas.Option.{none-some, same_Some}
use Rattle.meta_model.specs.Loaded.{Loaded}
use Rattle.effect_scan.specs.declared.node.Node.{Node}
use Rattle.effect_scan.specs.declared.node.Member.TheVariants.{Property}
use Rattle.effect_scan.specs.declared.numbering.Shape.{Shape}
use Rattle.effect_scan.specs.Numbering.{IsPlaceIn}
use Rattle.effect_scan.specs.Nodes.{node, shape_of, class_nodes, nodes_from, nodes_of, IsAt}
use Rattle.effect_scan.proofs.Numbered.{get_either, StandsIn, stands_only, stands_among, listed}
use Rattle.settling.specs.declared.certificate.SettlingCertificate.{SettlingCertificate}
use Rattle.settling.specs.declared.standings.Standing.{Standing}
use Rattle.settling.specs.code.Standings.{AreStandings}
use Rattle.settling.specs.code.Spans.{AreInOrder}

-- no class before the first one
from_first : (c : ℕ) (shapes : List Shape) (n : ℕ) (x : Node) → slice_get (nodes_from c shapes) n ≡ Some x → c ≤ x.class
from_first c shapes n x at =
    let r = stands_among c shapes n x at in
    let s = stands_only (c + r.number) r.shape r.place x r.stands in
    omega (arith, s.0)

classes_rise : (c : ℕ) (shapes : List Shape) (n m : ℕ) (x y : Node) → slice_get (nodes_from c shapes) n ≡ Some x → slice_get (nodes_from c shapes) m ≡ Some y → n ≤ m → x.class ≤ y.class
classes_rise c [] n m x y at_n at_m low = absurd (none-some x at_n)
classes_rise c (s ∷ ss) n m x y at_n at_m low =
    elim (get_either (class_nodes c s) (nodes_from (suc c) ss) n x at_n) [
      | inl first ↦
          let is = stands_only c s n x first.1 in
          let least = from_first c (s ∷ ss) m y at_m in
          omega (arith, is.0, least)
      | inr rest ↦
          elim (get_either (class_nodes c s) (nodes_from (suc c) ss) m y at_m) [
            | inl early ↦ absurd (omega (arith, early.0, rest.1, low))
            | inr also ↦
                let behind : rest.0 ≤ also.0 = omega (arith, rest.1, also.1, low) in
                classes_rise (suc c) ss rest.0 also.0 x y rest.2 also.2 behind
          ]
    ]

-- what stands at a place of a class
place_there : (c : ℕ) (shape : Shape) (k : ℕ) (x : Node) → StandsIn c shape k x → IsPlaceIn shape x.member k
place_there c shape k x s = s.1

property_place : (shape : Shape) (q k : ℕ) → IsPlaceIn shape (Property q) k → k ≡ listed shape + q
property_place shape q k h = h.1

-- the place of a property
property_at : (shapes : List Shape) (n c q : ℕ) → slice_get (nodes_from 0 shapes) n ≡ Some (node c (Property q))
    → (shape : Shape) × (slice_get shapes c ≡ Some shape) × (n ≡ length (nodes_from 0 (take c shapes)) + (listed shape + q))
property_at shapes n c q at =
    let r = stands_among 0 shapes n (node c (Property q)) at in
    let s = stands_only (0 + r.number) r.shape r.place (node c (Property q)) r.stands in
    let class : r.number ≡ c = omega (arith, s.0) in
    let count = ap (λ (k : ℕ). length (nodes_from 0 (take k shapes))) class in
    let from = r.at in
    let place = property_place r.shape q r.place (place_there (0 + r.number) r.shape r.place (node c (Property q)) s) in
    (r.shape, subst (λ (k : ℕ). slice_get shapes k ≡ Some r.shape) class r.is, omega (arith, from, place, count))

property_once : (shapes : List Shape) (n m c q : ℕ) → slice_get (nodes_from 0 shapes) n ≡ Some (node c (Property q)) → slice_get (nodes_from 0 shapes) m ≡ Some (node c (Property q)) → n ≡ m
property_once shapes n m c q at_n at_m =
    let one = property_at shapes n c q at_n in
    let two = property_at shapes m c q at_m in
    let same : one.0 ≡ two.0 = same_Some _ _ (sym one.1 ∙ two.1) in
    let place = ap (λ (s : Shape). length (nodes_from 0 (take c shapes)) + (listed s + q)) same in
    one.2 ∙ place ∙ sym two.2

-- each stands at the number of its node
pub order_of : (p : Loaded) (standings : List Standing) → ((n : ℕ) (s : Standing) → slice_get standings n ≡ Some s → IsAt (nodes_of p) s.node n) → AreInOrder standings
order_of p standings each = record {
  rises = λ n m s t at_n at_m low. classes_rise 0 (map shape_of p.classes) n m s.node t.node (each n s at_n) (each m t at_m) low;
  once = λ n m c q s t at_n at_m is_n is_m.
      property_once (map shape_of p.classes) n m c q
      (subst (λ (x : Node). slice_get (nodes_from 0 (map shape_of p.classes)) n ≡ Some x) is_n (each n s at_n))
      (subst (λ (x : Node). slice_get (nodes_from 0 (map shape_of p.classes)) m ≡ Some x) is_m (each m t at_m));
}

pub in_order : (p : Loaded) (certificate : SettlingCertificate) (standings : List Standing) → AreStandings p certificate standings → AreInOrder standings
in_order p certificate standings are = order_of p standings (λ n s at. (are.each n s at).at)
