-- A node has one place, and a name is that of one node.
use Rattle.std.{proofs.Common.{◌≡◌, inl, inr, ℕ, zero, suc, ◌+◌, ◌<◌, List, [], ◌∷◌, length, map, take, slice_get, Option, Some, None, refl, sym, ap, ◌∙◌, subst, arith}, specs.Option.{option_map}, proofs.lemmas.List.{length-append}, proofs.lemmas.Option.{slice_get-map, same_Some, none-some}}
use Rattle.meta_model.{specs.declared.object.MetaMethod.{MetaMethod}, specs.declared.object.MetaObject.{MetaObject}, specs.Loaded.{Loaded}, specs.Members.{IsClass}, specs.Root.{root_methods}, specs.Sound.{IsSound, IsSoundClass}, proofs.OneAnswer.{one_class}}
use Rattle.effect_scan.{specs.declared.node.Node.{Node}, specs.declared.node.Member.{Member}, specs.declared.numbering.Shape.{Shape}, specs.Nodes.{node, shape_of, nodes_from, nodes_of, IsAt}, specs.Numbering.{IsPlaceIn}, specs.Laws.{IsNode}, proofs.Numbered.{stands_among, stands_only, one_place}, proofs.Whole.{made}}
use Rattle.effect_scan.specs.declared.node.Member.TheVariants as member
use Rattle.certificate_lang.specs.declared.certificate.NodeName.{NodeName}
use Rattle.rank_check.{specs.Names.{IsMemberNamed, IsNodeNamed}, proofs.Named.{one_member}}
use Rattle.rank_make.specs.Solved.{HasMember}

module _ (p : Loaded) where
  -- where a node stands: in its class, at the place of its member
  record Place (x : Node) (n : ℕ) : Type 0 where
    shape : Shape
    is : slice_get (map shape_of p.classes) x.class ≡ Some shape
    place : ℕ
    at : n ≡ length (nodes_from 0 (take x.class (map shape_of p.classes))) + place
    placed : IsPlaceIn shape x.member place

  place_in : (x : Node) (n : ℕ) → IsAt (nodes_of p) x n → Place x n
  place_in x n at =
      let among = stands_among 0 (map shape_of p.classes) n x at in
      let only = stands_only (0 + among.number) among.shape among.place x among.stands in
      let number : among.number ≡ x.class = omega (arith, only.0) in
      record {
        shape = among.shape;
        is = subst (λ (k : ℕ). slice_get (map shape_of p.classes) k ≡ Some among.shape) number among.is;
        place = among.place;
        at = subst (λ (k : ℕ). n ≡ length (nodes_from 0 (take k (map shape_of p.classes))) + among.place) number among.at;
        placed = only.1;
      }

  -- a node appears once
  pub one_number : (x : Node) (n m : ℕ) → IsAt (nodes_of p) x n → IsAt (nodes_of p) x m → n ≡ m
  one_number x n m h g =
      let a = place_in x n h in
      let b = place_in x m g in
      let shape : b.shape ≡ a.shape = same_Some b.shape a.shape (sym b.is ∙ a.is) in
      let place : a.place ≡ b.place = one_place a.shape x.member a.place b.place a.placed (subst (λ (s : Shape). IsPlaceIn s x.member b.place) shape b.placed) in
      let first = a.at in
      let second = b.at in
      omega arith

  pub one_at : (x y : Node) (n : ℕ) → IsAt (nodes_of p) x n → IsAt (nodes_of p) y n → x ≡ y
  one_at x y n h g = same_Some x y (sym h ∙ g)

  -- the class of a node, and its shape
  class_at : (o : Option MetaObject) (shape : Shape) → option_map shape_of o ≡ Some shape → (class : MetaObject) × (o ≡ Some class) × (shape_of class ≡ shape)
  class_at None shape e = absurd (none-some shape e)
  class_at (Some class) shape e = (class, refl, same_Some (shape_of class) shape e)

  pub class_of : (x : Node) → IsNode p x → (class : MetaObject) × IsClass p x.class class
  class_of x is =
      let h = place_in x is.0 is.1 in
      let c = class_at (slice_get p.classes x.class) h.shape (sym (slice_get-map shape_of p.classes x.class) ∙ h.is) in
      (c.0, record { is = c.1 })

  -- a class has `destroyed(QObject*)` at least
  some_method : (c : ℕ) (class : MetaObject) → IsSoundClass p c class → 0 < length class.methods
  some_method c class sound =
      let begins = sound.begins in
      let count = ap (λ (ms : List MetaMethod). length ms) begins.methods in
      let sum = length-append root_methods begins.own_methods in
      omega arith

  element : {X : Type 0} (xs : List X) (k : ℕ) → k < length xs → (x : X) × (slice_get xs k ≡ Some x)
  element [] k h = absurd (omega arith)
  element (x ∷ xs) zero h = (x, refl)
  element (x ∷ xs) (suc k) h = element xs k (omega arith)

  member_of : (class : MetaObject) (m : Member) (k : ℕ) → 0 < length class.methods → IsPlaceIn (shape_of class) m k → HasMember class m
  member_of class (member.Method m) k some (inl first) = element class.methods m (omega (arith, first.0))
  member_of class (member.Method m) k some (inr later) = element class.methods m (omega (arith, later.1))
  member_of class (member.Property q) k some h = element class.properties q (omega (arith, h.0))
  member_of class member.Destruction k some h = tt

  pub has_member : (x : Node) → IsNode p x → (class : MetaObject) → IsClass p x.class class → IsSoundClass p x.class class → HasMember class x.member
  has_member x is class is_class sound =
      let h = place_in x is.0 is.1 in
      let c = class_at (slice_get p.classes x.class) h.shape (sym (slice_get-map shape_of p.classes x.class) ∙ h.is) in
      let same : c.0 ≡ class = same_Some c.0 class (sym c.1 ∙ is_class.is) in
      let shape : h.shape ≡ shape_of class = sym c.2 ∙ ap shape_of same in
      member_of class x.member h.place (some_method x.class class sound) (subst (λ (s : Shape). IsPlaceIn s x.member h.place) shape h.placed)

  module _ (sound : IsSound p) where
    -- ---- names
    pub one_name : (name : NodeName) (x y : Node) → IsNodeNamed p name x → IsNodeNamed p name y → x ≡ y
    one_name name x y h g =
        let class : y.class ≡ x.class = one_class p sound name.class x.class y.class h.class g.class in
        let here = subst (λ (c : ℕ). IsMemberNamed p c name.member y.member) class g.member in
        let member : x.member ≡ y.member = one_member p sound x.class name.member x.member y.member h.member here in
        sym (made x x.class x.member refl refl) ∙ ap (λ (m : Member). node x.class m) member ∙ made y x.class y.member class refl
