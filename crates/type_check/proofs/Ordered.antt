-- The node of an inherited method stands after that of the class that declares it.
use Rattle.std.proofs.Common.{◌≡◌, ℕ, zero, suc, ◌+◌, ◌<◌, ◌≤◌, inl, inr, List, [], ◌∷◌, length, get_or, map, take, slice_get, Some, refl, sym, ap, ◌∙◌, subst, arith}
use Rattle.std.specs.Option.{option_map}
use Rattle.std.proofs.lemmas.List.{length-append}
use Rattle.std.proofs.lemmas.Option.{slice_get-map, slice_get_within, slice_get_read}
use Rattle.meta_model.specs.declared.object.MetaMethod.{MetaMethod}
use Rattle.meta_model.specs.Loaded.{Loaded}
use Rattle.meta_model.specs.Members.{IsMethod, Below, same}
use Rattle.meta_model.specs.Sound.{IsSound}
use Rattle.effect_scan.specs.declared.node.Node.{Node}
use Rattle.effect_scan.specs.declared.node.Member.{Member}
use Rattle.effect_scan.specs.declared.node.Member.TheVariants.{Method, Property, Destruction}
use Rattle.effect_scan.specs.declared.numbering.Shape.{Shape}
use Rattle.effect_scan.specs.Nodes.{node, shape_of, class_nodes, nodes_from, nodes_of, IsAt}
use Rattle.effect_scan.specs.Numbering.{IsPlaceIn}
use Rattle.effect_scan.proofs.Numbered.{stands, stands_only, stands_after, stands_among, place_low}
use Rattle.type_check.specs.Typed.{IsTypedMethod, IsTypedMember, IsTypedNode, IsTypedHere, AreTypedNodes, IsUntypedNode}
use Rattle.type_check.proofs.Firsts.{HaveBefore, have_all}
use Rattle.type_check.proofs.Methods.{below_low, member_here}

-- the nodes of a later class begin later
starts_rise : (n : ℕ) (shapes : List Shape) (i j : ℕ) → i ≤ j → length (nodes_from n (take i shapes)) ≤ length (nodes_from n (take j shapes))
starts_rise n [] zero zero low = omega arith
starts_rise n [] zero (suc j) low = omega arith
starts_rise n [] (suc i) zero low = omega arith
starts_rise n [] (suc i) (suc j) low = omega arith
starts_rise n (s ∷ ss) zero j low = omega arith
starts_rise n (s ∷ ss) (suc i) zero low = absurd (omega arith)
starts_rise n (s ∷ ss) (suc i) (suc j) low =
    let rest = starts_rise (suc n) ss i j (omega arith) in
    let left = length-append (class_nodes n s) (nodes_from (suc n) (take i ss)) in
    let right = length-append (class_nodes n s) (nodes_from (suc n) (take j ss)) in
    omega arith

-- a method has one place among the nodes of each class that has it
place_in_base : (s t : Shape) (m place : ℕ) → IsPlaceIn s (Method m) place → m < t.methods → IsPlaceIn t (Method m) place
place_in_base s t m place (inl first) inside = inl first
place_in_base s t m place (inr later) inside = inr (later.0, inside, later.2)

module _ (p : Loaded) (sound : IsSound p) where
  pub earlier : (c d m k : ℕ) (method : MetaMethod) → IsAt (nodes_of p) (node c (Method m)) k → Below p c d → IsMethod p d m method → (j : ℕ) × (j ≤ k) × IsAt (nodes_of p) (node d (Method m)) j
  earlier c d m k method at below is =
      let shapes = map shape_of p.classes in
      let among = stands_among 0 shapes k (node c (Method m)) at in
      let only = stands_only (0 + among.number) among.shape among.place (node c (Method m)) among.stands in
      let number : among.number ≡ c = omega (arith, only.0) in
      let shape = shape_of is.class in
      let here : slice_get shapes d ≡ Some shape = slice_get-map shape_of p.classes d ∙ ap (option_map shape_of) is.is_class.is in
      let inside : m < length is.class.methods = slice_get_within is.class.methods m method is.is in
      let placed : IsPlaceIn shape (Method m) among.place = place_in_base among.shape shape m among.place only.1 inside in
      let low : among.place < length (class_nodes (0 + d) shape) = place_low (0 + d) shape (Method m) among.place placed in
      let zeroed : 0 + d ≡ d = omega arith in
      let order : d ≤ among.number = subst (λ (n : ℕ). d ≤ n) (sym number) (below_low p sound c d below) in
      let rise = starts_rise 0 shapes d among.number order in
      let place = among.at in (
        length (nodes_from 0 (take d shapes)) + among.place,
        omega arith,
        stands_after 0 shapes d shape among.place here low ∙ stands (0 + d) shape (Method m) among.place placed ∙ ap (λ (n : ℕ). Some (node n (Method m))) zeroed,
      )

  -- where all earlier nodes are typed by themselves, inherited methods are typed too
  method_typed : (n k : ℕ) → HaveBefore (IsTypedHere p) (nodes_of p) n → k < n → (c m : ℕ) → IsAt (nodes_of p) (node c (Method m)) k → IsTypedMethod p c m
  method_typed n k before low c m at d method below declares is =
      let first = earlier c d m k method at below is in
      let order = first.1 in
      let inside : first.0 < n = omega arith in
      before first.0 inside (node d (Method m)) first.2 declares d method (same is.is_class) declares is

  inherited : (n k : ℕ) → HaveBefore (IsTypedHere p) (nodes_of p) n → k < n → (c : ℕ) (x : Member) → IsAt (nodes_of p) (node c x) k → IsTypedMember p c x
  inherited n k before low c (Method m) at = method_typed n k before low c m at
  inherited n k before low c (Property q) at = before k low (node c (Property q)) at
  inherited n k before low c Destruction at = tt

  pub typed_before : (n : ℕ) → HaveBefore (IsTypedHere p) (nodes_of p) n → HaveBefore (IsTypedNode p) (nodes_of p) n
  typed_before n before k low x at = inherited n k before low x.class x.member at

  module _ (xs : List Node) (are : xs ≡ nodes_of p) where
    pub all_nodes : (i : ℕ) → HaveBefore (IsTypedHere p) xs i → length xs ≤ i → AreTypedNodes p
    all_nodes i before past =
        have_all (IsTypedNode p) (nodes_of p) i (typed_before i (subst (λ (l : List Node). HaveBefore (IsTypedHere p) l i) are before)) (subst (λ (l : List Node). length l ≤ i) are past)

    pub first_node : (i : ℕ) (x : Node) → HaveBefore (IsTypedHere p) xs i → i < length xs → x ≡ get_or xs i x → ¬ IsTypedHere p x → IsUntypedNode p x
    first_node i x before inside is not = record {
      number = i;
      first = record {
        is = subst (λ (l : List Node). slice_get l i ≡ Some x) are (slice_get_read xs (length xs) i x refl inside is);
        lacks = λ typed. not (member_here p x.class x.member typed);
        before = λ k y low e. typed_before i (subst (λ (l : List Node). HaveBefore (IsTypedHere p) l i) are before) k low y e;
      };
    }
