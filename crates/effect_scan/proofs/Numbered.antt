-- The places of nodes in the list of all nodes.
use Rattle.std.proofs.Common.{◌≡◌, ◌⊎◌, inl, inr, ℕ, zero, suc, ◌+◌, ◌-◌, ◌<◌, ◌≤◌, List, [], ◌∷◌, ◌++◌, length, get_or, map, take, slice_get, Some, None, Result, Ok, Err, refl, sym, ap, ◌∙◌, subst, arith, append_assoc}
use Rattle.std.specs.List.{range_with_len}
use Rattle.std.specs.Option.{option_map}
use Rattle.std.specs.Result.{OnOk}
use Rattle.std.proofs.lemmas.Bool.{cases_lt}
use Rattle.std.proofs.lemmas.List.{length-append, take_all, take_more, take-append-le, append-nil, map-append}
use Rattle.std.proofs.lemmas.List.FromFn.{get_or-range_with_len, length-range_with_len, length-map-range_with_len, map-range_with_len_more}
use Rattle.std.proofs.lemmas.Option.{slice_get_within, slice_get-get_or, slice_get-map, same_Some, none-some}
use Rattle.meta_model.specs.declared.qobject.TheConstants.{DESTROYED, OBJECT_NAME_CHANGED}
use Rattle.effect_scan.specs.declared.node.Node.{Node}
use Rattle.effect_scan.specs.declared.node.Member.{Member}
use Rattle.effect_scan.specs.declared.node.Member.TheVariants.{Method, Property, Destruction}
use Rattle.effect_scan.specs.declared.numbering.Shape.{Shape}
use Rattle.meta_model.specs.declared.object.MetaObject.{MetaObject}
use Rattle.effect_scan.specs.Nodes.{node, shape_of, method_nodes, property_nodes, class_nodes, nodes_from, IsAt}
use Rattle.effect_scan.specs.Numbering.{IsPlaceIn, Numbers}

-- ---- two lists, one after the other
pub get_left : {X : Type 0} (xs ys : List X) (k : ℕ) → k < length xs → slice_get (xs ++ ys) k ≡ slice_get xs k
get_left [] ys k inside = absurd (omega arith)
get_left (x ∷ xs) ys zero inside = refl
get_left (x ∷ xs) ys (suc k) inside = get_left xs ys k (omega arith)

pub get_right : {X : Type 0} (xs ys : List X) (j k : ℕ) → j ≡ length xs + k → slice_get (xs ++ ys) j ≡ slice_get ys k
get_right [] ys j k e = ap (slice_get ys) (omega arith)
get_right (x ∷ xs) ys zero k e = absurd (omega arith)
get_right (x ∷ xs) ys (suc j) k e = get_right xs ys j k (omega arith)

pub get_either : {X : Type 0} (xs ys : List X) (j : ℕ) (x : X) → slice_get (xs ++ ys) j ≡ Some x
    → ((j < length xs) × (slice_get xs j ≡ Some x)) ⊎ ((k : ℕ) × (j ≡ length xs + k) × (slice_get ys k ≡ Some x))
get_either xs ys j x e =
    elim (cases_lt j (length xs)) [
      | inl l ↦ inl (l, sym (get_left xs ys j l) ∙ e)
      | inr m ↦ let is : j ≡ length xs + (j - length xs) = omega arith in inr (j - length xs, is, sym (get_right xs ys j (j - length xs) is) ∙ e)
    ]

-- ---- a member for each number from a on
pub numbered_at : (f : ℕ → Node) (a n i : ℕ) → i < n → slice_get (map f (range_with_len a n)) i ≡ Some (f (a + i))
numbered_at f a n i inside =
    let within : i < length (range_with_len a n) = omega (arith, length-range_with_len a n) in
    slice_get-map f (range_with_len a n) i
    ∙ ap (option_map f) (slice_get-get_or (range_with_len a n) i 0 within ∙ ap (λ (k : ℕ). Some k) (get_or-range_with_len a n i 0 inside))

pub numbered_only : (f : ℕ → Node) (a n i : ℕ) (x : Node) → slice_get (map f (range_with_len a n)) i ≡ Some x → (i < n) × (x ≡ f (a + i))
numbered_only f a n i x e =
    let within = slice_get_within (map f (range_with_len a n)) i x e in
    let inside : i < n = omega (arith, length-map-range_with_len f a n) in
    (inside, same_Some _ _ (sym e ∙ numbered_at f a n i inside))

-- ---- the nodes of a class
abbrev pub listed : Shape → ℕ
listed shape = 1 + (shape.methods - OBJECT_NAME_CHANGED)

pub length-methods : (c : ℕ) (shape : Shape) → length (method_nodes c shape.methods) ≡ listed shape
length-methods c shape = let e = length-map-range_with_len (λ m. node c (Method m)) OBJECT_NAME_CHANGED (shape.methods - OBJECT_NAME_CHANGED) in omega arith

pub length-properties : (c : ℕ) (shape : Shape) → length (property_nodes c shape.properties) ≡ shape.properties
length-properties c shape = length-map-range_with_len (λ q. node c (Property q)) 0 shape.properties

pub length-members : (c : ℕ) (shape : Shape) → length (method_nodes c shape.methods ++ property_nodes c shape.properties) ≡ listed shape + shape.properties
length-members c shape =
    let sum = length-append (method_nodes c shape.methods) (property_nodes c shape.properties) in
    omega (arith, length-methods c shape, length-properties c shape)

pub length-class : (c : ℕ) (shape : Shape) → length (class_nodes c shape) ≡ listed shape + shape.properties + 1
length-class c shape =
    let sum = length-append (method_nodes c shape.methods ++ property_nodes c shape.properties) (node c Destruction ∷ []) in
    omega (arith, length-members c shape)

-- a member is at its place
pub stands : (c : ℕ) (shape : Shape) (member : Member) (k : ℕ) → IsPlaceIn shape member k → slice_get (class_nodes c shape) k ≡ Some (node c member)
stands c shape (Method m) k h =
    let count = length-methods c shape in
    let both = length-members c shape in
    elim h [
      | inl first ↦
          let low : 0 < length (method_nodes c shape.methods) = omega arith in
          let low2 : 0 < length (method_nodes c shape.methods ++ property_nodes c shape.properties) = omega arith in
          ap (slice_get (class_nodes c shape)) first.1
          ∙ get_left (method_nodes c shape.methods ++ property_nodes c shape.properties) (node c Destruction ∷ []) 0 low2
          ∙ get_left (method_nodes c shape.methods) (property_nodes c shape.properties) 0 low
          ∙ ap (λ (j : ℕ). Some (node c (Method j))) (sym first.0)
      | inr later ↦
          let low : k < length (method_nodes c shape.methods) = omega (arith, later.0, later.1, later.2) in
          let low2 : k < length (method_nodes c shape.methods ++ property_nodes c shape.properties) = omega arith in
          let inside : m - OBJECT_NAME_CHANGED < shape.methods - OBJECT_NAME_CHANGED = omega (arith, later.0, later.1) in
          let at : k ≡ suc (m - OBJECT_NAME_CHANGED) = omega (arith, later.0, later.2) in
          let is : OBJECT_NAME_CHANGED + (m - OBJECT_NAME_CHANGED) ≡ m = omega (arith, later.0) in
          get_left (method_nodes c shape.methods ++ property_nodes c shape.properties) (node c Destruction ∷ []) k low2
          ∙ get_left (method_nodes c shape.methods) (property_nodes c shape.properties) k low
          ∙ ap (slice_get (method_nodes c shape.methods)) at
          ∙ numbered_at (λ (j : ℕ). node c (Method j)) OBJECT_NAME_CHANGED (shape.methods - OBJECT_NAME_CHANGED) (m - OBJECT_NAME_CHANGED) inside
          ∙ ap (λ (j : ℕ). Some (node c (Method j))) is
    ]
stands c shape (Property q) k h =
    let count = length-methods c shape in
    let both = length-members c shape in
    let low : k < length (method_nodes c shape.methods ++ property_nodes c shape.properties) = omega (arith, h.0, h.1) in
    let at : k ≡ length (method_nodes c shape.methods) + q = omega (arith, h.1) in
    get_left (method_nodes c shape.methods ++ property_nodes c shape.properties) (node c Destruction ∷ []) k low
    ∙ get_right (method_nodes c shape.methods) (property_nodes c shape.properties) k q at
    ∙ numbered_at (λ (j : ℕ). node c (Property j)) 0 shape.properties q h.0
    ∙ ap (λ (j : ℕ). Some (node c (Property j))) (omega arith)
stands c shape Destruction k h =
    let both = length-members c shape in
    get_right (method_nodes c shape.methods ++ property_nodes c shape.properties) (node c Destruction ∷ []) k 0 (omega (arith, h))

-- .. and nothing else
abbrev pub StandsIn : ℕ → Shape → ℕ → Node → Type 0
StandsIn c shape k x = (x.class ≡ c) × IsPlaceIn shape x.member k

pub stands_only : (c : ℕ) (shape : Shape) (k : ℕ) (x : Node) → slice_get (class_nodes c shape) k ≡ Some x → StandsIn c shape k x
stands_only c shape k x e =
    elim (get_either (method_nodes c shape.methods ++ property_nodes c shape.properties) (node c Destruction ∷ []) k x e) [
      | inl members ↦
          elim (get_either (method_nodes c shape.methods) (property_nodes c shape.properties) k x members.1) [
            | inl methods ↦ method_only c shape k x methods.1
            | inr properties ↦
                let at = numbered_only (λ (j : ℕ). node c (Property j)) 0 shape.properties properties.0 x properties.2 in
                let is : k ≡ listed shape + (0 + properties.0) = omega (arith, properties.1, length-methods c shape) in
                let low : 0 + properties.0 < shape.properties = omega (arith, at.0) in
                subst (StandsIn c shape k) (sym at.1) (refl, (low, is))
          ]
      | inr last ↦ last_only c shape k x last.0 last.1 last.2
    ]
  where
    method_only : (c : ℕ) (shape : Shape) (k : ℕ) (x : Node) → slice_get (method_nodes c shape.methods) k ≡ Some x → StandsIn c shape k x
    method_only c shape zero x e = subst (StandsIn c shape 0) (same_Some _ _ e) (refl, inl (refl, refl))
    method_only c shape (suc k) x e =
        let at = numbered_only (λ (j : ℕ). node c (Method j)) OBJECT_NAME_CHANGED (shape.methods - OBJECT_NAME_CHANGED) k x e in
        let low : OBJECT_NAME_CHANGED ≤ OBJECT_NAME_CHANGED + k = omega arith in
        let high : OBJECT_NAME_CHANGED + k < shape.methods = omega (arith, at.0) in
        let is : suc k + 1 ≡ OBJECT_NAME_CHANGED + k = omega arith in
        subst (StandsIn c shape (suc k)) (sym at.1) (refl, inr (low, high, is))

    last_only : (c : ℕ) (shape : Shape) (k : ℕ) (x : Node) (j : ℕ) → k ≡ length (method_nodes c shape.methods ++ property_nodes c shape.properties) + j → slice_get (node c Destruction ∷ []) j ≡ Some x → StandsIn c shape k x
    last_only c shape k x zero at e =
        let is : k ≡ listed shape + shape.properties = omega (arith, length-members c shape) in
        subst (StandsIn c shape k) (same_Some _ _ e) (refl, is)
    last_only c shape k x (suc j) at e = absurd (none-some x e)

-- ---- the nodes of all classes
pub stands_after : (c : ℕ) (shapes : List Shape) (i : ℕ) (shape : Shape) (place : ℕ) → slice_get shapes i ≡ Some shape → place < length (class_nodes (c + i) shape)
    → slice_get (nodes_from c shapes) (length (nodes_from c (take i shapes)) + place) ≡ slice_get (class_nodes (c + i) shape) place
stands_after c [] i shape place is inside = absurd (none-some shape is)
stands_after c (s ∷ ss) zero shape place is inside =
    let same : s ≡ shape = same_Some _ _ is in
    let here : c + 0 ≡ c = omega arith in
    let low : place < length (class_nodes c s) = subst (λ (x : Shape). place < length (class_nodes c x)) (sym same) (subst (λ (n : ℕ). place < length (class_nodes n shape)) here inside) in
    ap (slice_get (nodes_from c (s ∷ ss))) (omega arith)
    ∙ get_left (class_nodes c s) (nodes_from (suc c) ss) place low
    ∙ ap (λ (x : Shape). slice_get (class_nodes c x) place) same
    ∙ ap (λ (n : ℕ). slice_get (class_nodes n shape) place) (sym here)
stands_after c (s ∷ ss) (suc i) shape place is inside =
    let next : c + suc i ≡ suc c + i = omega arith in
    let low : place < length (class_nodes (suc c + i) shape) = subst (λ (n : ℕ). place < length (class_nodes n shape)) next inside in
    let sum = length-append (class_nodes c s) (nodes_from (suc c) (take i ss)) in
    get_right (class_nodes c s) (nodes_from (suc c) ss) (length (nodes_from c (s ∷ take i ss)) + place) (length (nodes_from (suc c) (take i ss)) + place) (omega arith)
    ∙ stands_after (suc c) ss i shape place is low
    ∙ ap (λ (n : ℕ). slice_get (class_nodes n shape) place) (sym next)

pub record StandsAmong (c : ℕ) (shapes : List Shape) (n : ℕ) (x : Node) : Type 0 where
  pub number : ℕ
  pub shape : Shape
  pub is : slice_get shapes number ≡ Some shape
  pub place : ℕ
  pub at : n ≡ length (nodes_from c (take number shapes)) + place
  pub stands : slice_get (class_nodes (c + number) shape) place ≡ Some x

pub stands_among : (c : ℕ) (shapes : List Shape) (n : ℕ) (x : Node) → slice_get (nodes_from c shapes) n ≡ Some x → StandsAmong c shapes n x
stands_among c [] n x e = absurd (none-some x e)
stands_among c (s ∷ ss) n x e =
    elim (get_either (class_nodes c s) (nodes_from (suc c) ss) n x e) [
      | inl first ↦
          let here : c ≡ c + 0 = omega arith in
          record { number = 0; shape = s; is = refl; place = n; at = omega arith; stands = subst (λ (k : ℕ). slice_get (class_nodes k s) n ≡ Some x) here first.1 }
      | inr rest ↦
          let r = stands_among (suc c) ss rest.0 x rest.2 in
          let next : suc c + r.number ≡ c + suc r.number = omega arith in
          let sum = length-append (class_nodes c s) (nodes_from (suc c) (take r.number ss)) in
          let at_r = r.at in
          let from : n ≡ length (class_nodes c s) + rest.0 = rest.1 in
          record {
            number = suc r.number;
            shape = r.shape;
            is = r.is;
            place = r.place;
            at = omega arith;
            stands = subst (λ (k : ℕ). slice_get (class_nodes k r.shape) r.place ≡ Some x) next r.stands;
          }
    ]

-- ---- the numbers of nodes
pub place_low : (c : ℕ) (shape : Shape) (member : Member) (k : ℕ) → IsPlaceIn shape member k → k < length (class_nodes c shape)
place_low c shape member k h = slice_get_within (class_nodes c shape) k (node c member) (stands c shape member k h)

-- the number of a member
pub number_is : (nodes : List Node) (shapes : List Shape) (starts : List ℕ) (x : Node) (shape : Shape) (start place : ℕ) → Numbers nodes shapes starts
    → slice_get shapes x.class ≡ Some shape → slice_get starts x.class ≡ Some start → IsPlaceIn shape x.member place → IsAt nodes x (start + place)
number_is nodes shapes starts x shape start place h is begins at =
    let low = place_low x.class shape x.member place at in
    let here : 0 + x.class ≡ x.class = omega arith in
    let low0 : place < length (class_nodes (0 + x.class) shape) = subst (λ (n : ℕ). place < length (class_nodes n shape)) (sym here) low in
    ap (λ (l : List Node). slice_get l (start + place)) h.nodes_are
    ∙ ap (λ (n : ℕ). slice_get (nodes_from 0 shapes) (n + place)) (h.begins x.class start begins)
    ∙ stands_after 0 shapes x.class shape place is low0
    ∙ ap (λ (n : ℕ). slice_get (class_nodes n shape) place) here
    ∙ stands x.class shape x.member place at

pub number_from : (nodes : List Node) (shapes : List Shape) (starts : List ℕ) (x : Node) (n : ℕ) → Numbers nodes shapes starts → IsAt nodes x n
    → (shape : Shape) × (start : ℕ) × (place : ℕ) × (slice_get shapes x.class ≡ Some shape) × (slice_get starts x.class ≡ Some start) × IsPlaceIn shape x.member place × (n ≡ start + place)
number_from nodes shapes starts x n h is =
    let r = stands_among 0 shapes n x (ap (λ (l : List Node). slice_get l n) (sym h.nodes_are) ∙ is) in
    let s = stands_only (0 + r.number) r.shape r.place x r.stands in
    let class : r.number ≡ x.class = omega (arith, s.0) in
    let within = slice_get_within shapes r.number r.shape r.is in
    let inside : r.number < length starts = omega (arith, h.count) in
    let begins : slice_get starts r.number ≡ Some (get_or starts r.number 0) = slice_get-get_or starts r.number 0 inside in
    let start = h.begins r.number (get_or starts r.number 0) begins in
    let at = r.at in (
      r.shape,
      get_or starts r.number 0,
      r.place,
      subst (λ (k : ℕ). slice_get shapes k ≡ Some r.shape) class r.is,
      subst (λ (k : ℕ). slice_get starts k ≡ Some (get_or starts r.number 0)) class begins,
      s.1,
      omega arith,
    )

-- the place of a member is one alone
pub one_place : (shape : Shape) (member : Member) (j k : ℕ) → IsPlaceIn shape member j → IsPlaceIn shape member k → j ≡ k
one_place shape (Method m) j k a b =
    elim a [
      | inl x ↦ elim b [ inl y ↦ x.1 ∙ sym y.1 | inr y ↦ absurd (omega (arith, x.0, y.0)) ]
      | inr x ↦ elim b [ inl y ↦ absurd (omega (arith, x.0, y.0)) | inr y ↦ omega (arith, x.2, y.2) ]
    ]
one_place shape (Property q) j k a b = a.1 ∙ sym b.1
one_place shape Destruction j k a b = a ∙ sym b

-- ---- one class after another
pub numbers_none : Numbers [] [] []
numbers_none = record { nodes_are = refl; count = refl; begins = λ c start is. absurd (none-some start is) }

pub nodes_more : (c : ℕ) (shapes : List Shape) (shape : Shape) → nodes_from c (shapes ++ shape ∷ []) ≡ nodes_from c shapes ++ class_nodes (c + length shapes) shape
nodes_more c [] shape = append-nil (class_nodes c shape) ∙ ap (λ (n : ℕ). class_nodes n shape) (omega arith)
nodes_more c (s ∷ ss) shape =
    ap (λ (l : List Node). class_nodes c s ++ l) (nodes_more (suc c) ss shape)
    ∙ sym (append_assoc (class_nodes c s) (nodes_from (suc c) ss) (class_nodes (suc c + length ss) shape))
    ∙ ap (λ (n : ℕ). (class_nodes c s ++ nodes_from (suc c) ss) ++ class_nodes n shape) (omega arith)

pub numbers_more : (nodes more : List Node) (shapes shapes' : List Shape) (starts starts' : List ℕ) (number start : ℕ) (shape : Shape) → Numbers nodes shapes starts → number ≡ length shapes → start ≡ length nodes
    → more ≡ nodes ++ class_nodes number shape → shapes' ≡ shapes ++ shape ∷ [] → starts' ≡ starts ++ start ∷ [] → Numbers more shapes' starts'
numbers_more nodes more shapes shapes' starts starts' number start shape h here begin e f g = record {
  nodes_are =
      e ∙ ap (λ (l : List Node). l ++ class_nodes number shape) h.nodes_are
      ∙ ap (λ (n : ℕ). nodes_from 0 shapes ++ class_nodes n shape) (omega (arith, here))
      ∙ sym (nodes_more 0 shapes shape) ∙ ap (nodes_from 0) (sym f);
  count = omega (arith, ap length f, ap length g, length-append shapes (shape ∷ []), length-append starts (start ∷ []), h.count);
  begins = λ c s is.
      elim (get_either starts (start ∷ []) c s (ap (λ (l : List ℕ). slice_get l c) (sym g) ∙ is)) [
        | inl old ↦
            let low : c ≤ length shapes = omega (arith, old.0, h.count) in
            h.begins c s old.1 ∙ ap (λ (l : List Shape). length (nodes_from 0 l)) (sym (take_append shapes shape c low) ∙ ap (take c) (sym f))
        | inr new ↦ last c s new.0 new.1 new.2
      ];
}
  where
    take_append : (xs : List Shape) (y : Shape) (k : ℕ) → k ≤ length xs → take k (xs ++ y ∷ []) ≡ take k xs
    take_append xs y k low = take-append-le k xs (y ∷ []) low

    last : (c s k : ℕ) → c ≡ length starts + k → slice_get (start ∷ []) k ≡ Some s → s ≡ length (nodes_from 0 (take c shapes'))
    last c s zero at is =
        let end : c ≡ length shapes = omega (arith, h.count) in
        let all : take c shapes' ≡ shapes = ap (take c) f ∙ take_append shapes shape c (omega arith) ∙ take_all c shapes (omega arith) in
        sym (same_Some _ _ is) ∙ begin ∙ ap length h.nodes_are ∙ ap (λ (l : List Shape). length (nodes_from 0 l)) (sym all)
    last c s (suc k) at is = absurd (none-some s is)

-- ---- what a look-up finds, where `now` is what contracts see of the nodes
module _ (nodes now : List Node) (shapes : List Shape) (starts : List ℕ) (seen : nodes ≡ now) (h : Numbers nodes shapes starts) (x : Node) where
  at_inside : (n : ℕ) → IsAt now x n → IsAt nodes x n
  at_inside n is = subst (λ (l : List Node). IsAt l x n) (sym seen) is

  pub no_shape : slice_get shapes x.class ≡ None → (n : ℕ) → ¬ IsAt now x n
  no_shape none n is = let f = number_from nodes shapes starts x n h (at_inside n is) in none-some f.0 (sym none ∙ f.3)

  pub no_start : slice_get starts x.class ≡ None → (n : ℕ) → ¬ IsAt now x n
  no_start none n is = let f = number_from nodes shapes starts x n h (at_inside n is) in none-some f.1 (sym none ∙ f.4)

  pub no_place : (shape : Shape) → slice_get shapes x.class ≡ Some shape → ((k : ℕ) → ¬ IsPlaceIn shape x.member k) → (n : ℕ) → ¬ IsAt now x n
  no_place shape there none n is =
      let f = number_from nodes shapes starts x n h (at_inside n is) in
      let same : f.0 ≡ shape = same_Some _ _ (sym f.3 ∙ there) in
      none f.2 (subst (λ (s : Shape). IsPlaceIn s x.member f.2) same f.5)

  pub number_found : (shape : Shape) (start place : ℕ) → slice_get shapes x.class ≡ Some shape → slice_get starts x.class ≡ Some start → IsPlaceIn shape x.member place → IsAt now x (start + place)
  number_found shape start place there begins at = subst (λ (l : List Node). IsAt l x (start + place)) seen (number_is nodes shapes starts x shape start place h there begins at)

  pub number_only : (shape : Shape) (start place n : ℕ) → slice_get shapes x.class ≡ Some shape → slice_get starts x.class ≡ Some start → IsPlaceIn shape x.member place → IsAt now x n → n ≡ start + place
  number_only shape start place n there begins at is =
      let f = number_from nodes shapes starts x n h (at_inside n is) in
      let same : f.0 ≡ shape = same_Some _ _ (sym f.3 ∙ there) in
      let from : f.1 ≡ start = same_Some _ _ (sym f.4 ∙ begins) in
      let place_is : f.2 ≡ place = one_place shape x.member f.2 place (subst (λ (s : Shape). IsPlaceIn s x.member f.2) same f.5) at in
      let e = f.6 in
      omega arith

  pub number_low : (shape : Shape) (start place : ℕ) → slice_get shapes x.class ≡ Some shape → slice_get starts x.class ≡ Some start → IsPlaceIn shape x.member place → start + place < length nodes
  number_low shape start place there begins at = slice_get_within nodes (start + place) x (number_is nodes shapes starts x shape start place h there begins at)

-- the last place of a class is below the number of all nodes
pub shape_low : (nodes : List Node) (shapes : List Shape) (starts : List ℕ) (c start : ℕ) (shape : Shape) → Numbers nodes shapes starts → slice_get shapes c ≡ Some shape → slice_get starts c ≡ Some start
    → start + (listed shape + shape.properties) < length nodes
shape_low nodes shapes starts c start shape h there begins =
    number_low nodes nodes shapes starts refl h (node c Destruction) shape start (listed shape + shape.properties) there begins refl

-- ---- the lists that are built
pub members_more : (f : ℕ → Node) (a k j n : ℕ) (first nodes last : List Node) → nodes ≡ first ++ map f (range_with_len a k) → last ≡ nodes ++ f j ∷ [] → a + k ≡ j → n ≡ k + 1 → last ≡ first ++ map f (range_with_len a n)
members_more f a k j n first nodes last e push at next =
    push ∙ ap (λ (l : List Node). l ++ f j ∷ []) e ∙ append_assoc first (map f (range_with_len a k)) (f j ∷ [])
    ∙ ap (λ (l : List Node). first ++ l) (sym (map-range_with_len_more f a k j at)) ∙ ap (λ (m : ℕ). first ++ map f (range_with_len a m)) (sym next)

-- all members of a class, one kind after another
pub class_made : (c : ℕ) (shape : Shape) (j q : ℕ) (first one methods properties last : List Node) → one ≡ first ++ node c (Method DESTROYED) ∷ []
    → methods ≡ one ++ map (λ m. node c (Method m)) (range_with_len OBJECT_NAME_CHANGED j) → j ≡ shape.methods - OBJECT_NAME_CHANGED
    → properties ≡ methods ++ map (λ p. node c (Property p)) (range_with_len 0 q) → q ≡ shape.properties
    → last ≡ properties ++ node c Destruction ∷ [] → last ≡ first ++ class_nodes c shape
class_made c shape j q first one methods properties last e f count g counted h =
    let named_methods = map (λ (m : ℕ). node c (Method m)) (range_with_len OBJECT_NAME_CHANGED (shape.methods - OBJECT_NAME_CHANGED)) in
    let is_methods : methods ≡ first ++ method_nodes c shape.methods =
    f ∙ ap (λ (k : ℕ). one ++ map (λ (m : ℕ). node c (Method m)) (range_with_len OBJECT_NAME_CHANGED k)) count
    ∙ ap (λ (l : List Node). l ++ named_methods) e ∙ append_assoc first (node c (Method DESTROYED) ∷ []) named_methods in
    let is_properties : properties ≡ first ++ (method_nodes c shape.methods ++ property_nodes c shape.properties) =
    g ∙ ap (λ (k : ℕ). methods ++ property_nodes c k) counted ∙ ap (λ (l : List Node). l ++ property_nodes c shape.properties) is_methods
    ∙ append_assoc first (method_nodes c shape.methods) (property_nodes c shape.properties) in
    h ∙ ap (λ (l : List Node). l ++ node c Destruction ∷ []) is_properties
    ∙ append_assoc first (method_nodes c shape.methods ++ property_nodes c shape.properties) (node c Destruction ∷ [])

pub same_shape : (class : MetaObject) (m q : ℕ) → m ≡ length class.methods → q ≡ length class.properties → shape_of class ≡ record { methods = m; properties = q }
same_shape class m q e f =
    let made : ℕ → ℕ → Shape = λ a b. record { methods = a; properties = b } in
    ap (λ a. made a (length class.properties)) (sym e) ∙ ap (λ b. made m b) (sym f)

pub shapes_more : (classes : List MetaObject) (i : ℕ) (class : MetaObject) (shape : Shape) (shapes more : List Shape) → i < length classes → class ≡ get_or classes i class → shape_of class ≡ shape
    → shapes ≡ map shape_of (take i classes) → more ≡ shapes ++ shape ∷ [] → more ≡ map shape_of (take (i + 1) classes)
shapes_more classes i class shape shapes more inside is same before e =
    e ∙ ap (λ (l : List Shape). l ++ shape ∷ []) before ∙ ap (λ (s : Shape). map shape_of (take i classes) ++ s ∷ []) (sym same)
    ∙ sym (map-append shape_of (take i classes) (class ∷ []))
    ∙ ap (λ (c : MetaObject). map shape_of (take i classes ++ c ∷ [])) is ∙ sym (ap (map shape_of) (take_more classes i class inside))

pub if_made : {T E : Type 0} (r : Result T E) (P Q : Type 0) → (P → Q) → OnOk r P → OnOk r Q
if_made (Ok x) P Q to h = to h
if_made (Err e) P Q to h = tt

pub nodes_all : (classes : List MetaObject) (i : ℕ) (nodes : List Node) (shapes : List Shape) (starts : List ℕ) → length classes ≤ i → Numbers nodes shapes starts → shapes ≡ map shape_of (take i classes) → nodes ≡ nodes_from 0 (map shape_of classes)
nodes_all classes i nodes shapes starts past h e = h.nodes_are ∙ ap (nodes_from 0) (e ∙ ap (map shape_of) (take_all i classes past))
