-- Numbers that are added to others.
use Rattle.std.proofs.Common.{◌≡◌, ◌↔◌, ◌⊎◌, inl, inr, ℕ, ◌+◌, ◌<◌, ◌≤◌, List, [], ◌++◌, length, get_or, take, refl, sym, ap, ◌∙◌, subst, arith}
use Rattle.std.specs.List.{Contains}
use Rattle.std.proofs.lemmas.List.{take_all}
use Rattle.std.proofs.lemmas.List.Elements.{Contains-append_left, Contains-append_right, Contains-append_cases}
use Rattle.effect_scan.specs.declared.node.Node.{Node}
use Rattle.effect_scan.specs.declared.node.Member.{Member}
use Rattle.effect_scan.specs.Nodes.{node, IsAt}
use Rattle.effect_scan.specs.Effects.{Gathers}
use Rattle.effect_scan.specs.code.Adding.{IsOrdered}
use Rattle.effect_scan.specs.code.NodePlaces.{AreJust, InEach, OfSome}
use Rattle.effect_scan.proofs.Adding.{no_members, first_more}
use Rattle.effect_scan.proofs.Occurring.{gathers_none, gathers_then}

-- what is added to no numbers is all there is
pub just_gathered : (P : ℕ → Type 0) (before more : List ℕ) → before ≡ [] → Gathers P before more → AreJust P more
just_gathered P before more none g n = (
  λ h. elim ((g n).0 h) [ inl old ↦ absurd (no_members n (subst (λ (l : List ℕ). Contains l n) none old)) | inr new ↦ new ],
  λ h. (g n).1 (inr h),
)

-- a list at the end
pub gathers_list : (before more ns : List ℕ) → more ≡ before ++ ns → Gathers (Contains ns) before more
gathers_list before more ns e n = (
  λ h. Contains-append_cases before ns n (subst (λ (l : List ℕ). Contains l n) e h),
  λ h. subst (λ (l : List ℕ). Contains l n) (sym e) (elim h [ inl old ↦ Contains-append_left before ns n old | inr new ↦ Contains-append_right before ns n new ]),
)

-- the same, in order
pub gathers_ordered : (P Q : ℕ → Type 0) (first then last : List ℕ) → Gathers P first then → IsOrdered then last → ((n : ℕ) → Q n ↔ P n) → Gathers Q first last
gathers_ordered P Q first then last g o same n = (
  λ h. elim ((g n).0 ((o.same n).0 h)) [ inl old ↦ inl old | inr new ↦ inr ((same n).1 new) ],
  λ h. (o.same n).1 ((g n).1 (elim h [ inl old ↦ inl old | inr new ↦ inr ((same n).0 new) ])),
)

pub gathers_same : (P Q : ℕ → Type 0) (before more : List ℕ) → ((n : ℕ) → Q n ↔ P n) → Gathers P before more → Gathers Q before more
gathers_same P Q before more same g n = (
  λ h. elim ((g n).0 h) [ inl old ↦ inl old | inr new ↦ inr ((same n).1 new) ],
  λ h. (g n).1 (elim h [ inl old ↦ inl old | inr new ↦ inr ((same n).0 new) ]),
)

-- what was found is added behind
pub gathers_found : (P Q : ℕ → Type 0) (none found ns before more : List ℕ) → ((n : ℕ) → Q n ↔ P n) → none ≡ [] → Gathers P none found → ns ≡ found → more ≡ before ++ ns → Gathers Q before more
gathers_found P Q none found ns before more same start g is e =
    let just = just_gathered P none found start g in
    let listed : Gathers (Contains found) before more = gathers_list before more found (e ∙ ap (λ (l : List ℕ). before ++ l) is) in
    gathers_same (Contains found) Q before more (λ n. (λ q. (just n).1 ((same n).0 q), λ h. (same n).1 ((just n).0 h))) listed

-- ---- one class after another
module _ (nodes : List Node) (classes : List ℕ) (member : Member) where
  pub each_none : (ns : List ℕ) → Gathers (InEach nodes (take 0 classes) member) ns ns
  each_none ns = gathers_none (InEach nodes (take 0 classes) member) ns (λ n h. no_members h.0 h.1)

  pub each_more : (i : ℕ) (first then last : List ℕ) → i < length classes → Gathers (InEach nodes (take i classes) member) first then → Gathers (IsAt nodes (node (get_or classes i 0) member)) then last
      → Gathers (InEach nodes (take (i + 1) classes) member) first last
  each_more i first then last inside p q =
      gathers_then (InEach nodes (take i classes) member) (IsAt nodes (node (get_or classes i 0) member)) (InEach nodes (take (i + 1) classes) member) first then last p q
      (λ n. (
        λ h.
            elim ((first_more classes i 0 inside h.0).0 h.1) [
              | inl old ↦ inl (h.0, old, h.2)
              | inr same ↦ inr (subst (λ (d : ℕ). IsAt nodes (node d member) n) same h.2)
            ],
        λ h.
            elim h [
              | inl old ↦ (old.0, (first_more classes i 0 inside old.0).1 (inl old.1), old.2)
              | inr new ↦ (get_or classes i 0, (first_more classes i 0 inside (get_or classes i 0)).1 (inr refl), new)
            ],
      ))

  pub each_all : (i : ℕ) (before more : List ℕ) → length classes ≤ i → Gathers (InEach nodes (take i classes) member) before more → Gathers (InEach nodes classes member) before more
  each_all i before more past g = subst (λ (l : List ℕ). Gathers (InEach nodes l member) before more) (take_all i classes past) g

-- ---- one element of a list after another
module _ {X : Type 0} (P : X → ℕ → Type 0) (xs : List X) where
  pub some_first : (ns : List ℕ) → Gathers (OfSome P (take 0 xs)) ns ns
  some_first ns = gathers_none (OfSome P (take 0 xs)) ns (λ n h. no_members h.0 h.1)

  pub some_next : (i : ℕ) (x : X) (first then last : List ℕ) → i < length xs → x ≡ get_or xs i x → Gathers (OfSome P (take i xs)) first then → Gathers (P x) then last → Gathers (OfSome P (take (i + 1) xs)) first last
  some_next i x first then last inside is p q =
      gathers_then (OfSome P (take i xs)) (P x) (OfSome P (take (i + 1) xs)) first then last p q
      (λ n. (
        λ h.
            elim ((first_more xs i x inside h.0).0 h.1) [
              | inl old ↦ inl (h.0, old, h.2)
              | inr same ↦ inr (subst (λ (y : X). P y n) (same ∙ sym is) h.2)
            ],
        λ h.
            elim h [
              | inl old ↦ (old.0, (first_more xs i x inside old.0).1 (inl old.1), old.2)
              | inr new ↦ (x, (first_more xs i x inside x).1 (inr is), new)
            ],
      ))

  pub some_last : (i : ℕ) (first then last : List ℕ) → length xs ≤ i → Gathers (OfSome P (take i xs)) first then → IsOrdered then last → Gathers (OfSome P xs) first last
  some_last i first then last past g o =
      gathers_ordered (OfSome P (take i xs)) (OfSome P xs) first then last g o
      (λ n. subst (λ (l : List X). OfSome P xs n ↔ OfSome P l n) (sym (take_all i xs past)) (λ h. h, λ h. h))
