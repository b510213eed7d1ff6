-- What the items stand for that are written of a set.
use Rattle.std.{proofs.Common.{◌≡◌, inl, inr, ◌↔◌, ℕ, ◌<◌, List, length, subst}, specs.List.{Contains}}
use Rattle.meta_model.{specs.Loaded.{Loaded}, specs.Sound.{IsSound}, proofs.OneAnswer.{one_class}, proofs.Zips.{zip_left, zip_right}}
use Rattle.effect_scan.specs.Destroying.{Closure, itself, child}
use Rattle.certificate_lang.specs.declared.certificate.SetItem.{SetItem}
use Rattle.certificate_lang.specs.declared.certificate.SetItem.TheVariants as item
use Rattle.rank_check.{specs.Valid.{StandsFor, IsListed, AreClassesThere}, proofs.Elements.{some_inside, place_of, element_at}}
use Rattle.rank_make.specs.{Least.{IsClosureOf}, Solved.{AreItems}}

-- what is in the closure of a class of the closure of another one is in the closure of that one
pub closure_then : (p : Loaded) (c d e : ℕ) → Closure p c d → Closure p d e → Closure p c e
closure_then p c d e first (itself is) = first
closure_then p c d e first (child closure owns) = child (closure_then p c d _ first closure) owns

module _ (p : Loaded) (sound : IsSound p) where
  own_closure : (d : ℕ) → d < length p.classes → Closure p d d
  own_closure d low = let class = some_inside p.classes d low in itself (record { is = class.1 })

  -- an item for a class stands for the closure of that class
  in_closure : (item : SetItem) (c d : ℕ) → IsClosureOf p item c → StandsFor p item d → Closure p c d
  in_closure (item.Class name) c d named stands = absurd named
  in_closure (item.Closure name) c d named stands = subst (λ (x : ℕ). Closure p x d) (one_class p sound name c stands.0 named stands.1) stands.2

  stands_by : (item : SetItem) (c d : ℕ) → IsClosureOf p item c → Closure p c d → StandsFor p item d
  stands_by (item.Class name) c d named closure = absurd named
  stands_by (item.Closure name) c d named closure = (c, named, closure)

  stands_itself : (item : SetItem) (c : ℕ) → IsClosureOf p item c → StandsFor p item c
  stands_itself (item.Class name) c named = absurd named
  stands_itself (item.Closure name) c named = (c, named, itself named.is)

  -- with a class the set has those of its closure
  module _ (P : ℕ → Type 0) (low : (d : ℕ) → P d → d < length p.classes) (on : (c d : ℕ) → P c → Closure p c d → P d) (items : List SetItem) (are : AreItems p P (length p.classes) items) where
    -- the item of a class that is written stands for what is in its closure
    listed_by : (c d : ℕ) → Contains are.classes c → Closure p c d → IsListed p items d
    listed_by c d held closure =
        let at = place_of are.classes c held in
        let pair = zip_right (IsClosureOf p) items are.classes are.closures at.0 c at.1 in
        record { item = pair.0; listed = element_at items at.0 pair.0 pair.1; stands_for = stands_by pair.0 c d pair.2 closure }

    pub listed_is : (d : ℕ) → IsListed p items d ↔ P d
    listed_is d = (there, back)
      where
        there : IsListed p items d → P d
        there listed =
            let at = place_of items listed.item listed.listed in
            let pair = zip_left (IsClosureOf p) items are.classes are.closures at.0 listed.item at.1 in
            let closure = in_closure listed.item pair.0 d pair.2 listed.stands_for in
            let written = are.written.each pair.0 (element_at are.classes at.0 pair.0 pair.1) in
            on pair.0 d (written.0).1 closure

        back : P d → IsListed p items d
        back h =
            let inside = low d h in
            elim (are.written.all d (inside, h)) [
              | inl held ↦ listed_by d d held (own_closure d inside)
              | inr implied ↦ listed_by implied.before d implied.among implied.closure
            ]

    pub listed_there : AreClassesThere p items
    listed_there item listed =
        let at = place_of items item listed in
        let pair = zip_left (IsClosureOf p) items are.classes are.closures at.0 item at.1 in
        (pair.0, stands_itself item pair.0 pair.2)
