-- What has the numbers of its slots, in their order, is in the order of the bindings.
use Rattle.std.proofs.Common.{◌≡◌, ℕ, zero, suc, ◌<◌, List, [], ◌∷◌, map, None, Some, refl, ap, arith}
use Rattle.std.specs.Prelude.{slice_get}
use Rattle.binding_graph.specs.declared.place.Place.{Place}
use Rattle.binding_graph.specs.declared.binding.Binding.{Binding}
use Rattle.binding_graph.specs.declared.installed.Installed.{Installed}
use Rattle.binding_graph.specs.declared.numbering.Numbered.{Numbered}
use Rattle.binding_graph.specs.code.Graph.{AreKeyed, slot_of}
use Rattle.binding_graph.specs.code.Numbering.{places_of, Above, Rises, AreBy}
use Rattle.binding_graph.specs.code.Slots.{filled, in_slot}
use Rattle.binding_graph.proofs.Slots.{Slots}

-- how many stand before a slot
abbrev pub before : Slots → ℕ → ℕ
before [] i = 0
before (None ∷ slots) zero = 0
before (None ∷ slots) (suc i) = before slots i
before (Some b ∷ slots) zero = 0
before (Some b ∷ slots) (suc i) = suc (before slots i)

pub before-at : (slots : Slots) (i : ℕ) (b : Binding) → in_slot slots i ≡ Some b → slice_get (filled slots) (before slots i) ≡ Some b
before-at [] i b at = absurd (cc at)
before-at (None ∷ slots) zero b at = absurd (cc at)
before-at (None ∷ slots) (suc i) b at = before-at slots i b at
before-at (Some c ∷ slots) zero b at = at
before-at (Some c ∷ slots) (suc i) b at = before-at slots i b at

before-less : (slots : Slots) (i j : ℕ) (b : Binding) → in_slot slots i ≡ Some b → i < j → before slots i < before slots j
before-less [] i j b at less = absurd (cc at)
before-less (None ∷ slots) zero j b at less = absurd (cc at)
before-less (None ∷ slots) (suc i) zero b at less = absurd (omega (arith, less))
before-less (None ∷ slots) (suc i) (suc j) b at less = before-less slots i j b at (omega (arith, less))
before-less (Some c ∷ slots) i zero b at less = absurd (omega (arith, less))
before-less (Some c ∷ slots) zero (suc j) b at less = omega arith
before-less (Some c ∷ slots) (suc i) (suc j) b at less = let more : before slots i < before slots j = before-less slots i j b at (omega (arith, less)) in omega (arith, more)

-- each has as its number how many stand before its slot
abbrev pub renumbered : Slots → List Numbered → List Numbered
renumbered slots fs = map (λ (f : Numbered). record { number = before slots f.number; place = f.place }) fs

pub renumbered-places : (slots : Slots) (fs : List Numbered) → places_of (renumbered slots fs) ≡ places_of fs
renumbered-places slots [] = refl
renumbered-places slots (f ∷ fs) = ap (λ (ps : List Place). f.place ∷ ps) (renumbered-places slots fs)

renumbered-above : (slots : Slots) (n : ℕ) (b : Binding) → in_slot slots n ≡ Some b → (fs : List Numbered) → Above n fs → Above (before slots n) (renumbered slots fs)
renumbered-above slots n b at [] a = tt
renumbered-above slots n b at (f ∷ fs) a = (before-less slots n f.number b at a.0, renumbered-above slots n b at fs a.1)

pub renumbered-rises : (x : Installed) → AreKeyed x → (fs : List Numbered) → AreBy (slot_of x) fs → Rises fs → Rises (renumbered x.slots.items fs)
renumbered-rises x keyed [] by rises = tt
renumbered-rises x keyed (f ∷ fs) by rises =
    let held = keyed.placed f.place f.number by.0 in
    (renumbered-above x.slots.items f.number held.0 held.1 fs rises.0, renumbered-rises x keyed fs by.1 rises.1)
