-- Objects of bindings that stay in one event loop.
use Rattle.std.proofs.Common.{◌≡◌, ℕ, List, [], All, Option, None, Some, get_or, refl, ap, sym, ◌∙◌}
use Rattle.std.specs.Option.{option_map}
use Rattle.std.proofs.lemmas.List.Elements.{All-weaker}
use Rattle.std.proofs.lemmas.Option.{same_Some}
use Rattle.object_tree.specs.declared.life.Life.{Life}
use Rattle.object_tree.specs.declared.object.Object.{Object}
use Rattle.object_tree.specs.Objects.{life_of, home_of}
use Rattle.binding_graph.specs.declared.binding.Binding.{Binding}
use Rattle.prop_bindings.specs.Changes.{DifferInValues}
use Rattle.prop_bindings.specs.Fits.{IsInOneLoop}
use Rattle.prop_bindings.proofs.Alive.{lives-alike}

abbrev emptied : Life → Life
emptied l = record l { values = [] }

home-in : (a b : Option Life) → option_map emptied b ≡ option_map emptied a → option_map (λ (l : Life). l.home) b ≡ option_map (λ (l : Life). l.home) a
home-in None None e = refl
home-in None (Some m) e = absurd (cc e)
home-in (Some l) None e = absurd (cc e)
home-in (Some l) (Some m) e = ap Some (ap (λ (z : Life). z.home) (same_Some (emptied m) (emptied l) e))

pub home-alike : (old new : List Object) → DifferInValues old new → (o : ℕ) → home_of new o ≡ home_of old o
home-alike old new differ o = home-in (life_of old o) (life_of new o) (lives-alike old new differ o)

-- .. where nothing but values differs
pub joined-stays : (old new : List Object) → DifferInValues old new → (b : Binding) → IsInOneLoop old b → IsInOneLoop new b
joined-stays old new differ b h k d within =
    home-alike old new differ (get_or b.sources k d) ∙ h k d within ∙ sym (home-alike old new differ b.target.object)

pub all-joined : (old new : List Object) → DifferInValues old new → (bs : List Binding) → All (IsInOneLoop old) bs → All (IsInOneLoop new) bs
all-joined old new differ bs h = All-weaker (IsInOneLoop old) (IsInOneLoop new) (joined-stays old new differ) bs h
