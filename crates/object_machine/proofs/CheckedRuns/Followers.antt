-- A write or a bind notifies only properties that are no higher than the one that is written or bound.
use Rattle.std.{proofs.Common.{◌≡◌, inl, inr, ℕ, ◌<◌, List, [], ◌∷◌, Option, Some, None, is_some, refl, sym, ap, ◌∙◌, subst, arith}, specs.List.{AllByRecursion}, specs.Option.{option_map}, proofs.lemmas.Bool.{cases_lt}, proofs.lemmas.Option.{same_Some}}
use Rattle.basic_types.specs.declared.value.Value.{Value}
use Rattle.meta_model.specs.{Loaded.{Loaded}, Sound.{IsSound}}
use Rattle.object_tree.specs.{declared.object.Object.{Object}, Seen.{seen}}
use Rattle.binding_graph.specs.{declared.binding.Binding.{Binding}, declared.place.Place.{Place}, Bindings.{Settled}, Places.{In}}
use Rattle.prop_bindings.{specs.Changes.{DifferInValues, ReadsAlike, AreChanged, none_changed, one_changed, one_stayed}, specs.Values.{values_in}, proofs.Alive.{seen-same}}
use Rattle.effect_scan.specs.{declared.node.Node.{Node}, declared.node.Member.TheVariants.{Property}, Edges.{MayLead}, Nodes.{node}}
use Rattle.certificate_lang.specs.{declared.certificate.Line.{Line}, declared.certificate.Certificate.{Certificate}}
use Rattle.rank_check.specs.Valid.{IsLineOf, Destroys, IsValid}
use Rattle.machine_rules.{proofs.Lists.{all-weaken, all-filtered}, specs.Settling.{notified, signal_at}}
use Rattle.object_machine.proofs.{CheckedRuns.Invariant.{IsFollower, IsNoHigher, IsSited}, CheckedRuns.Sites.{unchanged}}

map-alike : (f g : Value → Value) → ((v : Value) → f v ≡ g v) → (found : Option Value) → option_map f found ≡ option_map g found
map-alike f g same None = refl
map-alike f g same (Some v) = ap Some (same v)

-- what keeps its value reads as it did
reads-alike : (old new : List Object) (q : Place) → DifferInValues old new → values_in new q ≡ values_in old q → ReadsAlike old new q
reads-alike old new q differ e = ap (option_map (seen new)) e ∙ map-alike (seen new) (seen old) (seen-same old new differ) (values_in old q)

-- what holds of each holds of those that changed, which read otherwise
changed-each : (P : Place → Type 0) {old new : List Object} (qs changed : List Place) → AllByRecursion P qs → AreChanged old new qs changed → AllByRecursion (λ q. P q × (¬ ReadsAlike old new q)) changed
changed-each P qs changed all none_changed = tt
changed-each P qs changed all (one_changed {ps = ps} {changed = rest} other more) = ((all.0, other), changed-each P ps rest all.1 more)
changed-each P qs changed all (one_stayed {ps = ps} {changed = rest} alike more) = changed-each P ps rest all.1 more

-- an object of a known class has the property
abbrev pub IsKnown : (ℕ → Option ℕ) → Place → Type 0
IsKnown classes q = (class : ℕ) × (classes q.object ≡ Some class)

module _ {p : Loaded} {certificate : Certificate} (valid : IsValid p certificate) (sound : IsSound p) (classes : ℕ → Option ℕ)
    (F G : Place → Option Binding) (sited : (q : Place) (b : Binding) → G q ≡ Some b → IsSited p classes b × (b.target ≡ q))
    (old new : List Object) (differ : DifferInValues old new)
    (written : List Place) (line : Line) (below : AllByRecursion (IsFollower p certificate classes line) written)
    (settled_old : Settled F (values_in old)) (settled_new : Settled G (values_in new))
    (same : (q : Place) (b : Binding) → ¬ In q written → G q ≡ Some b → F q ≡ Some b)
    (kept : (q : Place) → ¬ In q written → G q ≡ None → values_in new q ≡ values_in old q) where
  -- the lines of those that are written are no higher
  written-low : (qs : List Place) → AllByRecursion (IsFollower p certificate classes line) qs → (q : Place) → In q qs → (other : Line) → (c : ℕ) × (classes q.object ≡ Some c) × IsLineOf p certificate (node c (Property q.property)) other → IsNoHigher p line other
  written-low [] all q here other at = absurd here
  written-low (r ∷ qs) all q (inr here) other at = written-low qs all.1 q here other at
  written-low (r ∷ qs) all q (inl e) other at =
      let low = all.0 in
      let there : classes r.object ≡ Some at.0 = subst (λ (z : Place). classes z.object ≡ Some at.0) (sym e) at.1 in
      let one : at.0 ≡ low.class = same_Some _ _ (sym there ∙ low.is) in
      let here : IsLineOf p certificate (node low.class (Property r.property)) other =
      subst (λ (c : ℕ). IsLineOf p certificate (node c (Property r.property)) other) one (subst (λ (z : Place). IsLineOf p certificate (node at.0 (Property z.property)) other) (sym e) at.2) in
      low.no_higher other here

  follower : (q : Place) → IsKnown classes q × (¬ ReadsAlike old new q) → IsFollower p certificate classes line q
  follower q changed = record {
    class = (changed.0).0;
    is = (changed.0).1;
    no_higher = λ upper at.
        let stays : (P : Line → Type 0) → ((x y : Node) (a b : Line) → MayLead p x y → IsLineOf p certificate x a → IsLineOf p certificate y b → P b → P a) → ((other : Line) → IsNoHigher p line other → ¬ P other) → P upper → ⊥ =
        λ P closed none has. changed.1 (reads-alike old new q differ
        (unchanged valid sound classes G sited F (values_in old) (values_in new) written settled_old settled_new same kept P closed
        (λ r here other there held. none other (written-low written below r here other there) held) certificate.bound q upper ((changed.0).0, (changed.0).1, at) has (omega arith))) in
        record {
          rank = elim (cases_lt line.rank upper.rank) [
            | inl high ↦ absurd (stays (λ (l : Line). line.rank < l.rank) (λ x y a b leads from to low. let fall = valid.ranks x y a b leads from to in omega (arith, fall, low)) (λ other up low. let most = up.rank in omega (arith, most, low)) high)
            | inr low ↦ omega (arith, low)
          ];
          set = λ d none held. stays (λ (l : Line). Destroys p l d) (λ x y a b leads from to h. valid.sets.passed_on x y a b d leads from to h) (λ other up h. up.set d none h) held;
        };
  }

  -- those that are notified are no higher
  pub followers : (qs changed : List Place) → AllByRecursion (IsKnown classes) qs → AreChanged old new qs changed → AllByRecursion (IsFollower p certificate classes line) (notified p new changed)
  followers qs changed all are =
      all-filtered (IsFollower p certificate classes line) (λ at. is_some (signal_at p new at)) changed
      (all-weaken (λ (q : Place). IsKnown classes q × (¬ ReadsAlike old new q)) (IsFollower p certificate classes line) changed follower (changed-each (IsKnown classes) qs changed all are))
