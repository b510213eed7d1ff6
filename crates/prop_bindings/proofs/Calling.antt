-- What the calls answer, from what was found to follow and what was settled after it.
use Rattle.std.proofs.{Common.{◌≡◌, ◌-◌, ℕ, true, false, All, List, [], ◌∷◌, ◌++◌, map, length, take, drop, Option, Some, refl, ap, sym, ◌∙◌, subst}, lemmas.List.{take_rest}, lemmas.List.Elements.{All-filter, All-push}, lemmas.Option.{same_Some}}
use Rattle.basic_types.specs.declared.value.Value.{Value}
use Rattle.meta_model.specs.Loaded.{Loaded}
use Rattle.object_tree.specs.declared.object.Object.{Object}
use Rattle.binding_graph.{specs.declared.place.Place.{Place}, specs.declared.binding.Binding.{Binding}, specs.Places.{In}, specs.Bindings.{binding_at, without, without_all, replaced, reads_any, value_of, Settled, Loop}, specs.code.Orders.{update, pass, bound, IsAffected, IsLater}, proofs.Apart.{apart-all, apart-replaced, acyclic-all}, proofs.Several.{without_all-fewer}}
use Rattle.prop_bindings.{specs.declared.plans.assignment.Assignment.{Assignment}, specs.declared.plans.planned.Planned.{Planned}, specs.Values.{values_in}, specs.Calls.{AllFit}, specs.Changes.{in_order, once, places_in, DifferInValues, AreChanged, HaveLasting, none_changed, one_stayed, IsWritten, IsInstalled}, specs.Counts.{CountsGroup, CountsReached}, specs.Fits.{FitsAt, IsFit, IsInOneLoop, Agree}, specs.Plans.{after, assigned}, specs.code.Parts.{AreSound, LeadTo, wrote}, proofs.Counting.{changed-among, counts-affected, counts-same}, proofs.Evaluating.{rest-alike}, proofs.Fitting.{fit-stays}, proofs.Homes.{joined-stays, all-joined}, proofs.EachOnce.{distinct-once, in-once, once-distinct, once-in, without_all-once}, proofs.Wrote.{lasting-same, wrote-lasting, wrote-other}, proofs.Settling.{written-value, written-settled, written-kept, closes-loop, installed-later, installed-acyclic, installed-settled, installed-kept, later-is}}

-- all but the first
pub tail-is : (lent later reached : List Place) (at : Place) → lent ≡ later → later ≡ at ∷ reached → take (length lent - 1) (drop 1 lent) ≡ reached
tail-is lent later reached at read is = take_rest lent 1 ∙ ap (λ (xs : List Place). drop 1 xs) (read ∙ is)

-- ---- writes
all-left : (P : Binding → Type 0) (ps : List Place) (bs : List Binding) → All P bs → All P (without_all ps bs)
all-left P [] bs h = h
all-left P (p ∷ ps) bs h = all-left P ps (without p bs) (All-filter _ P bs h)

in-order-once : (ps : List Place) (bs : List Binding) → in_order (once ps) bs ≡ in_order ps bs
in-order-once ps bs =
    ap (λ (qs : List Place). qs ++ map (λ (b : Binding). b.target) (without_all (once ps) bs)) (distinct-once (once ps) (once-distinct ps))
    ∙ ap (λ (xs : List Binding). once ps ++ map (λ (b : Binding). b.target) xs) (without_all-once ps bs)

-- mid are the objects once the writes were carried out in turn, and nothing followed
module _ (p : Loaded) (bs : List Binding) (old mid new : List Object) (writes : List Assignment) (ts followers : List Place)
    (agree : Agree p old bs) (fits : AllFit p old writes) (targets : ts ≡ once (places_in writes)) (begun : mid ≡ wrote writes old)
    (affected : IsAffected (binding_at (without_all ts bs)) ts followers)
    (is : (q : Place) → values_in new q ≡ pass (binding_at bs) followers (values_in mid) q) where
  abbrev ps : List Place
  ps = places_in writes

  left-is : without_all ts bs ≡ without_all ps bs
  left-is = ap (λ (qs : List Place). without_all qs bs) targets ∙ without_all-once ps bs

  written-in : (q : Place) → In q ps → In q ts
  written-in q i = subst (λ (qs : List Place). In q qs) (sym targets) (in-once ps q i)

  in-written : (q : Place) → In q ts → In q ps
  in-written q i = once-in ps q (subst (λ (qs : List Place). In q qs) targets i)

  pub others-kept : (q : Place) → (In q ts → ⊥) → values_in mid q ≡ values_in old q
  others-kept q out = ap (λ (xs : List Object). values_in xs q) begun ∙ wrote-other writes old q (λ i. out (written-in q i))

  settled : Settled (binding_at (without_all ps bs)) (values_in new)
  settled = subst (λ (xs : List Binding). Settled (binding_at xs) (values_in new)) left-is
      (written-settled bs ts followers (values_in old) (values_in mid) (values_in new) affected agree.settled others-kept is)

  have : HaveLasting new writes
  have = lasting-same mid new writes
      (λ q i. written-value bs ts followers (values_in old) (values_in mid) (values_in new) affected agree.settled others-kept is q (written-in q i))
      (subst (λ (xs : List Object). HaveLasting xs writes) (sym begun) (wrote-lasting p writes old agree.typed fits))

  module _ (changed : List Place) (n : ℕ) (differ : DifferInValues old new) (changes : AreChanged old new (in_order ts bs) changed)
      (sound : AreSound p new bs) (count : n ≡ length followers) where
    is_written : IsWritten bs (without_all ps bs) old new writes changed
    is_written = record {
      bindings = refl;
      objects = differ;
      written = have;
      settled = settled;
      kept = λ q none away. written-kept bs ts followers (values_in old) (values_in mid) (values_in new) affected agree.settled others-kept is q
          (ap (λ (xs : List Binding). binding_at xs q) left-is ∙ none) (λ i. away (in-written q i));
      changes = subst (λ (qs : List Place). AreChanged old new qs changed) (ap (λ (qs : List Place). in_order qs bs) targets ∙ in-order-once ps bs) changes;
    }

    agree_written : Agree p new (without_all ps bs)
    agree_written = record {
      typed = sound.0;
      fit = all-left (IsFit p new) ps bs sound.1;
      one_loop = all-left (IsInOneLoop new) ps bs (all-joined old new differ bs agree.one_loop);
      apart = apart-all ps bs agree.apart;
      acyclic = acyclic-all ps bs agree.apart agree.acyclic;
      settled = settled;
    }

    counts : CountsReached (binding_at (without_all ps bs)) ps changed n
    counts = counts-same (binding_at (without_all ps bs)) ts ps changed n in-written written-in
        (subst (λ (xs : List Binding). CountsReached (binding_at xs) ts changed n) left-is
        (counts-affected (binding_at (without_all ts bs)) ts followers changed n affected
        (changed-among old new (in_order ts bs) changed ts followers changes (rest-alike old mid new bs ts followers others-kept is differ)) count))

    pub lead-to : LeadTo p old bs writes new changed n
    lead-to = record { written = is_written; agree = agree_written; counted = counts }

-- .. of values that the properties had already
all-stay : (objects : List Object) (ps : List Place) → AreChanged objects objects ps []
all-stay objects [] = none_changed
all-stay objects (p ∷ ps) = one_stayed refl (all-stay objects ps)

module _ (bs : List Binding) (objects : List Object) (writes : List Assignment) (before : Settled (binding_at bs) (values_in objects)) where
  left : Settled (binding_at (without_all (places_in writes) bs)) (values_in objects)
  left q b some = before q b (without_all-fewer (places_in writes) bs q b some)

  is_kept : HaveLasting objects writes → IsWritten bs (without_all (places_in writes) bs) objects objects writes []
  is_kept has = record {
    bindings = refl;
    objects = refl;
    written = has;
    settled = left;
    kept = λ q none away. refl;
    changes = all-stay objects (in_order (places_in writes) bs);
  }

  agree_kept : (p : Loaded) → Agree p objects bs → Agree p objects (without_all (places_in writes) bs)
  agree_kept p agree = record {
    typed = agree.typed;
    fit = all-left (IsFit p objects) (places_in writes) bs agree.fit;
    one_loop = all-left (IsInOneLoop objects) (places_in writes) bs agree.one_loop;
    apart = apart-all (places_in writes) bs agree.apart;
    acyclic = acyclic-all (places_in writes) bs agree.apart agree.acyclic;
    settled = left;
  }

  -- .. and then nothing is planned
  module _ (plan : Planned) (none : plan.values.entries ≡ []) (told : plan.changed ≡ []) (counted : plan.evaluated ≡ 0) where
    same : after plan objects ≡ objects
    same = ap (λ (es : List ((ℕ × ℕ) × Value)). assigned es objects) none

    pub kept-plans : HaveLasting objects writes → IsWritten bs (without_all (places_in writes) bs) objects (after plan objects) writes plan.changed
    kept-plans has =
        subst (λ (xs : List Object). IsWritten bs (without_all (places_in writes) bs) objects xs writes plan.changed) (sym same)
        (subst (λ (qs : List Place). IsWritten bs (without_all (places_in writes) bs) objects objects writes qs) (sym told) (is_kept has))

    pub kept-agrees : (p : Loaded) → Agree p objects bs → Agree p (after plan objects) (without_all (places_in writes) bs)
    kept-agrees p agree = subst (λ (xs : List Object). Agree p xs (without_all (places_in writes) bs)) (sym same) (agree_kept p agree)

    pub kept-counts : HaveLasting objects writes → CountsGroup (binding_at (without_all (places_in writes) bs)) writes objects plan.changed plan.evaluated
    kept-counts has = ((λ have. (told, counted)), (λ apart. absurd (apart has)))

-- the count where some property has another value
pub counts-changed : (F : Place → Option Binding) (objects : List Object) (writes : List Assignment) (changed : List Place) (n : ℕ) → (¬ HaveLasting objects writes) → CountsReached F (places_in writes) changed n → CountsGroup F writes objects changed n
counts-changed F objects writes changed n apart counts = ((λ have. absurd (apart have)), (λ out. counts))

-- ---- a bind
module _ (bs : List Binding) (b : Binding) (reached later : List Place) (affected : IsAffected (binding_at (without b.target bs)) (b.target ∷ []) reached)
    (all : later ≡ b.target ∷ reached) where
  pub install_loops : reads_any b later ≡ true → Loop (binding_at (replaced bs b))
  install_loops found = closes-loop bs b reached affected (subst (λ (xs : List Place). reads_any b xs ≡ true) all found)

  module _ (free : reads_any b later ≡ false) where
    apart : reads_any b (b.target ∷ reached) ≡ false
    apart = subst (λ (xs : List Place). reads_any b xs ≡ false) all free

    pub is_moved : IsLater (binding_at bs) (binding_at (replaced bs b)) b.target later
    is_moved = subst (λ (xs : List Place). IsLater (binding_at bs) (binding_at (replaced bs b)) b.target xs) (sym all) (installed-later bs b reached affected apart)

    pub is_later : IsLater (binding_at bs) (bound (binding_at bs) b.target b) b.target (b.target ∷ reached)
    is_later = later-is bs b reached affected apart

    pub closes_none : (¬ Loop (binding_at bs)) → ¬ Loop (binding_at (replaced bs b))
    closes_none acyclic = installed-acyclic bs b reached affected apart acyclic

    module _ (old new : List Object) (v : Value) (before : Settled (binding_at bs) (values_in old)) (acyclic : ¬ Loop (binding_at bs))
        (has : value_of b (values_in old) ≡ Some v)
        (is : (q : Place) → values_in new q ≡ pass (binding_at bs) reached (update (values_in old) b.target (Some v)) q) where
      settles : Settled (binding_at (replaced bs b)) (values_in new)
      settles = installed-settled bs b reached affected apart v (values_in old) (values_in new) before has is

      pub is_installed : (cs : List Binding) (changed : List Place) → cs ≡ replaced bs b → DifferInValues old new → AreChanged old new (in_order (b.target ∷ []) bs) changed → IsInstalled bs cs old new b changed
      is_installed cs changed left differ changes = record {
        bindings = left;
        objects = differ;
        settled = subst (λ (xs : List Binding). Settled (binding_at xs) (values_in new)) (sym left) settles;
        kept = λ q none. installed-kept bs b reached affected apart v (values_in old) (values_in new) before has is q (ap (λ (xs : List Binding). binding_at xs q) (sym left) ∙ none);
        changes = changes;
      }

      pub agree_installed : (p : Loaded) (cs : List Binding) → cs ≡ replaced bs b → DifferInValues old new → Agree p old bs → IsFit p old b → IsInOneLoop old b → AreSound p new bs → Agree p new cs
      agree_installed p cs left differ agree fit joined sound = subst (λ (xs : List Binding). Agree p new xs) (sym left) (record {
        typed = sound.0;
        fit = All-push (IsFit p new) (without b.target bs) b (All-filter _ (IsFit p new) bs sound.1) (fit-stays p old new agree.typed sound.0 differ b fit);
        one_loop = All-push (IsInOneLoop new) (without b.target bs) b (All-filter _ (IsInOneLoop new) bs (all-joined old new differ bs agree.one_loop)) (joined-stays old new differ b joined);
        apart = apart-replaced bs b agree.apart;
        acyclic = closes_none acyclic;
        settled = settles;
      })

-- the value that a binding has is of its target's type
pub fits-of : (p : Loaded) (objects : List Object) (b : Binding) (v : Value) → IsFit p objects b → value_of b (values_in objects) ≡ Some v → FitsAt p objects b.target v
fits-of p objects b v f is = subst (λ (w : Value). FitsAt p objects b.target w) (same_Some f.value v (sym f.is ∙ is)) f.typed
