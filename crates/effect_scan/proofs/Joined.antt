-- What one declaration joins.
use Rattle.std.proofs.Common.{◌≡◌, ◌≢◌, ◌↔◌, ℕ, ◌<◌, List, [], ◌++◌, length, arith, Some, None, sym, ap, ◌∙◌, subst}
use Rattle.std.specs.List.{Contains}
use Rattle.std.proofs.lemmas.Option.{same_Some, none-some, slice_get_within}
use Rattle.basic_types.specs.declared.kind.Kind.TheVariants.{Queued}
use Rattle.meta_model.specs.declared.qobject.TheConstants.{DESTROYED}
use Rattle.meta_model.specs.declared.object.MetaMethod.{MetaMethod}
use Rattle.meta_model.specs.declared.object.MetaProperty.{MetaProperty}
use Rattle.meta_model.specs.declared.object.ValueType.{ValueType}
use Rattle.meta_model.specs.declared.object.MetaWire.{MetaWire}
use Rattle.syntax_trees.specs.declared.syntax.Expr.{Expr}
use Rattle.meta_model.specs.declared.site.SourceProperty.{SourceProperty}
use Rattle.meta_model.specs.declared.site.MetaSite.{MetaSite}
use Rattle.meta_model.specs.Sites.{paths_in}
use Rattle.effect_scan.specs.declared.node.Member.TheVariants.{Method, Property, Destruction}
use Rattle.effect_scan.specs.declared.effect.Effect.{Effect}
use Rattle.effect_scan.specs.declared.places.NodePlaces.{NodePlaces}
use Rattle.effect_scan.specs.Nodes.{node, named, IsAt}
use Rattle.effect_scan.specs.Effects.{WorkHas}
use Rattle.effect_scan.specs.code.NodePlaces.{InEach, InBelow, IsReached, IsRead, OfSome}
use Rattle.effect_scan.specs.code.Leading.{WireLeads, MethodLeads, WorkReaches, PropertyLeads, Notifies, SiteLeads, ClosureLeads}

module _ (places : NodePlaces) where
  pub wire_both : (wire : MetaWire) (signal : ℕ) → signal ≡ named wire.signal → wire.kind ≢ Queued → (a b : ℕ)
      → WireLeads places wire a b ↔ (InBelow places wire.sender (Method signal) a × InBelow places wire.receiver (Method wire.method) b)
  wire_both wire signal e kind a b = (
    λ h. (subst (λ (m : ℕ). InBelow places wire.sender (Method m) a) (sym e) h.from, h.to),
    λ h. record { at_once = kind; from = subst (λ (m : ℕ). InBelow places wire.sender (Method m) a) e h.0; to = h.1 },
  )

  pub wire_queued : (wire : MetaWire) → wire.kind ≡ Queued → (a b : ℕ) → ¬ WireLeads places wire a b
  wire_queued wire kind a b h = h.at_once kind

  pub method_both : (c m : ℕ) (method : MetaMethod) → (a b : ℕ) → MethodLeads places c m method a b ↔ (IsAt places.numbering (node c (Method m)) a × WorkReaches places c method b)
  method_both c m method a b = (
    λ h. (h.from, record { effect = h.effect; has = h.has; to = h.to }),
    λ h. record { from = h.0; effect = h.1.effect; has = h.1.has; to = h.1.to },
  )

  -- what some of the effects reach, where they are those of the work
  pub work_reaches : (c : ℕ) (method : MetaMethod) (types : List ValueType) (effects found : List Effect) → types ≡ method.types → effects ≡ found → ((e : Effect) → Contains found e ↔ WorkHas types method.work e) → (b : ℕ)
      → WorkReaches places c method b ↔ OfSome (IsReached places c) effects b
  work_reaches c method types effects found k e has b = (
    λ h.
        let among = (has h.effect).1 (subst (λ (ks : List ValueType). WorkHas ks method.work h.effect) (sym k) h.has) in
        (h.effect, subst (λ (l : List Effect). Contains l h.effect) (sym e) among, h.to),
    λ h. record {
      effect = h.0;
      has = subst (λ (ks : List ValueType). WorkHas ks method.work h.0) k ((has h.0).0 (subst (λ (l : List Effect). Contains l h.0) e h.1));
      to = h.2;
    },
  )

  pub notify_both : (c q signal : ℕ) → (a b : ℕ) → Notifies places c q signal a b ↔ (IsAt places.numbering (node c (Property q)) a × IsAt places.numbering (node c (Method signal)) b)
  notify_both c q signal a b = (λ h. (h.from, h.to), λ h. record { from = h.0; to = h.1 })

  pub property_both : (c q : ℕ) (property : MetaProperty) (signal given : ℕ) → property.notify ≡ Some given → signal ≡ named given → (a b : ℕ) → PropertyLeads places c q property a b ↔ Notifies places c q signal a b
  property_both c q property signal given is e a b = (
    λ h.
        let same : named h.signal ≡ signal = ap named (same_Some _ _ (sym h.notifies ∙ is)) ∙ sym e in
        record { from = h.from; to = subst (λ (m : ℕ). IsAt places.numbering (node c (Method m)) b) same h.to },
    λ h. record { signal = given; notifies = is; from = h.from; to = subst (λ (m : ℕ). IsAt places.numbering (node c (Method m)) b) e h.to },
  )

  pub property_none : (c q : ℕ) (property : MetaProperty) → property.notify ≡ None → (a b : ℕ) → ¬ PropertyLeads places c q property a b
  property_none c q property is a b h = none-some _ (sym is ∙ h.notifies)

  pub site_both : (site : MetaSite) (formula : Expr SourceProperty) (sources gathered empty : List SourceProperty) → formula ≡ site.formula → sources ≡ gathered → gathered ≡ empty ++ paths_in formula → empty ≡ [] → (a b : ℕ)
      → SiteLeads places site a b ↔ (OfSome (IsRead places site.formals) sources a × InBelow places site.class (Property site.property) b)
  site_both site formula sources gathered empty e f g none a b =
      let is : sources ≡ paths_in site.formula = f ∙ g ∙ ap (λ (l : List SourceProperty). l ++ paths_in formula) none ∙ ap paths_in e in (
        λ h. (subst (λ (l : List SourceProperty). OfSome (IsRead places site.formals) l a) (sym is) h.from, h.to),
        λ h. record { from = subst (λ (l : List SourceProperty). OfSome (IsRead places site.formals) l a) is h.0; to = h.1 },
      )

  pub read_low : (formals : List ℕ) (rows : List (List ℕ)) → length rows ≡ length places.numbering → (s : SourceProperty) (n : ℕ) → IsRead places formals s n → n < length rows
  read_low formals rows count s n h = let low = slice_get_within places.numbering n _ h.2.2 in omega arith

  pub closure_both : (c : ℕ) (closure : List ℕ) → (a b : ℕ)
      → ClosureLeads places c closure a b ↔ (IsAt places.numbering (node c Destruction) a × InEach places.numbering closure (Method DESTROYED) b)
  closure_both c closure a b = (λ h. (h.from, h.to), λ h. record { from = h.0; to = h.1 })
