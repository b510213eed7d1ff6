-- Natives, wires, owns and binding sites that are loaded by the numbers of members, as their names are found in outlines.
use Rattle.std.{proofs.Common.{◌≡◌, ℕ, List, slice_get, Some, refl, sym, ◌∙◌, subst}, specs.List.{AllZip}, proofs.lemmas.Option.{same_Some}}
use Rattle.basic_types.specs.declared.sig.Sig.{Sig}
use Rattle.syntax_trees.specs.{declared.syntax.Expr.{Expr}, declared.syntax.Path.{Path}, declared.program.EffectNames.{EffectNames}, declared.program.Formal.{Formal}, declared.program.Property.{Property}, declared.program.Wire.{Wire}, declared.program.Owns.{Owns}, declared.program.Site.{Site}}
use Rattle.meta_model.specs.{declared.effects.MetaEffects.{MetaEffects}, declared.object.MetaWire.{MetaWire}, declared.object.MetaOwns.{MetaOwns}, declared.site.SourceProperty.{SourceProperty}, declared.site.MetaSite.{MetaSite}, Loaded.{Loaded}, Members.{IsClassNamed, IsPropertyNamed}}
use Rattle.class_outlines.{specs.declared.outline.Outline.{Outline}, specs.Outlines.{IsOutlineNamed}, specs.Clashes.{HasTwoMembers}, specs.DeclaredSites.{IsPropertyIn, IsSourceProperty}, proofs.Zips.{zip_left, zip_also}}
use Rattle.name_resolution.specs.{declared.body_resolution.work.ResolvedWork.{ResolvedWork}, code.Natives.{HasPropertyIn, HasSignalIn, AreEffects}, code.Wires.{IsWire, IsOwns}, code.Loading.{IsObject}, code.Sites.{IsFormula, literal_is, path_is, unary_is, binary_is, IsSite}}
use Rattle.meta_objects.{specs.LoadedNatives.{IsEmitted, AreLoadedEffects}, specs.LoadedProgram.{IsLoadedWire, IsLoadedOwns}, specs.LoadedSites.{IsLoadedSource, IsLoadedFormula, literal_loads, path_loads, unary_loads, binary_loads, IsLoadedSite}, proofs.FoundBodies.{first_property, first_class, heading_at, declared_at, name_of, outline_named, signal_end, method_end}}

module _ (outlines : List Outline) (works : List (List ResolvedWork)) (p : Loaded) (objects : AllZip (IsObject outlines works) outlines p.classes)
    (distinct : (i j : ℕ) (a b : Outline) → slice_get outlines i ≡ Some a → slice_get outlines j ≡ Some b → a.name ≡ b.name → i ≡ j)
    (each_once : (c : ℕ) (o : Outline) → slice_get outlines c ≡ Some o → ¬ HasTwoMembers o) where
  -- property q of class c, by the names of both
  property_found : (class : List ℕ) (c : ℕ) → IsOutlineNamed outlines class c → (name : List ℕ) (q : ℕ) → IsPropertyNamed p c name q → (x : Property) × IsPropertyIn outlines class name c q x
  property_found class c is_class name q h =
      let found = declared_at outlines works p objects distinct each_once c q h.property (record { class = h.class; is_class = h.is_class; is = h.is }) in (
        found.declared,
        record {
          of_class =
              first_class outlines works p objects distinct each_once class c found.outline found.is_outline
              (name_of outlines works p objects distinct each_once class c is_class found.outline found.is_outline);
          place = first_property found.outline (each_once c found.outline found.is_outline) name q found.declared found.is (sym found.by.named ∙ h.named);
          is = refl;
        },
      )

  -- ---- natives
  signal_found : (class : List ℕ) (c : ℕ) → IsOutlineNamed outlines class c → (sig : Sig) (m : ℕ) → IsEmitted p c sig m → HasSignalIn outlines class sig m
  signal_found class c is_class sig m h =
      let found = heading_at outlines works p objects distinct each_once c m h.signal.method h.signal.is in
      record {
        number = c;
        is = record {
          class =
              first_class outlines works p objects distinct each_once class c found.outline found.is_outline
              (name_of outlines works p objects distinct each_once class c is_class found.outline found.is_outline);
          method = signal_end outlines works p objects distinct each_once c sig m h.signal h.signals found;
        };
        emitted = h.emitted;
      }

  pub effects_found : (class : List ℕ) (c : ℕ) → IsOutlineNamed outlines class c → (names : EffectNames) (effects : MetaEffects) → AreLoadedEffects p c names effects → AreEffects outlines class names effects
  effects_found class c is_class names effects h =
      let has : (name : List ℕ) (q : ℕ) → IsPropertyNamed p c name q → HasPropertyIn outlines class name q =
      λ name q is. let x = property_found class c is_class name q is in record { number = c; property = x.0; is = x.1 } in
      record {
        reads = zip_also (IsPropertyNamed p c) (HasPropertyIn outlines class) names.reads effects.reads has h.reads;
        emits = zip_also (IsEmitted p c) (HasSignalIn outlines class) names.emits effects.emits (signal_found class c is_class) h.emits;
        sets = zip_also (IsPropertyNamed p c) (HasPropertyIn outlines class) names.sets effects.sets has h.sets;
      }

  -- ---- wires and owns
  pub wire_found : (wire : Wire) (found : MetaWire) → IsLoadedWire p wire found → IsWire outlines wire found
  wire_found wire found h =
      let from = heading_at outlines works p objects distinct each_once found.sender found.signal h.connects.signal.method h.connects.signal.is in
      let to = heading_at outlines works p objects distinct each_once found.receiver found.method h.connects.method.method h.connects.method.is in
      record {
        from = record {
          class =
              first_class outlines works p objects distinct each_once wire.sender found.sender from.outline from.is_outline
              (name_of outlines works p objects distinct each_once wire.sender found.sender (outline_named outlines works p objects distinct each_once wire.sender found.sender h.sender) from.outline from.is_outline);
          method = signal_end outlines works p objects distinct each_once found.sender wire.signal found.signal h.connects.signal h.connects.signals from;
        };
        to = record {
          class =
              first_class outlines works p objects distinct each_once wire.receiver found.receiver to.outline to.is_outline
              (name_of outlines works p objects distinct each_once wire.receiver found.receiver (outline_named outlines works p objects distinct each_once wire.receiver found.receiver h.receiver) to.outline to.is_outline);
          method = method_end outlines works p objects distinct each_once found.receiver wire.method found.method h.connects.method to;
        };
        called = h.connects.called;
        same_kind = h.same_kind;
      }

  pub owns_found : (owns : Owns) (found : MetaOwns) → IsLoadedOwns p owns found → IsOwns outlines owns found
  owns_found owns found h = record {
    parent = outline_named outlines works p objects distinct each_once owns.parent found.parent h.parent;
    child = outline_named outlines works p objects distinct each_once owns.child found.child h.child;
  }

  -- ---- binding sites
  module _ (declared : Site) (site : MetaSite) (h : IsLoadedSite p declared site) where
    source_found : (path : Path) (s : SourceProperty) → IsLoadedSource p declared site.formals path s → (x : Property) × IsSourceProperty outlines declared path s x
    source_found path s k =
        let at = zip_left (λ (f : Formal) (c : ℕ). IsClassNamed p f.class c) declared.formals site.formals h.formals s.source k.formal.at.item k.formal.at.is in
        let same : at.0 ≡ k.class = same_Some _ _ (sym at.1 ∙ k.is_class) in
        let of_class : IsOutlineNamed outlines k.formal.at.item.class k.class =
        outline_named outlines works p objects distinct each_once k.formal.at.item.class k.class (subst (λ c. IsClassNamed p k.formal.at.item.class c) same at.2) in
        let found = property_found k.formal.at.item.class k.class of_class k.name s.property k.is_property in (
          found.0,
          record {
            formal_name = k.formal_name;
            rooted = k.rooted;
            formal = k.formal;
            name = k.name;
            alone = k.alone;
            number = k.class;
            is_property = found.1;
          },
        )

    formula_found : (e : Expr Path) (f : Expr SourceProperty) → IsLoadedFormula p declared site.formals e f → IsFormula outlines declared e f
    formula_found e f (literal_loads a b) = literal_is a b
    formula_found e f (path_loads {path = path} {s = s} a b k) = path_is a b ((source_found path s k).1)
    formula_found e f (unary_loads {a = x} {b = y} a b k) = unary_is a b (formula_found x y k)
    formula_found e f (binary_loads {a = x} {c = u} {b = y} {d = v} a b k l) = binary_is a b (formula_found x y k) (formula_found u v l)

    pub site_found : IsSite outlines declared site
    site_found =
        let target = property_found declared.class site.class (outline_named outlines works p objects distinct each_once declared.class site.class h.class) declared.property site.property h.property in
        record {
          named = h.named;
          property = target.0;
          target = target.1;
          formals =
              zip_also (λ (f : Formal) (c : ℕ). IsClassNamed p f.class c) (λ (f : Formal) (c : ℕ). IsOutlineNamed outlines f.class c) declared.formals site.formals
              (λ f c k. outline_named outlines works p objects distinct each_once f.class c k) h.formals;
          formula = formula_found declared.expression site.formula h.formula;
        }
