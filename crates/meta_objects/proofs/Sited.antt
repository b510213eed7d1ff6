-- Binding sites that are resolved in outlines, as they are loaded.
use Rattle.std.{proofs.Common.{◌≡◌, ℕ, ◌<◌, true, List, [], ◌∷◌, ◌++◌, length, get_or, slice_get, Some, inl, inr, refl, sym, ap, ◌∙◌, subst}, specs.Prelude.{All}, specs.List.{AllZip}, proofs.lemmas.Option.{slice_get_within, slice_get-get_or}}
use Rattle.basic_types.specs.{declared.qtype.QType.{QType}, declared.value.Value.{Value}}
use Rattle.syntax_trees.specs.{declared.syntax.Expr.{Expr}, declared.syntax.Path.{Path}, declared.program.Formal.{Formal}, declared.program.Property.{Property}, declared.program.Site.{Site}}
use Rattle.syntax_trees.specs.declared.syntax.Expr.TheOpen as expr
use Rattle.meta_model.{specs.declared.object.ValueType.{ValueType}, specs.declared.site.SourceProperty.{SourceProperty}, specs.declared.site.MetaSite.{MetaSite}, specs.Literals.{literal, HoldsNoObject}, specs.Loaded.{Loaded}, specs.Members.{IsClassNamed, IsPropertyNamed}, specs.Sites.{paths_in, literals_in}, specs.Sound.{IsPlain, IsPlainProperty, IsSoundSource, IsSoundSite}, proofs.PathsIn.{paths_of, literals_of}}
use Rattle.meta_model.specs.declared.object.ValueType.TheVariants as type
use Rattle.class_outlines.{specs.declared.outline.Outline.{Outline}, specs.code.ReadTypes.{IsReadAs}, specs.Outlines.{IsOutlineNamed}, specs.DeclaredSites.{IsPropertyIn, IsSourceProperty, ReadsReference, UsesReference, by_target, by_source}, proofs.Searches.{same_first}, proofs.Zips.{any_of, zip_left, zip_right, zip_append, zip_also}}
use Rattle.name_resolution.specs.{declared.body_resolution.work.ResolvedWork.{ResolvedWork}, code.Loading.{IsObject}, code.Sites.{IsFormula, literal_is, path_is, unary_is, binary_is, IsSite}}
use Rattle.meta_objects.{specs.LoadedSites.{IsLoadedSource, IsLoadedFormula, literal_loads, path_loads, unary_loads, binary_loads, IsLoadedSite}, proofs.SoundBodies.{no_object}, proofs.Soundness.{object_at, named, FoundProperty, property_at}}

-- what holds of each element by its place
pub all_of : {X : Type 0} (P : X → Type 0) (xs : List X) → ((k : ℕ) (x : X) → slice_get xs k ≡ Some x → P x) → All P xs
all_of P xs has k d inside = has k (get_or xs k d) (slice_get-get_or xs k d inside)

zip_by : {A B : Type 0} (R : A → B → Type 0) (xs us : List A) (ys vs : List B) → xs ≡ us → ys ≡ vs → AllZip R us vs → AllZip R xs ys
zip_by R xs us ys vs e f h = subst (λ ws. AllZip R ws ys) (sym e) (subst (λ ws. AllZip R us ws) (sym f) h)

-- ---- the parts of an expression and of its resolved form
module _ (outlines : List Outline) (site : Site) where
  abbrev pub IsReadIn : Path → SourceProperty → Type 0
  IsReadIn path s = (x : Property) × IsSourceProperty outlines site path s x

  -- the paths, each with the property that it leads to
  pub paths_zip : (e : Expr Path) (f : Expr SourceProperty) → IsFormula outlines site e f → AllZip IsReadIn (paths_in e) (paths_in f)
  paths_zip e f (literal_is {v = v} a b) =
      zip_by IsReadIn (paths_in e) [] (paths_in f) [] (paths_of e (expr.Literal v) a) (paths_of f (expr.Literal (literal v)) b) tt
  paths_zip e f (path_is {path = path} {s = s} {property = x} a b h) =
      zip_by IsReadIn (paths_in e) (path ∷ []) (paths_in f) (s ∷ []) (paths_of e (expr.Path path) a) (paths_of f (expr.Path s) b) ((x, h), tt)
  paths_zip e f (unary_is {a = x} {b = y} {op = op} a b h) =
      zip_by IsReadIn (paths_in e) (paths_in x) (paths_in f) (paths_in y) (paths_of e (expr.Unary op x) a) (paths_of f (expr.Unary op y) b) (paths_zip x y h)
  paths_zip e f (binary_is {a = x} {c = u} {b = y} {d = v} {op = op} a b h k) =
      zip_by IsReadIn (paths_in e) (paths_in x ++ paths_in u) (paths_in f) (paths_in y ++ paths_in v) (paths_of e (expr.Binary op x u) a) (paths_of f (expr.Binary op y v) b)
      (zip_append IsReadIn (paths_in x) (paths_in u) (paths_in y) (paths_in v) (paths_zip x y h) (paths_zip u v k))

  abbrev IsLiteralOf : Value → Value → Type 0
  IsLiteralOf v w = w ≡ literal v

  pub literals_zip : (e : Expr Path) (f : Expr SourceProperty) → IsFormula outlines site e f → AllZip IsLiteralOf (literals_in e) (literals_in f)
  literals_zip e f (literal_is {v = v} a b) =
      zip_by IsLiteralOf (literals_in e) (v ∷ []) (literals_in f) (literal v ∷ []) (literals_of e (expr.Literal v) a) (literals_of f (expr.Literal (literal v)) b) (refl, tt)
  literals_zip e f (path_is {path = path} {s = s} a b h) =
      zip_by IsLiteralOf (literals_in e) [] (literals_in f) [] (literals_of e (expr.Path path) a) (literals_of f (expr.Path s) b) tt
  literals_zip e f (unary_is {a = x} {b = y} {op = op} a b h) =
      zip_by IsLiteralOf (literals_in e) (literals_in x) (literals_in f) (literals_in y) (literals_of e (expr.Unary op x) a) (literals_of f (expr.Unary op y) b) (literals_zip x y h)
  literals_zip e f (binary_is {a = x} {c = u} {b = y} {d = v} {op = op} a b h k) =
      zip_by IsLiteralOf (literals_in e) (literals_in x ++ literals_in u) (literals_in f) (literals_in y ++ literals_in v) (literals_of e (expr.Binary op x u) a) (literals_of f (expr.Binary op y v) b)
      (zip_append IsLiteralOf (literals_in x) (literals_in u) (literals_in y) (literals_in v) (literals_zip x y h) (literals_zip u v k))

-- ---- the loaded classes are those of these outlines
module _ (outlines : List Outline) (works : List (List ResolvedWork)) (p : Loaded) (objects : AllZip (IsObject outlines works) outlines p.classes) where
  pub found_in : (class name : List ℕ) (c q : ℕ) (x : Property) → IsPropertyIn outlines class name c q x → FoundProperty outlines works p objects c q x
  found_in class name c q x h =
      property_at outlines works p objects c h.of_class.at.item h.of_class.at.is q x (h.place.at.is ∙ ap (λ (y : Property). Some y) h.is)

  pub named_in : (class name : List ℕ) (c q : ℕ) (x : Property) → IsPropertyIn outlines class name c q x → IsPropertyNamed p c name q
  named_in class name c q x h =
      let found = found_in class name c q x h in
      record {
        class = found.is.class;
        is_class = found.is.is_class;
        property = found.loaded;
        is = found.is.is;
        named = found.named ∙ sym (ap (λ (y : Property). y.name) h.is) ∙ h.place.at.has;
      }

  -- what isn't declared as a pointer is read as no reference
  pub plain_kind : (T : QType) (k : ValueType) → (¬ (T.pointer ≡ true)) → IsReadAs outlines T k → IsPlain k
  plain_kind T type.Int not h class constant e = absurd (cc)
  plain_kind T type.Bool not h class constant e = absurd (cc)
  plain_kind T type.Text not h class constant e = absurd (cc)
  plain_kind T (type.Reference c k) not (inl h) class constant e = absurd (not h.0)
  plain_kind T (type.Reference c k) not (inr h) class constant e = let read_as_int = h.1 in absurd (cc)

  pub plain_in : (class name : List ℕ) (c q : ℕ) (x : Property) → IsPropertyIn outlines class name c q x → (¬ (x.kind.pointer ≡ true)) → IsPlainProperty p c q
  plain_in class name c q x h not =
      let found = found_in class name c q x h in
      record { property = found.loaded; is = found.is; plain = plain_kind x.kind found.loaded.kind not found.kind }

  class_there : (name : List ℕ) (c : ℕ) → IsOutlineNamed outlines name c → c < length p.classes
  class_there name c h =
      let x = object_at outlines works p objects c h.at.item h.at.is in slice_get_within p.classes c x.0 x.1

  abbrev IsClassOf : Formal → ℕ → Type 0
  IsClassOf f c = IsOutlineNamed outlines f.class c

  module _ (declared : Site) (site : MetaSite) (is : IsSite outlines declared site) where
    -- the class of the formal source that a path begins with
    source_class : (path : Path) (s : SourceProperty) (x : Property) (h : IsSourceProperty outlines declared path s x) → slice_get site.formals s.source ≡ Some h.number
    source_class path s x h =
        let at = zip_left IsClassOf declared.formals site.formals is.formals s.source h.formal.at.item h.formal.at.is in
        at.1 ∙ ap Some (same_first (λ (o : Outline). o.name ≡ h.formal.at.item.class) outlines at.0 h.number at.2 h.is_property.of_class)

    source_loads : (path : Path) (s : SourceProperty) (x : Property) → IsSourceProperty outlines declared path s x → IsLoadedSource p declared site.formals path s
    source_loads path s x h = record {
      formal_name = h.formal_name;
      rooted = h.rooted;
      formal = h.formal;
      class = h.number;
      is_class = source_class path s x h;
      name = h.name;
      alone = h.alone;
      is_property = named_in h.formal.at.item.class h.name h.number s.property x h.is_property;
    }

    formula_loads : (e : Expr Path) (f : Expr SourceProperty) → IsFormula outlines declared e f → IsLoadedFormula p declared site.formals e f
    formula_loads e f (literal_is a b) = literal_loads a b
    formula_loads e f (path_is {path = path} {s = s} {property = x} a b h) = path_loads a b (source_loads path s x h)
    formula_loads e f (unary_is {a = x} {b = y} a b h) = unary_loads a b (formula_loads x y h)
    formula_loads e f (binary_is {a = x} {c = u} {b = y} {d = v} a b h k) = binary_loads a b (formula_loads x y h) (formula_loads u v k)

    pub site_loads : IsLoadedSite p declared site
    site_loads = record {
      named = is.named;
      class = named outlines works p objects declared.class site.class is.target.of_class;
      property = named_in declared.class declared.property site.class site.property is.property is.target;
      formals = zip_also IsClassOf (λ (f : Formal) (c : ℕ). IsClassNamed p f.class c) declared.formals site.formals
          (λ f c h. named outlines works p objects f.class c h) is.formals;
      formula = formula_loads declared.expression site.formula is.formula;
    }

    -- ---- where no reference is used
    module _ (none : ¬ UsesReference outlines declared) where
      not_bound : ¬ (is.property.kind.pointer ≡ true)
      not_bound pointer = none (by_target (record { number = site.class; place = site.property; property = is.property; is = is.target; pointer = pointer }))

      source_sound : (k : ℕ) (s : SourceProperty) → slice_get (paths_in site.formula) k ≡ Some s → IsSoundSource p site.formals s
      source_sound k s e =
          let at = zip_right (IsReadIn outlines declared) (paths_in declared.expression) (paths_in site.formula) (paths_zip outlines declared declared.expression site.formula is.formula) k s e in
          let x : Property = at.2.0 in
          let read : IsSourceProperty outlines declared at.0 s x = at.2.1 in
          let not_read : ¬ (x.kind.pointer ≡ true) =
          λ pointer. none (by_source (any_of (ReadsReference outlines declared) (paths_in declared.expression) k
          (record { item = at.0; is = at.1; has = record { source = s; property = x; read = read; pointer = pointer } }))) in
          record {
            class = read.number;
            formal = source_class at.0 s x read;
            is_plain = plain_in read.formal.at.item.class read.name read.number s.property x read.is_property not_read;
          }

      literal_sound : (k : ℕ) (w : Value) → slice_get (literals_in site.formula) k ≡ Some w → HoldsNoObject w
      literal_sound k w e =
          let at = zip_right (λ (v x : Value). x ≡ literal v) (literals_in declared.expression) (literals_in site.formula) (literals_zip outlines declared declared.expression site.formula is.formula) k w e in
          subst HoldsNoObject (sym at.2) (no_object at.0)

      formal_there : (k : ℕ) (c : ℕ) → slice_get site.formals k ≡ Some c → c < length p.classes
      formal_there k c e =
          let at = zip_right IsClassOf declared.formals site.formals is.formals k c e in class_there at.0.class c at.2

      pub site_sound : IsSoundSite p site
      site_sound = record {
        target = plain_in declared.class declared.property site.class site.property is.property is.target not_bound;
        formals = all_of (λ (c : ℕ). c < length p.classes) site.formals formal_there;
        sources = all_of (IsSoundSource p site.formals) (paths_in site.formula) source_sound;
        literals = all_of HoldsNoObject (literals_in site.formula) literal_sound;
      }
