-- In a program that loads, what may lead somewhere is a node, and so is what it leads to.
use Rattle.std.{proofs.Common.{◌≡◌, ◌≢◌, ◌⊎◌, inl, inr, ℕ, zero, suc, ◌+◌, ◌-◌, ◌<◌, ◌≤◌, false, Bool, cond, List, [], ◌∷◌, ◌++◌, length, map, take, slice_get, Option, Some, None, refl, sym, ap, ◌∙◌, subst, arith}, specs.Option.{option_and_then, option_map}, specs.List.{AllZip}, proofs.lemmas.Bool.{cases_eq, cases_lt, ne_eqb}, proofs.lemmas.List.Elements.{All-contains}, proofs.lemmas.Option.{slice_get_within, slice_get-map, same_Some, none-some}}
use Rattle.basic_types.specs.declared.qtype.QType.{QType}
use Rattle.syntax_trees.specs.declared.syntax.Expr.{Expr}
use Rattle.meta_model.{specs.declared.object.ValueType.{ValueType}, specs.declared.object.MetaRoot.{MetaRoot}, specs.declared.object.MetaRoot.TheVariants.{This, Parameter}, specs.declared.object.Step.{Step}, specs.declared.object.MetaPath.{MetaPath}, specs.declared.object.Statement.{Statement}, specs.declared.object.Statement.TheViews.{out-Statement}, specs.declared.object.Work.{Work}, specs.declared.object.Work.TheVariants.{Signal, Slot, Native}, specs.declared.effects.MetaEffects.{MetaEffects}, specs.declared.object.MetaMethod.{MetaMethod}, specs.declared.object.MetaObject.{MetaObject}, specs.declared.object.MetaProperty.{MetaProperty}, specs.declared.qobject.TheConstants.{DESTROYED, DESTROYED_ALONE, OBJECT_NAME_CHANGED}, specs.Loaded.{Loaded}, specs.Members.{IsClass, IsMethod, IsProperty, Below, same, under}, specs.Root.{root_methods}, specs.Sound.{IsSound, HasRoot, this_has, parameter_has, Leads, here, on, LeadsToClass, IsSoundStatement, set_sound, emit_sound, call_sound, if_sound, delete_sound, group_sound, AreSound, next_sound, IsSoundWork, IsPlainProperty, IsPlainSignal, AreSoundEffects, IsSoundMethod, IsSoundSource}, specs.Kinds.{IsKind}, proofs.InLists.{place_in, owned_by}, specs.Sites.{paths_in}, proofs.Zips.{get_front, zip_right}}
use Rattle.meta_model.specs.declared.object.ValueType.TheVariants as type
use Rattle.meta_model.specs.declared.object.Statement.TheOpen as layer
use Rattle.effect_scan.{specs.declared.node.Node.{Node}, specs.declared.node.Member.{Member}, specs.declared.effect.Reach.{Reach}, specs.declared.effect.Effect.{Effect}, specs.Nodes.{node, named, shape_of, class_nodes, nodes_from}, specs.Numbering.{IsPlaceIn}, specs.Effects.{reach_of_type, reach_of_root, reach_after, reach_of, effect_on, effect_of, Occurs, here as first, after, chosen, otherwise, grouped, NativeHas, WorkHas}, specs.Destroying.{Closure, itself, child}, specs.Edges.{AtOrBelow, ReachedAs, by_work, by_wire, by_notify, by_site, by_destruction}, specs.Laws.{IsNode, EdgesJoinNodes}, proofs.Numbered.{stands, stands_after, place_low}, proofs.Relating.{below_first, below_last, is_class}, proofs.Whole.{made}}
use Rattle.effect_scan.specs.declared.node.Member.TheVariants as member
use Rattle.effect_scan.specs.declared.effect.Reach.TheVariants as reach

-- ---- signals by their numbers
pub named_cases : (m : ℕ) → ((m ≡ DESTROYED_ALONE) × (named m ≡ DESTROYED)) ⊎ ((m ≢ DESTROYED_ALONE) × (named m ≡ m))
named_cases m =
    elim (cases_eq m DESTROYED_ALONE) [
      | inl e ↦ inl (e, ap named e)
      | inr ne ↦ inr (ne, ap (λ (b : Bool). cond b DESTROYED m) (ne_eqb m DESTROYED_ALONE ne))
    ]

-- ---- paths
last_kind : {p : Loaded} {T U : ValueType} (s : Step) (steps : List Step) → Leads p T (s ∷ steps) U → (last : Step) × (slice_get (s ∷ steps) (length steps) ≡ Some last) × (last.kind ≡ U)
last_kind s [] (on is e here) = (s, refl, refl)
last_kind s (t ∷ ts) (on is e rest) = last_kind t ts rest

abbrev ReachesClass : ℕ → ℕ → Reach → Type 0
ReachesClass me class r = ((r ≡ reach.Own) × (class ≡ me)) ⊎ (r ≡ reach.Below class)

class_of_type : (T : ValueType) (me class : ℕ) (constant : Bool) (r : Reach) → T ≡ type.Reference class constant → reach_of_type T ≡ Some r → ReachesClass me class r
class_of_type T me class constant r e h = inr (same_Some _ _ (sym h ∙ ap reach_of_type e))

of_root : (me : ℕ) (value_types : List ValueType) (root : MetaRoot) (T : ValueType) (class : ℕ) (constant : Bool) (r : Reach) → HasRoot me value_types root T → T ≡ type.Reference class constant → reach_of_root value_types root ≡ Some r → ReachesClass me class r
of_root me value_types This T class constant r this_has e h = let is : type.Reference me false ≡ type.Reference class constant = e in inl (sym (same_Some _ _ h), cc)
of_root me value_types (Parameter k) T class constant r (parameter_has at) e h = class_of_type T me class constant r e (sym (ap (option_and_then reach_of_type) at) ∙ h)

of_steps : {p : Loaded} (me : ℕ) (value_types : List ValueType) (root : MetaRoot) (steps : List Step) (T U : ValueType) (class : ℕ) (constant : Bool) (r : Reach) → HasRoot me value_types root T → Leads p T steps U → U ≡ type.Reference class constant
    → reach_after value_types root (slice_get steps (length steps - 1)) ≡ Some r → ReachesClass me class r
of_steps me value_types root [] T U class constant r has here e h = of_root me value_types root T class constant r has e h
of_steps me value_types root (s ∷ steps) T U class constant r has leads e h =
    let last = last_kind s steps leads in
    let at : slice_get (s ∷ steps) (suc (length steps) - 1) ≡ Some last.0 = ap (slice_get (s ∷ steps)) (omega arith) ∙ last.1 in
    class_of_type last.0.kind me class constant r (last.2 ∙ e) (sym (ap (reach_after value_types root) at) ∙ h)

pub reach_is : {p : Loaded} (me : ℕ) (value_types : List ValueType) (path : MetaPath) (class : ℕ) (r : Reach) → LeadsToClass p me value_types path class → reach_of value_types path ≡ Some r → ReachesClass me class r
reach_is me value_types path class r leads h = of_steps me value_types path.root path.steps leads.leads.root_type (type.Reference class leads.constant) class leads.constant r leads.leads.root leads.leads.steps refl h

module _ {p : Loaded} (sound : IsSound p) where
  -- ---- members of classes below
  based : (found : Option MetaObject) (b : ℕ) → option_and_then (λ (class : MetaObject). class.base) found ≡ Some b → (class : MetaObject) × (found ≡ Some class) × (class.base ≡ Some b)
  based None b e = absurd (none-some b e)
  based (Some class) b e = (class, refl, e)

  method_below : (d c m : ℕ) (method : MetaMethod) → Below p d c → IsMethod p c m method → IsMethod p d m method
  method_below d c m method (same there) is = is
  method_below d c m method (under {b = b} e rest) is =
      let found = based (slice_get p.classes d) b e in
      let there : IsClass p d found.0 = record { is = found.1 } in
      let above = (sound.classes d found.0 there).under b found.2 in
      let at_base = method_below b c m method rest is in
      let same_class : at_base.class ≡ above.base = same_Some _ _ (sym at_base.is_class.is ∙ above.is.is) in
      let at : slice_get above.base.methods m ≡ Some method = sym (ap (λ (k : MetaObject). slice_get k.methods m) same_class) ∙ at_base.is in
      record { class = found.0; is_class = there; is = ap (λ (l : List MetaMethod). slice_get l m) above.methods ∙ get_front above.base.methods above.own_methods m method at }

  property_below : (d c q : ℕ) (property : MetaProperty) → Below p d c → IsProperty p c q property → IsProperty p d q property
  property_below d c q property (same there) is = is
  property_below d c q property (under {b = b} e rest) is =
      let found = based (slice_get p.classes d) b e in
      let there : IsClass p d found.0 = record { is = found.1 } in
      let above = (sound.classes d found.0 there).under b found.2 in
      let at_base = property_below b c q property rest is in
      let same_class : at_base.class ≡ above.base = same_Some _ _ (sym at_base.is_class.is ∙ above.is.is) in
      let at : slice_get above.base.properties q ≡ Some property = sym (ap (λ (k : MetaObject). slice_get k.properties q) same_class) ∙ at_base.is in
      record { class = found.0; is_class = there; is = ap (λ (l : List MetaProperty). slice_get l q) above.properties ∙ get_front above.base.properties above.own_properties q property at }

  -- the first three methods are signals
  root_signal : (c m : ℕ) (method : MetaMethod) → IsMethod p c m method → m ≤ OBJECT_NAME_CHANGED → method.work ≡ Signal
  root_signal c m method is low =
      let begins = (sound.classes c is.class is.is_class).begins in
      of_root_methods begins.own_methods m low (ap (λ ms. slice_get ms m) (sym begins.methods) ∙ is.is)
    where
      of_root_methods : (own : List MetaMethod) (m : ℕ) → m ≤ OBJECT_NAME_CHANGED → slice_get (root_methods ++ own) m ≡ Some method → method.work ≡ Signal
      of_root_methods own zero low e = ap (λ (k : MetaMethod). k.work) (sym (same_Some _ _ e))
      of_root_methods own (suc zero) low e = ap (λ (k : MetaMethod). k.work) (sym (same_Some _ _ e))
      of_root_methods own (suc (suc zero)) low e = ap (λ (k : MetaMethod). k.work) (sym (same_Some _ _ e))
      of_root_methods own (suc (suc (suc m))) low e = absurd (omega (arith, low))

  -- ---- members that are there are nodes
  placed : (c : ℕ) (class : MetaObject) → IsClass p c class → (x : Member) (k : ℕ) → IsPlaceIn (shape_of class) x k → IsNode p (node c x)
  placed c class is x k at =
      let shapes = map shape_of p.classes in
      let here_is : slice_get shapes c ≡ Some (shape_of class) = slice_get-map shape_of p.classes c ∙ ap (option_map shape_of) is.is in
      let low = place_low (0 + c) (shape_of class) x k at in
      let number : 0 + c ≡ c = omega arith in (
        length (nodes_from 0 (take c shapes)) + k,
        stands_after 0 shapes c (shape_of class) k here_is low ∙ ap (λ (n : ℕ). slice_get (class_nodes n (shape_of class)) k) number ∙ stands c (shape_of class) x k at,
      )

  method_node : (c m : ℕ) (method : MetaMethod) → IsMethod p c m method → m ≢ DESTROYED_ALONE → IsNode p (node c (member.Method m))
  method_node c m method is ne =
      let within = slice_get_within is.class.methods m method is.is in
      elim (cases_eq m DESTROYED) [
        | inl e ↦ placed c is.class is.is_class (member.Method m) 0 (inl (e, refl))
        | inr other ↦ placed c is.class is.is_class (member.Method m) (m - 1) (inr (omega (arith, ne, other), within, omega (arith, ne, other)))
      ]

  property_node : (c q : ℕ) (property : MetaProperty) → IsProperty p c q property → IsNode p (node c (member.Property q))
  property_node c q property is = placed c is.class is.is_class (member.Property q) _ (slice_get_within is.class.properties q property is.is, refl)

  end_node : (c : ℕ) (class : MetaObject) → IsClass p c class → IsNode p (node c member.Destruction)
  end_node c class is = placed c class is member.Destruction _ refl

  first_method : (c : ℕ) (class : MetaObject) → IsClass p c class → (method : MetaMethod) × IsMethod p c DESTROYED method
  first_method c class is =
      let begins = (sound.classes c class is).begins in
      (_, record { class = class; is_class = is; is = ap (λ ms. slice_get ms DESTROYED) begins.methods })

  destroyed_node : (c : ℕ) (class : MetaObject) → IsClass p c class → IsNode p (node c (member.Method DESTROYED))
  destroyed_node c class is = let m = first_method c class is in method_node c DESTROYED m.0 m.1 (λ e. omega (arith, e))

  named_node : (c m : ℕ) (method : MetaMethod) → IsMethod p c m method → IsNode p (node c (member.Method (named m)))
  named_node c m method is =
      elim (named_cases m) [
        | inl one ↦ subst (λ (n : ℕ). IsNode p (node c (member.Method n))) (sym one.1) (destroyed_node c is.class is.is_class)
        | inr other ↦ subst (λ (n : ℕ). IsNode p (node c (member.Method n))) (sym other.1) (method_node c m method is other.0)
      ]

  -- ---- members that statements name
  abbrev Has : ℕ → Member → Type 0
  Has c (member.Method m) = (method : MetaMethod) × IsMethod p c m method × (OBJECT_NAME_CHANGED < m)
  Has c (member.Property q) = (property : MetaProperty) × IsProperty p c q property
  Has c member.Destruction = c < length p.classes

  has_below : (d c : ℕ) (x : Member) → Below p d c → Has c x → Has d x
  has_below d c (member.Method m) below h = (h.0, method_below d c m h.0 below h.1, h.2)
  has_below d c (member.Property q) below h = (h.0, property_below d c q h.0 below h.1)
  has_below d c member.Destruction below h = below_first p d c below

  has_node : (c : ℕ) (x : Member) → Has c x → IsNode p (node c x)
  has_node c (member.Method m) h = method_node c m h.0 h.1 (λ e. omega (arith, h.2, e))
  has_node c (member.Property q) h = property_node c q h.0 h.1
  has_node c member.Destruction h = let class = is_class p c h in end_node c class.0 class.1

  abbrev Stands : ℕ → Member → Reach → Type 0
  Stands me x reach.Own = Has me x
  Stands me x (reach.Below k) = Has k x

  on_path : (me : ℕ) (value_types : List ValueType) (path : MetaPath) (class : ℕ) (x : Member) (effect : Effect) → LeadsToClass p me value_types path class → Has class x → effect_on value_types x path ≡ Some effect → Stands me effect.member effect.reach
  on_path me value_types path class x effect leads has h = given (reach_of value_types path) refl h
    where
      at : (r : Reach) → ReachesClass me class r → Stands me x r
      at r (inl own) = subst (λ (k : Reach). Stands me x k) (sym own.0) (subst (λ (c : ℕ). Has c x) own.1 has)
      at r (inr is) = subst (λ (k : Reach). Stands me x k) (sym is) has

      given : (found : Option Reach) → reach_of value_types path ≡ found → option_map (λ (r : Reach). record { reach = r; member = x }) found ≡ Some effect → Stands me effect.member effect.reach
      given None e k = absurd (none-some effect k)
      given (Some r) e k = subst (λ (f : Effect). Stands me f.member f.reach) (same_Some _ _ k) (at r (reach_is me value_types path class r leads e))

  effect_stands : (me : ℕ) (value_types : List ValueType) (z : layer.Statement-F Statement) (effect : Effect) → ((path : MetaPath) (class : ℕ) → LeadsToClass p me value_types path class → class < length p.classes) → IsSoundStatement p me value_types z → effect_of value_types z ≡ Some effect → Stands me effect.member effect.reach
  effect_stands me value_types (layer.Set path q e) effect classes (set_sound s) h = on_path me value_types path s.class (member.Property q) effect s.leads (s.property, s.is) h
  effect_stands me value_types (layer.Emit m es) effect classes (emit_sound s) h = subst (λ (f : Effect). Stands me f.member f.reach) (same_Some _ _ h) (s.signal, s.is, s.emitted)
  effect_stands me value_types (layer.Call path m es) effect classes (call_sound s) h = on_path me value_types path s.class (member.Method m) effect s.leads (s.slot, s.is, above) h
    where
      above : OBJECT_NAME_CHANGED < m
      above =
          elim (cases_lt OBJECT_NAME_CHANGED m) [
            | inl l ↦ l
            | inr low ↦ absurd (s.callable (root_signal s.class m s.slot s.is low))
          ]
  effect_stands me value_types (layer.If e block other) effect classes s h = absurd (none-some effect h)
  effect_stands me value_types (layer.Connect ends how) effect classes s h = absurd (none-some effect h)
  effect_stands me value_types (layer.Disconnect ends) effect classes s h = absurd (none-some effect h)
  effect_stands me value_types (layer.Delete path) effect classes (delete_sound {class = class} leads) h = on_path me value_types path class member.Destruction effect leads (classes path class leads) h
  effect_stands me value_types (layer.Later path) effect classes s h = absurd (none-some effect h)
  effect_stands me value_types (layer.Group sets) effect classes s h = absurd (none-some effect h)

  tail_of : {me : ℕ} {value_types : List ValueType} {t : Statement} {rest : List Statement} → AreSound p me value_types (t ∷ rest) → AreSound p me value_types rest
  tail_of (next_sound one rest) = rest

  one_of : {me : ℕ} {value_types : List ValueType} {t : Statement} {rest : List Statement} → AreSound p me value_types (t ∷ rest) → IsSoundStatement p me value_types (out-Statement t)
  one_of (next_sound one rest) = one

  blocks_of : (me : ℕ) (value_types : List ValueType) (z : layer.Statement-F Statement) (e : Expr MetaPath) (block other : List Statement) → IsSoundStatement p me value_types z → z ≡ layer.If e block other → AreSound p me value_types block × AreSound p me value_types other
  blocks_of me value_types z e block other s at = given (subst (IsSoundStatement p me value_types) at s)
    where
      given : IsSoundStatement p me value_types (layer.If e block other) → AreSound p me value_types block × AreSound p me value_types other
      given (if_sound test one two) = (one, two)

  sets_of : (me : ℕ) (value_types : List ValueType) (z : layer.Statement-F Statement) (sets : List Statement) → IsSoundStatement p me value_types z → z ≡ layer.Group sets → AreSound p me value_types sets
  sets_of me value_types z sets s at = given (subst (IsSoundStatement p me value_types) at s)
    where
      given : IsSoundStatement p me value_types (layer.Group sets) → AreSound p me value_types sets
      given (group_sound are all) = are

  occurs_sound : (me : ℕ) (value_types : List ValueType) (s : Statement) (body : List Statement) → AreSound p me value_types body → Occurs s body → IsSoundStatement p me value_types (out-Statement s)
  occurs_sound me value_types s body all first = one_of all
  occurs_sound me value_types s body all (after {rest = rest} o) = occurs_sound me value_types s rest (tail_of all) o
  occurs_sound me value_types s body all (chosen {t = t} {e = e} {block = block} {other = other} at o) = occurs_sound me value_types s block (blocks_of me value_types (out-Statement t) e block other (one_of all) at).0 o
  occurs_sound me value_types s body all (otherwise {t = t} {e = e} {block = block} {other = other} at o) = occurs_sound me value_types s other (blocks_of me value_types (out-Statement t) e block other (one_of all) at).1 o
  occurs_sound me value_types s body all (grouped {t = t} {sets = sets} at o) = occurs_sound me value_types s sets (sets_of me value_types (out-Statement t) sets (one_of all) at) o

  -- a path that leads to a class leads to one of the program
  root_there : (me : ℕ) (value_types : List ValueType) → me < length p.classes → ((k class : ℕ) (constant : Bool) → slice_get value_types k ≡ Some (type.Reference class constant) → class < length p.classes)
      → (root : MetaRoot) (T : ValueType) (class : ℕ) (constant : Bool) → HasRoot me value_types root T → T ≡ type.Reference class constant → class < length p.classes
  root_there me value_types low all This T class constant this_has e = let is : type.Reference me false ≡ type.Reference class constant = e in let same_class : me ≡ class = cc in subst (λ (c : ℕ). c < length p.classes) same_class low
  root_there me value_types low all (Parameter k) T class constant (parameter_has at) e = all k class constant (at ∙ ap (λ (t : ValueType). Some t) e)

  kind_there : (declared : QType) (T : ValueType) (class : ℕ) (constant : Bool) → IsKind p declared T → T ≡ type.Reference class constant → class < length p.classes
  kind_there declared T class constant kind e = given (subst (IsKind p declared) e kind)
    where
      given : IsKind p declared (type.Reference class constant) → class < length p.classes
      given k = slice_get_within p.classes class k.2.class k.2.is.is

  steps_there : (steps : List Step) (T U : ValueType) (class : ℕ) (constant : Bool) → Leads p T steps U → ((c : ℕ) (k : Bool) → T ≡ type.Reference c k → c < length p.classes) → U ≡ type.Reference class constant → class < length p.classes
  steps_there [] T U class constant here first_there e = first_there class constant e
  steps_there (s ∷ steps) T U class constant (on {c = c} {property = property} is kind rest) first_there e =
      let sound_property = (sound.classes c is.class is.is_class).properties s.property property is.is in
      steps_there steps s.kind U class constant rest (λ d k f. kind_there property.declared property.kind d k sound_property.kind (kind ∙ f)) e

  path_there : (me : ℕ) (value_types : List ValueType) → me < length p.classes → ((k class : ℕ) (constant : Bool) → slice_get value_types k ≡ Some (type.Reference class constant) → class < length p.classes) → (path : MetaPath) (class : ℕ) → LeadsToClass p me value_types path class → class < length p.classes
  path_there me value_types low all path class leads =
      steps_there path.steps leads.leads.root_type (type.Reference class leads.constant) class leads.constant leads.leads.steps (λ c k e. root_there me value_types low all path.root leads.leads.root_type c k leads.leads.root e) refl

  kinds_there : (types : List QType) (value_types : List ValueType) → AllZip (IsKind p) types value_types → (k class : ℕ) (constant : Bool) → slice_get value_types k ≡ Some (type.Reference class constant) → class < length p.classes
  kinds_there types value_types zip k class constant at =
      let pair = zip_right (IsKind p) types value_types zip k (type.Reference class constant) at in
      kind_there pair.0 (type.Reference class constant) class constant pair.2 refl

  -- ---- natives
  native_stands : (me : ℕ) (effects : MetaEffects) (effect : Effect) → AreSoundEffects p me effects → NativeHas effects effect → Stands me effect.member effect.reach
  native_stands me effects effect s (inl h) =
      let signal = All-contains (IsPlainSignal p me) effects.emits h.number s.emits h.among in
      subst (λ (f : Effect). Stands me f.member f.reach) (sym h.is) (signal.signal, signal.is, signal.emitted)
  native_stands me effects effect s (inr h) =
      let property = All-contains (IsPlainProperty p me) effects.sets h.number s.sets h.among in
      subst (λ (f : Effect). Stands me f.member f.reach) (sym h.is) (property.property, property.is)

  -- ---- edges
  work_stands : (c m : ℕ) (method : MetaMethod) (effect : Effect) → IsMethod p c m method → WorkHas method.types method.work effect → (d : ℕ) × Below p c d × Stands d effect.member effect.reach × (m ≢ DESTROYED_ALONE)
  work_stands c m method effect is has = given method.work refl has
    where
      sound_method : IsSoundMethod p c m method
      sound_method = (sound.classes c is.class is.is_class).methods m method is.is

      given : (work : Work) → method.work ≡ work → WorkHas method.types work effect → (d : ℕ) × Below p c d × Stands d effect.member effect.reach × (m ≢ DESTROYED_ALONE)
      given Signal e h = absurd h
      given (Slot body) e h =
          let s : IsSoundWork p c m method.types (Slot body) = subst (IsSoundWork p c m method.types) e sound_method.work in
          let low = below_last p c s.declaring s.below in
          let all = kinds_there method.sig.types method.types sound_method.types in (
            s.declaring,
            s.below,
            effect_stands s.declaring method.types (out-Statement h.statement) effect (path_there s.declaring method.types low all) (occurs_sound s.declaring method.types h.statement body s.sound h.occurs) h.is,
            λ one. let signal = root_signal c m method is (omega (arith, one)) in let bad : Slot body ≡ Signal = sym e ∙ signal in absurd (cc),
          )
      given (Native effects) e h =
          let s : IsSoundWork p c m method.types (Native effects) = subst (IsSoundWork p c m method.types) e sound_method.work in (
            s.declaring,
            s.below,
            native_stands s.declaring effects effect s.sound h,
            λ one. let signal = root_signal c m method is (omega (arith, one)) in let bad : Native effects ≡ Signal = sym e ∙ signal in absurd (cc),
          )

  is_node : (x : Node) (c : ℕ) (m : Member) → x.class ≡ c → x.member ≡ m → IsNode p (node c m) → IsNode p x
  is_node x c m class is h = subst (IsNode p) (made x c m class is) h

  reached_node : (c d : ℕ) (x : Member) (r : Reach) (y : Node) → Below p c d → Stands d x r → ReachedAs p c x r y → IsNode p y
  reached_node c d x reach.Own y below h is = subst (IsNode p) (sym is) (has_node c x (has_below c d x below h))
  reached_node c d x (reach.Below k) y below h is = is_node y y.class x refl is.is (has_node y.class x (has_below y.class k x is.below h))

  below_node : (c : ℕ) (x : Member) (y : Node) → AtOrBelow p c x y → ((d : ℕ) → Below p d c → IsNode p (node d x)) → IsNode p y
  below_node c x y at all = is_node y y.class x refl at.is (all y.class at.below)

  closure_there : (c d : ℕ) → Closure p c d → d < length p.classes
  closure_there c d (itself is) = slice_get_within p.classes c _ is.is
  closure_there c d (child closure owns) = let o = owned_by owns in below_first p d o.owns.child o.child

  closure_from : (c d : ℕ) → Closure p c d → c < length p.classes
  closure_from c d (itself is) = slice_get_within p.classes c _ is.is
  closure_from c d (child closure owns) = closure_from c _ closure

  pub join_nodes : EdgesJoinNodes p
  join_nodes x y (by_work w) =
      let s = work_stands x.class w.number w.method w.effect w.is w.has in
      (is_node x x.class (member.Method w.number) refl w.from (method_node x.class w.number w.method w.is s.3), reached_node x.class s.0 w.effect.member w.effect.reach y s.1 s.2 w.to)
  join_nodes x y (by_wire w) =
      let s = sound.wires w.wire w.declared in (
        below_node w.wire.sender (member.Method (named w.wire.signal)) x w.from (λ d below. named_node d w.wire.signal s.signal (method_below d w.wire.sender w.wire.signal s.signal below s.from)),
        below_node w.wire.receiver (member.Method w.wire.method) y w.to (λ d below. method_node d w.wire.method s.method (method_below d w.wire.receiver w.wire.method s.method below s.to) (λ e. omega (arith, s.called, e))),
      )
  join_nodes x y (by_notify n) =
      let class = n.is.class in
      let notifier = ((sound.classes x.class class n.is.is_class).properties n.number n.property n.is.is).notifies n.signal n.notifies in (
        is_node x x.class (member.Property n.number) refl n.from (property_node x.class n.number n.property n.is),
        subst (IsNode p) (sym n.to) (named_node x.class n.signal notifier.signal (record { class = class; is_class = n.is.is_class; is = notifier.is })),
      )
  join_nodes x y (by_site b) =
      let at = place_in p.sites b.site b.declared in
      let s = sound.sites at.0 b.site at.1 in
      let source = All-contains (IsSoundSource p b.site.formals) (paths_in b.site.formula) b.source s.sources b.reads in
      let class : source.class ≡ b.class = same_Some _ _ (sym source.formal ∙ b.formal) in
      let read : IsProperty p b.class b.source.property source.is_plain.property = subst (λ (c : ℕ). IsProperty p c b.source.property source.is_plain.property) class source.is_plain.is in (
        below_node b.class (member.Property b.source.property) x b.from (λ d below. property_node d b.source.property source.is_plain.property (property_below d b.class b.source.property source.is_plain.property below read)),
        below_node b.site.class (member.Property b.site.property) y b.to (λ d below. property_node d b.site.property s.target.property (property_below d b.site.class b.site.property s.target.property below s.target.is)),
      )
  join_nodes x y (by_destruction e) =
      let one = is_class p x.class (closure_from x.class y.class e.closure) in
      let two = is_class p y.class (closure_there x.class y.class e.closure) in
      (is_node x x.class member.Destruction refl e.from (end_node x.class one.0 one.1), is_node y y.class (member.Method DESTROYED) refl e.to (destroyed_node y.class two.0 two.1))
