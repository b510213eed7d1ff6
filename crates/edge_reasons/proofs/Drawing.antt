-- What draws an edge from a method: a statement of its body, or what its native is declared to do.
use Rattle.std.{proofs.Common.{◌≡◌, inl, inr, ℕ, ◌<◌, true, List, [], ◌∷◌, length, get_or, Some, refl, sym, ap, ◌∙◌, subst, eqb}, specs.List.{Contains, list_any}, proofs.lemmas.Option.{slice_get_read}}
use Rattle.syntax_trees.specs.declared.syntax.Expr.{Expr}
use Rattle.meta_model.specs.{declared.object.ValueType.{ValueType}, declared.object.MetaPath.{MetaPath}, declared.object.MetaMethod.{MetaMethod}, declared.object.Work.{Work}, declared.object.Work.TheVariants.{Slot, Native}, declared.effects.MetaEffects.{MetaEffects}, declared.object.Statement.{Statement}, declared.object.Statement.TheViews.{out-Statement}, Loaded.{Loaded}, Members.{IsMethod}}
use Rattle.meta_model.specs.declared.object.Statement.TheOpen as layer
use Rattle.meta_model.specs.declared.object.Statement.TheVariants as whole
use Rattle.effect_scan.{specs.declared.node.Node.{Node}, specs.declared.node.Member.{Member}, specs.declared.node.Member.TheVariants.{Method, Property}, specs.Nodes.{node}, specs.declared.effect.Reach.TheVariants.{Own}, specs.declared.effect.Effect.{Effect}, specs.Effects.{effect_of, Occurs, here, chosen, otherwise, grouped, BodyHas, WorkHas}, specs.Edges.{Reaches, ByWork}, proofs.Occurring.{occurs_at}, proofs.Containing.{has_any}}
use Rattle.edge_reasons.specs.Reasons.{BodyLeads, NativeLeads}

module _ (p : Loaded) (c : ℕ) (types : List ValueType) (y : Node) where
  pub leads_alone : (t : Statement) (e : Effect) → effect_of types (out-Statement t) ≡ Some e → Reaches p c e y → BodyLeads p c types (t ∷ []) y
  leads_alone t e is to = record { statement = t; occurs = here; effect = e; is = is; to = to }

  pub leads_at : (body : List Statement) (i : ℕ) (t : Statement) → i < length body → t ≡ get_or body i t → BodyLeads p c types (t ∷ []) y → BodyLeads p c types body y
  leads_at body i t inside is h = record {
    statement = h.statement;
    occurs = occurs_at body i t h.statement (slice_get_read body (length body) i t refl inside is) h.occurs;
    effect = h.effect;
    is = h.is;
    to = h.to;
  }

  -- a statement in a block of an `if`
  module _ (t : Statement) (x : Expr MetaPath) (block other given : List Statement) (is : t ≡ whole.If x block other) where
    open_if : out-Statement t ≡ layer.If x block other
    open_if = ap out-Statement is ∙ whole.outs-If x block other

    pub leads_chosen : given ≡ block → BodyLeads p c types given y → BodyLeads p c types (t ∷ []) y
    leads_chosen e h = record {
      statement = h.statement;
      occurs = chosen open_if (subst (λ (b : List Statement). Occurs h.statement b) e h.occurs);
      effect = h.effect;
      is = h.is;
      to = h.to;
    }

    pub leads_otherwise : given ≡ other → BodyLeads p c types given y → BodyLeads p c types (t ∷ []) y
    leads_otherwise e h = record {
      statement = h.statement;
      occurs = otherwise open_if (subst (λ (b : List Statement). Occurs h.statement b) e h.occurs);
      effect = h.effect;
      is = h.is;
      to = h.to;
    }

  -- a set in a group
  pub leads_grouped : (t : Statement) (sets given : List Statement) → t ≡ whole.Group sets → given ≡ sets → BodyLeads p c types given y → BodyLeads p c types (t ∷ []) y
  leads_grouped t sets given is e h = record {
    statement = h.statement;
    occurs = grouped (ap out-Statement is ∙ whole.outs-Group sets) (subst (λ (b : List Statement). Occurs h.statement b) e h.occurs);
    effect = h.effect;
    is = h.is;
    to = h.to;
  }

module _ (p : Loaded) (x y : Node) (m : ℕ) (method : MetaMethod) (is : IsMethod p x.class m method) (from : x.member ≡ Method m) where
  drawn : (e : Effect) → WorkHas method.types method.work e → Reaches p x.class e y → ByWork p x y
  drawn e has to = record { number = m; method = method; is = is; from = from; effect = e; has = has; to = to }

  pub by_body : (body given : List Statement) (types : List ValueType) → method.work ≡ Slot body → given ≡ body → types ≡ method.types → BodyLeads p x.class types given y → ByWork p x y
  by_body body given types slots at typed h =
      let has : BodyHas types given h.effect = record { statement = h.statement; occurs = h.occurs; is = h.is } in
      drawn h.effect
      (subst (λ (w : Work). WorkHas method.types w h.effect) (sym slots)
      (subst (λ (ks : List ValueType). BodyHas ks body h.effect) typed (subst (λ (b : List Statement). BodyHas types b h.effect) at has))) h.to

  pub by_native : (effects : MetaEffects) → method.work ≡ Native effects → NativeLeads x.class effects y → ByWork p x y
  by_native effects natives h =
      let e : Effect = record { reach = Own; member = h.member } in
      drawn e (subst (λ (w : Work). WorkHas method.types w e) (sym natives) h.has) h.to

-- ---- natives
-- the member of an object of class c
node_is : (c : ℕ) (member : Member) (y : Node) → y.class ≡ c → y.member ≡ member → y ≡ node c member
node_is c member y class is = ap (λ (k : ℕ). node k y.member) class ∙ ap (node c) is

module _ (c : ℕ) (effects : MetaEffects) (y : Node) (n : ℕ) (listed : List ℕ) (found : list_any (λ z. eqb z n) listed ≡ true) (class : y.class ≡ c) where
  pub native_emits : listed ≡ effects.emits → y.member ≡ Method n → NativeLeads c effects y
  native_emits e is = record {
    member = Method n;
    has = inl (record { number = n; among = subst (λ (xs : List ℕ). Contains xs n) e (has_any n listed found); is = refl });
    to = node_is c (Method n) y class is;
  }

  pub native_sets : listed ≡ effects.sets → y.member ≡ Property n → NativeLeads c effects y
  native_sets e is = record {
    member = Property n;
    has = inr (record { number = n; among = subst (λ (xs : List ℕ). Contains xs n) e (has_any n listed found); is = refl });
    to = node_is c (Property n) y class is;
  }
