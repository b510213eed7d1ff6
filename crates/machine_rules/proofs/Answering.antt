-- Natives that have one answer to one question lead to one state.
use Rattle.std.{proofs.Common.{◌≡◌, ℕ, List, [], ◌∷◌, ◌++◌, map, refl, sym, ap, ◌∙◌, subst}, specs.List.{AllZip}}
use Rattle.basic_types.specs.declared.value.Value.{Value}
use Rattle.meta_model.specs.{declared.object.MetaMethod.{MetaMethod}, declared.object.MetaObject.{MetaObject}, declared.object.MetaProperty.{MetaProperty}, Loaded.{Loaded}, Members.{IsClass}, declared.effects.MetaEffects.{MetaEffects}}
use Rattle.object_tree.specs.{declared.life.Life.{Life}, declared.object.Object.{Object}}
use Rattle.native_slots.specs.declared.action.Action.{Action}
use Rattle.trace_entries.specs.{declared.entry.ShownAction.{ShownAction}, declared.entry.EntryKind.TheVariants.{Answered}}
use Rattle.trace_entries.specs.declared.entry.ShownAction.TheVariants as show
use Rattle.machine_state.specs.{Objects.{shown, all_shown}, State.{Step, Act, State, Activation, Body}}
use Rattle.machine_rules.{specs.Natives.{NativeAnswers, AnswersOnce, DeclaredBy, own, inherited, MayAnswer, IsShownAs, set_shown, emit_shown, AreShownAs}, specs.There.{IsMember, IsField}, specs.Rules.{Answers, told}, proofs.Fields.{some-is, class-unique, life-unique, member-method, field-property}}

-- two lists that stand to a third one by a relation with one answer
pub zip-one : {X Y : Type 0} {R : X → Y → Type 0} → ((x : X) (a b : Y) → R x a → R x b → a ≡ b) → (xs : List X) (ys zs : List Y) → AllZip R xs ys → AllZip R xs zs → ys ≡ zs
zip-one one [] [] [] f g = refl
zip-one one [] [] (z ∷ zs) f g = absurd g
zip-one one [] (y ∷ ys) zs f g = absurd f
zip-one one (x ∷ xs) [] zs f g = absurd f
zip-one one (x ∷ xs) (y ∷ ys) [] f g = absurd g
zip-one {Y = Y} one (x ∷ xs) (y ∷ ys) (z ∷ zs) f g =
    ap (λ (k : Y). k ∷ ys) (one x y z f.0 g.0) ∙ ap (λ (l : List Y). z ∷ l) (zip-one one xs ys zs f.1 g.1)

-- the class that declares a method
pub declared-one : {p : Loaded} {m c d e : ℕ} → DeclaredBy p m c d → DeclaredBy p m c e → d ≡ e
declared-one (own x) (own y) = refl
declared-one (own none) (inherited {b = b} {method = method} base has rest) = absurd (none b method base has)
declared-one (inherited {b = b} {method = method} base has rest) (own none) = absurd (none b method base has)
declared-one {p} {m} {e = e} (inherited base has rest) (inherited other above more) =
    declared-one rest (subst (λ (b : ℕ). DeclaredBy p m b e) (sym (some-is base other)) more)

-- how an action is written down
shown-one : (p : Loaded) (objects : List Object) (o : ℕ) (effects : MetaEffects) (a : Action) (x y : ShownAction) → IsShownAs p objects o effects a x → IsShownAs p objects o effects a y → x ≡ y
shown-one p objects o effects a x y (set_shown {q = q} {value = value} {property = f} at field) (set_shown {x = z} {property = g} there other) =
    let same : f ≡ g = field-property field (subst (λ (k : ℕ). IsField p objects o k z g) (sym (some-is at there)) other) in
    ap (λ (k : MetaProperty). show.Set k.name (shown objects value)) same
shown-one p objects o effects a x y (emit_shown {arguments = arguments} {signal = f} at member) (emit_shown {x = z} {signal = g} there other) =
    let same : f ≡ g = member-method member (subst (λ (k : ℕ). IsMember p objects o k z g) (sym (some-is at there)) other) in
    ap (λ (k : MetaMethod). show.Emit k.sig.name (all_shown objects arguments)) same

-- one question has one answer
may-one : {p : Loaded} {natives : NativeAnswers} {objects : List Object} {o m : ℕ} {arguments : List Value} {effects : MetaEffects} {x y : List Action} → AnswersOnce natives → MayAnswer p natives objects o m arguments effects x → MayAnswer p natives objects o m arguments effects y → x ≡ y
may-one {p} {natives} {objects} {o} {m} {arguments} {effects} {x} {y} once a b =
    let life_is : a.is.life ≡ b.is.life = life-unique a.is.lives b.is.lives in
    let method_is : a.method ≡ b.method = member-method a.is b.is in
    let number_is : a.number ≡ b.number = declared-one a.declared (subst (λ (l : Life). DeclaredBy p m l.class b.number) (sym life_is) b.declared) in
    let class_is : a.class ≡ b.class = class-unique a.is_class (subst (λ (k : ℕ). IsClass p k b.class) (sym number_is) b.is_class) in
    let reads_are : a.reads ≡ b.reads = zip-one (λ q v w f g. some-is f g) effects.reads a.reads b.reads a.are_read b.are_read in
    let Given : MetaObject → MetaMethod → List Value → Type 0 = λ c k reads. natives c.name k.sig arguments reads y in
    let given : Given a.class a.method a.reads =
    subst (λ (c : MetaObject). Given c a.method a.reads) (sym class_is)
    (subst (λ (k : MetaMethod). Given b.class k a.reads) (sym method_is)
    (subst (λ (reads : List Value). Given b.class b.method reads) (sym reads_are) b.gives)) in
    once a.class.name a.method.sig arguments a.reads x y a.gives given

pub answers-one : {p : Loaded} {natives : NativeAnswers} {s t u : State} {o m : ℕ} {arguments : List Value} {effects : MetaEffects} {rest : List Step} {below : List Activation} → AnswersOnce natives → Answers p natives s o m arguments effects rest below t → Answers p natives s o m arguments effects rest below u → t ≡ u
answers-one {p} {natives} {s} {o = o} {m = m} {arguments = arguments} {effects = effects} {rest = rest} {below = below} once a b =
    let actions_are : a.actions ≡ b.actions = may-one once a.may b.may in
    let lines : AreShownAs p s.objects o effects a.actions b.lines =
    subst (λ (l : List Action). AreShownAs p s.objects o effects l b.lines) (sym actions_are) b.are_shown in
    let lines_are : a.lines ≡ b.lines = zip-one (shown-one p s.objects o effects) a.actions a.lines b.lines a.are_shown lines in
    let state_of : List Action → List ShownAction → State = λ actions lines. told s (Body o m arguments (map (Act effects) actions ++ rest) ∷ below) (Answered lines) in
    a.gives
    ∙ ap (λ (l : List Action). state_of l a.lines) actions_are
    ∙ ap (λ (l : List ShownAction). state_of b.actions l) lines_are
    ∙ sym b.gives

-- one more on each side
pub zip-snoc : {X Y : Type 0} (R : X → Y → Type 0) (xs : List X) (ys : List Y) (x : X) (y : Y) → AllZip R xs ys → R x y → AllZip R (xs ++ x ∷ []) (ys ++ y ∷ [])
zip-snoc R [] [] x y all one = (one, tt)
zip-snoc R [] (z ∷ ys) x y all one = absurd all
zip-snoc R (z ∷ xs) [] x y all one = absurd all
zip-snoc R (w ∷ xs) (z ∷ ys) x y all one = (all.0, zip-snoc R xs ys x y all.1 one)
