-- An event has one answer.
use Rattle.std.proofs.Common.{◌≡◌, ℕ, List, Option, None, Some, slice_get, length, arith, Result, Ok, Err, true, false, refl, sym, ap, ◌∙◌, subst}
use Rattle.basic_types.specs.declared.sig.Sig.{Sig}
use Rattle.meta_model.specs.{declared.object.MetaMethod.{MetaMethod}, declared.object.MetaObject.{MetaObject}, declared.site.MetaSite.{MetaSite}, Loaded.{Loaded}, Members.{HasSig}, Sound.{IsSound}}
use Rattle.object_tree.specs.declared.object.Object.{Object}
use Rattle.binding_graph.specs.declared.binding.Binding.{Binding}
use Rattle.prop_bindings.specs.Fits.{Agree}
use Rattle.syntax_trees.specs.{declared.connection.ConnectionType.{ConnectionType}, declared.connection.Endpoints.{Endpoints as Named}}
use Rattle.script_lang.specs.{declared.event.Event.{Event}, declared.event.Input.{Input}}
use Rattle.script_lang.specs.declared.event.Event.TheVariants as event
use Rattle.trace_entries.specs.{declared.fault.Answer.{Answer}, declared.fault.Answer.TheVariants.{Refused}, declared.refusal.Refusal.{Refusal}, Refusals.{refusal_number}}
use Rattle.machine_state.specs.{Accepting.{accepted, refused}, State.{State}, Worlds.{store_of}}
use Rattle.delete_later.proofs.Moving.{moved-once}
use Rattle.machine_rules.{proofs.OneRule.{begins-one, writes-one, installs-one, schedules-one, may-connect-one}, specs.Judgement.{Numbered, numbered, HasOneAnswer, becomes, goes_on, ends}, specs.Settling.{Installs}, specs.Good.{IsAcyclic}, proofs.OneAnswer.{one-find, one-check, one-gives, one-becomes, one-then, numbered-is}}
use Rattle.object_machine.{specs.declared.invoking.Invocation.{Invocation}, specs.declared.invoking.Invocation.TheVariants.{Emit, Call}, specs.Laws.{IsAcyclicIn, OneJudgement, OneTaking}, specs.Takes.{Takes, accepts, refuses}, specs.Events.{judged, may_bind, block, find_ends, IsHome, invoke}, proofs.OneAnswer.{one-living, one-all-living, one-value, one-values, one-method, one-property, one-adopted}}
use Rattle.event_loops.specs.Queues.{Loop, IsNamed}
use Rattle.object_machine.specs.code.Judgement.{IsSiteOf, IsClassOf}

one-class : {p : Loaded} {name : List ℕ} → IsSound p → (a b : Numbered MetaObject) → IsClassOf p name a → IsClassOf p name b → a ≡ b
one-class {p} sound a b f g =
    let same : a.number ≡ b.number = sound.distinct_classes a.number b.number a.it b.it f.0.is g.0.is (f.1 ∙ sym g.1) in
    let it : Some a.it ≡ Some b.it = sym f.0.is ∙ ap (λ (n : ℕ). slice_get p.classes n) same ∙ g.0.is in
    numbered-is same (cc it)

one-sig : {p : Loaded} {class : ℕ} {sig : Sig} → IsSound p → (a b : ℕ) → HasSig p class sig a → HasSig p class sig b → a ≡ b
one-sig sound a b f g =
    let signed : f.method.sig ≡ g.method.sig = f.signed ∙ sym g.signed in
    ap (λ (m : Numbered MetaMethod). m.number) (one-method sound (numbered a f.method) (numbered b g.method) f.is g.is (ap (λ (s : Sig). s.name) signed) (ap (λ (s : Sig). length s.types) signed))

-- two loops, each the first of one name
one-loop : {loops : List Loop} {name : List ℕ} → (a b : ℕ) → IsNamed loops name a → IsNamed loops name b → a ≡ b
one-loop a b f g = let to = f.first b g.has in let from = g.first a f.has in omega (arith, to, from)

one-home : (loops : List Loop) (loop : Option (List ℕ)) → (a b : ℕ) → IsHome loops loop a → IsHome loops loop b → a ≡ b
one-home loops None a b f g = f ∙ sym g
one-home loops (Some name) a b f g = one-loop a b f g

one-create : (p : Loaded) (s : State) (name class : List ℕ) (loop : Option (List ℕ)) → IsSound p → HasOneAnswer (judged p s (event.New name class loop))
one-create p s name class loop sound = one-then one-check (λ free. one-then (one-find (one-class sound)) (λ c. one-then (one-find (one-home s.queues.loops loop)) (λ home. one-then one-check (λ room. one-gives _))))

one-add-loop : (p : Loaded) (s : State) (name : List ℕ) → HasOneAnswer (judged p s (event.Loop name))
one-add-loop p s name = one-then one-check (λ free. one-gives _)

one-turn : (p : Loaded) (s : State) (name : List ℕ) → HasOneAnswer (judged p s (event.Turn name))
one-turn p s name = one-then (one-find one-loop) (λ home. one-gives _)

one-adopt : (p : Loaded) (s : State) (parent child : List ℕ) → HasOneAnswer (judged p s (event.Adopt parent child))
one-adopt p s parent child =
    one-then (one-living s.objects parent) (λ a. one-then (one-living s.objects child) (λ c.
    one-then one-check (λ owns. one-then one-check (λ over. one-then one-check (λ home. one-then (one-becomes (λ l k f g. one-adopted f g)) (λ objects. one-gives _))))))

one-move : (p : Loaded) (s : State) (name loop : List ℕ) → HasOneAnswer (judged p s (event.Move name loop))
one-move p s name loop =
    one-then (one-living s.objects name) (λ o. one-then (one-find one-loop) (λ home.
    one-then one-check (λ root. one-then one-check (λ alone. one-then (one-becomes (moved-once o.number home (store_of s))) (λ store. one-gives _)))))

one-ends : (p : Loaded) (objects : List Object) (e : Named (List ℕ)) → IsSound p → HasOneAnswer (find_ends p objects e)
one-ends p objects e sound =
    one-then (one-living objects e.sender) (λ a. one-then (one-living objects e.receiver) (λ b.
    one-then (one-find (λ g h f k. one-sig sound g h f.0 k.0)) (λ g. one-then (one-find (one-sig sound)) (λ m. one-gives _))))

one-connect : (p : Loaded) (s : State) (e : Named (List ℕ)) (how : ConnectionType) → IsSound p → HasOneAnswer (judged p s (event.Connect e how))
one-connect p s e how sound =
    one-then (one-ends p s.objects e sound) (λ f. one-then (may-connect-one p s.connected f e.signal e.method how) (λ _. one-gives _))

one-disconnect : (p : Loaded) (s : State) (e : Named (List ℕ)) → IsSound p → HasOneAnswer (judged p s (event.Disconnect e))
one-disconnect p s e sound = one-then (one-ends p s.objects e sound) (λ f. one-then one-check (λ is. one-gives _))

one-block : (s : State) (name : List ℕ) (on : _) → HasOneAnswer (block s name on)
one-block s name on = one-then (one-living s.objects name) (λ o. one-gives _)

one-delete : (p : Loaded) (s : State) (name : List ℕ) → HasOneAnswer (judged p s (event.Delete name))
one-delete p s name = one-then (one-living s.objects name) (λ o. one-gives _)

one-later : (p : Loaded) (s : State) (name : List ℕ) → HasOneAnswer (judged p s (event.Later name))
one-later p s name = one-then (one-living s.objects name) (λ o. one-becomes (λ t u f g. schedules-one (accepted s) t u s.stack o.number (Some o.it) f g))

-- ---- events

one-assign : (p : Loaded) (s : State) (name property : List ℕ) (i : Input) → IsSound p → Agree p s.objects s.bindings → HasOneAnswer (judged p s (event.Set name property i))
one-assign p s name property i sound agree =
    one-then (one-living s.objects name) (λ o. one-then (one-find (λ a b f g. one-property sound a b f.0 g.0 (f.1 ∙ sym g.1))) (λ q.
    one-then (one-value s.objects i) (λ v. one-then one-check (λ fits. one-becomes (λ t u f g. writes-one agree f g)))))

one-site : {p : Loaded} {name : List ℕ} → IsSound p → (a b : Numbered MetaSite) → IsSiteOf p name a → IsSiteOf p name b → a ≡ b
one-site {p} sound a b f g =
    let same : a.number ≡ b.number = sound.distinct_sites a.number b.number a.it b.it f.0 g.0 (f.1 ∙ sym g.1) in
    let it : Some a.it ≡ Some b.it = sym f.0 ∙ ap (λ (n : ℕ). slice_get p.sites n) same ∙ g.0 in
    numbered-is same (cc it)

pub one-may-bind : (p : Loaded) (s : State) (site target : List ℕ) (sources : List (List ℕ)) → IsSound p → HasOneAnswer (may_bind p s site target sources)
one-may-bind p s site target sources sound =
    one-then (one-find (one-site sound)) (λ n. one-then one-check (λ many. one-then (one-living s.objects target) (λ o.
    one-then (one-all-living s.objects sources) (λ xs. one-then one-check (λ covers. one-then one-check (λ home. one-gives _))))))

-- .. unless it closes a chain of bindings
one-bind : (p : Loaded) (s : State) (site target : List ℕ) (sources : List (List ℕ)) (a b : Result State Refusal) → IsSound p → Agree p s.objects s.bindings → judged p s (event.Bind site target sources) a → judged p s (event.Bind site target sources) b → IsAcyclicIn a → a ≡ b
one-bind p s site target sources a b sound agree (goes_on x may (becomes {x = t} f)) (goes_on y also (becomes {x = u} g)) acyclic =
    let both : Ok x ≡ Ok y = one-may-bind p s site target sources sound (Ok x) (Ok y) may also in
    let same : x ≡ y = cc both in
    let Makes : Binding → Type 0 = λ z. Installs p (accepted s) s.stack z u in
    let Acyclic : State → Type 0 = λ z. IsAcyclic z in
    ap (λ (z : State). Ok z) (installs-one agree (subst Acyclic f.settles.gives acyclic) f (subst Makes (sym same) g))
one-bind p s site target sources a b sound agree (goes_on x may f) (ends {k = k} g) acyclic = let no = one-may-bind p s site target sources sound (Ok x) (Err k) may g in absurd (cc no)
one-bind p s site target sources a b sound agree (ends {k = k} f) (goes_on y also g) acyclic = let no = one-may-bind p s site target sources sound (Err k) (Ok y) f also in absurd (cc no)
one-bind p s site target sources a b sound agree (ends {k = k} f) (ends {k = j} g) acyclic =
    let both : Err k ≡ Err j = one-may-bind p s site target sources sound (Err k) (Err j) f g in
    let same : k ≡ j = cc both in
    ap (λ (r : Refusal). Err r) same

one-invoke : (p : Loaded) (s : State) (a : Invocation) (name called : List ℕ) (inputs : List Input) → IsSound p → HasOneAnswer (invoke p s a name called inputs)
one-invoke p s a name called inputs sound =
    one-then (one-living s.objects name) (λ o. one-then (one-find (λ x y f g. one-method sound x y f.is g.is (f.named ∙ sym g.named) (f.counted ∙ sym g.counted))) (λ m.
    one-then (one-values s.objects inputs) (λ vs. one-then one-check (λ fits. one-becomes (λ t u f g. begins-one f g)))))

pub one_judgement : OneJudgement
one_judgement p s (event.Loop name) a b sound agree f g acyclic = one-add-loop p s name a b f g
one_judgement p s (event.Turn name) a b sound agree f g acyclic = one-turn p s name a b f g
one_judgement p s (event.New name class loop) a b sound agree f g acyclic = one-create p s name class loop sound a b f g
one_judgement p s (event.Adopt parent child) a b sound agree f g acyclic = one-adopt p s parent child a b f g
one_judgement p s (event.Move name loop) a b sound agree f g acyclic = one-move p s name loop a b f g
one_judgement p s (event.Connect e how) a b sound agree f g acyclic = one-connect p s e how sound a b f g
one_judgement p s (event.Disconnect e) a b sound agree f g acyclic = one-disconnect p s e sound a b f g
one_judgement p s (event.Set name property i) a b sound agree f g acyclic = one-assign p s name property i sound agree a b f g
one_judgement p s (event.Bind site target sources) a b sound agree f g acyclic = one-bind p s site target sources a b sound agree f g acyclic
one_judgement p s (event.Emit name signal inputs) a b sound agree f g acyclic = one-invoke p s Emit name signal inputs sound a b f g
one_judgement p s (event.Call name slot inputs) a b sound agree f g acyclic = one-invoke p s Call name slot inputs sound a b f g
one_judgement p s (event.Block name) a b sound agree f g acyclic = one-block s name true a b f g
one_judgement p s (event.Unblock name) a b sound agree f g acyclic = one-block s name false a b f g
one_judgement p s (event.Delete name) a b sound agree f g acyclic = one-delete p s name a b f g
one_judgement p s (event.Later name) a b sound agree f g acyclic = one-later p s name a b f g

pub one_taking : OneTaking
one_taking p e x y s t u sound agree (accepts f a) (accepts g b) acyclic =
    let answers = one_judgement p s e (Ok t) (Ok u) sound agree a b acyclic in
    (refl, cc answers)
one_taking p e x y s t u sound agree (accepts f a) (refuses k g b) acyclic = let no = one_judgement p s e (Err k) (Ok t) sound agree b a tt in absurd (cc no)
one_taking p e x y s t u sound agree (refuses k f a) (accepts g b) acyclic = let no = one_judgement p s e (Err k) (Ok u) sound agree a b tt in absurd (cc no)
one_taking p e x y s t u sound agree (refuses k f a) (refuses j g b) acyclic =
    let answers = one_judgement p s e (Err k) (Err j) sound agree a b tt in
    let same : k ≡ j = cc answers in
    (ap (λ (r : Refusal). Refused (refusal_number r)) same, ap (λ (r : Refusal). refused s r) same)

-- an event that its conditions refuse is taken with that answer
pub answer-refused : {p : Loaded} {e : Event} {a : Answer} {s t : State} (k : Refusal) → IsSound p → Agree p s.objects s.bindings → Takes p e a s t → judged p s e (Err k) → a ≡ Refused (refusal_number k)
answer-refused {p} {e} {s = s} {t = t} k sound agree (accepts idle y) is =
    let no = one_judgement p s e (Err k) (Ok t) sound agree is y tt in
    absurd (cc no)
answer-refused {p} {e} {s = s} k sound agree (refuses r idle y) is =
    let both = one_judgement p s e (Err r) (Err k) sound agree y is tt in
    let same : r ≡ k = cc both in
    ap (λ (x : Refusal). Refused (refusal_number x)) same
