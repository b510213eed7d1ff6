-- What begins over a stack stands there (docs/settling-proof.md, "Each rule keeps it").
use Rattle.std.{proofs.Common.{◌≡◌, ◌≢◌, ℕ, suc, ◌<◌, List, [], ◌∷◌, map, length, Option, Some, refl, sym, ap, ◌∙◌, subst}, specs.List.{AllByRecursion}, proofs.lemmas.Option.{none-some}}
use Rattle.basic_types.specs.declared.value.Value.{Value}
use Rattle.meta_model.specs.{declared.object.MetaMethod.{MetaMethod}, declared.object.Work.{Work}, declared.object.Work.TheVariants.{Signal, Slot, Native}, Loaded.{Loaded}, Sound.{IsSound}}
use Rattle.object_tree.specs.{declared.object.Object.{Object}, Typed.{ReadAs}}
use Rattle.effect_scan.specs.{declared.node.Node.{Node}, declared.node.Member.TheVariants.{Method}, Nodes.{node, named}}
use Rattle.machine_state.specs.State.{Step, Run, Ask, State, Activation, Body}
use Rattle.machine_rules.{specs.Good.{ArgumentsFit, EmissionFits, of_living, of_dead, TopFits}, specs.Rules.{begun}, specs.There.{IsMember}, proofs.Dying.{lives-not-dead}, proofs.Fields.{member-method}, proofs.Keeps.{class-of-lives}}
use Rattle.settling.specs.{declared.certificate.SettlingLine.{SettlingLine}, declared.certificate.SettlingCertificate.{SettlingCertificate}, Valid.{IsLineOf, IsValid}}
use Rattle.object_machine.proofs.CheckedRuns.{Invariant.{IsStepOf, asks, IsCovered}, Nodes.{body-named}}
use Rattle.object_machine.proofs.CheckedRuns.Staying.{left-runs}
use Rattle.settled_runs.{specs.Levels.{Level}, specs.Written.{HaveWritten}, proofs.Pushing.{Begins}, proofs.Invariant.{Stacked, Holds}}

module _ {p : Loaded} {certificate : SettlingCertificate} (sound : IsSound p) (valid : IsValid p certificate) (cost : ℕ → ℕ) (classes : ℕ → Option ℕ) where
  abbrev pub Covered : State → Type 0
  Covered s = IsCovered p classes s.objects s.connected.connections s.bindings

  abbrev pub Held : State → Type 0
  Held s = Holds p cost certificate classes s

  -- what begins has the arguments that its method declares
  pub fits-begun : (u t : State) (n : ℕ) (below : List Activation) (o : ℕ) (x : Object) (m : ℕ) (method : MetaMethod) (arguments : List Value) (work : Work) → IsMember p u.objects o m x method
      → n < suc (length below) → (n < length t.stack → TopFits p t.objects t.stack) → t ≡ begun u below o x m method arguments work → ReadAs p u.objects arguments method.types
  fits-begun u t n below o x m method arguments work is higher fits e =
      let Family : State → Type 0 = λ v. n < length v.stack → TopFits p v.objects v.stack in
      by_work work (subst Family e fits)
    where
      of_method : ArgumentsFit p u.objects o m arguments → ReadAs p u.objects arguments method.types
      of_method fit = subst (λ (k : MetaMethod). ReadAs p u.objects arguments k.types) (member-method fit.is is) fit.typed

      of_emission : EmissionFits p u.objects o m arguments → ReadAs p u.objects arguments method.types
      of_emission (of_living fit) = of_method fit
      of_emission (of_dead gone signal typed) = absurd (lives-not-dead is.lives gone)

      by_work : (w : Work) → (n < length (begun u below o x m method arguments w).stack → TopFits p (begun u below o x m method arguments w).objects (begun u below o x m method arguments w).stack) → ReadAs p u.objects arguments method.types
      by_work Signal top = of_emission (top higher)
      by_work (Slot statements) top = of_method (top higher)
      by_work (Native effects) top = of_method (top higher)

  -- an emission stands over what is below it
  pub signal-held : (u t : State) (below : List Activation) (o : ℕ) (x : Object) (m class : ℕ) (method : MetaMethod) (arguments : List Value) (levels : List (Level certificate)) {y : Node} {line : SettlingLine}
      → Covered u → classes o ≡ Some class → y ≡ node class (Method (named m)) → IsLineOf p certificate y line → Begins p cost classes u.objects levels y line arguments
      → Stacked p cost classes u.objects below levels → HaveWritten u.objects levels → t ≡ begun u below o x m method arguments Signal → Held t
  signal-held u t below o x m class method arguments levels {y} {line} covered is at line_is b st written e =
      let Family : State → Type 0 = λ v. Held v in
      subst Family (sym e) (record {
        covered = covered;
        levels = b.level ∷ levels;
        stacked = (
          record {
            node = y;
            is = subst (λ (l : SettlingLine). IsLineOf p certificate y l) (sym b.line_is) line_is;
            stands = record { class = class; is = is; at = at };
            is_inside = b.is_inside;
            is_strict = b.is_strict;
            carries = b.carries;
            alone = b.alone;
          },
          b.well,
          b.falls_to,
          st,
        );
        written = (λ c q within wrote. absurd (none-some q (sym b.alone ∙ wrote)), written);
      })

  -- what begins stands over what is below it
  pub begun-held : (u t : State) (below : List Activation) (o : ℕ) (x : Object) (m : ℕ) (method : MetaMethod) (arguments : List Value) (work : Work) (levels : List (Level certificate)) {y : Node} {line : SettlingLine}
      → Covered u → (is : IsMember p u.objects o m x method) → method.work ≡ work → y ≡ node (is.life).class (Method (named m)) → IsLineOf p certificate y line → Begins p cost classes u.objects levels y line arguments
      → ReadAs p u.objects arguments method.types → Stacked p cost classes u.objects below levels → HaveWritten u.objects levels → t ≡ begun u below o x m method arguments work → Held t
  begun-held u t below o x m method arguments work levels {y} {line} covered is work_is at line_is b typed st written e =
      let Family : State → Type 0 = λ v. Held v in
      subst Family (sym e) (by_work work work_is)
    where
      own_line : IsLineOf p certificate y b.level.line
      own_line = subst (λ (l : SettlingLine). IsLineOf p certificate y l) (sym b.line_is) line_is

      nothing_written : HaveWritten u.objects (b.level ∷ levels)
      nothing_written = (λ c q within wrote. absurd (none-some q (sym b.alone ∙ wrote)), written)

      body : (left : List Step) → method.work ≢ Signal → AllByRecursion (IsStepOf method.work) left → Stacked p cost classes u.objects (Body o m arguments left ∷ below) (b.level ∷ levels)
      body left bodied steps = (
        record {
          node = y;
          is = own_line;
          stands = record {
            class = (is.life).class;
            lives = class-of-lives u.objects o is.lives;
            at = at ∙ ap (λ (n : ℕ). node (is.life).class (Method n)) (body-named sound (is.life).class m method is.is_method bodied);
            method = method;
            is = is.is_method;
            bodied = bodied;
            typed = typed;
            steps = steps;
          };
          is_inside = b.is_inside;
          is_strict = b.is_strict;
          carries = b.carries;
          alone = b.alone;
        },
        b.well,
        b.falls_to,
        st,
      )

      by_work : (w : Work) → method.work ≡ w → Held (begun u below o x m method arguments w)
      by_work Signal is_work = signal-held u (begun u below o x m method arguments Signal) below o x m (is.life).class method arguments levels covered ((covered.known).lives o (is.life).class (class-of-lives u.objects o is.lives)) at line_is b st written refl
      by_work (Slot statements) is_work = record { covered = covered; levels = b.level ∷ levels; stacked = body (map Run statements) (λ bad. absurd (cc (sym is_work ∙ bad))) (left-runs method.work statements statements is_work (λ s i. i)); written = nothing_written }
      by_work (Native effects) is_work = record { covered = covered; levels = b.level ∷ levels; stacked = body (Ask effects ∷ []) (λ bad. absurd (cc (sym is_work ∙ bad))) (asks is_work, tt); written = nothing_written }
