use Rattle.std.proofs.Common.{◌≡◌, ℕ, [], ◌∷◌, ◌++◌, ◌+◌, Ok, List, take, drop, sym, ap, ◌∙◌, subst, take-append-drop}
use Rattle.std.proofs.lemmas.List.{take_more, drop_more}
use Rattle.object_tree.specs.declared.life.Life.{Life}
use Rattle.machine_rules.specs.Judgement.{Numbered, gives}
use Rattle.object_machine.specs.code.Judgement.{IsNotAccepted}
use Rattle.object_machine.specs.Events.{all_living}
use Rattle.object_machine.proofs.Judged.{err-is, short-is}
use Rattle.object_machine.proofs.Judging.Naming.{living-ok, living-snoc, living-end}
use Rattle.object_machine.proofs.named.find_all_living.Goals as goal

pub loop-name-init : goal.loop-name-init
loop-name-init c = rw c.new-objects.ensures gives

pub returns-in_err-object-clause-refused : goal.returns-in_err-object-clause-refused
returns-in_err-object-clause-refused c =
    let front : List (List ℕ) = take c.loop-name.name-index c.args.names.now in
    let rest : List (List ℕ) = drop (c.loop-name.name-index + 1) c.args.names.now in
    let more = drop_more c.args.names.now c.loop-name.name-index c.name-item.result c.loop-name-test.true in
    let split : front ++ c.name-item.result ∷ rest ≡ c.args.names.now =
    ap (λ (l : List (List ℕ)). front ++ l) (sym (rw (← c.name-item.is) at more)) ∙ take-append-drop c.loop-name.name-index c.args.names.now in
    let not = living-end c.args.world.now.store.tree front c.loop-name.objects c.name-item.result rest c.in_err-object.field-0.0 c.loop-name.invariant c.in_err-object.ensures.refused in
    err-is c.from_residual.result (subst (λ (l : List (List ℕ)). IsNotAccepted (all_living c.args.world.now.store.tree l) c.in_err-object.field-0.0) split not) c.from_residual.ensures.1

pub loop-name-preserved : goal.loop-name-preserved
loop-name-preserved c =
    let front : List (List ℕ) = take c.loop-name.name-index c.args.names.now in
    let more = take_more c.args.names.now c.loop-name.name-index c.name-item.result c.loop-name-test.true in
    let name : List ℕ = c.name-item.result in
    let o : Numbered Life = record { number = c.in_ok-object.object; it = c.in_ok-object.field-0-1.now } in
    let after = living-snoc c.args.world.now.store.tree front c.loop-name.objects name o c.loop-name.invariant (living-ok o c.in_ok-object.ensures.found) in
    let In : List ℕ → Type 0 = λ l. all_living c.args.world.now.store.tree (front ++ name ∷ []) (Ok l) in
    rw (more, ← c.name-item.is) (subst In (sym (rw c.new.ensures at c.in_ok-push.ensures.ok)) after)

pub returns-in_err-push-clause-refused : goal.returns-in_err-push-clause-refused
returns-in_err-push-clause-refused c = short-is (all_living c.args.world.now.store.tree c.args.names.now) c.from_residual-in_err-push.result c.from_residual-in_err-push.ensures.1
