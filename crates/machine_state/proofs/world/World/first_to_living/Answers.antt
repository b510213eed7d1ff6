use Rattle.std.proofs.Common.{◌≡◌, ℕ, ◌<◌, ◌≤◌, List, Bor, Bool, true, false, Option, Some, None, is_some, option_copied, refl, sym, ap, ◌∙◌, arith}
use Rattle.object_tree.specs.declared.life.Life.{Life}
use Rattle.object_tree.specs.declared.object.Object.{Object}
use Rattle.object_tree.specs.Objects.{life_of}
use Rattle.machine_state.specs.Connections.{is_living}
use Rattle.machine_state.proofs.Due.{due-within}
use Rattle.machine_state.proofs.Passing.{none-used, living-used, dead-passed}
use Rattle.machine_state.proofs.world.World.first_to_living.Goals as goal

-- what the code asks of a receiver
copied-some : (life : Option (Bor Life)) → is_some (option_copied life) ≡ is_some life
copied-some None = refl
copied-some (Some life) = refl

is-living : (objects : List Object) (o : ℕ) (life : Option (Bor Life)) (lives : Bool) (b : Bool) → option_copied life ≡ life_of objects o → lives ≡ is_some life → lives ≡ b → is_living objects o ≡ b
is-living objects o life lives b is asked answer = ap is_some (sym is) ∙ (copied-some life ∙ (sym asked ∙ answer))

pub returns-then-is_some : goal.returns-then-is_some
returns-then-is_some c =
    let world = c.args.self.now.store in
    let lives = is-living world.tree c.in-Some.connection.receiver c.life.result c.is_some.result true c.life.ensures c.is_some.ensures c.if-is_some.true in
    sym (living-used world.tree c.args.sender c.args.signal c.loop-connection.passed c.args.last world.connections.connections c.in-Some.connection (sym c.next_due.ensures ∙ c.in-Some.is) lives)
    ∙ c.loop-connection.invariant

pub loop-connection-smaller : goal.loop-connection-smaller
loop-connection-smaller c =
    let within : (c.loop-connection.passed < c.in-Some.connection.number) × (c.in-Some.connection.number ≤ c.args.last) =
    due-within c.args.self.now.store.connections.connections c.args.sender c.args.signal c.loop-connection.passed c.args.last c.in-Some.connection (sym c.next_due.ensures ∙ c.in-Some.is) in
    omega (arith, within.0, within.1)

pub loop-connection-preserved : goal.loop-connection-preserved
loop-connection-preserved c =
    let world = c.args.self.now.store in
    let found = sym c.next_due.ensures ∙ c.in-Some.is in
    let within = due-within world.connections.connections c.args.sender c.args.signal c.loop-connection.passed c.args.last c.in-Some.connection found in
    let dead = is-living world.tree c.in-Some.connection.receiver c.life.result c.is_some.result false c.life.ensures c.is_some.ensures c.if-is_some.false in
    dead-passed world.tree c.args.sender c.args.signal c.loop-connection.passed c.args.last 0 world.connections.last world.connections.connections c.in-Some.connection c.numbers_rise.ensures within.0 found dead
    ∙ c.loop-connection.invariant

pub returns : goal.returns
returns c =
    let world = c.args.self.now.store in
    sym (none-used world.tree c.args.sender c.args.signal c.loop-connection.passed c.args.last world.connections.connections (sym c.next_due.ensures ∙ c.in_default.is))
    ∙ c.loop-connection.invariant
