use Rattle.std.proofs.Common.{rules, ◌≡◌, refl, true, sym, ◌∙◌, Some}
use Rattle.std.proofs.lemmas.Bool.{and_parts}
use Rattle.slab.specs.Slab.{get}
use Rattle.connections.specs.code.Cells.{is_due}
use Rattle.connections.proofs.Counts.{Marked-one}
use Rattle.connections.proofs.removing.mark_one.Goals as goal

pub returns-in-Some-clause-marked : goal.returns-in-Some-clause-marked
returns-in-Some-clause-marked c =
    let same : get c.args.cells.now c.args.key ≡ Some c.in-Some.cell.now = search rules in
    let told : is_due c.args.removal.now (get c.args.cells.now c.args.key) ≡ true = sym c.is_due.ensures ∙ c.if-is_due.true in
    let due : is_due c.args.removal.now (Some c.in-Some.cell.now) ≡ true = rw same at told in
    Marked-one c.args.cells.now c.args.marked.now c.push_reserved.new.self c.args.key c.in-Some.cell.now _ c.requires same (and_parts _ _ due).0 refl c.push_reserved.ensures.items c.push_reserved.ensures.len c.push_reserved.ensures.capacity
