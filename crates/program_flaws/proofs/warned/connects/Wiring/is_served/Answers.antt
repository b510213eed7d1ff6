use Rattle.std.proofs.Common.{subst, List, sym}
use Rattle.meta_model.specs.declared.object.MetaWire.{MetaWire}
use Rattle.meta_model.specs.Members.{IsIn}
use Rattle.meta_model.proofs.Searches.{none_more, none_at_all, read_at}
use Rattle.meta_model.proofs.InLists.{place_in}
use Rattle.program_flaws.proofs.warned.connects.Wiring.is_served.Goals as goal

pub loop-wire-preserved : goal.loop-wire-preserved
loop-wire-preserved c =
    none_more _ _ _ _ c.loop-wire.invariant c.loop-wire-test.true (read_at _ _ _ c.loop-wire-test.true) (λ may. let t = c.may_serve.ensures may in cc)

pub returns : goal.returns
returns c = λ served.
    let at = place_in _ _ (subst (λ (l : List MetaWire). IsIn served.wire l) (sym c.wires-wire-items.ensures) served.declared) in
    absurd (none_at_all _ _ _ c.loop-wire.invariant c.loop-wire-test.false at.0 (record { item = served.wire; is = at.1; has = served.serves }))
