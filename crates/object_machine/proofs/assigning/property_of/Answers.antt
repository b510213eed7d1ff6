use Rattle.object_machine.proofs.assigning.property_of.Goals as goal

pub returns-in_default : goal.returns-in_default
returns-in_default c = λ q is. c.in_default.ensures.value q.number (record { class = is.0.class; is_class = is.0.is_class; property = q.it; is = is.0.is; named = is.1 })
