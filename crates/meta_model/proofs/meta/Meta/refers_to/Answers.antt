use Rattle.std.proofs.Common.{◌∙◌}
use Rattle.meta_model.proofs.Typing.{null_typed, object_typed}
use Rattle.meta_model.proofs.meta.Meta.refers_to.Goals as goal

pub returns-in-None-default : goal.returns-in-None-default
returns-in-None-default c = λ classes at. rw (c.in-None-default.is-0, c.in-Reference.is) (null_typed c.args.self.now classes _ _)

pub returns-in-Some-Some : goal.returns-in-Some-Some
returns-in-Some-Some c = λ classes at.
    rw (c.in-Some-Some.is-0, c.in-Reference.is)
    (object_typed c.args.self.now classes _ _ _ _ _ (at _ c.in-Some-Some.is-0 ∙ c.in-Some-Some.is-1) c.inherits.ensures)
