use Rattle.std.proofs.Common.{sym, ◌∙◌, ap, option_map}
use Rattle.event_loops.specs.Queues.{Queues, name_at}
use Rattle.event_loops.specs.code.Rings.{loops_in}
use Rattle.event_loops.specs.code.Marks.{since_of}
use Rattle.event_loops.proofs.Names.{name_at-entry}
use Rattle.event_loops.proofs.Waiting.{name_at-visible}
use Rattle.event_loops.proofs.loops.Loops.name.Goals as goal

pub returns-in-Some : goal.returns-in-Some
returns-in-Some c =
    sym (ap (λ (s : Queues). name_at s.loops c.args.home) (sym c.self.view_is)
    ∙ name_at-visible (since_of c.self.inside.marks) (loops_in c.self.inside.queues) c.args.home
    ∙ name_at-entry c.self.inside.queues.entries c.args.home
    ∙ ap (option_map (λ e. e.0)) (sym (rw c.number.ensures at c.in-Some.ensures.entry)))

pub returns-in-None : goal.returns-in-None
returns-in-None c =
    sym (ap (λ (s : Queues). name_at s.loops c.args.home) (sym c.self.view_is)
    ∙ name_at-visible (since_of c.self.inside.marks) (loops_in c.self.inside.queues) c.args.home
    ∙ name_at-entry c.self.inside.queues.entries c.args.home
    ∙ ap (option_map (λ e. e.0)) (sym (rw c.number.ensures at c.in-None.ensures.entry)))
