use Rattle.std.proofs.Common.{ℕ, sym, ◌∙◌, ap, subst}
use Rattle.event_loops.specs.Queues.{Queues, IsNamed, name_at}
use Rattle.event_loops.specs.code.Rings.{loops_in}
use Rattle.event_loops.specs.code.Marks.{since_of}
use Rattle.event_loops.specs.code.Kept.{seen}
use Rattle.event_loops.proofs.Names.{name_at-found, name_at-first, taken-lookup, none_where}
use Rattle.event_loops.proofs.Waiting.{name_at-visible}
use Rattle.event_loops.proofs.loops.Loops.find.Goals as goal

pub returns-in-Some-clause-value : goal.returns-in-Some-clause-value
returns-in-Some-clause-value c =
    ap (λ (s : Queues). name_at s.loops c.new.result) (sym c.self.view_is)
    ∙ ap (λ home. name_at (seen c.self.inside.queues c.self.inside.marks) home) c.new.ensures
    ∙ name_at-visible (since_of c.self.inside.marks) (loops_in c.self.inside.queues) c.in-Some.place
    ∙ name_at-found c.self.inside.queues.entries c.args.name.now c.in-Some.place (sym c.in-Some.ensures.index)

pub returns-in-Some-clause-named : goal.returns-in-Some-clause-named
returns-in-Some-clause-named c =
    let found = sym c.in-Some.ensures.index in
    let visible = name_at-visible (since_of c.self.inside.marks) (loops_in c.self.inside.queues) in
    let In : Queues → ℕ → Type 0 = λ s home. IsNamed s.loops c.args.name.now home in
    let Home : ℕ → Type 0 = λ home. In c.args.self.now home in
    let At : Queues → Type 0 = λ s. In s c.in-Some.place in
    let here : IsNamed (seen c.self.inside.queues c.self.inside.marks) c.args.name.now c.in-Some.place = record {
      has = visible c.in-Some.place ∙ name_at-found c.self.inside.queues.entries c.args.name.now c.in-Some.place found;
      first = λ k named. name_at-first c.self.inside.queues.entries c.args.name.now c.in-Some.place k found (sym (visible k) ∙ named);
    } in
    subst Home (sym c.new.ensures) (subst At c.self.view_is here)

pub returns-in-None-clause-value : goal.returns-in-None-clause-value
returns-in-None-clause-value c = λ taken.
    taken-lookup c.self.inside.queues.entries c.args.name.now taken.0
    (sym (name_at-visible (since_of c.self.inside.marks) (loops_in c.self.inside.queues) taken.0) ∙ ap (λ (s : Queues). name_at s.loops taken.0) c.self.view_is ∙ taken.1)
    (none_where _ c.in-None.ensures.found)
