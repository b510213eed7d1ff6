use Rattle.std.proofs.Common.{sym, ◌∙◌}
use Rattle.std.specs.Option.{option_map}
use Rattle.std.proofs.Common.{ap}
use Rattle.native_slots.proofs.Asking.{heads_found, accepted_at, may_answer_at, nothing_taken}
use Rattle.native_slots.proofs.Finding.{find_missing}
use Rattle.native_slots.proofs.natives.NativesAnswering.answer.Goals as goal

pub call-requires-clause-accepted : goal.call-requires-clause-accepted
call-requires-clause-accepted g c = accepted_at (λ slot. slot.head) c.args.self.now.slots.items c.args.class.now c.args.sig.now c.args.arguments.now c.args.reads.now c.in-Some.place c.requires (sym c.find.ensures ∙ c.in-Some.is)

pub returns : goal.returns
returns g c = may_answer_at (λ slot. slot.head) c.args.self.now.slots.items c.args.class.now c.args.sig.now c.args.arguments.now c.args.reads.now _ c.in-Some.place c.requires (sym c.find.ensures ∙ c.in-Some.is) c.call.result c.call.ensures.answers

pub unreachable-requires : goal.unreachable-requires
unreachable-requires g c =
    nothing_taken _ c.args.class.now c.args.sig.now c.args.arguments.now c.args.reads.now
    (heads_found (λ slot. slot.head) c.args.self.now.slots.items c.args.class.now c.args.sig.now
    ∙ ap (option_map (λ slot. slot.head)) (find_missing _ c.args.self.now.slots.items (sym c.find.ensures ∙ c.in-None.is))) c.requires
