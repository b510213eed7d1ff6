use Rattle.std.proofs.Common.{◌≡◌, ◌∙◌, ◌∷◌, ◌+◌, ◌-◌, ℕ, suc, List, drop, ap, sym, arith}
use Rattle.std.specs.Prelude.{slice_get}
use Rattle.binding_graph.specs.declared.binding.Binding.{Binding}
use Rattle.binding_graph.specs.code.Slots.{filled}
use Rattle.binding_graph.proofs.Slots.{filled-next, filled-past}
use Rattle.binding_graph.proofs.installed.Installed.nth.Goals as goal

pub loop-slot-preserved-in_default : goal.loop-slot-preserved-in_default
loop-slot-preserved-in_default c =
    ap (λ (bs : List Binding). slice_get bs c.loop-slot.before) (filled-past c.args.self.now.slots.items c.loop-slot.slot (sym c.in_default.ensures)) ∙ c.loop-slot.invariant

pub returns-then-before-eq0 : goal.returns-then-before-eq0
returns-then-before-eq0 c =
    let first : c.loop-slot.before ≡ 0 = omega (arith, c.if-before-eq0.true) in
    let rest : List Binding = filled (drop (c.loop-slot.slot + 1) c.args.self.now.slots.items) in
    sym (ap (λ (n : ℕ). slice_get (c.in-Some.reader.now ∷ rest) n) first)
    ∙ sym (ap (λ (bs : List Binding). slice_get bs c.loop-slot.before) (filled-next c.args.self.now.slots.items c.loop-slot.slot c.in-Some.reader.now (sym c.in-Some.ensures)))
    ∙ c.loop-slot.invariant

pub loop-slot-preserved : goal.loop-slot-preserved
loop-slot-preserved c =
    let more : suc (c.loop-slot.before - 1) ≡ c.loop-slot.before = omega (arith, c.if-before-eq0.false) in
    let rest : List Binding = filled (drop (c.loop-slot.slot + 1) c.args.self.now.slots.items) in
    ap (λ (n : ℕ). slice_get (c.in-Some.reader.now ∷ rest) n) more
    ∙ sym (ap (λ (bs : List Binding). slice_get bs c.loop-slot.before) (filled-next c.args.self.now.slots.items c.loop-slot.slot c.in-Some.reader.now (sym c.in-Some.ensures)))
    ∙ c.loop-slot.invariant
