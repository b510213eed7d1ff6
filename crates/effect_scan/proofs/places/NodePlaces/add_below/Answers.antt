use Rattle.std.proofs.Common.{subst, sym, ◌∙◌, List, ℕ, IfOk}
use Rattle.effect_scan.specs.Effects.{Gathers}
use Rattle.effect_scan.specs.code.NodePlaces.{InEach, InBelow}
use Rattle.effect_scan.proofs.Adding.{row_found, row_absent, no_members}
use Rattle.effect_scan.proofs.Occurring.{gathers_none}
use Rattle.effect_scan.proofs.places.NodePlaces.add_below.Goals as goal

pub returns-in-Some : goal.returns-in-Some
returns-in-Some c =
    subst (λ (l : List ℕ). IfOk c.add_each.result (λ _. Gathers (InEach c.args.self.now.numbering l c.args.member) c.args.numbers.now c.add_each.new.numbers))
    (c.as_slice.ensures ∙ row_found _ _ _ (sym c.in-Some.ensures.value)) c.add_each.ensures

pub returns-in-None : goal.returns-in-None
returns-in-None c =
    gathers_none (InBelow c.args.self.now c.args.class c.args.member) _
    (λ n h. no_members h.0 (rw (← row_absent _ _ (sym c.in-None.ensures.value)) at h.1))
