use Rattle.std.proofs.Common.{List, ap, sym, subst, ◌∙◌}
use Rattle.std.proofs.lemmas.Bool.{false≢true}
use Rattle.binding_graph.specs.declared.place.Place.{Place}
use Rattle.binding_graph.specs.declared.binding.Binding.{Binding}
use Rattle.binding_graph.specs.Bindings.{without_all}
use Rattle.prop_bindings.specs.Calls.{AllFit, bad_type}
use Rattle.prop_bindings.specs.Changes.{HaveLasting, places_in}
use Rattle.prop_bindings.specs.Counts.{Kept}
use Rattle.prop_bindings.specs.code.Parts.{AreGiven, HaveAhead, MayGive, MayGiveSome, PlansGiven}
use Rattle.prop_bindings.proofs.Calling.{counts-changed, kept-agrees, kept-counts, kept-plans}
use Rattle.prop_bindings.proofs.Giving.{have-ahead, have-now}
use Rattle.prop_bindings.proofs.EachOnce.{without_all-once}
use Rattle.prop_bindings.proofs.Short.{plans-group-short}
use Rattle.prop_bindings.proofs.bindings.Bindings.plan_group.Goals as goal

pub returns-then-not-all_fit-clause-value : goal.returns-then-not-all_fit-clause-value
returns-then-not-all_fit-clause-value c = bad_type (λ fits. false≢true (sym c.if-not-all_fit.true ∙ c.all_fit.ensures.1 fits))

pub returns-in_err-given-clause-value : goal.returns-in_err-given-clause-value
returns-in_err-given-clause-value c = plans-group-short c.args.meta.now c.args.writes.now c.args.self.now.installed c.args.tree.now c.from_residual.result c.from_residual.ensures.1

-- ---- where each property has its value already
pub returns-then-have_all-clause-value : goal.returns-then-have_all-clause-value
returns-then-have_all-clause-value c =
    let fits : AllFit c.args.meta.now c.args.tree.now c.args.writes.now = c.all_fit.ensures.0 c.if-not-all_fit.false in
    let given : AreGiven c.args.writes.now c.in_ok-given.given.targets.items c.in_ok-given.given.values = c.in_ok-given.ensures in
    let same = subst (λ (ps : List Place). HaveAhead c.in_ok-given.given.values c.args.tree.now ps) (c.as_slice.ensures ∙ c.from_vec-targets.ensures) (c.have_all.ensures.0 c.if-have_all.true) in
    let have = have-now c.args.meta.now c.args.tree.now c.args.writes.now c.in_ok-given.given.targets.items c.in_ok-given.given.values c.requires.agree.typed fits given same in
    (fits, kept-plans c.args.self.now.installed c.args.tree.now c.args.writes.now c.requires.agree.settled c.nothing.result c.nothing.ensures.values c.nothing.ensures.changed c.nothing.ensures.evaluated have)

pub returns-then-have_all-clause-targets : goal.returns-then-have_all-clause-targets
returns-then-have_all-clause-targets c = let given : AreGiven c.args.writes.now c.in_ok-given.given.targets.items c.in_ok-given.given.values = c.in_ok-given.ensures in c.from_vec-targets.ensures ∙ given.each

pub returns-then-have_all-clause-left : goal.returns-then-have_all-clause-left
returns-then-have_all-clause-left c =
    let given : AreGiven c.args.writes.now c.in_ok-given.given.targets.items c.in_ok-given.given.values = c.in_ok-given.ensures in
    ap (λ (ps : List Place). without_all ps c.args.self.now.installed) (c.from_vec-targets.ensures ∙ given.each) ∙ without_all-once (places_in c.args.writes.now) c.args.self.now.installed

pub returns-then-have_all-clause-agree : goal.returns-then-have_all-clause-agree
returns-then-have_all-clause-agree c =
    kept-agrees c.args.self.now.installed c.args.tree.now c.args.writes.now c.requires.agree.settled c.nothing.result c.nothing.ensures.values c.nothing.ensures.changed c.nothing.ensures.evaluated
    c.args.meta.now c.requires.agree

pub returns-then-have_all-clause-counted : goal.returns-then-have_all-clause-counted
returns-then-have_all-clause-counted c =
    let fits : AllFit c.args.meta.now c.args.tree.now c.args.writes.now = c.all_fit.ensures.0 c.if-not-all_fit.false in
    let given : AreGiven c.args.writes.now c.in_ok-given.given.targets.items c.in_ok-given.given.values = c.in_ok-given.ensures in
    let same = subst (λ (ps : List Place). HaveAhead c.in_ok-given.given.values c.args.tree.now ps) (c.as_slice.ensures ∙ c.from_vec-targets.ensures) (c.have_all.ensures.0 c.if-have_all.true) in
    let have = have-now c.args.meta.now c.args.tree.now c.args.writes.now c.in_ok-given.given.targets.items c.in_ok-given.given.values c.requires.agree.typed fits given same in
    kept-counts c.args.self.now.installed c.args.tree.now c.args.writes.now c.requires.agree.settled c.nothing.result c.nothing.ensures.values c.nothing.ensures.changed c.nothing.ensures.evaluated have

-- ---- where one gets another value
pub plan_given-requires-clause-given : goal.plan_given-requires-clause-given
plan_given-requires-clause-given c =
    let may : MayGive c.args.meta.now c.args.tree.now c.args.self.now.installed c.args.writes.now c.in_ok-given.given.targets.items c.in_ok-given.given.values = record { agree = c.requires.agree; fits = c.all_fit.ensures.0 c.if-not-all_fit.false; given = c.in_ok-given.ensures } in
    let some : MayGiveSome c.args.tree.now c.args.self.now.installed c.in_ok-given.given.targets.items c.in_ok-given.given.values = (c.args.meta.now, c.args.writes.now, may) in
    subst (λ (bs : List Binding). MayGiveSome c.args.tree.now bs c.as_slice-2.result.now c.in_ok-given.given.values) (sym (ap (λ (k : Kept). k.installed) c.self.view_is))
    (subst (λ (ps : List Place). MayGiveSome c.args.tree.now c.args.self.now.installed ps c.in_ok-given.given.values) (sym (c.as_slice-2.ensures ∙ c.from_vec-targets.ensures)) some)

pub returns-in_err-planned-clause-value : goal.returns-in_err-planned-clause-value
returns-in_err-planned-clause-value c = plans-group-short c.args.meta.now c.args.writes.now c.args.self.now.installed c.args.tree.now c.from_residual-in_err-planned.result c.from_residual-in_err-planned.ensures.1

pub returns-clause-value : goal.returns-clause-value
returns-clause-value c =
    let fits : AllFit c.args.meta.now c.args.tree.now c.args.writes.now = c.all_fit.ensures.0 c.if-not-all_fit.false in
    let may : MayGive c.args.meta.now c.args.tree.now c.args.self.now.installed c.args.writes.now c.in_ok-given.given.targets.items c.in_ok-given.given.values = record { agree = c.requires.agree; fits = c.all_fit.ensures.0 c.if-not-all_fit.false; given = c.in_ok-given.ensures } in
    let plans = subst (λ (ps : List Place). PlansGiven c.args.tree.now c.args.self.now.installed ps c.in_ok-given.given.values c.in_ok-planned.planned) (c.as_slice-2.ensures ∙ c.from_vec-targets.ensures)
    (subst (λ (bs : List Binding). PlansGiven c.args.tree.now bs c.as_slice-2.result.now c.in_ok-given.given.values c.in_ok-planned.planned) (ap (λ (k : Kept). k.installed) c.self.view_is) c.in_ok-planned.ensures) in
    (fits, (plans c.args.meta.now c.args.writes.now may).written)

pub returns-clause-targets : goal.returns-clause-targets
returns-clause-targets c = let given : AreGiven c.args.writes.now c.in_ok-given.given.targets.items c.in_ok-given.given.values = c.in_ok-given.ensures in c.from_vec-targets.ensures ∙ given.each

pub returns-clause-left : goal.returns-clause-left
returns-clause-left c =
    let given : AreGiven c.args.writes.now c.in_ok-given.given.targets.items c.in_ok-given.given.values = c.in_ok-given.ensures in
    ap (λ (ps : List Place). without_all ps c.args.self.now.installed) (c.from_vec-targets.ensures ∙ given.each) ∙ without_all-once (places_in c.args.writes.now) c.args.self.now.installed

pub returns-clause-agree : goal.returns-clause-agree
returns-clause-agree c =
    let may : MayGive c.args.meta.now c.args.tree.now c.args.self.now.installed c.args.writes.now c.in_ok-given.given.targets.items c.in_ok-given.given.values = record { agree = c.requires.agree; fits = c.all_fit.ensures.0 c.if-not-all_fit.false; given = c.in_ok-given.ensures } in
    let plans = subst (λ (ps : List Place). PlansGiven c.args.tree.now c.args.self.now.installed ps c.in_ok-given.given.values c.in_ok-planned.planned) (c.as_slice-2.ensures ∙ c.from_vec-targets.ensures)
    (subst (λ (bs : List Binding). PlansGiven c.args.tree.now bs c.as_slice-2.result.now c.in_ok-given.given.values c.in_ok-planned.planned) (ap (λ (k : Kept). k.installed) c.self.view_is) c.in_ok-planned.ensures) in
    (plans c.args.meta.now c.args.writes.now may).agree

pub returns-clause-counted : goal.returns-clause-counted
returns-clause-counted c =
    let fits : AllFit c.args.meta.now c.args.tree.now c.args.writes.now = c.all_fit.ensures.0 c.if-not-all_fit.false in
    let given : AreGiven c.args.writes.now c.in_ok-given.given.targets.items c.in_ok-given.given.values = c.in_ok-given.ensures in
    let may : MayGive c.args.meta.now c.args.tree.now c.args.self.now.installed c.args.writes.now c.in_ok-given.given.targets.items c.in_ok-given.given.values = record { agree = c.requires.agree; fits = c.all_fit.ensures.0 c.if-not-all_fit.false; given = c.in_ok-given.ensures } in
    let plans = subst (λ (ps : List Place). PlansGiven c.args.tree.now c.args.self.now.installed ps c.in_ok-given.given.values c.in_ok-planned.planned) (c.as_slice-2.ensures ∙ c.from_vec-targets.ensures)
    (subst (λ (bs : List Binding). PlansGiven c.args.tree.now bs c.as_slice-2.result.now c.in_ok-given.given.values c.in_ok-planned.planned) (ap (λ (k : Kept). k.installed) c.self.view_is) c.in_ok-planned.ensures) in
    let apart : ¬ HaveLasting c.args.tree.now c.args.writes.now = λ have.
    false≢true (sym c.if-have_all.false ∙ c.have_all.ensures.1 (subst (λ (ps : List Place). HaveAhead c.in_ok-given.given.values c.args.tree.now ps) (sym (c.as_slice.ensures ∙ c.from_vec-targets.ensures))
    (have-ahead c.args.meta.now c.args.tree.now c.args.writes.now c.in_ok-given.given.targets.items c.in_ok-given.given.values c.requires.agree.typed fits given have))) in
    counts-changed _ c.args.tree.now c.args.writes.now c.in_ok-planned.planned.changed c.in_ok-planned.planned.evaluated apart (plans c.args.meta.now c.args.writes.now may).counted
