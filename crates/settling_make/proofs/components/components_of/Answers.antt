use Rattle.std.proofs.Common.{List, subst, sym, ◌∙◌}
use Rattle.settling_make.specs.Searching.{AllDone}
use Rattle.settling_make.specs.declared.groups.SearchState.{SearchState}
use Rattle.settling_make.proofs.Driving.{found_components}
use Rattle.settling_make.proofs.components.components_of.Goals as goal

pub numbers_of-requires : goal.numbers_of-requires
numbers_of-requires c = subst (λ (l : List SearchState). AllDone l) (sym (c.as_slice.ensures ∙ c.into_found-states.ensures.states)) c.in_ok-search_all.ensures.1

pub returns : goal.returns
returns c =
    found_components _ _ _ c.in_ok-search_all.ensures.0.left c.in_ok-search_all.ensures.1 (c.in_ok-numbers.ensures ∙ c.as_slice.ensures ∙ c.into_found-states.ensures.states) c.into_found-states.ensures.sets
