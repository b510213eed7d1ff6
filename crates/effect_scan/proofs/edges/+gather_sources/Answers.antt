use Rattle.effect_scan.proofs.Sources.{sources_none, sources_one, sources_same, sources_both}
use Rattle.effect_scan.proofs.edges.+gather_sources.Goals as goal

pub returns-in-Literal : goal.returns-in-Literal
returns-in-Literal t c = sources_none _ _ _ c.in-Literal.is

pub returns-in-Path : goal.returns-in-Path
returns-in-Path t c = sources_one _ _ _ _ _ c.in-Path.is c.push.ensures.ok

pub returns-in-Unary : goal.returns-in-Unary
returns-in-Unary t c = sources_same _ _ _ _ _ _ _ c.in-Unary.is c.get.ensures c.gather_sources.ensures

pub returns-in_ok-gather_sources-in-Binary : goal.returns-in_ok-gather_sources-in-Binary
returns-in_ok-gather_sources-in-Binary t c =
    sources_both c.gather_sources-in-Binary-2.result _ _ _ _ _ _ _ _ _ c.in-Binary.is c.get-in-Binary.ensures c.get-in-Binary-2.ensures c.in_ok-gather_sources-in-Binary.ensures c.gather_sources-in-Binary-2.ensures
