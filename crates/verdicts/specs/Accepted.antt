-- Which edges of cycles a list accepts, and what a verdict says where no error is left (docs/verdict.md, "Accepted cycles").
use Rattle.std.specs.Prelude.{◌≡◌, ◌≢◌, nat_eq, All, Bool, List, [], string_bytes, vec_len}
use Rattle.std.specs.List.{list_any}
use Rattle.std.specs.Cmp.Lexicographic.{pointwise}
use Rattle.findings.specs.declared.edge.Edge.{Edge}
use Rattle.findings.specs.declared.edge.PlacedEdge.{PlacedEdge}
use Rattle.findings.specs.declared.levels.LevelChange.{LevelChange}
use Rattle.findings.specs.declared.rule.Rule.TheVariants.{Cycle}
use Rattle.findings.specs.declared.verdict.Verdict.{Verdict}

-- the same two members, byte for byte
abbrev pub is_same : Edge → Edge → Bool
is_same a b = pointwise nat_eq (string_bytes a.text) (string_bytes b.text)

-- one of the list is the edge
abbrev pub is_accepted : List Edge → PlacedEdge → Bool
is_accepted listed placed = list_any (λ one. is_same one placed.edge) listed

-- no error is found but cycles by edges that are accepted: by all that there are, of which none is on a loop of bindings, where no
-- change made cycles another thing than errors
pub record IsClean (changes : List LevelChange) (verdict : Verdict) : Type 0 where
  pub errors : verdict.errors.items ≡ []
  pub more : verdict.more_errors ≡ 0
  pub cycles : All (λ change. change.rule ≢ Cycle) changes → verdict.accepted ≡ vec_len verdict.edges
  pub bound : All (λ change. change.rule ≢ Cycle) changes → verdict.bound ≡ 0
