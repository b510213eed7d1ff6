use Rattle.std.proofs.Common.{◌≡◌, ℕ, List}
use Rattle.name_indexes.specs.NamePlaces.{place_in}
use Rattle.meta_model.specs.declared.site.MetaSite.{MetaSite}
use Rattle.name_indexes.proofs.Indexing.{IsPlaceBefore}
use Rattle.meta_model.proofs.class_index.index_sites.Given as goal

-- the index is that of the items so far
abbrev pub invariant-loop-number : goal.invariant-loop-number
invariant-loop-number l = (name : List ℕ) → IsPlaceBefore (λ (site : MetaSite). site.name ≡ name) l.sites l.number (place_in l.index name)
