-- Walks one behind the other.
use Rattle.std.proofs.Common.{◌≡◌, List, [], ◌∷◌, ◌++◌, sym, subst}
use Rattle.rank_graph.specs.Walks.{LeadsBy}

pub walk_join : {X : Type 0} (E : X → X → Type 0) (a : X) (xs : List X) (b : X) (ys : List X) (c : X) → LeadsBy E a xs b → LeadsBy E b ys c → LeadsBy E a (xs ++ ys) c
walk_join {X = X} E a [] b ys c l m = let same : a ≡ b = l in subst (λ (x : X). LeadsBy E x ys c) (sym same) m
walk_join E a (x ∷ xs) b ys c l m = (l.0, walk_join E x xs b ys c l.1 m)
