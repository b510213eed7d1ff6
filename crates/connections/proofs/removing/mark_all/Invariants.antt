use Rattle.std.proofs.Common.{◌≡◌, ◌<◌, ◌≤◌, ◌⊎◌, ℕ, option_map, get_or}
use Rattle.std.specs.Vec.{vec_len}
use Rattle.slab.specs.Slab.{get}
use Rattle.connections.specs.code.Cells.{Marked, retired}
use Rattle.connections.specs.declared.place.CellPlace.{CellPlace}
use Rattle.connections.proofs.removing.mark_all.Given as goal

-- each cell is as it was or as it shall be, and it is as it shall be where a place so far leads to it
abbrev pub invariant-loop-place : goal.invariant-loop-place
invariant-loop-place l = record {
  either : (k : ℕ) → (get l.cells k ≡ get l.fn.cells k) ⊎ (get l.cells k ≡ option_map (retired l.removal) (get l.fn.cells k));
  done : (j : ℕ) (d : CellPlace) → j < l.place-index → get l.cells (get_or l.places j d).key ≡ option_map (retired l.removal) (get l.fn.cells (get_or l.places j d).key);
  marked : Marked l.cells l.marked;
  more : vec_len l.fn.marked ≤ vec_len l.marked;
}
