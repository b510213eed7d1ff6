use Rattle.std.proofs.Common.{◌≡◌, ◌<◌, ◌≤◌, ◌⊎◌, ℕ, get_or}
use Rattle.slab.specs.Slab.{get, slab_len}
use Rattle.connections.specs.code.Cells.{swept}
use Rattle.connections.proofs.sweeping.sweep_keys.Given as goal

-- each cell is as it was or swept, and it is swept where a key so far is its own
abbrev pub invariant-loop-key : goal.invariant-loop-key
invariant-loop-key l = record {
  either : (k : ℕ) → (get l.cells k ≡ get l.fn.cells k) ⊎ (get l.cells k ≡ swept (get l.fn.cells k));
  done : (j : ℕ) (d : ℕ) → j < l.key-index → get l.cells (get_or l.keys j d) ≡ swept (get l.fn.cells (get_or l.keys j d));
  len : slab_len l.cells ≤ slab_len l.fn.cells;
}
