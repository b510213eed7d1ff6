-- The ranks and the destroy sets of a program's nodes, and why there are none (docs/certificate.md, "The maker").
use Rattle.std.specs.Prelude.{ℕ, Bool, List, length, Result, Ok, Err}
use Rattle.meta_model.specs.Loaded.{Loaded}
use Rattle.effect_scan.specs.Scans.{Scanned, IsScan}
use Rattle.certificate_lang.specs.declared.certificate.Line.{Line}
use Rattle.rank_check.specs.Entries.{IsReady}
use Rattle.rank_graph.specs.Solutions.{rank_of, leads_of}
use Rattle.rank_graph.specs.declared.solution.Solution.{Solution}
use Rattle.rank_make.specs.declared.ranking.Ranks.{Ranks}
use Rattle.rank_make.specs.declared.why.Why.{Why}
use Rattle.rank_make.specs.declared.why.Why.TheVariants.{Wire, BodyType, Cycle, DestroyPath, TooHigh, Memory}
use Rattle.rank_make.specs.Walks.{IsToldCycle}
use Rattle.rank_make.specs.Least.{IsLeastValid}
use Rattle.rank_make.specs.Makes.{NoneIsValid, IsReason}
use Rattle.rank_make.specs.Solved.{IsSolved, AreLow, AreLinesFor}

-- of the program's nodes and edges: the rank of a node is how many edges its longest chain has, and its classes are those of the
-- objects that may be destroyed from it
pub record AreRanksOf (p : Loaded) (ranks : Ranks) : Type 0 where
  pub scan : IsScan p ranks.scan
  pub solved : IsSolved ranks.scan (rank_of ranks.solution) (leads_of ranks.solution)

-- edges lead back to a node, so that there are no ranks and no certificate is valid; running out of memory says nothing
abbrev pub HasNoRanks : Loaded → Why → Type 0
HasNoRanks p (Wire place) = ⊥
HasNoRanks p (BodyType spot) = ⊥
HasNoRanks p (Cycle nodes) = IsToldCycle p nodes × NoneIsValid p
HasNoRanks p (DestroyPath nodes) = ⊥
HasNoRanks p (TooHigh nodes) = ⊥
HasNoRanks p Memory = Unit {0}

-- the program's ranks, or why there are none
abbrev pub RanksProgram : Loaded → Result Ranks Why → Type 0
RanksProgram p (Ok ranks) = AreRanksOf p ranks
RanksProgram p (Err why) = HasNoRanks p why

-- the ranks and classes of the nodes of a scan, or why there are none
abbrev pub RanksScan : Loaded → Scanned → Result Solution Why → Type 0
RanksScan p scan (Ok solution) = IsSolved scan (rank_of solution) (leads_of solution)
RanksScan p scan (Err why) = HasNoRanks p why

-- the program is ready for a certificate and these are its ranks, or this is the first reason why no certificate is valid
abbrev pub RanksReady : Loaded → Result Ranks Why → Type 0
RanksReady p (Ok ranks) = IsReady p × AreRanksOf p ranks
RanksReady p (Err why) = IsReason p why

-- the ranks of so many nodes are low, and with the lines of all nodes this bound is the least valid certificate
pub record IsLeastBound (p : Loaded) (count : ℕ) (rank : ℕ → ℕ) (leads : ℕ → ℕ → Bool) (bound : ℕ) : Type 0 where
  pub low : AreLow count rank
  pub least : (lines : List Line) → AreLinesFor p rank leads lines → IsLeastValid p (record { bound = bound; lines = lines })

-- this bound, or the reason that ranks and sets give
abbrev pub BoundsSolved : Loaded → Scanned → (ℕ → ℕ) → (ℕ → ℕ → Bool) → Result ℕ Why → Type 0
BoundsSolved p scan rank leads (Ok bound) = IsLeastBound p (length scan.nodes) rank leads bound
BoundsSolved p scan rank leads (Err why) = IsReason p why

-- the bound of the least valid certificate, of whose lines these are the ranks
pub record IsBoundOf (p : Loaded) (bound : ℕ) (ranks : Ranks) : Type 0 where
  pub are : AreRanksOf p ranks
  pub bounds : IsLeastBound p (length ranks.scan.nodes) (rank_of ranks.solution) (leads_of ranks.solution) bound

-- such a bound with the program's ranks, or the first reason why no certificate is valid
abbrev pub MakesBound : Loaded → Result (ℕ × Ranks) Why → Type 0
MakesBound p (Ok made) = IsBoundOf p made.0 made.1
MakesBound p (Err why) = IsReason p why
