-- The text of a certificate, line by line.
use Rattle.std.specs.Prelude.{◌≡◌, ℕ, List, Option, Result}
use Rattle.std.specs.List.{flat_map}
use Rattle.certificate_lang.specs.declared.certificate.Line.{Line}
use Rattle.certificate_lang.specs.declared.certificate.Certificate.{Certificate}
use Rattle.certificate_lang.specs.Texts.{certificate_text, node_line}
use Rattle.command_lines.specs.declared.output.Output.{Output}
use Rattle.command_lines.specs.Sent.{Puts, TakesWith}
use Rattle.meta_model.specs.Loaded.{Loaded}
use Rattle.rank_graph.specs.Solutions.{rank_of, leads_of}
use Rattle.rank_graph.specs.declared.solution.Solution.{Solution}
use Rattle.rank_make.specs.Least.{IsLeastValid}
use Rattle.rank_make.specs.Solved.{AreLinesTo}

-- the lines of so many nodes are put into an output
pub record PutsLines {W : Type 0} (contents : W → Option (List ℕ)) (p : Loaded) (solution : Solution) (end : ℕ) (before after : Output W (List ℕ)) : Type 0 where
  pub lines : List Line
  pub are : AreLinesTo p (rank_of solution) (leads_of solution) end lines
  pub puts : Puts contents before after (flat_map node_line lines)

-- a writer took the text of the least valid certificate
pub record SendsLeast {E : Type 0} (p : Loaded) (before after : Option (List ℕ)) (sent : Result ℕ E) : Type 0 where
  pub certificate : Certificate
  pub least : IsLeastValid p certificate
  pub takes : TakesWith before after (certificate_text certificate) 0 sent

-- it is the text of the least valid certificate
pub record IsLeastText (p : Loaded) (text : List ℕ) : Type 0 where
  pub certificate : Certificate
  pub least : IsLeastValid p certificate
  pub is : text ≡ certificate_text certificate
