-- The lines of a certificate, as they are put into an output one by one.
use Rattle.std.proofs.Common.{◌≡◌, ℕ, ◌+◌, ◌<◌, List, [], ◌∷◌, ◌++◌, length, get_or, Option, Some, Ok, Result, OnOk, append-nil, refl, sym, ap, ◌∙◌, subst}
use Rattle.std.specs.List.{flat_map}
use Rattle.std.proofs.lemmas.List.Concat.{flat_map-append}
use Rattle.std.proofs.lemmas.Option.{none-some}
use Rattle.certificate_lang.specs.declared.certificate.Line.{Line}
use Rattle.certificate_lang.specs.Texts.{node_line}
use Rattle.command_lines.proofs.Sending.{sent, as_text, none_sent}
use Rattle.command_lines.specs.Sent.{Puts}
use Rattle.command_lines.specs.declared.output.Output.{Output}
use Rattle.effect_scan.specs.declared.node.Node.{Node}
use Rattle.effect_scan.specs.Nodes.{nodes_of}
use Rattle.meta_model.specs.Loaded.{Loaded}
use Rattle.rank_graph.specs.Solutions.{rank_of, leads_of}
use Rattle.rank_make.proofs.Steps.{lines_next}
use Rattle.rank_graph.specs.declared.solution.Solution.{Solution}
use Rattle.rank_make.specs.Solved.{IsLineFor}
use Rattle.program_commands.specs.Certifying.{PutsLines, SendsLeast, IsLeastText}

module _ {W : Type 0} (contents : W → Option (List ℕ)) (p : Loaded) (solution : Solution) where
  pub lines_begun : (a : Output W (List ℕ)) → PutsLines contents p solution 0 a a
  lines_begun a = record {
    lines = [];
    are = record { count = refl; line = λ n x line at is. absurd (none-some line is) };
    puts = none_sent contents a;
  }

  pub lines_put : (items : List Node) (n : ℕ) (d : Node) (line : Line) (a b c : Output W (List ℕ)) → items ≡ nodes_of p → n < length items → PutsLines contents p solution n a b
      → IsLineFor p (rank_of solution) (leads_of solution) n (get_or items n d) line → Puts contents b c (node_line line) → PutsLines contents p solution (n + 1) a c
  lines_put items n d line a b c are inside before for puts = record {
    lines = before.lines ++ line ∷ [];
    are = lines_next p (rank_of solution) (leads_of solution) items n d line before.lines _ are inside before.are for refl;
    puts = as_text (sent before.puts puts) (flat_map-append node_line before.lines (line ∷ []) ∙ ap (λ (l : List ℕ). flat_map node_line before.lines ++ l) (append-nil (node_line line)));
  }

-- a list took the whole text
pub all_taken : {E : Type 0} (p : Loaded) (text : List ℕ) (status : ℕ) (answer : Result ℕ E) → answer ≡ Ok status → SendsLeast p (Some []) (Some text) answer → IsLeastText p text
all_taken p text status answer ok sends =
    let takes = sends.takes.takes in
    let none : takes.left ≡ [] = subst (λ (r : Result ℕ _). OnOk r (takes.left ≡ [])) ok takes.all in
    record {
      certificate = sends.certificate;
      least = sends.least;
      is = takes.appended ∙ (sym (append-nil takes.taken) ∙ (sym (ap (λ (l : List ℕ). takes.taken ++ l) none) ∙ takes.whole));
    }
