-- The text of nodes one after another, and what it is read as.
use Rattle.std.{proofs.Common.{◌≡◌, List, [], ◌∷◌, ◌++◌, map, refl}, specs.List.{AllByRecursion, flat_map}, proofs.lemmas.List.Elements.{All-from_recursion}}
use Rattle.basic_types.specs.{Name.{is_digit, is_name_byte}, Tokens.{StopsBy}}
use Rattle.texts.specs.declared.token.Token.{Token}
use Rattle.token_reading.specs.Lists.{spell_each}
use Rattle.certificate_lang.{specs.Grammar.{spell_node, tree_of_node, HasFewParameters}, specs.declared.certificate.NodeName.{NodeName}, specs.Texts.{node_text_of}, specs.Written.{IsWritableNode}, proofs.Pieces.{IsWritten, nothing, blank_then}, proofs.Lines.{reading_of_node, node_tree, node_then, node_few}}
use Rattle.settling_texts.specs.{Texts.{listed_node}, code.Grammar.{HasFewEach}}

abbrev pub nodes_tokens : List NodeName → List Token
nodes_tokens nodes = spell_each spell_node (map reading_of_node nodes) []

pub nodes_tree : (nodes : List NodeName) → AllByRecursion IsWritableNode nodes → map tree_of_node (map reading_of_node nodes) ≡ nodes
nodes_tree [] h = refl
nodes_tree (node ∷ nodes) h =
    let one = node_tree node h.0 in
    let more = nodes_tree nodes h.1 in
    cc

each_few : (nodes : List NodeName) → AllByRecursion IsWritableNode nodes → AllByRecursion (λ node. HasFewParameters node.member) nodes
each_few [] h = tt
each_few (node ∷ nodes) h = (node_few node h.0, each_few nodes h.1)

pub nodes_few : (nodes : List NodeName) → AllByRecursion IsWritableNode nodes → HasFewEach nodes
nodes_few nodes h = All-from_recursion (λ (node : NodeName). HasFewParameters node.member) nodes (each_few nodes h)

stops_at_nodes : (nodes : List NodeName) → StopsBy is_name_byte (flat_map listed_node nodes)
stops_at_nodes [] = tt
stops_at_nodes (node ∷ nodes) = refl

pub digits_stop_at_nodes : (nodes : List NodeName) → StopsBy is_digit (flat_map listed_node nodes)
digits_stop_at_nodes [] = tt
digits_stop_at_nodes (node ∷ nodes) = refl

pub nodes_written : (nodes : List NodeName) → AllByRecursion IsWritableNode nodes → IsWritten (flat_map listed_node nodes) (nodes_tokens nodes)
nodes_written [] h = nothing
nodes_written (node ∷ nodes) h =
    let more = nodes_written nodes h.1 in
    blank_then (node_text_of node.class node.member ++ flat_map listed_node nodes) _
    (node_then node.class node.member h.0.class h.0.member (flat_map listed_node nodes) (nodes_tokens nodes) (stops_at_nodes nodes) more)
