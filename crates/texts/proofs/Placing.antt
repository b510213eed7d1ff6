-- What the loop over the pieces of a text keeps.
use Rattle.std.proofs.Common.{ℕ, ◌≡◌, ◌<◌, ◌≤◌, List, [], ◌∷◌, ◌++◌, length, map, All, Some, None, refl, sym, subst, arith, rules}
use Rattle.std.proofs.lemmas.List.{map-append}
use Rattle.std.proofs.lemmas.List.Elements.{All-append}
use Rattle.texts.specs.Pieces.{Piece, IsFirstPiece}
use Rattle.texts.specs.code.Splitting.{Cuts}
use Rattle.texts.proofs.Cut.{CutSoFar, cut_token, cut_blank, cut_done}
use Rattle.texts.specs.declared.token.Token.{Token}
use Rattle.texts.specs.declared.placed.PlacedToken.{PlacedToken}
use Rattle.texts.specs.code.Places.{AreFirstPieces, ArePlaced}

-- so far the text is cut into pieces, with these placed tokens, and `left` is left
pub record PlacedSoFar (text : List ℕ) (placed : List PlacedToken) (left : List ℕ) : Type 0 where
  pub cut : CutSoFar text (map (λ m. m.token) placed) left
  pub pieces : List Piece
  pub front : AreFirstPieces text pieces left
  pub shorter : length left ≤ length text
  pub within : All (λ m. m.at < length text) placed

-- one more piece
pub more_pieces : (text : List ℕ) (pieces : List Piece) (left : List ℕ) (piece : Piece) (rest : List ℕ) → AreFirstPieces text pieces left → IsFirstPiece piece left rest → AreFirstPieces text (pieces ++ piece ∷ []) rest
more_pieces text [] left piece rest e h = (rest, (let P : List ℕ → Type 0 = λ t. IsFirstPiece piece t rest in subst P (sym e) h), refl)
more_pieces text (p ∷ ps) left piece rest h front = (h.0, h.1, more_pieces h.0 ps left piece rest h.2 front)

module _ {text : List ℕ} {placed : List PlacedToken} {left : List ℕ} (h : PlacedSoFar text placed left) where
  -- a token
  pub place_token : (at end : ℕ) (token : Token) (rest : List ℕ) → at < length text → length rest < length left → Cuts left (Some token) rest → PlacedSoFar text (placed ++ record { at = at; end = end; token = token } ∷ []) rest
  place_token at end token rest lt less c = record {
    cut =
        let m : PlacedToken = record { at = at; end = end; token = token } in
        let P : List Token → Type 0 = λ ts. CutSoFar text ts rest in
        subst P (sym (map-append (λ (n : PlacedToken). n.token) placed (m ∷ []))) (cut_token h.cut c);
    pieces = h.pieces ++ c.piece ∷ [];
    front = more_pieces text h.pieces left c.piece rest h.front c.front;
    shorter = let k = h.shorter in omega arith;
    within =
        let m : PlacedToken = record { at = at; end = end; token = token } in
        All-append (λ (n : PlacedToken). n.at < length text) placed (m ∷ []) h.within (search rules);
  }

  -- a blank or a comment
  pub place_blank : (rest : List ℕ) → length rest < length left → Cuts left None rest → PlacedSoFar text placed rest
  place_blank rest less c = record {
    cut = cut_blank h.cut c;
    pieces = h.pieces ++ c.piece ∷ [];
    front = more_pieces text h.pieces left c.piece rest h.front c.front;
    shorter = let k = h.shorter in omega arith;
    within = h.within;
  }

  pub place_done : left ≡ [] → ArePlaced text placed
  place_done e = record { tokens = cut_done h.cut e; within = h.within }
