-- What the loop over the pieces keeps.
use Rattle.std.proofs.Common.{◌≡◌, ℕ, List, [], ◌∷◌, ◌++◌, refl, sym, ◌∙◌, ap, append_assoc, Option, Some, None, true, false, length, ◌==◌}
use Rattle.std.proofs.lemmas.List.{append-nil}
use Rattle.std.proofs.lemmas.Bool.{eqb-true}
use Rattle.texts.specs.declared.token.Token.{Token}
use Rattle.texts.proofs.Only.{one_prefix, one_list}
use Rattle.texts.proofs.FirstPieces.{no_front_at_end, empty}
use Rattle.texts.specs.Pieces.{Piece, IsFirstPiece, IsCut, tokens_of, before, AreTokens}
use Rattle.texts.specs.code.Splitting.{Cuts}

-- with the pieces of what is left, those found are the tokens of the whole, and each cut of the whole cuts what is left
pub record CutSoFar (whole : List ℕ) (found : List Token) (left : List ℕ) : Type 0 where
  pub goes_on : (ps : List Piece) → IsCut ps left → (qs : List Piece) × IsCut qs whole × (tokens_of qs ≡ found ++ tokens_of ps)
  pub all : (qs : List Piece) → IsCut qs whole → (ps : List Piece) × IsCut ps left

pub cut_start : (whole : List ℕ) → CutSoFar whole [] whole
cut_start whole = record { goes_on = λ ps h. (ps, h, refl); all = λ qs h. (qs, h) }

next : (ps : List Piece) (left : List ℕ) (t : Option Token) (rest : List ℕ) → Cuts left t rest → IsCut ps left → (qs : List Piece) × IsCut qs rest
next [] left t rest c h = absurd (no_front_at_end left h c.piece rest c.front)
next (p ∷ ps) left t rest c h =
    let m = one_prefix p c.piece left h.0 rest h.1 c.front in
    let e = m.1 in
    (ps, rw e at h.2)

none_next : (ps : List Piece) (left : List ℕ) → (left ≡ [] → ⊥) → ((p : Piece) (rest : List ℕ) → IsFirstPiece p left rest → ⊥) → IsCut ps left → ⊥
none_next [] left some none h = some h
none_next (p ∷ ps) left some none h = none p h.0 h.1

module _ {whole : List ℕ} {found : List Token} {left : List ℕ} (h : CutSoFar whole found left) where
  pub cut_token : {t : Token} {rest : List ℕ} → Cuts left (Some t) rest → CutSoFar whole (found ++ t ∷ []) rest
  cut_token {t} {rest} c = record {
    goes_on = λ ps k.
        let w = h.goes_on (c.piece ∷ ps) (rest, c.front, k) in
        (w.0, w.1, w.2 ∙ (ap (λ o. found ++ before o (tokens_of ps)) c.token_is ∙ sym (append_assoc found (t ∷ []) (tokens_of ps))));
    all = λ qs k. let w = h.all qs k in next w.0 left (Some t) rest c w.1;
  }

  pub cut_blank : {rest : List ℕ} → Cuts left None rest → CutSoFar whole found rest
  cut_blank {rest} c = record {
    goes_on = λ ps k.
        let w = h.goes_on (c.piece ∷ ps) (rest, c.front, k) in
        (w.0, w.1, w.2 ∙ ap (λ o. found ++ before o (tokens_of ps)) c.token_is);
    all = λ qs k. let w = h.all qs k in next w.0 left None rest c w.1;
  }

  pub cut_done : left ≡ [] → AreTokens whole found
  cut_done e = let w = h.goes_on [] e in record { pieces = w.0; cut = w.1; tokens_are = w.2 ∙ append-nil found }

  pub cut_stuck : (left ≡ [] → ⊥) → ((p : Piece) (rest : List ℕ) → IsFirstPiece p left rest → ⊥) → (tokens : List Token) → AreTokens whole tokens → ⊥
  cut_stuck some none tokens a = let w = h.all a.pieces a.cut in none_next w.0 left some none w.1

pub same_tokens : (bytes : List ℕ) (s t : List Token) → AreTokens bytes s → AreTokens bytes t → s ≡ t
same_tokens bytes s t a b = sym a.tokens_are ∙ (ap tokens_of (one_list a.pieces b.pieces bytes a.cut b.cut) ∙ b.tokens_are)

pub at_end : (xs : List ℕ) → true ≡ (length xs == 0) → xs ≡ []
at_end xs h = empty xs (eqb-true (length xs) 0 (sym h))

pub not_at_end : (xs : List ℕ) → false ≡ (length xs == 0) → xs ≡ [] → ⊥
not_at_end [] h e = cc
not_at_end (x ∷ xs) h e = cc
