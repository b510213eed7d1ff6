-- The signatures in slot bodies.
use Rattle.std.proofs.Common.{◌≡◌, ◌∙◌, ℕ, zero, suc, ◌<◌, ◌≤◌, ◌+◌, Bool, true, false, IsTrue, ◌↔◌, List, [], ◌∷◌, ◌++◌, length, get_or, take, map, flat_map, refl, sym, ap, subst, arith, All}
use Rattle.std.proofs.lemmas.List.Elements.{All-nil, All-cons, All-head, All-tail, All-append, All-more}
use Rattle.std.proofs.lemmas.List.{take_all}
use Rattle.basic_types.specs.declared.sig.Sig.{Sig}
use Rattle.syntax_trees.specs.declared.syntax.Expr.{Expr}
use Rattle.syntax_trees.specs.declared.syntax.Path.{Path}
use Rattle.syntax_trees.specs.declared.syntax.Stmt.{Stmt}
use Rattle.syntax_trees.specs.declared.syntax.Stmt.TheVariants as stmt
use Rattle.syntax_trees.specs.declared.syntax.Stmt.TheOpen as layer
use Rattle.syntax_trees.specs.declared.syntax.Stmt.TheFolds.{fold-roll-Stmt}
use Rattle.slot_lang.specs.Bodies.{signatures_step, signatures_of, signatures_in}
use Rattle.syntax_trees.specs.Connections.{HasFewTypes}

-- ---- lists one after another

module _ {X : Type 0} (P : X → Type 0) where
  all_before : (xs ys : List X) → All P (xs ++ ys) → All P xs
  all_before [] ys h = All-nil P
  all_before (x ∷ xs) ys h = All-cons P x xs (All-head P x (xs ++ ys) h) (all_before xs ys (All-tail P x (xs ++ ys) h))

  all_after : (xs ys : List X) → All P (xs ++ ys) → All P ys
  all_after [] ys h = h
  all_after (x ∷ xs) ys h = all_after xs ys (All-tail P x (xs ++ ys) h)

  all_of_part : {A : Type 0} (f : A → List X) (parts : List A) (i : ℕ) (d : A) → i < length parts → All P (flat_map f parts) → All P (f (get_or parts i d))
  all_of_part f [] i d below h = absurd (omega arith)
  all_of_part f (a ∷ parts) zero d below h = all_before (f a) (flat_map f parts) h
  all_of_part f (a ∷ parts) (suc i) d below h = all_of_part f parts i d (omega arith) (all_after (f a) (flat_map f parts) h)

  all_joined : {A : Type 0} (f : A → List X) (parts : List A) → All (λ a. All P (f a)) parts → All P (flat_map f parts)
  all_joined f [] h = All-nil P
  all_joined {A} f (a ∷ parts) h =
      let some = λ (x : A). All P (f x) in
      All-append P (f a) (flat_map f parts) (All-head some a parts h) (all_joined f parts (All-tail some a parts h))

joined_map : {A X : Type 0} (f : A → List X) (parts : List A) → flat_map (λ xs. xs) (map f parts) ≡ flat_map f parts
joined_map f [] = refl
joined_map f (a ∷ parts) = ap (λ xs. f a ++ xs) (joined_map f parts)

-- ---- statements

-- the signatures in the statement keep to the limit
abbrev pub HasFew : Stmt → Type 0
HasFew s = All HasFewTypes (signatures_of s)

pub one_more : (body : List Stmt) (i : ℕ) (s : Stmt) → i < length body → s ≡ get_or body i s → All HasFew (take i body) → HasFew s → All HasFew (take (i + 1) body)
one_more body i s below is before here = All-more HasFew body i s below before (subst HasFew is here)

pub all_have_few : (body : List Stmt) (i : ℕ) → length body ≤ i → All HasFew (take i body) → IsTrue true ↔ All HasFewTypes (signatures_in body)
all_have_few body i end h = (λ e. all_joined HasFewTypes signatures_of body (rw (take_all i body end) at h), λ all. refl)

-- a statement of the body has a signature with too many parameters
pub one_has_many : (body : List Stmt) (i : ℕ) (s : Stmt) (few : Bool) → i < length body → s ≡ get_or body i s → few ≡ false → (IsTrue few ↔ All HasFewTypes (signatures_of s)) → IsTrue false ↔ All HasFewTypes (signatures_in body)
one_has_many body i s few below is many h =
    (λ e. cc, λ all. let e = h.1 (subst HasFew (sym is) (all_of_part HasFewTypes signatures_of body i s below all)) in cc)

signatures_of-Group : (sets : List Stmt) → signatures_of (stmt.Group sets) ≡ signatures_in sets
signatures_of-Group sets =
    let a = joined_map signatures_of sets in
    ap signatures_of (sym (stmt.rolls-Group sets)) ∙ (fold-roll-Stmt (List Sig) signatures_step (layer.Group sets) ∙ cc)

module _ (condition : Expr Path) (body other : List Stmt) where
  signatures_of-If : signatures_of (stmt.If condition body other) ≡ signatures_in body ++ signatures_in other
  signatures_of-If =
      let a = joined_map signatures_of body in
      let b = joined_map signatures_of other in
      ap signatures_of (sym (stmt.rolls-If condition body other)) ∙ (fold-roll-Stmt (List Sig) signatures_step (layer.If condition body other) ∙ cc)

  -- its first block keeps to the limit, and the answer is that of the other
  pub other_decides : (few : Bool) → All HasFewTypes (signatures_in body) → (IsTrue few ↔ All HasFewTypes (signatures_in other)) → IsTrue few ↔ All HasFewTypes (signatures_of (stmt.If condition body other))
  other_decides few first h =
      rw signatures_of-If (λ e. All-append HasFewTypes (signatures_in body) (signatures_in other) first (h.0 e), λ all. h.1 (all_after HasFewTypes (signatures_in body) (signatures_in other) all))

  -- its first block doesn't
  pub first_has_many : (few : Bool) → few ≡ false → (IsTrue few ↔ All HasFewTypes (signatures_in body)) → IsTrue few ↔ All HasFewTypes (signatures_of (stmt.If condition body other))
  first_has_many few many h =
      rw signatures_of-If (λ e. cc, λ all. h.1 (all_before HasFewTypes (signatures_in body) (signatures_in other) all))

-- of a group, what its sets have
pub group_has_few : (sets : List Stmt) (few : Bool) → (IsTrue few ↔ All HasFewTypes (signatures_in sets)) → IsTrue few ↔ All HasFewTypes (signatures_of (stmt.Group sets))
group_has_few sets few h = rw (signatures_of-Group sets) h
