-- The states of nodes after a write, and how much is left to do.
use Rattle.std.proofs.Common.{◌≡◌, ◌≢◌, ℕ, zero, suc, ◌+◌, ◌≤◌, ◌<◌, inl, inr, List, [], ◌∷◌, length, set, get_or, refl, sym, ap, ◌∙◌, arith}
use Rattle.std.proofs.lemmas.Bool.{cases_lt}
use Rattle.std.proofs.lemmas.List.{get_or-set_same, get_or-set_other, get_or_past}
use Rattle.effect_scan.specs.Rows.{row}
use Rattle.settling_make.specs.Searching.{state_of, room, left_of}
use Rattle.settling_make.specs.declared.groups.SearchState.{SearchState}
use Rattle.settling_make.specs.declared.groups.SearchState.TheVariants.{New, Open, Done}

pub state-set_same : (states : List SearchState) (a : ℕ) (s : SearchState) → a < length states → state_of (set states a s) a ≡ s
unfolding state_of
state-set_same states a s h = get_or-set_same states a s New h

pub state-set_other : (states : List SearchState) (a b : ℕ) (s : SearchState) → b ≢ a → state_of (set states a s) b ≡ state_of states b
unfolding state_of
state-set_other states a b s h = get_or-set_other states a b s New h

-- the state that is read
pub state_read : (read states : List SearchState) (a : ℕ) (s : SearchState) → read ≡ states → get_or read a New ≡ s → state_of states a ≡ s
unfolding state_of
state_read read states a s same is = ap (λ (l : List SearchState). get_or l a New) (sym same) ∙ is

pub state_given : (read states : List SearchState) (a : ℕ) (s : SearchState) → read ≡ states → state_of states a ≡ s → get_or read a New ≡ s
unfolding state_of
state_given read states a s same is = ap (λ (l : List SearchState). get_or l a New) same ∙ is

-- what was entered is a node
pub state_inside : (states : List SearchState) (a : ℕ) (s : SearchState) → state_of states a ≡ s → s ≢ New → a < length states
unfolding state_of
state_inside states a s is ne =
    elim (cases_lt a (length states)) [ inl l ↦ l | inr m ↦ absurd (ne (sym is ∙ get_or_past states a New m)) ]

pub open_inside : (states : List SearchState) (a t : ℕ) → state_of states a ≡ Open t → a < length states
open_inside states a t is = state_inside states a (Open t) is (λ bad. cc)

pub done_inside : (states : List SearchState) (a k : ℕ) → state_of states a ≡ Done k → a < length states
done_inside states a k is = state_inside states a (Done k) is (λ bad. cc)

-- ---- how many nodes weren't entered
pub room-set_open : (states : List SearchState) (a t : ℕ) → a < length states → state_of states a ≡ New → suc (room (set states a (Open t))) ≡ room states
unfolding state_of
room-set_open [] a t h e = absurd (omega arith)
room-set_open (New ∷ ss) zero t h e = refl
room-set_open (Open u ∷ ss) zero t h e = cc
room-set_open (Done d ∷ ss) zero t h e = cc
room-set_open (New ∷ ss) (suc a) t h e = ap suc (room-set_open ss a t (omega arith) e)
room-set_open (Open u ∷ ss) (suc a) t h e = room-set_open ss a t (omega arith) e
room-set_open (Done d ∷ ss) (suc a) t h e = room-set_open ss a t (omega arith) e

-- .. where one wasn't
pub room_some : (states : List SearchState) (a : ℕ) → a < length states → state_of states a ≡ New → 0 < room states
room_some states a h e = let more = room-set_open states a 0 h e in omega arith

room_tail : (s : SearchState) (ss : List SearchState) → room ss ≤ room (s ∷ ss)
room_tail New ss = omega arith
room_tail (Open t) ss = omega arith
room_tail (Done k) ss = omega arith

pub room_less : (states after : List SearchState) → length after ≡ length states → ((a : ℕ) → state_of after a ≡ New → state_of states a ≡ New) → room after ≤ room states
unfolding state_of
room_less states [] len back = omega arith
room_less [] (t ∷ ts) len back = absurd (omega arith)
room_less (New ∷ ss) (New ∷ ts) len back = let h = room_less ss ts (omega arith) (λ a. back (suc a)) in omega arith
room_less (Open u ∷ ss) (New ∷ ts) len back = let bad : Open u ≡ New = back 0 refl in cc
room_less (Done u ∷ ss) (New ∷ ts) len back = let bad : Done u ≡ New = back 0 refl in cc
room_less (s ∷ ss) (Open t ∷ ts) len back = let h = room_less ss ts (omega arith) (λ a. back (suc a)) in let more = room_tail s ss in omega arith
room_less (s ∷ ss) (Done t ∷ ts) len back = let h = room_less ss ts (omega arith) (λ a. back (suc a)) in let more = room_tail s ss in omega arith

-- ---- how much is left to do
pub left-set_open : (rows : List (List ℕ)) (states : List SearchState) (a t : ℕ) → length states ≡ length rows → a < length rows → state_of states a ≡ New → left_of rows (set states a (Open t)) + (length (row rows a) + 2) ≡ left_of rows states
unfolding state_of row
left-set_open [] states a t l h e = absurd (omega arith)
left-set_open (r ∷ rs) [] a t l h e = absurd (omega arith)
left-set_open (r ∷ rs) (New ∷ ss) zero t l h e = omega arith
left-set_open (r ∷ rs) (Open u ∷ ss) zero t l h e = cc
left-set_open (r ∷ rs) (Done d ∷ ss) zero t l h e = cc
left-set_open (r ∷ rs) (New ∷ ss) (suc a) t l h e = let i = left-set_open rs ss a t (omega arith) (omega arith) e in omega arith
left-set_open (r ∷ rs) (Open u ∷ ss) (suc a) t l h e = left-set_open rs ss a t (omega arith) (omega arith) e
left-set_open (r ∷ rs) (Done d ∷ ss) (suc a) t l h e = left-set_open rs ss a t (omega arith) (omega arith) e

left_tail : (r : List ℕ) (rs : List (List ℕ)) (s : SearchState) (ss : List SearchState) → left_of rs ss ≤ left_of (r ∷ rs) (s ∷ ss)
left_tail r rs New ss = omega arith
left_tail r rs (Open t) ss = omega arith
left_tail r rs (Done k) ss = omega arith

pub left_less : (rows : List (List ℕ)) (states after : List SearchState) → length after ≡ length states → ((a : ℕ) → state_of after a ≡ New → state_of states a ≡ New) → left_of rows after ≤ left_of rows states
unfolding state_of
left_less rows states [] len back = omega arith
left_less rows [] (t ∷ ts) len back = absurd (omega arith)
left_less [] (s ∷ ss) (t ∷ ts) len back = omega arith
left_less (r ∷ rs) (New ∷ ss) (New ∷ ts) len back = let h = left_less rs ss ts (omega arith) (λ a. back (suc a)) in omega arith
left_less (r ∷ rs) (Open u ∷ ss) (New ∷ ts) len back = let bad : Open u ≡ New = back 0 refl in cc
left_less (r ∷ rs) (Done u ∷ ss) (New ∷ ts) len back = let bad : Done u ≡ New = back 0 refl in cc
left_less (r ∷ rs) (s ∷ ss) (Open t ∷ ts) len back = let h = left_less rs ss ts (omega arith) (λ a. back (suc a)) in let more = left_tail r rs s ss in omega arith
left_less (r ∷ rs) (s ∷ ss) (Done t ∷ ts) len back = let h = left_less rs ss ts (omega arith) (λ a. back (suc a)) in let more = left_tail r rs s ss in omega arith
