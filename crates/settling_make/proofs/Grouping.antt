-- Groups of nodes that all lead to one another.
use Rattle.std.proofs.Common.{◌≡◌, ℕ, ◌+◌, ◌⊎◌, inl, inr, List, [], ◌∷◌, ◌++◌, length, refl, sym, ap, ◌∙◌, subst, arith}
use Rattle.std.specs.List.{Contains}
use Rattle.std.proofs.lemmas.List.{length-append}
use Rattle.std.proofs.lemmas.List.Elements.{Contains-push, Contains-push_cases, Contains-append_left, Contains-append_right, Contains-append_cases}
use Rattle.effect_scan.specs.Rows.{Edge}
use Rattle.rank_graph.specs.Walks.{LeadsBy}
use Rattle.rank_graph.proofs.Searching.{leads_push}
use Rattle.settling_make.specs.Components.{Leads}
use Rattle.settling_make.specs.Searching.{state_of, IsDone, AreBoth, IsJoined, IsGroup, OnPath, IsAfter, StandsOn, Held}
use Rattle.settling_make.specs.declared.groups.SearchState.{SearchState}
use Rattle.settling_make.specs.declared.groups.SearchState.TheVariants.{Open, Done}
use Rattle.settling_make.specs.declared.groups.OpenComponent.{OpenComponent}

-- ---- walks
join : (rows : List (List ℕ)) (a : ℕ) (xs : List ℕ) (b : ℕ) (ys : List ℕ) (c : ℕ) → LeadsBy (Edge rows) a xs b → LeadsBy (Edge rows) b ys c → LeadsBy (Edge rows) a (xs ++ ys) c
join rows a [] b ys c l m = let same : a ≡ b = l in subst (λ (x : ℕ). LeadsBy (Edge rows) x ys c) (sym same) m
join rows a (x ∷ xs) b ys c l m = (l.0, join rows x xs b ys c l.1 m)

pub leads_then : (rows : List (List ℕ)) (a b c : ℕ) → Leads rows a b → Leads rows b c → Leads rows a c
leads_then rows a b c x y = record { along = x.along ++ y.along; leads = join rows a x.along b y.along c x.leads y.leads }

pub leads_edge : (rows : List (List ℕ)) (a b c : ℕ) → Leads rows a b → Edge rows b c → Leads rows a c
leads_edge rows a b c x e = record { along = x.along ++ c ∷ []; leads = leads_push rows a x.along b c x.leads e }

pub leads_itself : (rows : List (List ℕ)) (a : ℕ) → Leads rows a a
leads_itself rows a = record { along = []; leads = refl }

pub only_one : (t b : ℕ) → Contains (t ∷ []) b → t ≡ b
only_one t b h = elim (Contains-push_cases [] t b h) [ inl none ↦ absurd (omega (arith, none.1)) | inr same ↦ same ]

-- ---- both lists
pub both_cases : (one other all : List ℕ) (b : ℕ) → AreBoth one other all → Contains all b → Contains one b ⊎ Contains other b
both_cases one other all b both h =
    elim both [
      | inl e ↦ Contains-append_cases one other b (subst (λ (l : List ℕ). Contains l b) e h)
      | inr e ↦ elim (Contains-append_cases other one b (subst (λ (l : List ℕ). Contains l b) e h)) [ inl x ↦ inr x | inr x ↦ inl x ]
    ]

pub both_left : (one other all : List ℕ) (b : ℕ) → AreBoth one other all → Contains one b → Contains all b
both_left one other all b both h =
    elim both [
      | inl e ↦ subst (λ (l : List ℕ). Contains l b) (sym e) (Contains-append_left one other b h)
      | inr e ↦ subst (λ (l : List ℕ). Contains l b) (sym e) (Contains-append_right other one b h)
    ]

pub both_right : (one other all : List ℕ) (b : ℕ) → AreBoth one other all → Contains other b → Contains all b
both_right one other all b both h =
    elim both [
      | inl e ↦ subst (λ (l : List ℕ). Contains l b) (sym e) (Contains-append_right one other b h)
      | inr e ↦ subst (λ (l : List ℕ). Contains l b) (sym e) (Contains-append_left other one b h)
    ]

pub both_length : (one other all : List ℕ) → AreBoth one other all → length all ≡ length one + length other
both_length one other all both =
    elim both [
      | inl e ↦ let count = ap (λ (l : List ℕ). length l) e in let sum = length-append one other in omega arith
      | inr e ↦ let count = ap (λ (l : List ℕ). length l) e in let sum = length-append other one in omega arith
    ]

-- ---- what stays
pub group_keeps : (rows : List (List ℕ)) (states after : List SearchState) (g : OpenComponent) → ((a : ℕ) → Contains g.members a → state_of after a ≡ state_of states a) → ((a k : ℕ) → state_of states a ≡ Done k → state_of after a ≡ Done k) → IsGroup rows states g → IsGroup rows after g
group_keeps rows states after g same grows is = record {
  opened = λ a h. let x = is.opened a h in (x.0, same a h ∙ x.1, x.2);
  together = is.together;
  edges = λ a b h e. elim (is.edges a b h e) [ inl done ↦ inl (done.0, grows b done.0 done.1) | inr more ↦ inr more ];
  source = is.source;
}

pub stands_keeps : (rows : List (List ℕ)) (states after : List SearchState) (g : OpenComponent) (path : List OpenComponent) → ((a : ℕ) → OnPath a path → state_of after a ≡ state_of states a) → StandsOn rows states g path → StandsOn rows after g path
stands_keeps rows states after g path same stands = record {
  leads = stands.leads;
  before = λ a t on is. stands.before a t on (sym (same a on) ∙ is);
  after = stands.after;
}

pub held_keeps : (rows : List (List ℕ)) (states after : List SearchState) (path : List OpenComponent) → ((a : ℕ) → OnPath a path → state_of after a ≡ state_of states a) → ((a k : ℕ) → state_of states a ≡ Done k → state_of after a ≡ Done k) → Held rows states path → Held rows after path
held_keeps rows states after [] same grows held = tt
held_keeps rows states after (g ∷ gs) same grows held = (
  group_keeps rows states after g (λ a h. same a (inl h)) grows held.0,
  stands_keeps rows states after g gs (λ a on. same a (inr on)) held.1,
  held_keeps rows states after gs (λ a on. same a (inr on)) grows held.2,
)

pub held_open : (rows : List (List ℕ)) (states : List SearchState) (path : List OpenComponent) (a : ℕ) → Held rows states path → OnPath a path → (t : ℕ) × (state_of states a ≡ Open t)
held_open rows states [] a held on = absurd on
held_open rows states (g ∷ gs) a held on =
    elim on [
      | inl here ↦ let x = held.0.opened a here in (x.0, x.1)
      | inr below ↦ held_open rows states gs a held.2 below
    ]

-- ---- one target is done with
abbrev pub with : OpenComponent → List ℕ → OpenComponent
with g pending = record { first = g.first; members = g.members; pending = pending }

pub with_same : (g : OpenComponent) (pending rest : List ℕ) (t : ℕ) → g.pending ≡ rest ++ t ∷ [] → pending ≡ rest ++ t ∷ [] → with g pending ≡ g
with_same g pending rest t popped pushed = ap (λ (p : List ℕ). with g p) (pushed ∙ sym popped)

pub group_passes : (rows : List (List ℕ)) (states : List SearchState) (g : OpenComponent) (rest : List ℕ) (t : ℕ) → g.pending ≡ rest ++ t ∷ [] → IsDone states t ⊎ Contains g.members t → IsGroup rows states g → IsGroup rows states (with g rest)
group_passes rows states g rest t popped known is = record {
  opened = is.opened;
  together = is.together;
  edges = λ a b h e.
      elim (is.edges a b h e) [
        | inl done ↦ inl done
        | inr open_yet ↦ elim open_yet [
          | inl member ↦ inr (inl member)
          | inr waits ↦ elim (Contains-push_cases rest t b (subst (λ (l : List ℕ). Contains l b) popped waits)) [
            | inl later ↦ inr (inr later)
            | inr same ↦ elim known [
              | inl done ↦ inl (done.0, subst (λ (x : ℕ). state_of states x ≡ Done done.0) same done.1)
              | inr member ↦ inr (inl (subst (λ (x : ℕ). Contains g.members x) same member))
            ]
          ]
        ]
      ];
  source = λ b h. is.source b (subst (λ (l : List ℕ). Contains l b) (sym popped) (Contains-append_left rest (t ∷ []) b h));
}

pub waits_last : (g : OpenComponent) (rest : List ℕ) (t : ℕ) → g.pending ≡ rest ++ t ∷ [] → Contains g.pending t
waits_last g rest t popped = subst (λ (l : List ℕ). Contains l t) (sym popped) (Contains-push rest t)

-- ---- two groups become one
module _ (rows : List (List ℕ)) (states : List SearchState) (g at m : OpenComponent) (gs : List OpenComponent) (joined : IsJoined g at m) (below : IsGroup rows states g) (lower : StandsOn rows states g gs) (above : IsGroup rows states at) (upper : StandsOn rows states at (g ∷ gs)) where
  pub member_cases : (a : ℕ) → Contains m.members a → Contains g.members a ⊎ Contains at.members a
  member_cases a h = both_cases g.members at.members m.members a joined.members h

  pub member_below : (a : ℕ) → Contains g.members a → Contains m.members a
  member_below a h = both_left g.members at.members m.members a joined.members h

  pub member_above : (a : ℕ) → Contains at.members a → Contains m.members a
  member_above a h = both_right g.members at.members m.members a joined.members h

  pending_below : (a : ℕ) → Contains g.pending a → Contains m.pending a
  pending_below a h = both_left g.pending at.pending m.pending a joined.pending h

  pending_above : (a : ℕ) → Contains at.pending a → Contains m.pending a
  pending_above a h = both_right g.pending at.pending m.pending a joined.pending h

  -- a node that waits above is on the path, so what is above leads back
  module _ (t : ℕ) (waits : Contains at.pending t) (on : OnPath t (g ∷ gs)) where
    leads_back : (a b : ℕ) → Contains at.members a → Contains g.members b → Leads rows a b
    leads_back a b up down =
        let source = above.source t waits in
        let there = leads_edge rows a source.0 t (above.together a source.0 up source.1) source.2 in
        let back : Leads rows t b = elim on [ inl here ↦ below.together t b here down | inr deep ↦ lower.leads t b deep down ] in
        leads_then rows a t b there back

    all_lead : (a b : ℕ) → Contains m.members a → Contains m.members b → Leads rows a b
    all_lead a b h k =
        elim (member_cases a h) [
          | inl x ↦ elim (member_cases b k) [ inl y ↦ below.together a b x y | inr y ↦ upper.leads a b (inl x) y ]
          | inr x ↦ elim (member_cases b k) [ inl y ↦ leads_back a b x y | inr y ↦ above.together a b x y ]
        ]

    pub joined_group : IsGroup rows states m
    joined_group = record {
      opened = λ a h.
          elim (member_cases a h) [
            | inl x ↦ let o = below.opened a x in (o.0, o.1, omega (arith, joined.first, o.2))
            | inr x ↦ let o = above.opened a x in let less = upper.after in (o.0, o.1, omega (arith, joined.first, o.2, less))
          ];
      together = all_lead;
      edges = λ a b h e.
          elim (member_cases a h) [
            | inl x ↦ elim (below.edges a b x e) [
              | inl done ↦ inl done
              | inr more ↦ elim more [ inl y ↦ inr (inl (member_below b y)) | inr y ↦ inr (inr (pending_below b y)) ]
            ]
            | inr x ↦ elim (above.edges a b x e) [
              | inl done ↦ inl done
              | inr more ↦ elim more [ inl y ↦ inr (inl (member_above b y)) | inr y ↦ inr (inr (pending_above b y)) ]
            ]
          ];
      source = λ b h.
          elim (both_cases g.pending at.pending m.pending b joined.pending h) [
            | inl x ↦ let s = below.source b x in (s.0, member_below s.0 s.1, s.2)
            | inr x ↦ let s = above.source b x in (s.0, member_above s.0 s.1, s.2)
          ];
    }

    pub joined_stands : StandsOn rows states m gs
    joined_stands = record {
      leads = λ a b deep h. elim (member_cases b h) [ inl y ↦ lower.leads a b deep y | inr y ↦ upper.leads a b (inr deep) y ];
      before = λ a u deep is. let low = lower.before a u deep is in omega (arith, joined.first);
      after = after_first gs lower.after;
    }
      where
        after_first : (hs : List OpenComponent) → IsAfter g hs → IsAfter m hs
        after_first [] h = tt
        after_first (x ∷ xs) h = omega (arith, joined.first, h)
