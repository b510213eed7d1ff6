-- The sets of nodes, by the numbers of nodes.
use Rattle.std.proofs.Common.{rules, ◌≡◌, ◌≢◌, ◌⊎◌, inl, inr, ℕ, ◌+◌, ◌==◌, ◌<◌, ◌≤◌, Bool, true, false, List, length, get_or, take, replicate, slice_get, Option, Some, None, refl, sym, ap, ◌∙◌, subst, arith, get_or-set_same, get_or-set_other, slice_set}
use Rattle.std.specs.List.{Contains}
use Rattle.std.proofs.lemmas.Bool.{cases_eq, cases_lt, ne_eqb}
use Rattle.std.proofs.lemmas.List.{length-set, length-replicate, take_all}
use Rattle.std.proofs.lemmas.Option.{slice_get_within, same_Some, none-some}
use Rattle.meta_model.specs.Loaded.{Loaded}
use Rattle.effect_scan.specs.Nodes.{nodes_of}
use Rattle.class_sets.proofs.Firsts.{no_members, first_more}
use Rattle.certificate_lang.specs.declared.certificate.NodeName.{NodeName}
use Rattle.rank_check.specs.Entries.{IsNumberNamed, place_at}
use Rattle.settling.specs.declared.certificate.SettlingSet.{SettlingSet}
use Rattle.settling.specs.code.Members.{Puts, AddsMember, IsAmong, AreNodes, HasClash, AddsMembers, IsOfSet, AreDisjoint, SetsFirst, AreSetPlaces}
use Rattle.settling.proofs.Lining.{none_at, number_low}

-- ---- one name
module _ (p : Loaded) (name : NodeName) (place : ℕ) (before : List (Option ℕ)) where
  pub no_node : ((n : ℕ) → ¬ IsNumberNamed p name n) → AddsMember p name place before false before
  no_node none = record { clash = inl none }

  module _ (number : ℕ) (named : IsNumberNamed p name number) (only : (n : ℕ) → IsNumberNamed p name n → n ≡ number) where
    pub met_before : (other : ℕ) → place_at before number ≡ Some other → AddsMember p name place before (other == place) before
    met_before other at =
        elim (cases_eq other place) [
          | inl same ↦
              subst (λ (r : Bool). AddsMember p name place before r before) (sym (ap (λ (x : ℕ). x == place) same ∙ here place)) (
                (number, named),
                record {
                  count = refl;
                  each = λ n k. (
                    λ e. inl e,
                    λ h. elim h [
                      | inl e ↦ e
                      | inr new ↦ subst (λ (x : ℕ). place_at before x ≡ Some k) (sym (only n new.1)) (at ∙ ap (λ (x : ℕ). Some x) (same ∙ sym new.0))
                    ],
                  );
                },
              )
          | inr differs ↦
              subst (λ (r : Bool). AddsMember p name place before r before) (sym (ne_eqb other place differs))
              (record { clash = inr (number, other, named, at, differs) })
        ]
      where
        here : (n : ℕ) → (n == n) ≡ true
        here n = search rules

    pub put_now : length before ≡ length (nodes_of p) → place_at before number ≡ None → AddsMember p name place before true (slice_set before number (Some place))
    put_now counted none = (
      (number, named),
      record {
        count = length-set before number (Some place);
        each = λ n k. (
          λ e. elim (cases_eq n number) [
            | inl same ↦
                let is : place ≡ k = same_Some place k (sym same_at ∙ subst (λ (x : ℕ). place_at (slice_set before number (Some place)) x ≡ Some k) same e) in
                inr (sym is, subst (λ (x : ℕ). IsNumberNamed p name x) (sym same) named)
            | inr other ↦ inl (sym (get_or-set_other before number n (Some place) None other) ∙ e)
          ],
          λ h. elim h [
            | inl old ↦ get_or-set_other before number n (Some place) None (λ (same : n ≡ number). none-some k (sym none ∙ subst (λ (x : ℕ). place_at before x ≡ Some k) same old)) ∙ old
            | inr new ↦ subst (λ (x : ℕ). place_at (slice_set before number (Some place)) x ≡ Some k) (sym (only n new.1)) (same_at ∙ ap (λ (x : ℕ). Some x) (sym new.0))
          ],
        );
      },
    )
      where
        same_at : place_at (slice_set before number (Some place)) number ≡ Some place
        same_at = get_or-set_same before number (Some place) None (number_low p number _ named counted)

-- ---- the names of one set
module _ (p : Loaded) (members : List NodeName) (place : ℕ) (before : List (Option ℕ)) where
  pub record FirstAdded (j : ℕ) (now : List (Option ℕ)) : Type 0 where
    pub nodes : AreNodes p (take j members)
    pub puts : Puts (IsAmong p (take j members)) place before now

  pub none_added : FirstAdded 0 before
  none_added = record {
    nodes = λ name among. absurd (no_members name among);
    puts = record {
      count = refl;
      each = λ n k. (λ e. inl e, λ h. elim h [ inl e ↦ e | inr new ↦ absurd (no_members new.1.name new.1.among) ]);
    };
  }

  module _ (j : ℕ) (name : NodeName) (inside : j < length members) (is : name ≡ get_or members j name) (now : List (Option ℕ)) (h : FirstAdded j now) where
    newest : (x : NodeName) → Contains (take (j + 1) members) x → Contains (take j members) x ⊎ (x ≡ name)
    newest x in_now = elim ((first_more members j name inside x).0 in_now) [ inl old ↦ inl old | inr e ↦ inr (e ∙ sym is) ]

    older : (x : NodeName) → Contains (take j members) x ⊎ (x ≡ name) → Contains (take (j + 1) members) x
    older x either = (first_more members j name inside x).1 (elim either [ inl old ↦ inl old | inr e ↦ inr (e ∙ is) ])

    pub one_added : (after : List (Option ℕ)) → AddsMember p name place now true after → FirstAdded (j + 1) after
    one_added after adds = record {
      nodes = λ x among. elim (newest x among) [ inl old ↦ h.nodes x old | inr e ↦ subst (λ (y : NodeName). (n : ℕ) × IsNumberNamed p y n) (sym e) adds.0 ];
      puts = record {
        count = adds.1.count ∙ h.puts.count;
        each = λ n k. (
          λ e. elim ((adds.1.each n k).0 e) [
            | inl old ↦ elim ((h.puts.each n k).0 old) [
              | inl first ↦ inl first
              | inr new ↦ let among : IsAmong p (take j members) n = new.1 in inr (new.0, record { name = among.name; among = older among.name (inl among.among); named = among.named })
            ]
            | inr new ↦ inr (new.0, record { name = name; among = older name (inr refl); named = new.1 })
          ],
          λ either. (adds.1.each n k).1 (elim either [
            | inl first ↦ inl ((h.puts.each n k).1 (inl first))
            | inr new ↦
                let among : IsAmong p (take (j + 1) members) n = new.1 in
                elim (newest among.name among.among) [
                  | inl old ↦ inl ((h.puts.each n k).1 (inr (new.0, record { name = among.name; among = old; named = among.named })))
                  | inr e ↦ inr (new.0, subst (λ (y : NodeName). IsNumberNamed p y n) e among.named)
                ]
          ]),
        );
      };
    }

    pub one_clashes : AddsMember p name place now false now → HasClash p members place before
    one_clashes clashes = record { name = name; among = (j, inside, sym is); clash = record { clash = by_clash clashes.clash } }
      where
        by_clash : ((n : ℕ) → ¬ IsNumberNamed p name n) ⊎ ((n : ℕ) × (k : ℕ) × IsNumberNamed p name n × (place_at now n ≡ Some k) × (k ≢ place))
            → ((n : ℕ) → ¬ IsNumberNamed p name n) ⊎ ((n : ℕ) × (k : ℕ) × IsNumberNamed p name n × (place_at before n ≡ Some k) × (k ≢ place))
        by_clash (inl none) = inl none
        by_clash (inr w) = elim ((h.puts.each w.0 w.1).0 w.3) [ inl first ↦ inr (w.0, w.1, w.2, first, w.4) | inr new ↦ absurd (w.4 new.0) ]

  pub all_added : (j : ℕ) (now : List (Option ℕ)) → length members ≤ j → FirstAdded j now → AddsMembers p members place before true now
  all_added j now past h =
      let whole = take_all j members past in (
        subst (λ (ms : List NodeName). AreNodes p ms) whole h.nodes,
        subst (λ (ms : List NodeName). Puts (IsAmong p ms) place before now) whole h.puts,
      )

-- ---- all sets
module _ (p : Loaded) (sets : List SettlingSet) where
  pub no_sets : (count : ℕ) → count ≡ length (nodes_of p) → SetsFirst p sets 0 (replicate count None)
  no_sets count e = record {
    counted = length-replicate count None ∙ e;
    each = λ n k. (λ at. absurd (none-some k (sym (none_at count n) ∙ at)), λ h. absurd (omega (arith, h.0)));
    nodes = λ k set low. absurd (omega (arith, low));
  }

  module _ (i : ℕ) (set : SettlingSet) (at : slice_get sets i ≡ Some set) (before : List (Option ℕ)) (h : SetsFirst p sets i before) where
    here : (n : ℕ) → IsAmong p set.members n → IsOfSet p sets i n
    here n among = record { set = set; stands = at; among = among }

    among_here : (n : ℕ) → IsOfSet p sets i n → IsAmong p set.members n
    among_here n is = subst (λ (s : SettlingSet). IsAmong p s.members n) (same_Some _ _ (sym is.stands ∙ at)) is.among

    pub set_more : (after : List (Option ℕ)) → AddsMembers p set.members i before true after → SetsFirst p sets (i + 1) after
    set_more after adds = record {
      counted = adds.1.count ∙ h.counted;
      each = λ n k. (
        λ e. elim ((adds.1.each n k).0 e) [
          | inl old ↦ let is = (h.each n k).0 old in (omega (arith, is.0), is.1)
          | inr new ↦ (omega (arith, new.0), subst (λ (x : ℕ). IsOfSet p sets x n) (sym new.0) (here n new.1))
        ],
        λ is. (adds.1.each n k).1 (elim (cases_lt k i) [
          | inl early ↦ inl ((h.each n k).1 (early, is.1))
          | inr late ↦ let now : k ≡ i = omega (arith, is.0, late) in inr (now, among_here n (subst (λ (x : ℕ). IsOfSet p sets x n) now is.1))
        ]),
      );
      nodes = λ k other low stands. elim (cases_lt k i) [
        | inl early ↦ h.nodes k other early stands
        | inr late ↦
            let now : k ≡ i = omega (arith, low, late) in
            let same : set ≡ other = same_Some _ _ (sym at ∙ subst (λ (x : ℕ). slice_get sets x ≡ Some other) now stands) in
            subst (λ (s : SettlingSet). AreNodes p s.members) same adds.0
      ];
    }

    pub set_clashes : (after : List (Option ℕ)) → AddsMembers p set.members i before false after → ¬ AreDisjoint p sets
    set_clashes after clash all = by_clash clash.clash.clash
      where
        by_clash : ((n : ℕ) → ¬ IsNumberNamed p clash.name n) ⊎ ((n : ℕ) × (k : ℕ) × IsNumberNamed p clash.name n × (place_at before n ≡ Some k) × (k ≢ i)) → ⊥
        by_clash (inl none) = let n = all.nodes i set at clash.name clash.among in none n.0 n.1
        by_clash (inr w) =
            let first = (h.each w.0 w.1).0 w.3 in
            w.4 (all.apart w.1 i w.0 first.1 (here w.0 (record { name = clash.name; among = clash.among; named = w.2 })))

  pub sets_placed : (i : ℕ) (places : List (Option ℕ)) → length sets ≤ i → SetsFirst p sets i places → AreSetPlaces p sets places
  sets_placed i places past h = record {
    counted = h.counted;
    each = λ n k. (λ e. ((h.each n k).0 e).1, λ is. (h.each n k).1 (low k n is, is));
    disjoint = record {
      nodes = λ k set stands. h.nodes k set (omega (arith, slice_get_within sets k set stands, past)) stands;
      apart = λ j k n one two. same_Some j k (sym ((h.each n j).1 (low j n one, one)) ∙ (h.each n k).1 (low k n two, two));
    };
  }
    where
      low : (k n : ℕ) → IsOfSet p sets k n → k < i
      low k n is = omega (arith, slice_get_within sets k is.set is.stands, past)
