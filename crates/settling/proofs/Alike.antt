-- A certificate without steps is a settling one.
use Rattle.std.proofs.Common.{◌≡◌, ◌<◌, ◌≤◌, ℕ, List, [], map, Option, Some, None, slice_get, refl, sym, ap, ◌∙◌, subst, arith}
use Rattle.std.specs.List.{Contains}
use Rattle.std.specs.Option.{option_map}
use Rattle.std.proofs.lemmas.Option.{none-some, same_Some, slice_get-map}
use Rattle.meta_model.specs.Loaded.{Loaded}
use Rattle.effect_scan.specs.declared.node.Node.{Node}
use Rattle.certificate_lang.specs.declared.certificate.Line.{Line}
use Rattle.certificate_lang.specs.declared.certificate.Certificate.{Certificate}
use Rattle.rank_check.specs.Names.{IsNodeNamed}
use Rattle.rank_check.specs.Valid as plain
use Rattle.rank_check.specs.Valid.{AreClassesThere}
use Rattle.rank_check.proofs.Elements.{place_of, element_at}
use Rattle.settling.specs.declared.certificate.SettlingLine.{SettlingLine}
use Rattle.settling.specs.declared.certificate.SettlingSet.{SettlingSet}
use Rattle.settling.specs.declared.certificate.SettlingCertificate.{SettlingCertificate}
use Rattle.settling.specs.Sets.{IsIn}
use Rattle.settling.specs.Valid.{IsLineOf, Destroys, IsValid}
use Rattle.settling.specs.Laws.{HasAlike}

abbrev alike_line : Line → SettlingLine
alike_line line = record { node = line.node; rank = line.rank; step = 0; destroys = line.destroys }

abbrev alike : Certificate → SettlingCertificate
alike certificate = record { bound = certificate.bound; step = 0; lines = map alike_line certificate.lines; sets = [] }

mapped_from : {X Y : Type 0} (f : X → Y) (xs : List X) (k : ℕ) (y : Y) → slice_get (map f xs) k ≡ Some y → (x : X) × (slice_get xs k ≡ Some x) × (f x ≡ y)
mapped_from {X} f xs k y is = by_found (slice_get xs k) refl
  where
    by_found : (found : Option X) → slice_get xs k ≡ found → (x : X) × (slice_get xs k ≡ Some x) × (f x ≡ y)
    by_found None at = absurd (none-some y (sym (slice_get-map f xs k ∙ ap (option_map f) at) ∙ is))
    by_found (Some x) at = (x, at, same_Some _ _ (sym (slice_get-map f xs k ∙ ap (option_map f) at) ∙ is))

module _ {p : Loaded} {certificate : Certificate} (valid : plain.IsValid p certificate) where
  -- a line of the one is one of the other
  from_line : (k : ℕ) (b : SettlingLine) → slice_get (map alike_line certificate.lines) k ≡ Some b → (a : Line) × (slice_get certificate.lines k ≡ Some a) × (alike_line a ≡ b)
  from_line k b is = mapped_from alike_line certificate.lines k b is

  of_line : (b : SettlingLine) → Contains (map alike_line certificate.lines) b → (a : Line) × Contains certificate.lines a × (alike_line a ≡ b)
  of_line b there =
      let at = place_of (map alike_line certificate.lines) b there in
      let from = from_line at.0 b at.1 in
      (from.0, element_at certificate.lines at.0 from.0 from.1, from.2)

  from_node : (x : Node) (b : SettlingLine) → IsLineOf p (alike certificate) x b → (a : Line) × plain.IsLineOf p certificate x a × (alike_line a ≡ b)
  from_node x b is =
      let from = of_line b is.stands in
      (from.0, record { stands = from.1; named = subst (λ (l : SettlingLine). IsNodeNamed p l.node x) (sym from.2) is.named }, from.2)

  to_node : (x : Node) (a : Line) → plain.IsLineOf p certificate x a → IsLineOf p (alike certificate) x (alike_line a)
  to_node x a is =
      let at = place_of certificate.lines a is.stands in
      record { stands = element_at (map alike_line certificate.lines) at.0 (alike_line a) (slice_get-map alike_line certificate.lines at.0 ∙ ap (option_map alike_line) at.1); named = is.named }

  no_set : (k : ℕ) (x : Node) → ¬ IsIn p (alike certificate) k x
  no_set k x is = none-some _ is.stands

  none_there : (set : SettlingSet) → ¬ Contains (alike certificate).sets set
  none_there set there = let at = place_of (alike certificate).sets set there in none-some _ at.1

  -- what holds of two lines of the one holds of two of the other
  both : (P : SettlingLine → SettlingLine → Type 0) (x y : Node) (a b : SettlingLine) → IsLineOf p (alike certificate) x a → IsLineOf p (alike certificate) y b
      → ((c d : Line) → plain.IsLineOf p certificate x c → plain.IsLineOf p certificate y d → P (alike_line c) (alike_line d)) → P a b
  both P x y a b from to has =
      let first = from_node x a from in
      let second = from_node y b to in
      subst (λ (l : SettlingLine). P a l) second.2 (subst (λ (l : SettlingLine). P l (alike_line second.0)) first.2 (has first.0 second.0 first.1 second.1))

  single : (P : SettlingLine → Type 0) (x : Node) (a : SettlingLine) → IsLineOf p (alike certificate) x a → ((c : Line) → plain.IsLineOf p certificate x c → P (alike_line c)) → P a
  single P x a from has = let first = from_node x a from in subst P first.2 (has first.0 first.1)

  each_line : (P : SettlingLine → Type 0) (b : SettlingLine) → Contains (alike certificate).lines b → ((a : Line) → Contains certificate.lines a → P (alike_line a)) → P b
  each_line P b there has = let from = of_line b there in subst P from.2 (has from.0 from.1)

  is_valid : IsValid p (alike certificate)
  is_valid = record {
    wires = valid.wires;
    typed = valid.typed;
    each_node = λ x is. let found = valid.each_node x is in (alike_line found.0, to_node x found.0 found.1);
    nothing_else = record {
      nodes = λ line there. each_line (λ l. (x : Node) × IsNodeNamed p l.node x) line there (λ a h. valid.nothing_else.nodes a h);
      once = λ j k a b x at_j at_k is_a is_b.
          let one = from_line j a at_j in
          let two = from_line k b at_k in
          valid.nothing_else.once j k one.0 two.0 x one.1 two.1 (subst (λ (l : SettlingLine). IsNodeNamed p l.node x) (sym one.2) is_a) (subst (λ (l : SettlingLine). IsNodeNamed p l.node x) (sym two.2) is_b);
      classes = λ line there. each_line (λ l. AreClassesThere p l.destroys) line there (λ a h. valid.nothing_else.classes a h);
      members = λ set name there among. absurd (none_there set there);
      apart = λ j k x one two. absurd (no_set j x one);
    };
    edges = record {
      within = λ x y both_in way. absurd (no_set both_in.0 x both_in.1);
      falls_within = λ x y a b leads from to both_in other. absurd (no_set both_in.0 x both_in.1);
      falls = λ x y a b leads from to apart. both (λ c d. d.rank < c.rank) x y a b from to (λ c d is_c is_d. valid.ranks x y c d leads is_c is_d);
      steps = λ x y a b leads from to. both (λ c d. d.step ≤ c.step) x y a b from to (λ c d is_c is_d. omega arith);
    };
    rounds = λ set there. absurd (none_there set there);
    sets = record {
      passed_on = λ x y a b d leads from to. both (λ l m. Destroys p m d → Destroys p l d) x y a b from to (λ l m is_l is_m. valid.sets.passed_on x y l m d leads is_l is_m);
      closures = λ x line d is from closed. single (λ l. Destroys p l d) x line from (λ l is_l. valid.sets.closures x l d is is_l closed);
      spared = λ x line body from. single (λ l. ¬ Destroys p l x.class) x line from (λ l is_l. valid.sets.spared x l body is_l);
    };
    bounded = record {
      ranks = λ line there. each_line (λ l. l.rank < certificate.bound) line there (λ a h. valid.bounded.ranks a h);
      steps = λ line there. each_line (λ l. l.step ≤ 0) line there (λ a h. omega arith);
      bound = valid.bounded.bound;
    };
  }

pub has_alike : (p : Loaded) (certificate : Certificate) → plain.IsValid p certificate → HasAlike p certificate
has_alike p certificate valid = record { settling = alike certificate; valid = is_valid valid; bound = refl; step = refl }
