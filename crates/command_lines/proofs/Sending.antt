-- One output after another, and what a writer took in the end.
use Rattle.std.proofs.Common.{ℕ, ◌+◌, ◌<◌, ◌≡◌, List, [], ◌∷◌, ◌++◌, take, length, get_or, codes, Option, Some, None, Result, Ok, Err, IsNone, IsSome, IsTrue, IfNone, OnOk, OnErr, ◌⊎◌, inl, inr, rules, append_assoc, append-nil, refl, sym, ap, subst, ◌∙◌}
use Rattle.std.specs.List.{flat_map}
use Rattle.std.proofs.lemmas.List.{take_more}
use Rattle.std.proofs.lemmas.List.Concat.{flat_map-append}
use Rattle.std.specs.Io.KnownBytes.{Appends}
use Rattle.std.proofs.KnownBytes.{Appends-trans, Appends-nil}
use Rattle.command_lines.specs.declared.output.Output.{Output}
use Rattle.command_lines.specs.declared.fault.WriteFault.{WriteFault}
use Rattle.command_lines.specs.declared.watched.Failing.{Failing}
use Rattle.command_lines.specs.Sent.{Puts, TakesWith, Ends, IsBegun}

-- the rest of what is put in by two steps
rest_of : (fault : Option WriteFault) (t u left left' p p' x y : List ℕ) → t ++ left ≡ p ++ x → u ++ left' ≡ p' ++ y → IfNone fault (p' ≡ left) → (IsSome fault → u ≡ []) →
    (rest : List ℕ) × ((t ++ u) ++ rest ≡ p ++ (x ++ y)) × (IsSome fault ⊎ (rest ≡ left'))
rest_of None t u left left' p p' x y first second kept stopped =
    (left', append_assoc t u left' ∙ ap (λ l. t ++ l) (second ∙ ap (λ l. l ++ y) kept) ∙ sym (append_assoc t left y) ∙ ap (λ l. l ++ y) first ∙ append_assoc p x y, inr refl)
rest_of (Some fault) t u left left' p p' x y first second kept stopped =
    (left ++ y, ap (λ l. (t ++ l) ++ (left ++ y)) (stopped refl) ∙ ap (λ l. l ++ (left ++ y)) (append-nil t) ∙ sym (append_assoc t left y) ∙ ap (λ l. l ++ y) first ∙ append_assoc p x y, inl refl)

kept_so : (f g : Option WriteFault) (p left rest : List ℕ) → (IsSome f → IsSome g) → IfNone g (p ≡ left) → (IsSome f ⊎ (rest ≡ left)) → IfNone g (p ≡ rest)
kept_so f None p left rest up kept (inl some) = absurd (search (rules, up some))
kept_so f None p left rest up kept (inr same) = kept ∙ sym same
kept_so f (Some g) p left rest up kept either = tt

pub sent : {W : Type 0} {contents : W → Option (List ℕ)} {a b c : Output W (List ℕ)} {x y : List ℕ} →
    Puts contents a b x → Puts contents b c y → Puts contents a c (x ++ y)
sent {W} {contents} {a} {b} {c} {x} {y} p q =
    let rest = rest_of b.fault p.taken q.taken p.left q.left a.pending b.pending x y p.whole q.whole p.kept (λ some. (q.stopped some).0) in
    record {
      same_writer = q.same_writer ∙ p.same_writer;
      taken = p.taken ++ q.taken;
      left = rest.0;
      appended = Appends-trans _ _ _ _ _ p.appended q.appended;
      whole = rest.1;
      kept = kept_so b.fault c.fault _ _ _ (λ some. (q.stopped some).1) q.kept rest.2;
      stopped = λ some. (ap (λ l. l ++ q.taken) (p.stopped some).0 ∙ (q.stopped (p.stopped some).1).0, (q.stopped (p.stopped some).1).1);
      flagged = λ flagged. q.flagged (p.flagged flagged);
    }

-- .. a text that is spelled otherwise
pub as_text : {W : Type 0} {contents : W → Option (List ℕ)} {a b : Output W (List ℕ)} {x y : List ℕ} → Puts contents a b x → y ≡ x → Puts contents a b y
as_text {contents = contents} {a = a} {b = b} p is = subst (Puts contents a b) (sym is) p

-- .. in pieces that are put together otherwise
pub gathered : (w m b x : List ℕ) → w ++ ((m ++ b) ++ x) ≡ ((w ++ m) ++ b) ++ x
gathered w m b x = ap (λ l. w ++ l) (append_assoc m b x) ∙ sym (append_assoc w m (b ++ x)) ∙ sym (append_assoc (w ++ m) b x)

pub member_behind : (p w o d m e : List ℕ) → p ++ ((w ++ ((o ++ d) ++ m)) ++ e) ≡ ((((p ++ w) ++ o) ++ d) ++ m) ++ e
member_behind p w o d m e =
    sym (append_assoc p (w ++ ((o ++ d) ++ m)) e) ∙ ap (λ l. l ++ e) (sym (append_assoc p w ((o ++ d) ++ m)) ∙ gathered (p ++ w) o d m)

-- .. a line that ends with a call
pub call_gathered : (w m j : List ℕ) → (w ++ (((m ++ codes "(") ++ j) ++ codes ")")) ++ codes "\n" ≡ (((w ++ m) ++ codes "(") ++ j) ++ codes ")\n"
call_gathered w m j =
    ap (λ l. l ++ codes "\n") (sym (append_assoc w ((m ++ codes "(") ++ j) (codes ")")) ∙ ap (λ l. l ++ codes ")") (gathered w m (codes "(") j))
    ∙ append_assoc (((w ++ m) ++ codes "(") ++ j) (codes ")") (codes "\n")

pub no_arguments : (w m : List ℕ) → (w ++ (((m ++ codes "(") ++ []) ++ codes ")")) ++ codes "\n" ≡ (w ++ m) ++ codes "()\n"
no_arguments w m = call_gathered w m [] ∙ ap (λ l. l ++ codes ")\n") (append-nil ((w ++ m) ++ codes "(")) ∙ append_assoc (w ++ m) (codes "(") (codes ")\n")

-- .. and one more item of a list
pub one_item : {W X : Type 0} {contents : W → Option (List ℕ)} {a b c : Output W (List ℕ)} (text : X → List ℕ) (items : List X) (n : ℕ) (d item : X) → n < length items → item ≡ get_or items n d →
    Puts contents a b (flat_map text (take n items)) → Puts contents b c (text item) → Puts contents a c (flat_map text (take (n + 1) items))
one_item {a = a} {c = c} text items n d item less is p q =
    let split =
    ap (flat_map text) (take_more items n d less) ∙ flat_map-append text (take n items) (get_or items n d ∷ []) ∙ ap (λ l. flat_map text (take n items) ++ l) (append-nil (text (get_or items n d))) ∙ ap (λ x. flat_map text (take n items) ++ text x) (sym is) in
    as_text (sent p q) split

kept_as : (fault : Option WriteFault) (p left : List ℕ) → p ≡ left → IfNone fault (p ≡ left)
kept_as None p left is = is
kept_as (Some fault) p left is = tt

-- .. bytes that are kept back
pub kept_back : {W : Type 0} (contents : W → Option (List ℕ)) (a : Output W (List ℕ)) (p x : List ℕ) → p ≡ a.pending ++ x → Puts contents a (record a { pending = p }) x
kept_back contents a p x is = record {
  same_writer = refl;
  taken = [];
  left = a.pending ++ x;
  appended = Appends-nil _;
  whole = refl;
  kept = kept_as a.fault p _ is;
  stopped = λ some. (refl, some);
  flagged = λ flagged. flagged;
}

pub none_sent : {W : Type 0} (contents : W → Option (List ℕ)) (a : Output W (List ℕ)) → Puts contents a a []
none_sent contents a = kept_back contents a a.pending [] (sym (append-nil a.pending))

-- Some bytes were put in, and with what is left to be put in they are the whole.
pub record SentSoFar {W : Type 0} (contents : W → Option (List ℕ)) (before after : Output W (List ℕ)) (left whole : List ℕ) : Type 0 where
  pub bytes : List ℕ
  pub puts : Puts contents before after bytes
  pub whole_is : bytes ++ left ≡ whole

pub none_so_far : {W : Type 0} (contents : W → Option (List ℕ)) (a : Output W (List ℕ)) (whole : List ℕ) → SentSoFar contents a a whole whole
none_so_far contents a whole = record { bytes = []; puts = none_sent contents a; whole_is = refl }

pub more_so_far : {W : Type 0} {contents : W → Option (List ℕ)} {a b c : Output W (List ℕ)} {part left whole : List ℕ} →
    SentSoFar contents a b (part ++ left) whole → Puts contents b c part → SentSoFar contents a c left whole
more_so_far {part = part} {left = left} s p = record {
  bytes = s.bytes ++ part;
  puts = sent s.puts p;
  whole_is = append_assoc s.bytes part left ∙ s.whole_is;
}

pub all_so_far : {W : Type 0} {contents : W → Option (List ℕ)} {a b : Output W (List ℕ)} {whole : List ℕ} → SentSoFar contents a b [] whole → Puts contents a b whole
all_so_far {contents = contents} {a = a} {b = b} s = subst (Puts contents a b) (sym (append-nil s.bytes) ∙ s.whole_is) s.puts

-- what the writer took of all that was put into an output, once it is finished
all_at : {E : Type 0} (result : Result ℕ E) (fault : Option WriteFault) (p left : List ℕ) → OnOk result (IsNone fault × (p ≡ [])) → IfNone fault (p ≡ left) → OnOk result (left ≡ [])
all_at (Ok status) None p left all kept = sym kept ∙ all.1
all_at (Ok status) (Some fault) p left all kept = absurd (search (rules, all.0))
all_at (Err e) fault p left all kept = tt

pub finished : {W E : Type 0} {contents : W → Option (List ℕ)} {a b c : Output W (List ℕ)} {before after : W} {bytes : List ℕ} {expected : ℕ} {result : Result ℕ E} →
    IsBegun before a → Puts contents a b bytes → Ends contents b c expected result → after ≡ c.writer.now → TakesWith (contents before) (contents after) bytes expected result
finished {W} {E} {contents} {a} {b} {c} {before} {after} {bytes} {expected} {result} begun puts ends same =
    let all = sent puts ends.puts in
    record {
      takes = record {
        taken = all.taken;
        left = all.left;
        appended = subst (λ w. Appends (contents w) (contents after) all.taken) begun.same (subst (λ w. Appends (contents a.writer.now) (contents w) all.taken) (sym same) all.appended);
        whole = all.whole ∙ ap (λ l. l ++ (bytes ++ [])) begun.empty ∙ append-nil bytes;
        all = all_at result c.fault _ _ ends.all all.kept;
      };
      status = ends.status;
    }

-- .. a fault is answered only where a write failed
none-flagged : {W : Type 0} (output : Output W (List ℕ)) (fault : Option WriteFault) → fault ≡ None → IsSome fault → IsTrue output.failing.is_set
none-flagged output None is some = absurd (search (rules, some))
none-flagged output (Some fault) is some = absurd (cc is)

pub finished_faults : {W E : Type 0} {contents : W → Option (List ℕ)} {a b c : Output W (List ℕ)} {before : W} {bytes : List ℕ} {expected : ℕ} {result : Result ℕ E} {failing : Failing} →
    IsBegun before a → Puts contents a b bytes → Ends contents b c expected result → failing ≡ c.failing → OnErr result (IsTrue failing.is_set)
finished_faults {a = a} {result = result} begun puts ends is =
    subst (λ (f : Failing). OnErr result (IsTrue f.is_set)) (sym is) (ends.faults (puts.flagged (none-flagged a a.fault begun.unfailed)))

-- nothing is written
pub none_taken : {E : Type 0} (a : Option (List ℕ)) (expected : ℕ) → TakesWith {E = E} a a [] expected (Ok expected)
none_taken a expected = record {
  takes = record { taken = []; left = []; appended = Appends-nil a; whole = refl; all = refl };
  status = refl;
}
