-- How many items wait for each object, as its mark says.
use Rattle.std.specs.Prelude.{◌≡◌, ℕ, ◌+◌, ◌-◌, ◌≤◌, eqb, if◌then◌else◌, Bool, List, Option, None, Some}
use Rattle.std.specs.List.{count_by, sum_by}
use Rattle.std.specs.declared.collections.VecDeque.{VecDeque}
use Rattle.indexmap.specs.IndexMap.{IndexMap}
use Rattle.event_loops.specs.declared.item.Posted.{Posted}
use Rattle.event_loops.specs.declared.marks.WaitMark.{WaitMark}
use Rattle.event_loops.specs.declared.marks.Marks.{Marks}
use Rattle.event_loops.specs.Queues.{Loop, receiver_of, is_for}
use Rattle.event_loops.specs.code.Marks.{mark_of}
use Rattle.event_loops.specs.code.Kept.{seen}

-- how many items of all loops together pass the test
abbrev pub count_where : (Posted → Bool) → List Loop → ℕ
count_where test loops = sum_by (λ (l : Loop). count_by test l.items) loops

abbrev pub awaits : ℕ → Posted → Bool
awaits object p = is_for object p.item

abbrev pub waiting_in : Option WaitMark → ℕ
waiting_in None = 0
waiting_in (Some mark) = mark.waiting

abbrev pub waiting_of : Marks → ℕ → ℕ
waiting_of marks object = waiting_in (mark_of marks object)

-- no more wait for an object than its mark says
abbrev pub AreCounted : List Loop → Marks → Type 0
AreCounted loops marks = (object : ℕ) → count_where (awaits object) loops ≤ waiting_of marks object

abbrev pub Counted : {A S : Type 0} → IndexMap (List ℕ) (VecDeque Posted A) S → Marks → Type 0
Counted queues marks = AreCounted (seen queues marks) marks

-- one more for an object, one less, as many as before, none
abbrev pub CountsMore : ℕ → Marks → Marks → Type 0
CountsMore object old new = (q : ℕ) → waiting_of new q ≡ (if eqb object q then waiting_of old object + 1 else waiting_of old q)

abbrev pub CountsFewer : ℕ → Marks → Marks → Type 0
CountsFewer object old new = (q : ℕ) → waiting_of new q ≡ (if eqb object q then waiting_of old object - 1 else waiting_of old q)

abbrev pub KeepsCount : ℕ → Marks → Marks → Type 0
KeepsCount object old new = (q : ℕ) → waiting_of new q ≡ (if eqb object q then waiting_of old object else waiting_of old q)

abbrev pub CountsNone : ℕ → Marks → Marks → Type 0
CountsNone object old new = (q : ℕ) → waiting_of new q ≡ (if eqb object q then 0 else waiting_of old q)

-- as many for each
abbrev pub CountAlike : Marks → Marks → Type 0
CountAlike old new = (q : ℕ) → waiting_of new q ≡ waiting_of old q

-- one less for the object of the item that was taken, if one was
abbrev pub CountsLess : Option Posted → Marks → Marks → Type 0
CountsLess None old new = CountAlike old new
CountsLess (Some p) old new = CountsFewer (receiver_of p.item) old new
