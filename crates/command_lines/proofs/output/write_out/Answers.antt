use Rattle.std.proofs.Common.{◌≡◌, ℕ, ◌-◌, List, ◌++◌, length, take, drop, ap, ◌∙◌, append_assoc, take-append-drop, inl}
use Rattle.std.proofs.lemmas.List.{take_rest}
use Rattle.std.proofs.KnownBytes.{Appends-trans}
use Rattle.command_lines.proofs.output.write_out.Goals as goal

moved : (all done left : List ℕ) (n : ℕ) → done ++ left ≡ all → (done ++ take n left) ++ take (length left - n) (drop n left) ≡ all
moved all done left n split = ap (λ l. (done ++ take n left) ++ l) (take_rest left n) ∙ append_assoc done (take n left) (drop n left) ∙ ap (λ l. done ++ l) (take-append-drop n left) ∙ split

pub loop-left-preserved-in-Ok : goal.loop-left-preserved-in-Ok
loop-left-preserved-in-Ok g c =
    let (done, split, appended) = c.loop-left.invariant.0 in
    let left = c.loop-left.left.now in
    let n = c.in-Ok.taken in
    ((done ++ take n left, moved _ done left n split, Appends-trans _ _ _ _ _ appended c.in-Ok.ensures.bytes), λ set. c.in-Ok.ensures.failed.1 (inl (c.loop-left.invariant.1 set)))
