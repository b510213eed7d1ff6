use Rattle.std.proofs.Common.{◌≡◌, ◌+◌, ◌<◌, ℕ, Bool, List, [], ◌∷◌, ◌++◌, ◌∙◌, codes, ap, append-nil, sym}
use Rattle.std.specs.Prelude.{decimal}
use Rattle.std.proofs.lemmas.Fmt.{decimal_digit}
use Rattle.trace_entries.specs.declared.entry.EntryKind.{EntryKind}
use Rattle.trace_entries.specs.declared.entry.Shown.{Shown}
use Rattle.command_lines.specs.Lines.{newline, call_text, given_text, member_text, entry_kind_text}
use Rattle.command_lines.proofs.Sending.{as_text}
use Rattle.command_lines.proofs.line.Output+W.at_small_depth.Goals as goal

-- the line of what happens at a depth of one digit
small_line : (d : ℕ) → d < 10 → (kind other : EntryKind) → kind ≡ other → decimal d ++ codes " " ++ entry_kind_text kind ++ newline ≡ ((48 + d) ∷ 32 ∷ entry_kind_text other) ++ newline
small_line d few kind other is =
    ap (λ (k : EntryKind). decimal d ++ codes " " ++ entry_kind_text k ++ newline) is ∙ ap (λ (digits : List ℕ). digits ++ codes " " ++ entry_kind_text other ++ newline) (decimal_digit d few)

pub returns-else-blocked : goal.returns-else-blocked
returns-else-blocked g c =
    let call : List Shown → List ℕ = λ arguments. codes "emit " ++ call_text (member_text c.in-Emitted.object c.in-Emitted.signal) arguments in
    let line : List ℕ → List ℕ = λ text. ((48 + c.args.depth) ∷ 32 ∷ text) ++ newline in
    as_text c.call_line.ensures (
    small_line c.args.depth c.requires _ _ c.in-Emitted.is
    ∙ ap (λ (blocked : Bool). line (call c.in-Emitted.arguments ++ given_text blocked (codes "blocked"))) c.if-blocked.false
    ∙ ap line (append-nil (call c.in-Emitted.arguments))
    ∙ ap (λ (arguments : List Shown). line (call arguments)) (sym c.as_slice.ensures)
    )

pub returns-in-Called : goal.returns-in-Called
returns-in-Called g c =
    let member = member_text c.in-Called.object c.in-Called.slot in
    as_text c.call_line-in-Called.ensures
    (small_line c.args.depth c.requires _ _ c.in-Called.is ∙ ap (λ (arguments : List Shown). ((48 + c.args.depth) ∷ 32 ∷ (codes "call " ++ call_text member arguments)) ++ newline) (sym c.as_slice-in-Called.ensures))

pub returns-in-Written : goal.returns-in-Written
returns-in-Written g c = as_text c.change_line.ensures (small_line c.args.depth c.requires _ _ c.in-Written.is)

pub returns-in-Followed : goal.returns-in-Followed
returns-in-Followed g c = as_text c.change_line-in-Followed.ensures (small_line c.args.depth c.requires _ _ c.in-Followed.is)
