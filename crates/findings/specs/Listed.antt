-- The findings of a verdict by how grave they are (docs/verdict.md, "What is found").
use Rattle.std.specs.Prelude.{List}
use Rattle.findings.specs.declared.finding.Finding.{Finding}
use Rattle.findings.specs.declared.severity.FindingSeverity.{FindingSeverity}
use Rattle.findings.specs.declared.severity.FindingSeverity.TheVariants.{Error, Warning, Note}
use Rattle.findings.specs.declared.verdict.Verdict.{Verdict}

-- those that are reported of this severity
abbrev pub findings_of : FindingSeverity → Verdict → List Finding
findings_of Error verdict = verdict.errors.items
findings_of Warning verdict = verdict.warnings.items
findings_of Note verdict = verdict.notes.items
