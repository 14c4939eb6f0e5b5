use Rattle.std.proofs.Common.{Err, refl, sym, ◌∙◌, arith}
use Rattle.td_replica.specs.declared.refusal.IssueError.TheVariants as issue_error
use Rattle.td_answers.proofs.telling.issue.Goals as goal

pub returns-then-not-is_open-clause-answered : goal.returns-then-not-is_open-clause-answered
returns-then-not-is_open-clause-answered g c = record { answer = Err issue_error.Broken; issues = (sym c.is_open.ensures ∙ c.if-not-is_open.true, refl); line = refl }

pub returns-in_default-clause-answered : goal.returns-in_default-clause-answered
returns-in_default-clause-answered g c = record { answer = Err issue_error.OutOfMemory; issues = ((sym c.is_open.ensures ∙ c.if-not-is_open.false, refl), omega arith); line = refl }

pub returns-then-text-gt-MOST_BYTES-clause-answered : goal.returns-then-text-gt-MOST_BYTES-clause-answered
returns-then-text-gt-MOST_BYTES-clause-answered g c =
    record {
      answer = Err issue_error.Syntax;
      issues = ((sym c.is_open.ensures ∙ c.if-not-is_open.false, refl), λ t is. let short = is.reads.short in absurd (omega (arith, short)));
      line = refl;
    }
