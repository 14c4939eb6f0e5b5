-- How deep the terms of a form are.
use Rattle.std.specs.Prelude.{ℕ}
use Rattle.td_meaning.specs.declared.closed.Terms.{Terms}
use Rattle.td_meaning.specs.declared.closed.Terms.TheVariants as terms
use Rattle.td_meaning.specs.ForProofs.Levels.{item_levels, levels, summaries_levels, summary_levels}

abbrev pub terms_levels : Terms → ℕ
terms_levels (terms.Condition a) = levels a.now
terms_levels (terms.Summary s) = summary_levels s.now
terms_levels (terms.Items is) = item_levels is.now
terms_levels (terms.Summaries is) = summaries_levels is.now
