use Rattle.std.proofs.Common.{length, refl, ◌∙◌}
use Rattle.td_tokens.proofs.Keywords.{by_length, by_no_length, none_of_length}
use Rattle.td_tokens.proofs.words.keyword.Goals as goal

pub returns-then-letters-eq2 : goal.returns-then-letters-eq2
returns-then-letters-eq2 c = c.keyword_in.ensures ∙ by_length c.args.letters.now 2 c.if-letters-eq2.true

pub returns-then-letters-eq3 : goal.returns-then-letters-eq3
returns-then-letters-eq3 c = c.keyword_in-then-letters-eq3.ensures ∙ by_length c.args.letters.now 3 c.if-letters-eq3.true

pub returns-then-letters-eq4 : goal.returns-then-letters-eq4
returns-then-letters-eq4 c = c.keyword_in-then-letters-eq4.ensures ∙ by_length c.args.letters.now 4 c.if-letters-eq4.true

pub returns-then-letters-eq5 : goal.returns-then-letters-eq5
returns-then-letters-eq5 c = c.keyword_in-then-letters-eq5.ensures ∙ by_length c.args.letters.now 5 c.if-letters-eq5.true

pub returns-then-letters-eq6 : goal.returns-then-letters-eq6
returns-then-letters-eq6 c = c.keyword_in-then-letters-eq6.ensures ∙ by_length c.args.letters.now 6 c.if-letters-eq6.true

pub returns-then-letters-eq7 : goal.returns-then-letters-eq7
returns-then-letters-eq7 c = c.keyword_in-then-letters-eq7.ensures ∙ by_length c.args.letters.now 7 c.if-letters-eq7.true

pub returns-then-letters-eq8 : goal.returns-then-letters-eq8
returns-then-letters-eq8 c = c.keyword_in-then-letters-eq8.ensures ∙ by_length c.args.letters.now 8 c.if-letters-eq8.true

pub returns-then-letters-eq9 : goal.returns-then-letters-eq9
returns-then-letters-eq9 c = c.keyword_in-then-letters-eq9.ensures ∙ by_length c.args.letters.now 9 c.if-letters-eq9.true

pub returns-then-letters-eq10 : goal.returns-then-letters-eq10
returns-then-letters-eq10 c = c.keyword_in-then-letters-eq10.ensures ∙ by_length c.args.letters.now 10 c.if-letters-eq10.true

pub returns-else-letters-eq10 : goal.returns-else-letters-eq10
returns-else-letters-eq10 c =
    let n = length c.args.letters.now in
    by_no_length c.args.letters.now n refl (none_of_length n c.if-letters-eq2.false c.if-letters-eq3.false c.if-letters-eq4.false c.if-letters-eq5.false c.if-letters-eq6.false c.if-letters-eq7.false c.if-letters-eq8.false c.if-letters-eq9.false c.if-letters-eq10.false)
