use Rattle.td_agreement.proofs.Agreeing.{answers_agree, past_answers_agree, values_agree, vectors_agree}
use Rattle.td_agreement.proofs.laws.sites_answer_alike.Goals as goal

pub returns-clause-answers : goal.returns-clause-answers
returns-clause-answers c = answers_agree

pub returns-clause-past : goal.returns-clause-past
returns-clause-past c = past_answers_agree

pub returns-clause-values : goal.returns-clause-values
returns-clause-values c = values_agree

pub returns-clause-vectors : goal.returns-clause-vectors
returns-clause-vectors c = vectors_agree
