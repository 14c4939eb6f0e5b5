use Rattle.td_agreement.proofs.CutScopes.{cut_answer_in_scope, cut_finish_in_scope, cut_finish_in_scope_loses_none}
use Rattle.td_agreement.proofs.CutScopes.{cut_left_out_stays, cut_reply_in_scope, cut_settle_in_scope}
use Rattle.td_agreement.proofs.CutScopes.{cut_settle_in_scope_loses_none}
use Rattle.td_agreement.proofs.laws.cut_meetings_keep_scopes.Goals as goal

pub returns : goal.returns
returns c = record {
  finish = cut_finish_in_scope;
  finish_loses_none = cut_finish_in_scope_loses_none;
  settle = cut_settle_in_scope;
  settle_loses_none = cut_settle_in_scope_loses_none;
  left_out = cut_left_out_stays;
  answer = cut_answer_in_scope;
  reply = cut_reply_in_scope;
}
