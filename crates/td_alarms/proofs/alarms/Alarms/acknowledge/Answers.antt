use Rattle.std.proofs.Common.{rules, ◌≡◌, ◌==◌, not, List, subst}
use Rattle.std.specs.List.{filter}
use Rattle.std.proofs.lemmas.Fn.{filter_same}
use Rattle.td_alarms.specs.declared.alarms.Alarm.{Alarm}
use Rattle.td_alarms.proofs.alarms.Alarms.acknowledge.Goals as goal

pub returns-clause-others : goal.returns-clause-others
returns-clause-others c =
    let others : c.retain.new.self.items ≡ filter (λ (a : Alarm). not (a.site == c.args.site)) c.self.inside.kept.items = filter_same _ _ _ (λ x b f' called. (search rules, search rules)) _ _ c.retain.ensures.filtered in
    subst (λ (l : List Alarm). c.retain.new.self.items ≡ filter (λ (a : Alarm). not (a.site == c.args.site)) l) c.self.view_is others
