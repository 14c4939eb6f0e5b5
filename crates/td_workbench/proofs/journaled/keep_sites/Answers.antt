use Rattle.std.proofs.Common.{◌≡◌, ◌++◌, ◌∷◌, [], List, ap, sym, subst, ◌∙◌, append_assoc, map}
use Rattle.std.specs.List.{AllByRecursion}
use Rattle.std.specs.Vec.Iter.{into_iter_items}
use Rattle.std.proofs.lemmas.List.{map-append}
use Rattle.td_answers.specs.Sites.{Sites}
use Rattle.td_journal.specs.Reopening.{IsNew}
use Rattle.td_journal.specs.Views.{KeeperData}
use Rattle.td_workbench.specs.Journals.{ComeBack, keepers}
use Rattle.td_workbench.proofs.Journaling.{all_at, come_back_more, some_not}
use Rattle.td_workbench.proofs.journaled.keep_sites.Goals as goal

pub loop-site-init : goal.loop-site-init
loop-site-init g c = record {
  seen = sym c.into_iter-site-iterator.ensures.into_iter_gives.0;
  back = subst (λ (ks : List (KeeperData _ _)). ComeBack (keepers g.R.Replica g.J.Writer.Sink) (g.J.Journals.kept c.args.journals.now) c.args.prefix.now [] ks) (sym c.new-keepers.ensures.items) tt;
}

pub keep_site-requires : goal.keep_site-requires
keep_site-requires g c =
    let l = c.loop-site in
    let all = l.invariant.seen ∙ ap (λ xs. l.yielded ++ xs) c.in-Some.ensures.steps.0 in
    all_at IsNew g.R.Replica.seen l.yielded c.in-Some.site (into_iter_items c.next.new.self) (subst (λ xs. AllByRecursion IsNew (map g.R.Replica.seen xs)) all c.requires)

pub loop-site-preserved : goal.loop-site-preserved
loop-site-preserved g c =
    let l = c.loop-site in
    let x = c.in-Some.site in
    let k = c.in-Ok.keeper in
    let seen = g.R.Replica.seen in
    let own = keepers g.R.Replica g.J.Writer.Sink in
    let journals = g.J.Journals.kept c.args.journals.now in
    let come = ComeBack own journals c.args.prefix.now in
    let all : c.args.sites.items ≡ l.yielded ++ x ∷ into_iter_items c.next.new.self = l.invariant.seen ∙ ap (λ xs. l.yielded ++ xs) c.in-Some.ensures.steps.0 in
    let more = come_back_more own journals c.args.prefix.now (map seen l.yielded) l.keepers.items (seen x) k l.invariant.back c.in-Ok.ensures in
    record {
      seen = rw append_assoc all;
      back = subst (λ (ss : Sites). come ss c.push.new.self.items) (sym (map-append seen l.yielded (x ∷ [])))
          (subst (λ (ks : List (KeeperData _ _)). come (map seen l.yielded ++ seen x ∷ []) ks) (sym c.in-Ok-push.ensures.items) more);
    }

pub returns-in-Err : goal.returns-in-Err
returns-in-Err g c =
    let l = c.loop-site in
    let x = c.in-Some.site in
    let rest = into_iter_items c.next.new.self in
    let seen = g.R.Replica.seen in
    let all : c.args.sites.items ≡ l.yielded ++ x ∷ rest = l.invariant.seen ∙ ap (λ xs. l.yielded ++ xs) c.in-Some.ensures.steps.0 in
    some_not (keepers g.R.Replica g.J.Writer.Sink) (g.J.Journals.kept c.args.journals.now) c.args.prefix.now (g.J.Journals.fails c.args.journals.now) (map seen c.args.sites.items) (map seen l.yielded) l.keepers.items (seen x) (map seen rest) c.in-Err.e
    (ap (map seen) all ∙ map-append seen l.yielded (x ∷ rest)) l.invariant.back c.in-Err.ensures
