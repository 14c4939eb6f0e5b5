use Rattle.std.proofs.Common.{◌≡◌, ℕ, List, codes, get_or}
use Rattle.std.specs.List.{slice_set}
use Rattle.td_answers.specs.Sites.{HappensToOne}
use Rattle.td_answers.specs.Linked.{CallsOver}
use Rattle.td_answers.proofs.Opened.{links_at}
use Rattle.td_answers.proofs.Saying.{says_more}
use Rattle.td_answers.proofs.Staying.{all_stay, between_at, stay_at}
use Rattle.td_answers.proofs.answers.call_in.Goals as goal

pub returns-in-Some-clause-answered : goal.returns-in-Some-clause-answered
returns-in-Some-clause-answered g c =
    links_at g.R.Replica.seen CallsOver g.L.Links.calls (codes "called") c.args.number c.args.address.now c.args.sites.now c.in-Some.at c.index-sites-at.result c.call.new.site c.call.result c.args.links.now c.call.new.links
    c.in-Some.ensures.place c.in-Some.ensures.within c.call.ensures.answered

pub returns-in-Some-clause-journaled : goal.returns-in-Some-clause-journaled
returns-in-Some-clause-journaled g c =
    stay_at g.R.Replica.journaled c.args.sites.now c.in-Some.at c.index-sites-at.result c.call.new.site c.in-Some.ensures.within c.call.ensures.journaled

pub returns-in-None-clause-journaled : goal.returns-in-None-clause-journaled
returns-in-None-clause-journaled g c = all_stay g.R.Replica.journaled c.args.sites.now

pub returns-in-Some-clause-journal : goal.returns-in-Some-clause-journal
returns-in-Some-clause-journal g c =
    let failed = g.R.Replica.failed in
    let before = c.index-sites-at.result in
    let old = get_or c.args.sites.now c.in-Some.at before in
    let new = c.call.new.site in
    let one : List ℕ → Type 0 = λ text. text ≡ codes "fault journal\n" → failed old new in
    let some : List ℕ → Type 0 = λ text. text ≡ codes "fault journal\n" → HappensToOne failed c.args.sites.now (slice_set c.args.sites.now c.in-Some.at new) in
    says_more one some c.call.result (λ text told same. between_at failed c.args.sites.now c.in-Some.at before new c.in-Some.ensures.within (told same)) c.call.ensures.journal
