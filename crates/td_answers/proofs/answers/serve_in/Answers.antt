use Rattle.std.proofs.Common.{◌≡◌, ℕ, List, codes, get_or}
use Rattle.std.specs.List.{slice_set}
use Rattle.td_answers.specs.Sites.{HappensToOne}
use Rattle.td_answers.specs.Linked.{ServesOver}
use Rattle.td_answers.proofs.Opened.{links_at}
use Rattle.td_answers.proofs.Saying.{says_more}
use Rattle.td_answers.proofs.Staying.{all_stay, between_at, stay_at}
use Rattle.td_answers.proofs.answers.serve_in.Goals as goal

pub returns-in-Some-clause-answered : goal.returns-in-Some-clause-answered
returns-in-Some-clause-answered g c =
    links_at g.R.Replica.seen ServesOver g.L.Links.serves (codes "served") c.args.number c.args.address.now c.args.sites.now c.in-Some.at c.index-sites-at.result c.serve.new.site c.serve.result c.args.links.now c.serve.new.links
    c.in-Some.ensures.place c.in-Some.ensures.within c.serve.ensures.answered

pub returns-in-Some-clause-journaled : goal.returns-in-Some-clause-journaled
returns-in-Some-clause-journaled g c =
    stay_at g.R.Replica.journaled c.args.sites.now c.in-Some.at c.index-sites-at.result c.serve.new.site c.in-Some.ensures.within c.serve.ensures.journaled

pub returns-in-None-clause-journaled : goal.returns-in-None-clause-journaled
returns-in-None-clause-journaled g c = all_stay g.R.Replica.journaled c.args.sites.now

pub returns-in-Some-clause-journal : goal.returns-in-Some-clause-journal
returns-in-Some-clause-journal g c =
    let failed = g.R.Replica.failed in
    let before = c.index-sites-at.result in
    let old = get_or c.args.sites.now c.in-Some.at before in
    let new = c.serve.new.site in
    let one : List ℕ → Type 0 = λ text. text ≡ codes "fault journal\n" → failed old new in
    let some : List ℕ → Type 0 = λ text. text ≡ codes "fault journal\n" → HappensToOne failed c.args.sites.now (slice_set c.args.sites.now c.in-Some.at new) in
    says_more one some c.serve.result (λ text told same. between_at failed c.args.sites.now c.in-Some.at before new c.in-Some.ensures.within (told same)) c.serve.ensures.journal
