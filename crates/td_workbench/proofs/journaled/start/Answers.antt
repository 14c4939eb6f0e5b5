use Rattle.std.proofs.Common.{map, string_bytes, sym, subst, ◌∙◌}
use Rattle.td_headings.specs.Catalogues.{CatalogueData}
use Rattle.td_answers.specs.Sites.{AreOfScript}
use Rattle.td_io.specs.Views.{output_of}
use Rattle.td_journal.specs.Views.{seen_of}
use Rattle.td_workbench.specs.Journals.{AnyWay, ComeBack, keepers, with_links}
use Rattle.td_workbench.proofs.Journaling.{as_run, not_kept, of_script_kept}
use Rattle.td_workbench.proofs.Starting.{ready_ends, refused_told}
use Rattle.td_workbench.proofs.journaled.start.Goals as goal

pub returns-in-Err : goal.returns-in-Err
returns-in-Err g c = λ from has.
    let own = keepers g.R.Replica g.J.Writer.Sink in
    let journals = g.J.Journals.kept c.args.journals.now in
    let prefix = c.args.prefix.now in
    let links = c.args.links.now in
    as_run own g.L.Links.serves g.L.Links.calls journals (g.J.Journals.fails c.args.journals.now) prefix c.args.options.now links links from _ _ _ c.refuse.result c.as_run.result c.as_run.ensures
    (refused_told c.args.reads.now from _ _ _ has (with_links own g.L.Links.serves g.L.Links.calls) (ComeBack own journals prefix) AnyWay c.args.options.now links c.in-Err.e c.refuse.result _ _
    (c.in-Err.ensures.judged has.text has.is_kept) c.refuse.ensures)

pub returns-in-Err-keep_opened : goal.returns-in-Err-keep_opened
returns-in-Err-keep_opened g c = λ from has.
    let (accepted, of, told) = c.in-Ok.ensures.judged has.text has.is_kept in
    not_kept c.args.reads.now from _ _ _ has (keepers g.R.Replica g.J.Writer.Sink) g.L.Links.serves g.L.Links.calls (g.J.Journals.kept c.args.journals.now) (g.J.Journals.fails c.args.journals.now) c.args.prefix.now c.args.options.now c.args.links.now
    (map g.R.Replica.seen c.in-Ok.opened.sites.items) (output_of g.K.Sink c.args.sink.now) c.in-Err-keep_opened.e accepted c.in-Err-keep_opened.ensures

pub tell_and_answer-requires : goal.tell_and_answer-requires
tell_and_answer-requires g c =
    let (back, same, ready) = c.in-Ok-keep_opened.ensures in
    let kept = c.in-Ok-keep_opened.kept.sites.items in
    subst (λ (k : CatalogueData). AreOfScript k (map (seen_of g.R.Replica) kept)) (sym same)
    (of_script_kept (keepers g.R.Replica g.J.Writer.Sink) (g.J.Journals.kept c.args.journals.now) c.args.prefix.now c.in-Ok.opened.catalogue (map g.R.Replica.seen c.in-Ok.opened.sites.items) kept back c.in-Ok.ensures.catalogue)

pub returns : goal.returns
returns g c = λ from has.
    let own = keepers g.R.Replica g.J.Writer.Sink in
    let journals = g.J.Journals.kept c.args.journals.now in
    let prefix = c.args.prefix.now in
    let old = c.args.links.now in
    let new = c.tell_and_answer.new.links in
    let b = with_links own g.L.Links.serves g.L.Links.calls in
    let (accepted, of, told) = c.in-Ok.ensures.judged has.text has.is_kept in
    let (back, same, ready) = c.in-Ok-keep_opened.ensures in
    let opens = map g.R.Replica.seen c.in-Ok.opened.sites.items in
    let kept = c.in-Ok-keep_opened.kept in
    let of_kept = subst (λ (k : CatalogueData). AreOfScript k (map (seen_of g.R.Replica) kept.sites.items)) (sym same) (of_script_kept own journals prefix c.in-Ok.opened.catalogue opens kept.sites.items back of) in
    as_run own g.L.Links.serves g.L.Links.calls journals (g.J.Journals.fails c.args.journals.now) prefix c.args.options.now old new from _ _ _ c.tell_and_answer.result c.as_run-2.result c.as_run-2.ensures
    (ready_ends b (ComeBack own journals prefix) AnyWay (λ ss. tt) c.args.options.now old new c.args.reads.now from _ _ _ c.args.script.now.is_last _ _ (string_bytes kept.ready) kept.catalogue opens kept.sites.items c.tell_and_answer.result has accepted back of_kept
    (ready ∙ told) c.tell_and_answer.ensures)
