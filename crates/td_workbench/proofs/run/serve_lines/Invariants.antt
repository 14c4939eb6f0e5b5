use Rattle.std.proofs.Common.{map}
use Rattle.td_io.specs.Views.{input_of, output_of}
use Rattle.td_answers.specs.Sites.{AreOfScript}
use Rattle.td_workbench.specs.Runs.{AnswersLine, over}
use Rattle.td_workbench.proofs.Serving.{Done}
use Rattle.td_workbench.proofs.run.serve_lines.Given as goal

-- whole lines were read, none of them `.quit`, and each was answered
abbrev pub invariant-loop-reads : goal.invariant-loop-reads
invariant-loop-reads g l =
    Done (AnswersLine (over g.R.Replica.seen g.R.Replica.failed g.R.Replica.journaled g.L.Links.serves g.L.Links.calls) l.catalogue) (l.initial.sites, l.initial.links) l.initial.reads l.reads
    (input_of g.S.Source l.initial.source) (input_of g.S.Source l.source) (output_of g.K.Sink l.initial.sink) (output_of g.K.Sink l.sink) (l.sites, l.links)
    × AreOfScript l.catalogue (map g.R.Replica.seen l.sites)

abbrev pub decreases-loop-reads : goal.decreases-loop-reads
decreases-loop-reads g l = l.reads
