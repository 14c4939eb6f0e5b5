use Rattle.std.proofs.Common.{option_map}
use Rattle.td_workbench.proofs.Scripting.{Begun}
use Rattle.td_workbench.proofs.script.read_script.Given as goal

-- whole lines were read, none of them `.begin`
abbrev pub invariant-loop-reads : goal.invariant-loop-reads
invariant-loop-reads g l =
    Begun l.initial.reads l.reads (record { left = g.S.Source.left l.initial.source; failures = g.S.Source.failures l.initial.source }) (record { left = g.S.Source.left l.source; failures = g.S.Source.failures l.source })
    (option_map (λ v. v.items) l.script)

abbrev pub decreases-loop-reads : goal.decreases-loop-reads
decreases-loop-reads g l = l.reads
