use Rattle.std.proofs.Common.{refl, subst}
use Rattle.td_semantics.specs.Steps.{Steps}
use Rattle.td_semantics.specs.declared.outcome.Outcome.{Outcome}
use Rattle.td_assign.proofs.Preparing.{read_is}
use Rattle.td_assign.proofs.insertions.puts_in_all.Goals as goal

pub returns-in-Ok : goal.returns-in-Ok
returns-in-Ok c = λ d e k a is reads step differ yes.
    let x = c.in-Done-Some.statement in
    let read = read_is d.catalogue d.catalogue k a c.args.reading.now.statement refl reads.statement x c.in-Done-Some.is-1 in
    let put = c.in-Ok.ensures d e k a is read (subst (λ (o : Outcome). Steps d k a o e) c.in-Done-Some.is-0 step) differ yes in
    record { relvar = put.relvar; delta = put.delta; one = put.one; inserts = record { statement = x; reads = read; is = put.is } }
