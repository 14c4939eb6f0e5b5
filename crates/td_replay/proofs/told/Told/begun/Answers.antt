use Rattle.std.proofs.Common.{[], None, sym, subst}
use Rattle.td_semantics.specs.Databases.{IsLegal}
use Rattle.td_semantics.specs.Scripts.{OpensOn}
use Rattle.td_replay.specs.ForProofs.Told.{IsLogged, Log}
use Rattle.td_replay.proofs.Telling.{begun}
use Rattle.td_replay.proofs.told.Told.begun.Goals as goal

pub returns : goal.returns
returns c = λ script opens.
    let d = c.in_ok-of.field-0 in
    let same = c.in_ok-of.ensures.same in
    let legal = subst IsLegal (sym same) c.requires in
    subst (λ (log : Log). IsLogged script [] log d) (sym c.new.ensures.items)
    (begun script d (c.in_ok-of.ensures.database, legal) (subst (OpensOn script None) (sym same) opens))
