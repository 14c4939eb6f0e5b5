use Rattle.std.proofs.Common.{refl}
use Rattle.std.proofs.lemmas.Result.{IfOk-weaker}
use Rattle.td_semantics.specs.Steps.{unread}
use Rattle.td_assign.proofs.Preparing.{prepared, read_is, unread_is}
use Rattle.td_assign.proofs.trying.try_text.Goals as goal

pub try_statement-requires-clause-typed : goal.try_statement-requires-clause-typed
try_statement-requires-clause-typed c =
    let k = c.args.database.now.catalogue in
    let (dialect, text, reads) = c.requires.read in
    let is = read_is k k dialect text c.args.reading.now.statement refl reads.statement c.in-Some.statement c.in-Some.is in
    (is.statement, is.types)

pub returns-in-Some : goal.returns-in-Some
returns-in-Some c = λ dialect text reads.
    let d = c.args.database.now in
    let x = c.in-Some.statement in
    let is = read_is d.catalogue d.catalogue dialect text c.args.reading.now.statement refl reads.statement x c.in-Some.is in
    IfOk-weaker c.try_statement.result _ _ (λ p made. (prepared d dialect text x is p made.0, made.1)) c.try_statement.ensures

pub returns-in-None : goal.returns-in-None
returns-in-None c = λ dialect text reads.
    let k = c.args.database.now.catalogue in
    (unread (unread_is k k dialect text c.args.reading.now.statement refl reads.statement c.in-None.is), tt)
