use Rattle.std.proofs.Common.{None, Some, refl}
use Rattle.td_assign.proofs.Naming.{names_read, names_unread, read_names}
use Rattle.td_assign.proofs.Preparing.{read_is, unread_is}
use Rattle.td_assign.proofs.reading.read.Goals as goal

pub returns-in_ok-names-in-Some-2 : goal.returns-in_ok-names-in-Some-2
returns-in_ok-names-in-Some-2 c =
    let k = c.args.catalogue.now in
    let text = c.args.text.now in
    let x = c.in-Some.statement in
    let is = read_is k k c.args.dialect text c.in_ok-statement.field-0 refl c.in_ok-statement.ensures x c.in-Some.is in
    let v = c.in_ok-names-in-Some.names in
    read_names k c.args.dialect text (Some x) v c.in_ok-names-in-Some-2.names is c.in_ok-names-in-Some-2.ensures (names_read k c.args.dialect text x is v c.in_ok-names-in-Some.ensures.targets c.in_ok-names-in-Some.ensures.footprint)

pub returns-in_ok-names-in-None : goal.returns-in_ok-names-in-None
returns-in_ok-names-in-None c =
    let k = c.args.catalogue.now in
    let text = c.args.text.now in
    let is = unread_is k k c.args.dialect text c.in_ok-statement.field-0 refl c.in_ok-statement.ensures c.in-None.is in
    let v = c.no_names.result in
    read_names k c.args.dialect text None v c.in_ok-names-in-None.names is c.in_ok-names-in-None.ensures (names_unread k c.args.dialect text is v c.no_names.ensures.targets c.no_names.ensures.footprint)
