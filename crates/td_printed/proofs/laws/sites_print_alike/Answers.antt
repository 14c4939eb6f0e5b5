use Rattle.td_printed.proofs.Printing.{printed_agree, replies_agree}
use Rattle.td_printed.proofs.laws.sites_print_alike.Goals as goal

pub returns : goal.returns
returns c =
    let listed = c.listings_agree.ensures in
    let printed = printed_agree listed.listings listed.logs listed.tables in
    record { sites = printed; lines = replies_agree printed }
