use Rattle.std.proofs.Common.{Result, Ok, Err, IfOk}
use Rattle.td_headings.specs.Catalogues.{CatalogueData}
use Rattle.td_answers.proofs.Placing.{of_first}
use Rattle.td_answers.proofs.answers.catalogue_for.Goals as goal

if_more : {E : Type 0} (P Q : CatalogueData → Type 0) (r : Result CatalogueData E) → ((c : CatalogueData) → P c → Q c) → IfOk r P → IfOk r Q
if_more P Q (Ok c) more is = more c is
if_more P Q (Err e) more is = tt

pub returns-in-len1-up : goal.returns-in-len1-up
returns-in-len1-up g c =
    if_more _ _ c.script_catalogue.result
    (λ catalogue of. of_first g.R.Replica.seen c.args.sites.now c.first-item.result catalogue c.in-len1-up.len_at_least c.first-item.is c.requires of)
    c.script_catalogue.ensures
