-- What the rights of a token allow.
use Rattle.std.proofs.Common.{◌≡◌, ℕ, nat_le, true, false, List, Option, refl, ap, subst}
use Rattle.std.specs.Borrow.{Bor}
use Rattle.td_client_tokens.specs.Grants.{rights_rank}
use Rattle.td_client_tokens.specs.declared.rights.Rights.{Rights}
use Rattle.td_client_tokens.specs.declared.rights.Rights.TheVariants.{Read, Write, All}
use Rattle.td_client_tokens.specs.declared.token.ClientToken.{ClientToken}
use Rattle.td_http_api.specs.Answers.{Answer}
use Rattle.td_http_api.specs.Rights.{MayMake, call_rights}
use Rattle.td_http_api.specs.declared.calls.ApiCall.{ApiCall}
use Rattle.td_http_api.specs.declared.calls.ApiCall.TheVariants.{Meet, Statement, Stop}
use Rattle.td_replica.specs.Seen.{Seen}
use Rattle.td_site_desk.specs.Laws.{ReadersChangeNothing, WritersOnlyWrite}
use Rattle.td_site_desk.specs.Sites.{Changes}

-- what may only read has no right to write
never_writes : (token : ClientToken) → token.rights ≡ Read → nat_le (rights_rank Write) (rights_rank token.rights) ≡ true → ⊥
never_writes token reads may =
    let never : false ≡ true = subst (λ (r : Rights). nat_le (rights_rank Write) (rights_rank r) ≡ true) reads may in
    cc

pub readers_change_nothing : ReadersChangeNothing
readers_change_nothing token (Statement text key author) failing answer old new reads may changes = absurd (never_writes token reads may)
readers_change_nothing token _ failing answer old new reads may changes = changes

-- what has the rights to all has all rights
only_all : (own : Rights) → nat_le (rights_rank All) (rights_rank own) ≡ true → own ≡ All
only_all Read may = absurd (let never : false ≡ true = may in cc)
only_all Write may = absurd (let never : false ≡ true = may in cc)
only_all All may = refl

needs_all : (token : ClientToken) (call : ApiCall) → ¬ (token.rights ≡ All) → MayMake token call → ¬ (call_rights call ≡ All)
needs_all token call less may = λ all.
    less (only_all token.rights (subst (λ (r : Rights). nat_le (rights_rank r) (rights_rank token.rights) ≡ true) all may))

pub writers_only_write : WritersOnlyWrite
writers_only_write token call less may = (
  λ stop. needs_all token call less may (ap call_rights stop),
  λ address. λ meet. needs_all token call less may (ap call_rights meet),
)
