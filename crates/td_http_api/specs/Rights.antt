-- Which rights a call needs.
use Rattle.td_client_tokens.specs.declared.rights.Rights.{Rights}
use Rattle.td_client_tokens.specs.declared.rights.Rights.TheVariants.{Read, Write, All}
use Rattle.td_client_tokens.specs.declared.token.ClientToken.{ClientToken}
use Rattle.td_http_api.specs.Guards.{HasRights}
use Rattle.td_http_api.specs.declared.calls.ApiCall.{ApiCall}
use Rattle.td_http_api.specs.declared.calls.ApiCall.TheVariants.{Statement, Acknowledge, AcknowledgeAlarms, Meet, Stop}

-- who may only read asks; who may write issues and acknowledges too; who may all has peers called and ends the program
abbrev pub call_rights : ApiCall → Rights
call_rights (Statement text key author) = Write
call_rights (Acknowledge stamp) = Write
call_rights (AcknowledgeAlarms site) = Write
call_rights (Meet address) = All
call_rights Stop = All
call_rights _ = Read

-- the token has the rights that the call needs
abbrev pub MayMake : ClientToken → ApiCall → Type 0
MayMake token call = HasRights token (call_rights call)
