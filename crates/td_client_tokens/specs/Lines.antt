-- What a line says.
use Rattle.std.specs.Prelude.{ℕ, ◌-◌, ◌<◌, Bool, not, ◌||◌, ◌==◌, nat_eq, nat_lt, if◌then◌else◌, List, [], ◌∷◌, ◌++◌, length, slice_index, take, codes, Option, Some, None, Result, Ok, Err}
use Rattle.std.specs.List.{ends_with, before_first, after_first, position_or_len}
use Rattle.std.specs.Str.{byte}
use Rattle.td_client_tokens.specs.declared.rights.Rights.{Rights}
use Rattle.td_client_tokens.specs.declared.rights.Rights.TheVariants.{Read, Write, All}
use Rattle.td_client_tokens.specs.declared.token.TokenFault.{TokenFault}
use Rattle.td_client_tokens.specs.declared.token.TokenFault.TheVariants as fault
use Rattle.td_client_tokens.specs.Grants.{word}
use Rattle.td_client_tokens.specs.Letters.{is_secret, is_token_name_text}
use Rattle.td_client_tokens.specs.Tokens.{Entry}

abbrev pub is_blank_byte : ℕ → Bool
is_blank_byte b = b == byte " "

-- a blank and the word for rights
abbrev pub ending : Rights → List ℕ
ending r = byte " " ∷ word r

-- the rights at the end of a text, after a blank
abbrev pub rights_at_end : List ℕ → Option Rights
rights_at_end bs = if ends_with nat_eq bs (ending Read) then Some Read else if ends_with nat_eq bs (ending Write) then Some Write
    else if ends_with nat_eq bs (ending All) then Some All else None

-- what is before a blank and these rights
abbrev pub name_before : List ℕ → Rights → List ℕ
name_before bs r = take (length bs - length (ending r)) bs

-- the token with this secret, of a name and rights
abbrev pub named_entry : List ℕ → List ℕ → Option Rights → Result Entry TokenFault
named_entry secret bs None = Err fault.Rights
named_entry secret bs (Some r) = if is_token_name_text (name_before bs r) then Ok (record { secret = secret; name = Some (name_before bs r); rights = r }) else Err fault.Name

-- A line is a secret alone, which has all rights, or a secret, a blank, a name, a blank and rights.
abbrev pub line_entry : List ℕ → Result Entry TokenFault
line_entry bs =
    if not (is_secret (before_first is_blank_byte bs)) then Err fault.Secret
    else if nat_lt (position_or_len is_blank_byte bs) (length bs) then named_entry (before_first is_blank_byte bs) (after_first is_blank_byte bs) (rights_at_end (after_first is_blank_byte bs))
    else Ok (record { secret = bs; name = None; rights = All })

-- a name with blanks around it, and rights
abbrev pub spelled_rest : Option (List ℕ) → Rights → List ℕ
spelled_rest None r = []
spelled_rest (Some n) r = codes " " ++ n ++ codes " " ++ word r

-- the line of a token
abbrev pub spelled : Entry → List ℕ
spelled e = e.secret ++ spelled_rest e.name e.rights ++ codes "\n"
