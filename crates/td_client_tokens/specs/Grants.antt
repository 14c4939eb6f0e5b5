-- Rights, and the words for them.
use Rattle.std.specs.Prelude.{ℕ, List, if◌then◌else◌, codes, Option, Some, None}
use Rattle.std.specs.Str.{bytes_eq}
use Rattle.td_client_tokens.specs.declared.rights.Rights.{Rights}
use Rattle.td_client_tokens.specs.declared.rights.Rights.TheVariants.{Read, Write, All}

-- rights of a higher rank include those of a lower one
abbrev pub rights_rank : Rights → ℕ
rights_rank Read = 0
rights_rank Write = 1
rights_rank All = 2

-- the word for rights
abbrev pub word : Rights → List ℕ
word Read = codes "read"
word Write = codes "write"
word All = codes "all"

-- the rights of a word
abbrev pub of_word : List ℕ → Option Rights
of_word bs = if bytes_eq bs (word Read) then Some Read else if bytes_eq bs (word Write) then Some Write
    else if bytes_eq bs (word All) then Some All else None
