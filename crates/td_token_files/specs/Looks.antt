-- What is known of a file: what the last look at it found.
use Rattle.std.specs.Prelude.{◌≡◌, ◌⊎◌, ℕ, List, map, Option, Some, None, Result, Ok, Err, string_bytes, Vec}
use Rattle.std.specs.declared.alloc.Global.{Global}
use Rattle.td_paths.specs.declared.unreadable.Unreadable.{Unreadable}
use Rattle.td_client_tokens.specs.declared.text.ReadTokensError.{ReadTokensError}
use Rattle.td_client_tokens.specs.declared.token.ClientToken.{ClientToken}
use Rattle.td_client_tokens.specs.Texts.{tokens_of}
use Rattle.td_client_tokens.specs.Tokens.{Entry, shown}
use Rattle.td_token_files.specs.declared.error.TokenFileError.{TokenFileError}
use Rattle.td_token_files.specs.declared.error.TokenFileError.TheVariants as error
use Rattle.td_token_files.specs.declared.look.Look.{Look}
use Rattle.td_token_files.specs.declared.look.Look.TheVariants as look

-- what a look finds: a text, or why there is none
pub data FileLook : Type 0 where
  text : List ℕ → FileLook
  open_to_others : FileLook
  no_text : FileLook
  unreadable : Unreadable → FileLook

abbrev pub file_look : Look → FileLook
file_look (look.Text t) = text (string_bytes t)
file_look look.OpenToOthers = open_to_others
file_look look.NoText = no_text
file_look (look.Unreadable f) = unreadable f

abbrev pub with_reason : Result (List Entry) ReadTokensError → Result (List Entry) TokenFileError
with_reason (Ok es) = Ok es
with_reason (Err e) = Err (error.Tokens e)

-- the tokens by what a look finds, or why there are none
abbrev pub tokens_by : FileLook → Result (List Entry) TokenFileError
tokens_by (text bs) = with_reason (tokens_of bs)
tokens_by open_to_others = Err error.OpenToOthers
tokens_by no_text = Err error.NoText
tokens_by (unreadable f) = Err (error.Unreadable f)

-- What a look answers, where the look before found `old`: nothing where it finds the same; else its tokens, or once why there are none.
abbrev pub AnswersLook : FileLook → FileLook → Result (Option (Vec ClientToken Global)) TokenFileError → FileLook → Type 0
AnswersLook old found (Ok None) new = (found ≡ old) × (new ≡ old)
AnswersLook old found (Ok (Some v)) new = (¬ (found ≡ old)) × (new ≡ found) × (tokens_by found ≡ Ok (map shown v.items))
AnswersLook old found (Err e) new = ((e ≡ error.OutOfMemory) × (new ≡ old)) ⊎ ((¬ (found ≡ old)) × (new ≡ found) × (tokens_by found ≡ Err e))
