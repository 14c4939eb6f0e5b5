-- What a reply says.
use Rattle.std.specs.Prelude.{◌≡◌, ℕ, false, List, [], string_bytes}
use Rattle.td_headings.specs.Catalogues.{CatalogueData}
use Rattle.td_commands.specs.Lines.{Line, quit, is_quit}
use Rattle.td_answers.specs.Answers.{LineAnswered}
use Rattle.td_answers.specs.Sites.{Sites}
use Rattle.td_answers.specs.declared.reply.Reply.{Reply}
use Rattle.td_answers.specs.declared.reply.Reply.TheVariants as reply

-- the bytes that are put out for it
abbrev pub words : Reply → List ℕ
words (reply.Text text) = string_bytes text
words (reply.Table text) = text.items
words (reply.Fixed text) = text.now
words reply.Quit = []

-- `.quit` ends the workbench; every other line is answered
abbrev pub Replies : CatalogueData → Sites → Line → Reply → Sites → Type 0
Replies c old line reply.Quit new = (line ≡ quit) × (new ≡ old)
Replies c old line r new = (is_quit line ≡ false) × LineAnswered c old line (words r) new
