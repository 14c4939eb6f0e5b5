-- The laws of what is printed.
use Rattle.std.specs.Prelude.{◌≡◌, ℕ, List, Some}
use Rattle.td_headings.specs.Catalogues.{CatalogueData}
use Rattle.td_semantics.specs.Scripts.{IsScriptOf}
use Rattle.td_replica.specs.Laws.{HoldTheSame}
use Rattle.td_replica.specs.Seen.{Seen}
use Rattle.td_meeting.specs.Meetings.{AreOpen}
use Rattle.td_answers.specs.Replies.{Replies, words}
use Rattle.td_answers.specs.Sites.{AreOfScript, Placed, Sites, site_of}
use Rattle.td_answers.specs.declared.reply.Reply.{Reply}
use Rattle.td_printed.specs.Questions.{ArePrintedAlike, Prints, Question, question_line}

-- two open sites of one script that hold the same set print the same for each question, refusals too, unless one of
-- them tells want of memory, whatever their numbers and limits
abbrev pub PrintedAgree : Type 0
PrintedAgree =
    (c d : CatalogueData) (s t : Seen) → IsScriptOf s.script c → IsScriptOf t.script d → AreOpen s t → HoldTheSame s t
    → (q : Question) (text other : List ℕ) → Prints c s q text → Prints d t q other → ArePrintedAlike text other

-- so do the lines of two workbenches, or of one, that ask two such sites
abbrev pub RepliesAgree : Type 0
RepliesAgree =
    (c d : CatalogueData) (ss ts later others : Sites) (n m : ℕ) (a b : Placed) (r p : Reply)
    → AreOfScript c ss → AreOfScript d ts → site_of n ss ≡ Some a → site_of m ts ≡ Some b
    → AreOpen a.1 b.1 → HoldTheSame a.1 b.1 → (q : Question)
    → Replies c ss (question_line n q) r later → Replies d ts (question_line m q) p others
    → ArePrintedAlike (words r) (words p)
