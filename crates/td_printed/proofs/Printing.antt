-- Two sites that hold the same print the same, and so do lines that ask them.
use Rattle.std.proofs.Common.{◌≡◌, ℕ, false, List, Option, Some, refl, sym, ap, subst, ◌∙◌, true≢false}
use Rattle.td_headings.specs.Catalogues.{CatalogueData}
use Rattle.td_semantics.specs.Scripts.{IsScriptOf}
use Rattle.td_semantics.proofs.OneOpening.{one_catalogue}
use Rattle.td_replica.specs.Seen.{Seen}
use Rattle.td_commands.specs.Lines.{Line, is_quit}
use Rattle.td_listings.specs.Calls.{Tabulates}
use Rattle.td_listings.specs.Laws.{ListingsAgree, LogsAgree, TablesAgree}
use Rattle.td_answers.specs.Answers.{TellsAsked, TellsListing, TellsLog, TellsPast, TellsTable, TellsVector}
use Rattle.td_answers.specs.Answers.{LineAnswered, SiteAnswered, stamp_at}
use Rattle.td_answers.specs.Answers.{ask_answer, list_answer, past_answer, table_answer}
use Rattle.td_answers.specs.Replies.{Replies, words}
use Rattle.td_answers.specs.Sites.{Placed, Sites, site_of}
use Rattle.td_answers.specs.declared.reply.Reply.{Reply}
use Rattle.td_answers.specs.declared.reply.Reply.TheVariants as reply
use Rattle.td_answers.proofs.Placing.{site_of_script}
use Rattle.td_printed.specs.Laws.{PrintedAgree, RepliesAgree}
use Rattle.td_printed.specs.Questions.{ArePrintedAlike, Prints, question_line}
use Rattle.td_printed.specs.Questions.{Question, of_query, of_past, of_listing, of_log, of_vector, of_table}
use Rattle.td_printed.proofs.Queries.{asks_alike, past_alike}
use Rattle.td_printed.proofs.Listings.{counts_alike, lists_alike, logs_alike}
use Rattle.td_printed.proofs.Tables.{tables_alike}

-- what is told is alike where what tells it is
alike_by : (text other a b : List ℕ) → text ≡ a → other ≡ b → ArePrintedAlike a b → ArePrintedAlike text other
alike_by text other a b here there alike =
    let half = subst (λ (x : List ℕ). ArePrintedAlike a x) (sym there) alike in
    subst (λ (x : List ℕ). ArePrintedAlike x other) (sym here) half

pub printed_agree : ListingsAgree → LogsAgree → TablesAgree → PrintedAgree
printed_agree listings logs tables c d s t of_one of_other both same (of_query x) text other p q =
    let alike = asks_alike s t both same x p.answer q.answer p.asks q.asks in
    alike_by text other (ask_answer p.answer) (ask_answer q.answer) p.line q.line alike
printed_agree listings logs tables c d s t of_one of_other both same (of_past x at) text other p q =
    let alike = past_alike s t both same x (stamp_at at) p.answer q.answer p.asks q.asks in
    alike_by text other (past_answer p.answer) (past_answer q.answer) p.line q.line alike
printed_agree listings logs tables c d s t of_one of_other both same of_listing text other p q =
    let alike = lists_alike s t both same listings p.answer q.answer p.lists q.lists in
    alike_by text other (list_answer p.answer) (list_answer q.answer) p.lines q.lines alike
printed_agree listings logs tables c d s t of_one of_other both same of_log text other p q =
    let alike = logs_alike s t both same logs p.answer q.answer p.logs q.logs in
    alike_by text other (list_answer p.answer) (list_answer q.answer) p.lines q.lines alike
printed_agree listings logs tables c d s t of_one of_other both same of_vector text other p q =
    let alike = counts_alike s t both same p.answer q.answer p.counts q.counts in
    alike_by text other (list_answer p.answer) (list_answer q.answer) p.line q.line alike
printed_agree listings logs tables c d s t of_one of_other both same (of_table x) text other p q =
    let here = subst (λ (script : List ℕ). IsScriptOf script c) same.script of_one in
    let one = one_catalogue t.script d c of_other here in
    let there = subst (λ (e : CatalogueData). Tabulates e t x q.answer) one q.tabulates in
    let alike = tables_alike c s t both same x tables p.answer q.answer p.tabulates there in
    alike_by text other (table_answer p.answer) (table_answer q.answer) p.records q.records alike

-- ---- the lines of a workbench

told_there : (Asked : Seen → List ℕ → Type 0) (old new : Sites) (n : ℕ) (a : Placed) (text : List ℕ)
    → site_of n old ≡ Some a → SiteAnswered Asked old (site_of n old) text new → Asked a.1 text
told_there Asked old new n a text there told =
    (subst (λ (o : Option Placed). SiteAnswered Asked old o text new) there told).0

-- what the line of a question is answered is what its site prints
line_prints : (c : CatalogueData) (old new : Sites) (n : ℕ) (a : Placed) (q : Question) (text : List ℕ)
    → site_of n old ≡ Some a → LineAnswered c old (question_line n q) text new → Prints c a.1 q text
line_prints c old new n a (of_query x) text there told = told_there (TellsAsked x) old new n a text there told
line_prints c old new n a (of_past x at) text there told = told_there (TellsPast x at) old new n a text there told
line_prints c old new n a of_listing text there told = told_there TellsListing old new n a text there told
line_prints c old new n a of_log text there told = told_there TellsLog old new n a text there told
line_prints c old new n a of_vector text there told = told_there TellsVector old new n a text there told
line_prints c old new n a (of_table x) text there told = told_there (TellsTable c x) old new n a text there told

not_quit : (n : ℕ) (q : Question) → is_quit (question_line n q) ≡ false
not_quit n (of_query x) = refl
not_quit n (of_past x at) = refl
not_quit n of_listing = refl
not_quit n of_log = refl
not_quit n of_vector = refl
not_quit n (of_table x) = refl

-- a line that is not `.quit` is answered
answered : (c : CatalogueData) (old new : Sites) (line : Line) (r : Reply) → is_quit line ≡ false
    → Replies c old line r new → LineAnswered c old line (words r) new
answered c old new line (reply.Text x) other h = h.1
answered c old new line (reply.Table x) other h = h.1
answered c old new line (reply.Fixed x) other h = h.1
answered c old new line reply.Quit other h = absurd (true≢false (sym (ap is_quit h.0) ∙ other))

pub replies_agree : PrintedAgree → RepliesAgree
replies_agree printed c d ss ts later others n m a b r p of_one of_other here there both same q first second =
    let told = answered c ss later (question_line n q) r (not_quit n q) first in
    let other_told = answered d ts others (question_line m q) p (not_quit m q) second in
    let one = line_prints c ss later n a q (words r) here told in
    let other = line_prints d ts others m b q (words p) there other_told in
    let script = site_of_script c n ss a.1 of_one (a.0, here) in
    let other_script = site_of_script d m ts b.1 of_other (b.0, there) in
    printed c d a.1 b.1 script other_script both same q (words r) (words p) one other
