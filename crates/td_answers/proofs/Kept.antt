-- Sites keep their scripts.
use Rattle.std.proofs.Common.{◌≡◌, ◌==◌, inl, inr, ℕ, Bool, true, false, cond, List, Option, Some, None, Result, Ok, Err, refl, sym, subst}
use Rattle.std.specs.List.{slice_get, slice_set}
use Rattle.td_headings.specs.Catalogues.{CatalogueData}
use Rattle.td_commands.specs.Lines.{Line, nothing, quit, issue, query, query_at, meet, listing, log, vector, table, serve, call, faulty}
use Rattle.td_semantics.specs.Scripts.{IsScriptOf}
use Rattle.td_replica.specs.Seen.{Seen}
use Rattle.td_replica.specs.declared.calls.Taken.{Taken}
use Rattle.td_replica.specs.declared.refusal.TakeError.{TakeError}
use Rattle.td_replica.specs.declared.refusal.TakeError.TheVariants as take_error
use Rattle.td_answers.specs.Answers.{IssueAnswered, LineAnswered, MeetAnswered, SiteAnswered}
use Rattle.td_meeting.specs.Meetings.{Meets, MeetsNot, Stay, Stops, TakesFrom}
use Rattle.td_meeting.specs.declared.error.MeetingError.{MeetingError}
use Rattle.td_meeting.specs.declared.error.MeetingError.TheVariants as meeting_error
use Rattle.td_meeting.specs.declared.meeting.Met.{Met}
use Rattle.td_meeting.specs.declared.meeting.MeetingRefusal.{MeetingRefusal}
use Rattle.td_answers.specs.Linked.{CallsOver, LinkAnswered, ServesOver, TwoSteps}
use Rattle.td_answers.specs.Replies.{Replies, words}
use Rattle.td_answers.specs.Sites.{AreOfScript, Placed, Sites, site_of, sites_of, two_of}
use Rattle.td_answers.specs.declared.reply.Reply.{Reply}
use Rattle.td_answers.specs.declared.reply.Reply.TheVariants as reply
use Rattle.td_answers.proofs.Linked.{KeepsScript, calls_keep, link_keeps, serves_keep}
use Rattle.td_answers.proofs.Placing.{all_set, all_there, site_there}
use Rattle.td_answers.proofs.Scripts.{issue_keeps, same_script, take_keeps}

takes_keep : (s t : Seen) (r : Result Taken TakeError) (after : Seen) → TakesFrom s t r after → after.script ≡ s.script
takes_keep s t r after told = take_keeps s told.batch r after told.takes

pub record Keep (s t after other : Seen) : Type 0 where
  pub first : after.script ≡ s.script
  pub second : other.script ≡ t.script

stay_keeps : (s t : Seen) (took : ℕ) (after other : Seen) → Stay s t took after other → Keep s t after other
stay_keeps s t took after other told = record { first = same_script s after told.0; second = same_script t other told.1 }

stop_keeps : (s t : Seen) (e : TakeError) (took : ℕ) (after other : Seen) → Stops s t e took after other → Keep s t after other
stop_keeps s t e took after other (inl told) = record { first = takes_keep s t (Err e) after told.0; second = same_script t other told.1 }
stop_keeps s t e took after other (inr (taken, first, told, count)) = record { first = takes_keep s t (Ok taken) after first; second = takes_keep t after (Err e) other told }

meets_not_keeps : (s t : Seen) (e : MeetingError) (took : ℕ) (after other : Seen) → MeetsNot s t e took after other → Keep s t after other
meets_not_keeps s t meeting_error.Broken took after other told = stay_keeps s t took after other told.1
meets_not_keeps s t meeting_error.OtherScript took after other told = stay_keeps s t took after other told.2
meets_not_keeps s t meeting_error.SameSite took after other told = stay_keeps s t took after other told.3
meets_not_keeps s t meeting_error.OutOfMemory took after other (both, two, inl told) = stay_keeps s t took after other told
meets_not_keeps s t meeting_error.OutOfMemory took after other (both, two, inr (x, first, same, count)) = record { first = takes_keep s t (Ok x) after first; second = same_script t other same }
meets_not_keeps s t (meeting_error.Take take_error.Broken) took after other told = absurd told
meets_not_keeps s t (meeting_error.Take take_error.OutOfMemory) took after other told = absurd told
meets_not_keeps s t (meeting_error.Take take_error.BadEntry) took after other told = stop_keeps s t take_error.BadEntry took after other told.1
meets_not_keeps s t (meeting_error.Take (take_error.Clash site seq)) took after other told = stop_keeps s t (take_error.Clash site seq) took after other told.1
meets_not_keeps s t (meeting_error.Take take_error.Full) took after other told = stop_keeps s t take_error.Full took after other told.1
meets_not_keeps s t (meeting_error.Take take_error.JournalWrite) took after other told = stop_keeps s t take_error.JournalWrite took after other told.1
meets_not_keeps s t (meeting_error.Frame e taken) took after other told = absurd told
meets_not_keeps s t (meeting_error.WriteFault taken) took after other told = absurd told

meet_keeps : (s t : Seen) (r : Result Met MeetingRefusal) (after other : Seen) → Meets s t r after other → Keep s t after other
meet_keeps s t (Ok met) after other told = record { first = takes_keep s t (Ok told.gains) after told.first; second = takes_keep t after (Ok told.gives) other told.second }
meet_keeps s t (Err r) after other told = meets_not_keeps s t r.error r.first_took after other told

-- ---- all sites

none_changes : (c : CatalogueData) (old new : Sites) → AreOfScript c old → new ≡ old → AreOfScript c new
none_changes c old new all is = subst (AreOfScript c) (sym is) all

of_its_script : (c : CatalogueData) (s after : Seen) → IsScriptOf s.script c → after.script ≡ s.script → IsScriptOf after.script c
of_its_script c s after of is = subst (λ t. IsScriptOf t c) (sym is) of

issue_all : (c : CatalogueData) (t : List ℕ) (old : Sites) (o : Option Placed) (text : List ℕ) (new : Sites) → ((p : Placed) → o ≡ Some p → slice_get old p.0 ≡ Some p.1) → AreOfScript c old → IssueAnswered t old o text new → AreOfScript c new
issue_all c t old None text new there all told = none_changes c old new all told.1
issue_all c t old (Some p) text new there all (after, told, is) =
    let of = all_there (λ s. IsScriptOf s.script c) old p.0 p.1 all (there p refl) in
    subst (AreOfScript c) (sym is) (all_set (λ s. IsScriptOf s.script c) old p.0 after all (of_its_script c p.1 after of (issue_keeps p.1 t told.answer after told.issues)))

link_all : (Two : TwoSteps) (done : List ℕ) (n : ℕ) (address : List ℕ) (c : CatalogueData) (old : Sites) (o : Option Placed) (text : List ℕ) (new : Sites) → KeepsScript Two → ((p : Placed) → o ≡ Some p → slice_get old p.0 ≡ Some p.1) → AreOfScript c old
    → LinkAnswered Two done n address old o text new → AreOfScript c new
link_all Two done n address c old None text new keeps there all told = none_changes c old new all told.1
link_all Two done n address c old (Some p) text new keeps there all (after, told, is) =
    let of = all_there (λ s. IsScriptOf s.script c) old p.0 p.1 all (there p refl) in
    subst (AreOfScript c) (sym is) (all_set (λ s. IsScriptOf s.script c) old p.0 after all (of_its_script c p.1 after of (link_keeps Two done n told.answer p.1 text after keeps told.told)))

tells_all : (c : CatalogueData) (Asked : Seen → List ℕ → Type 0) (old : Sites) (o : Option Placed) (text : List ℕ) (new : Sites) → AreOfScript c old → SiteAnswered Asked old o text new → AreOfScript c new
tells_all c Asked old None text new all told = none_changes c old new all told.1
tells_all c Asked old (Some p) text new all told = none_changes c old new all told.1

pub record AreThere (ss : Sites) (two : Placed × Placed) : Type 0 where
  pub first : slice_get ss two.0.0 ≡ Some two.0.1
  pub second : slice_get ss two.1.0 ≡ Some two.1.1

meet_all : (c : CatalogueData) (n m : ℕ) (old : Sites) (o : Option (Placed × Placed)) (text : List ℕ) (new : Sites) → ((two : Placed × Placed) → o ≡ Some two → AreThere old two) → AreOfScript c old → MeetAnswered n m old o text new → AreOfScript c new
meet_all c n m old None text new there all told = none_changes c old new all told.1
meet_all c n m old (Some two) text new there all (after, other, told, is) =
    let at = there two refl in
    let first = all_there (λ s. IsScriptOf s.script c) old two.0.0 two.0.1 all at.first in
    let second = all_there (λ s. IsScriptOf s.script c) old two.1.0 two.1.1 all at.second in
    let keep = meet_keeps two.0.1 two.1.1 told.answer after other told.meets in
    let once = all_set (λ s. IsScriptOf s.script c) old two.0.0 after all (of_its_script c two.0.1 after first keep.first) in
    subst (AreOfScript c) (sym is) (all_set (λ s. IsScriptOf s.script c) (slice_set old two.0.0 after) two.1.0 other once (of_its_script c two.1.1 other second keep.second))

apart_by : (old : Sites) (p q : Placed) (b : Bool) (two : Placed × Placed) → slice_get old p.0 ≡ Some p.1 → slice_get old q.0 ≡ Some q.1 → cond b None (Some (p, q)) ≡ Some two → AreThere old two
apart_by old p q true two at_p at_q e = cc
apart_by old p q false two at_p at_q e =
    let same : ◌≡◌ {A = Placed × Placed} (p, q) two = cc in
    subst (AreThere old) same (record { first = at_p; second = at_q })

two_by : (old : Sites) (o x : Option Placed) (two : Placed × Placed) → ((p : Placed) → o ≡ Some p → slice_get old p.0 ≡ Some p.1) → ((p : Placed) → x ≡ Some p → slice_get old p.0 ≡ Some p.1) → two_of o x ≡ Some two → AreThere old two
two_by old None x two at_o at_x e = cc
two_by old (Some p) None two at_o at_x e = cc
two_by old (Some p) (Some q) two at_o at_x e = apart_by old p q (p.0 == q.0) two (at_o p refl) (at_x q refl) e

answered_keeps : (c : CatalogueData) (old : Sites) (l : Line) (text : List ℕ) (new : Sites) → AreOfScript c old → LineAnswered c old l text new → AreOfScript c new
answered_keeps c old nothing text new all told = none_changes c old new all told.1
answered_keeps c old quit text new all told = none_changes c old new all told.1
answered_keeps c old faulty text new all told = none_changes c old new all told.1
answered_keeps c old (issue n t) text new all told = issue_all c t old (site_of n old) text new (site_there n old) all told
answered_keeps c old (query n t) text new all told = tells_all c _ old (site_of n old) text new all told
answered_keeps c old (query_at n t at) text new all told = tells_all c _ old (site_of n old) text new all told
answered_keeps c old (meet n m) text new all told = meet_all c n m old (sites_of n m old) text new (λ two. two_by old (site_of n old) (site_of m old) two (site_there n old) (site_there m old)) all told
answered_keeps c old (listing n) text new all told = tells_all c _ old (site_of n old) text new all told
answered_keeps c old (log n) text new all told = tells_all c _ old (site_of n old) text new all told
answered_keeps c old (vector n) text new all told = tells_all c _ old (site_of n old) text new all told
answered_keeps c old (table n x) text new all told = tells_all c _ old (site_of n old) text new all told
answered_keeps c old (serve n address) text new all told = link_all ServesOver _ n address c old (site_of n old) text new serves_keep (site_there n old) all told
answered_keeps c old (call n address) text new all told = link_all CallsOver _ n address c old (site_of n old) text new calls_keep (site_there n old) all told

pub replies_keep : (c : CatalogueData) (old : Sites) (l : Line) (r : Reply) (new : Sites) → AreOfScript c old → Replies c old l r new → AreOfScript c new
replies_keep c old l reply.Quit new all told = none_changes c old new all told.1
replies_keep c old l (reply.Text text) new all told = answered_keeps c old l (words (reply.Text text)) new all told.1
replies_keep c old l (reply.Table text) new all told = answered_keeps c old l (words (reply.Table text)) new all told.1
replies_keep c old l (reply.Fixed text) new all told = answered_keeps c old l (words (reply.Fixed text)) new all told.1
