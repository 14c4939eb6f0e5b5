-- Links that are asked for, and what is told of them.
use Rattle.std.proofs.Common.{◌≡◌, inl, inr, ◌<◌, ℕ, List, Option, Some, None, Result, Ok, Err, length, map, get_or, option_map, refl, sym, subst}
use Rattle.std.specs.List.{slice_set}
use Rattle.std.specs.Net.Grammar.{IsSocketText, Parses}
use Rattle.std.specs.declared.net.parser.AddrParseError.{AddrParseError}
use Rattle.std.specs.declared.net.socket_addr.SocketAddr.{SocketAddr}
use Rattle.td_replica.specs.Seen.{Seen}
use Rattle.td_replica.specs.declared.calls.Taken.{Taken}
use Rattle.td_meeting.specs.declared.error.MeetingError.{MeetingError}
use Rattle.td_answers.specs.Asking.{AreAskedAt, LinkRequest}
use Rattle.td_answers.specs.Faults.{link_fault}
use Rattle.td_answers.specs.Linked.{LinkAnswered, TwoSteps, linked_answer}
use Rattle.td_answers.specs.ForProofs.Opened.{IsAddress, IsOverNew, IsUnready, TellsAndAsks, fault_before}
use Rattle.td_answers.specs.ForProofs.Said.{Says, place_in}
use Rattle.td_answers.specs.Sites.{Placed, Sites, site_of}
use Rattle.td_answers.specs.declared.links.LinkError.{LinkError}
use Rattle.td_answers.specs.declared.links.LinkError.TheVariants as link_error
use Rattle.td_answers.specs.declared.reply.Reply.{Reply}
use Rattle.td_answers.specs.declared.reply.Reply.TheVariants as reply
use Rattle.td_answers.specs.Replies.{words}
use Rattle.td_answers.proofs.Placing.{found_read}
use Rattle.td_answers.proofs.Saying.{says_more, seen_set}

module _ {L : Type 0} (Two : TwoSteps) (Ask : LinkRequest L) (done : List ℕ) (n : ℕ) (address : List ℕ) (s : Seen) where
  -- the network isn't asked
  unready_by : (r : Result SocketAddr AddrParseError) (text : List ℕ) (l : L) → Parses IsSocketText address r → text ≡ fault_before r → TellsAndAsks Two Ask done n address s text s l l
  unready_by (Ok a) text l parses is = (Ok a, parses, inl (inr is, refl), inr (is, refl))
  unready_by (Err e) text l parses is = (Err e, parses, (is, refl), refl)

  pub tells_unready : (text : List ℕ) (l : L) → IsUnready address text → TellsAndAsks Two Ask done n address s text s l l
  tells_unready text l (r, parses, is) = unready_by r text l parses is

  -- it is asked, and gives no link
  pub tells_unlinked : (a : SocketAddr) (e : LinkError) (text : List ℕ) (old new : L) → IsAddress address a → Ask old a new → text ≡ link_fault e → TellsAndAsks Two Ask done n address s text s old new
  tells_unlinked a link_error.NetFault text old new parses asked is = (Ok a, parses, inl (inl is, refl), inl asked)
  tells_unlinked a link_error.OutOfMemory text old new parses asked is = (Ok a, parses, inl (inr is, refl), inl asked)

  -- a link is opened, and two steps are made over it
  pub tells_linked : (a : SocketAddr) (text : List ℕ) (after : Seen) (old new : L) (r : Result Taken MeetingError) → IsAddress address a → Ask old a new → IsOverNew Two s r after → text ≡ linked_answer done n r
      → TellsAndAsks Two Ask done n address s text after old new
  tells_linked a text after old new r parses asked (link, end, is_new, two) line =
      (Ok a, parses, inr (record { old = link; new = end; answer = r; is_new = is_new; two = two; line = line }), inl asked)

-- ---- by the site's number

pub links_at : {R L : Type 0} (seen : R → Seen) (Two : TwoSteps) (Ask : LinkRequest L) (done : List ℕ) (n : ℕ) (address : List ℕ) (rs : List R) (at : ℕ) (d y : R) (r : Reply) (old new : L) → Some at ≡ option_map place_in (site_of n (map seen rs)) → at < length rs
    → Says (λ text. TellsAndAsks Two Ask done n address (seen (get_or rs at d)) text (seen y) old new) r → Says (λ text. LinkAnswered Two done n address (map seen rs) (site_of n (map seen rs)) text (map seen (slice_set rs at y))) r
links_at seen Two Ask done n address rs at d y r old new place within says =
    let there = found_read seen n rs at d place within in
    says_more (λ text. TellsAndAsks Two Ask done n address (seen (get_or rs at d)) text (seen y) old new) (λ text. LinkAnswered Two done n address (map seen rs) (site_of n (map seen rs)) text (map seen (slice_set rs at y))) r
    (λ text told. subst (λ (o : Option Placed). LinkAnswered Two done n address (map seen rs) o text (map seen (slice_set rs at y))) (sym there)
    (seen y, record { answer = told.0; parses = told.1; told = told.2 }, seen_set seen rs at y)) says

pub asked_at : {R L : Type 0} (seen : R → Seen) (Two : TwoSteps) (Ask : LinkRequest L) (done : List ℕ) (n : ℕ) (address : List ℕ) (rs : List R) (at : ℕ) (d y : R) (r : Reply) (old new : L) → Some at ≡ option_map place_in (site_of n (map seen rs)) → at < length rs
    → Says (λ text. TellsAndAsks Two Ask done n address (seen (get_or rs at d)) text (seen y) old new) r → Says (λ text. AreAskedAt Ask address (site_of n (map seen rs)) text old new) r
asked_at seen Two Ask done n address rs at d y r old new place within says =
    let there = found_read seen n rs at d place within in
    says_more (λ text. TellsAndAsks Two Ask done n address (seen (get_or rs at d)) text (seen y) old new) (λ text. AreAskedAt Ask address (site_of n (map seen rs)) text old new) r
    (λ text told. subst (λ (o : Option Placed). AreAskedAt Ask address o text old new) (sym there) (told.0, told.1, told.3)) says

pub asked_none : {L : Type 0} (P : List ℕ → Type 0) (Ask : LinkRequest L) (n : ℕ) (address : List ℕ) (ss : Sites) (r : Reply) (l : L) → site_of n ss ≡ None → Says P r → Says (λ text. AreAskedAt Ask address (site_of n ss) text l l) r
asked_none P Ask n address ss r l is says = says_more P (λ text. AreAskedAt Ask address (site_of n ss) text l l) r (λ text told. subst (λ (o : Option Placed). AreAskedAt Ask address o text l l) (sym is) refl) says

pub says_words : (P : List ℕ → Type 0) (r : Reply) → Says P r → P (words r)
says_words P (reply.Text text) says = says
says_words P (reply.Table text) says = says
says_words P (reply.Fixed text) says = says
says_words P reply.Quit says = absurd says
