-- What replies say.
use Rattle.std.proofs.Common.{◌≡◌, ◌<◌, ℕ, false, List, Option, Some, length, map, get_or, option_map, sym, subst}
use Rattle.std.specs.List.{slice_set}
use Rattle.std.proofs.lemmas.List.{map-set}
use Rattle.td_headings.specs.Catalogues.{CatalogueData}
use Rattle.td_commands.specs.Lines.{Line, is_quit}
use Rattle.td_replica.specs.Seen.{Seen}
use Rattle.td_answers.specs.Answers.{IssueAnswered, LineAnswered, TellsIssued}
use Rattle.td_answers.specs.ForProofs.Said.{Says, place_in}
use Rattle.td_answers.specs.Replies.{Replies}
use Rattle.td_answers.specs.Sites.{Placed, Sites, site_of}
use Rattle.td_answers.specs.declared.reply.Reply.{Reply}
use Rattle.td_answers.specs.declared.reply.Reply.TheVariants as reply
use Rattle.td_answers.proofs.Placing.{found_read}

pub says_more : (P Q : List ℕ → Type 0) (r : Reply) → ((text : List ℕ) → P text → Q text) → Says P r → Says Q r
says_more P Q (reply.Text text) more says = more _ says
says_more P Q (reply.Table text) more says = more _ says
says_more P Q (reply.Fixed text) more says = more _ says
says_more P Q reply.Quit more says = says

pub replies_of : (c : CatalogueData) (old : Sites) (l : Line) (r : Reply) (new : Sites) → is_quit l ≡ false → Says (λ text. LineAnswered c old l text new) r → Replies c old l r new
replies_of c old l (reply.Text text) new other says = (other, says)
replies_of c old l (reply.Table text) new other says = (other, says)
replies_of c old l (reply.Fixed text) new other says = (other, says)
replies_of c old l reply.Quit new other says = absurd says

pub seen_set : {R : Type 0} (seen : R → Seen) (rs : List R) (at : ℕ) (y : R) → map seen (slice_set rs at y) ≡ slice_set (map seen rs) at (seen y)
seen_set seen rs at y = map-set seen rs at y

pub issues : {R : Type 0} (seen : R → Seen) (n : ℕ) (rs : List R) (at : ℕ) (d y : R) (t : List ℕ) (r : Reply) → Some at ≡ option_map place_in (site_of n (map seen rs)) → at < length rs
    → Says (λ text. TellsIssued t (seen (get_or rs at d)) text (seen y)) r → Says (λ text. IssueAnswered t (map seen rs) (site_of n (map seen rs)) text (map seen (slice_set rs at y))) r
issues seen n rs at d y t r place within says =
    let there = found_read seen n rs at d place within in
    let new = map seen (slice_set rs at y) in
    says_more (λ text. TellsIssued t (seen (get_or rs at d)) text (seen y)) (λ text. IssueAnswered t (map seen rs) (site_of n (map seen rs)) text new) r
    (λ text told. subst (λ (o : Option Placed). IssueAnswered t (map seen rs) o text new) (sym there) (seen y, told, seen_set seen rs at y)) says
