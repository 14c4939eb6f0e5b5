use Rattle.std.proofs.Common.{◌≡◌, ◌∷◌, ◌++◌, ◌∙◌, List, ℕ, ap, subst, append_assoc}
use Rattle.sha2.specs.Hashers.{Holds256}
use Rattle.td_frames.specs.Spelling.{entry_frame, head_of}
use Rattle.td_frames.specs.declared.version.Version.TheVariants.{Second}
use Rattle.td_comparison.proofs.feed.feed_entry.Goals as goal

pub returns : goal.returns
returns c = λ m h.
    let e = c.args.entry.now in
    let head : c.head_bytes.result ≡ 69 ∷ head_of Second e = c.head_bytes.ensures in
    let text : c.as_bytes.result.now ≡ e.text = c.as_bytes.ensures.value ∙ c.as_str.ensures in
    let fed : Holds256 c.update-2.new.self ((m ++ c.head_bytes.result) ++ c.as_bytes.result.now) = c.update-2.ensures (m ++ c.head_bytes.result) (c.update.ensures m h) in
    let whole : ((m ++ c.head_bytes.result) ++ c.as_bytes.result.now) ≡ m ++ entry_frame Second e =
    ap (λ (l : List ℕ). (m ++ l) ++ c.as_bytes.result.now) head ∙ ap (λ (l : List ℕ). (m ++ 69 ∷ head_of Second e) ++ l) text ∙ append_assoc m (69 ∷ head_of Second e) e.text in
    subst (Holds256 c.update-2.new.self) whole fed
