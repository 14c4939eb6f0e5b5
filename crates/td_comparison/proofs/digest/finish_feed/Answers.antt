use Rattle.std.proofs.Common.{rules}
use Rattle.sha2.specs.Hashers.{Holds256}
use Rattle.td_frames.specs.Spelling.{entry_frames}
use Rattle.td_frames.specs.declared.version.Version.TheVariants.{Second}
use Rattle.td_comparison.specs.Digests.{first_entries}
use Rattle.td_comparison.proofs.Beyond.{all_taken}
use Rattle.td_comparison.proofs.digest.finish_feed.Goals as goal

pub returns : goal.returns
returns c = λ xs set fed.
    let f = c.args.feed.now in
    let taken : Holds256 f.hasher (entry_frames Second (first_entries f.site f.number xs)) = all_taken xs f set fed in
    search (rules, taken)
