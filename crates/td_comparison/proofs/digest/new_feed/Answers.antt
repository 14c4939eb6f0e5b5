use Rattle.std.proofs.Common.{arith, sym, subst}
use Rattle.std.proofs.Common.{List}
use Rattle.sha2.specs.Hashers.{Holds256}
use Rattle.td_stamps.specs.declared.entry.Entry.{Entry}
use Rattle.td_frames.specs.Spelling.{entry_frames}
use Rattle.td_frames.specs.declared.version.Version.TheVariants.{Second}
use Rattle.td_comparison.proofs.Beyond.{begun, none_at_0}
use Rattle.td_comparison.proofs.digest.new_feed.Goals as goal

pub returns-clause-fed : goal.returns-clause-fed
returns-clause-fed c = λ xs ranges. record {
  within = omega arith;
  all = λ k low high. absurd (omega arith);
  taken = begun xs c.args.site 0 c.args.number c.new.result (subst (λ (l : List Entry). Holds256 c.new.result (entry_frames Second l)) (sym (none_at_0 c.args.site xs ranges)) c.new.ensures);
}
