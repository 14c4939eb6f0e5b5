use Rattle.std.proofs.Common.{ap, ◌∙◌}
use Rattle.std.specs.Option.{option_map_or}
use Rattle.td_stamps.specs.declared.entry.Entry.{Entry}
use Rattle.td_stamps.proofs.Searches.{last_seq_found}
use Rattle.td_stamps.proofs.held.last_seq_of.Goals as goal

pub returns-in-Some : goal.returns-in-Some
returns-in-Some c = ap (λ o. option_map_or (λ (e : Entry). e.seq) o 0) c.in-Some.ensures ∙ last_seq_found c.args.site c.args.entries.now c.requires

pub returns-in-None : goal.returns-in-None
returns-in-None c = ap (λ o. option_map_or (λ (e : Entry). e.seq) o 0) c.in-None.ensures ∙ last_seq_found c.args.site c.args.entries.now c.requires
