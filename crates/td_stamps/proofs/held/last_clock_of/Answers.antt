use Rattle.std.proofs.Common.{ap, ◌∙◌}
use Rattle.std.specs.Option.{option_map_or}
use Rattle.td_stamps.specs.declared.entry.Entry.{Entry}
use Rattle.td_stamps.proofs.Searches.{last_clock_found}
use Rattle.td_stamps.proofs.held.last_clock_of.Goals as goal

pub returns-in-Some : goal.returns-in-Some
returns-in-Some c = ap (λ o. option_map_or (λ (e : Entry). e.clock) o 0) c.in-Some.ensures.value ∙ last_clock_found c.args.entries.now c.requires

pub returns-in-None : goal.returns-in-None
returns-in-None c = ap (λ o. option_map_or (λ (e : Entry). e.clock) o 0) c.in-None.ensures.value ∙ last_clock_found c.args.entries.now c.requires
