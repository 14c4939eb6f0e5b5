use Rattle.std.proofs.lemmas.Result.{err_from_is_err_and}
use Rattle.td_frames.specs.Spelling.{entry_frames}
use Rattle.td_frames.specs.declared.version.Version.TheVariants.{Second}
use Rattle.td_frames.proofs.Writing.{front_longer, writes_then}
use Rattle.td_journal.specs.Spelling.{header}
use Rattle.td_journal.proofs.frames.send_journal.Goals as goal

pub returns-in_err-put_header-clause-bytes : goal.returns-in_err-put_header-clause-bytes
returns-in_err-put_header-clause-bytes g c =
    let p = err_from_is_err_and c.from_residual.result c.from_residual.ensures.1 in
    rw p.1 (front_longer _ _ (header Second c.args.site c.args.script.now) (entry_frames Second c.args.entries.now) c.in_err-put_header.ensures.bytes)

pub returns-clause-bytes : goal.returns-clause-bytes
returns-clause-bytes g c =
    writes_then _ _ _ c.send_entries.result (header Second c.args.site c.args.script.now) (entry_frames Second c.args.entries.now) c.in_ok-put_header.ensures.bytes c.send_entries.ensures.bytes
