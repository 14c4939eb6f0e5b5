use Rattle.td_checked_meetings.proofs.Told.{refused_if, stops_told}
use Rattle.td_checked_meetings.proofs.taking.receive.Goals as goal

pub returns-in-Ok-clause-err : goal.returns-in-Ok-clause-err
returns-in-Ok-clause-err g c =
    let (bytes, consumed, told) = c.read_entries-batch.ensures.told in
    refused_if (g.R.Replica.seen c.args.site.now) c.args.scope.now c.read_entries-batch.result.0.items (g.R.Replica.seen c.take_sifted.new.site) (g.S.Source.left c.args.source.now) (g.S.Source.left c.read_entries-batch.new.source)
    (g.S.Source.failures c.args.source.now) (g.S.Source.failures c.read_entries-batch.new.source) bytes consumed c.read_entries-batch.result.1 c.in-Ok.field-0 c.take_sifted.result told c.in-Ok.is c.take_sifted.ensures.err

pub returns-in-Err-clause-err : goal.returns-in-Err-clause-err
returns-in-Err-clause-err g c =
    let (bytes, consumed, told) = c.read_entries-batch.ensures.told in
    stops_told (g.R.Replica.seen c.args.site.now) c.args.scope.now c.read_entries-batch.result.0.items (g.R.Replica.seen c.stopped.new.site) (g.S.Source.left c.args.source.now) (g.S.Source.left c.read_entries-batch.new.source)
    (g.S.Source.failures c.args.source.now) (g.S.Source.failures c.read_entries-batch.new.source) bytes consumed c.read_entries-batch.result.1 c.in-Err.error c.stopped.result told c.in-Err.is c.stopped.ensures.stops
