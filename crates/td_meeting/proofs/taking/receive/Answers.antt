use Rattle.td_meeting.proofs.Told.{refused_if, stops_told}
use Rattle.td_meeting.proofs.taking.receive.Goals as goal

pub returns-in-Ok-clause-err : goal.returns-in-Ok-clause-err
returns-in-Ok-clause-err g c =
    let (bytes, consumed, told) = c.read_entries-batch.ensures.told in
    refused_if _ _ _ _ _ c.read_entries-batch.result.0.items c.as_slice.result.now _ bytes c.in-Ok.field-0 c.read_entries-batch.result.1 c.take_all.result consumed told c.in-Ok.is c.as_slice.ensures.value c.take_all.ensures.err

pub returns-clause-err : goal.returns-clause-err
returns-clause-err g c =
    let (bytes, consumed, told) = c.read_entries-batch.ensures.told in
    stops_told _ _ _ _ _ c.read_entries-batch.result.0.items c.as_slice-in-Err.result.now _ bytes c.in-Err.error c.read_entries-batch.result.1 c.stopped.result consumed told c.in-Err.is c.as_slice-in-Err.ensures.value c.stopped.ensures.stops
