use Rattle.std.proofs.Common.{take}
use Rattle.std.specs.Io.KnownBytes.{Appends}
use Rattle.std.specs.List.{flat_map}
use Rattle.csv.specs.Writing.{text_written}
use Rattle.td_listings.specs.ForProofs.Written.{IsReady}
use Rattle.td_listings.specs.Tables as spec
use Rattle.td_listings.proofs.records.write_tuples.Given as goal

abbrev pub invariant-loop-tuple : goal.invariant-loop-tuple
invariant-loop-tuple g l =
    let contents = g.W.Write.contents in
    record {
      ready : IsReady l.writer;
      text : Appends (text_written contents l.initial.writer) (text_written contents l.writer) (flat_map spec.tuple_record (take l.tuple-index l.tuples));
    }
