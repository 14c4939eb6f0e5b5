use Rattle.std.proofs.Common.{◌≡◌, ℕ, ◌+◌, ◌-◌, ◌<◌, ◌≤◌, List, ◌++◌, refl, sym, ap, ◌∙◌, arith, drop}
use Rattle.td_frames.specs.Reading.{most_entries}
use Rattle.td_stream_bounds.specs.declared.frame.Frame.TheVariants.{Partial, Entry, End, Invalid}
use Rattle.td_stream_bounds.specs.declared.stream.StreamScanner.{StreamScanner}
use Rattle.td_stream_bounds.specs.Extents.{frame_extent}
use Rattle.td_stream_bounds.proofs.Scans.{full, passes, passes_on, stops}
use Rattle.td_stream_bounds.proofs.stream.StreamScanner.advance.Goals as goal

pub returns-in-Partial-clause-extent : goal.returns-in-Partial-clause-extent
returns-in-Partial-clause-extent c =
    let is : frame_extent (drop c.loop-self.self.offset c.args.bytes.now) ≡ Partial = ap frame_extent (sym c.bytes_from.ensures) ∙ sym c.in-Partial.ensures.value in
    sym (stops c.loop-self.self c.args.bytes.now Partial c.loop-self-test.true is) ∙ c.loop-self.invariant.extent

pub returns-in-End-clause-extent : goal.returns-in-End-clause-extent
returns-in-End-clause-extent c =
    let is : frame_extent (drop c.loop-self.self.offset c.args.bytes.now) ≡ End = ap frame_extent (sym c.bytes_from.ensures) ∙ sym c.in-End.ensures.value in
    sym (stops c.loop-self.self c.args.bytes.now End c.loop-self-test.true is) ∙ c.loop-self.invariant.extent

pub returns-in-Invalid-clause-extent : goal.returns-in-Invalid-clause-extent
returns-in-Invalid-clause-extent c =
    let is : frame_extent (drop c.loop-self.self.offset c.args.bytes.now) ≡ Invalid = ap frame_extent (sym c.bytes_from.ensures) ∙ sym c.in-Invalid.ensures.value in
    sym (stops c.loop-self.self c.args.bytes.now Invalid c.loop-self-test.true is) ∙ c.loop-self.invariant.extent

pub loop-self-preserved : goal.loop-self-preserved
loop-self-preserved c =
    let s = c.loop-self.self in
    let n = c.in-Entry.length in
    let t : StreamScanner = record { offset = s.offset + n; entries = s.entries + 1 } in
    let is : frame_extent (drop s.offset c.args.bytes.now) ≡ Entry n = ap frame_extent (sym c.bytes_from.ensures) ∙ sym c.in-Entry.ensures.value in
    record {
      extent = passes s t c.args.bytes.now n c.loop-self-test.true is refl refl ∙ c.loop-self.invariant.extent;
      resumes = λ more. passes_on s t c.args.bytes.now more n c.loop-self-test.true is refl refl ∙ c.loop-self.invariant.resumes more;
    }

pub returns-clause-extent : goal.returns-clause-extent
returns-clause-extent c = c.last_extent.ensures.value ∙ sym (full c.loop-self.self c.args.bytes.now c.loop-self-test.false) ∙ c.loop-self.invariant.extent
