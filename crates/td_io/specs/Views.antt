-- What is known of a source and of a sink at one time, each as one value.
use Rattle.std.specs.Prelude.{ℕ, Bool, List, Option}
use Rattle.td_io.specs.declared.streams.Source as source
use Rattle.td_io.specs.declared.streams.Sink as sink

-- of a source: the bytes that are left to be read, where they are known, and the failures that were counted
pub record Input : Type 0 where
  pub left : Option (List ℕ)
  pub failures : ℕ

-- of a sink: the bytes that were written, where they are known, the failures that were counted, and whether all of
-- these bytes have been handed on
pub record Output : Type 0 where
  pub held : Option (List ℕ)
  pub faults : ℕ
  pub is_flushed : Bool

abbrev pub input_of : {S : Type 0} → source.Ghosts S → S → Input
input_of members s = record { left = members.left s; failures = members.failures s }

abbrev pub output_of : {K : Type 0} → sink.Ghosts K → K → Output
output_of members k = record { held = members.held k; faults = members.faults k; is_flushed = members.is_flushed k }
