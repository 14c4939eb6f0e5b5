-- A machine's steps in one, with what is asked of them.
use Rattle.std.specs.Prelude.{ℕ, List}
use Rattle.td_stamps.specs.declared.entry.Entry.{Entry}
use Rattle.td_rollback.specs.Going.{GoByRecords, SoundFrom}

pub record Way (S R : Type 0) : Type 1 where
  pub Sound : S → Type 0
  pub Step : S → Entry → R → S → Type 0
  pub Alike : S → S → ℕ → Type 0
  pub Footprint : Entry → ℕ → Type 0
  pub Target : Entry → ℕ → Type 0
  pub footprint_in : R → List ℕ
  pub targets_in : R → List ℕ
  pub goes : GoByRecords Sound Step Alike Footprint Target footprint_in targets_in

-- those of a machine in a history that began with o
abbrev pub way_of : {S R : Type 0} (sound : S → Type 0) (steps : S → Entry → R → S → Type 0) (alike : S → S → ℕ → Type 0) (origin : S → S) (footprint targets : S → Entry → ℕ → Type 0) (footprint_in targets_in : R → List ℕ)
    → ((o : S) → GoByRecords (SoundFrom sound origin o) steps alike (footprint o) (targets o) footprint_in targets_in) → S → Way S R
way_of sound steps alike origin footprint targets footprint_in targets_in goes o = record {
  Sound = SoundFrom sound origin o;
  Step = steps;
  Alike = alike;
  Footprint = footprint o;
  Target = targets o;
  footprint_in = footprint_in;
  targets_in = targets_in;
  goes = goes o;
}
