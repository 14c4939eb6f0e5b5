-- Steps that commute: two of them that follow each other may be exchanged, and each leaves the record that it left.
use Rattle.td_stamps.specs.declared.entry.Entry.{Entry}

pub record Commutes {S R : Type 0} (Sound : S → Type 0) (Step : S → Entry → R → S → Type 0) (Commute : Entry → Entry → Type 0) : Type 0 where
  pub back : (e f : Entry) → Commute e f → Commute f e
  pub exchange : (s t u : S) (e f : Entry) (q r : R) → Commute e f → Sound s → Step s e q t → Step t f r u → (v : S) × Step s f r v × Step v e q u
