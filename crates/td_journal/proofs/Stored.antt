-- A site that goes on with the journal from which it came back, put together from what its parts tell.
use Rattle.std.proofs.Common.{◌≡◌, ◌≢◌, ◌<◌, ◌≤◌, inl, inr, ℕ, zero, suc, true, true≢false, List, Option, Result, Ok, Err, MatchResult, refl, sym, subst, ◌∙◌, arith}
use Rattle.td_io.specs.Counted.{counted}
use Rattle.td_io.specs.Views.{Input, Output, output_of}
use Rattle.td_io.specs.declared.streams.Sink as sink
use Rattle.td_replica.specs.Seen.{Seen}
use Rattle.td_frames.specs.declared.version.Version.{Version}
use Rattle.td_frames.specs.declared.version.Version.TheVariants.{Second}
use Rattle.td_journal.specs.ForProofs.Behind.{BeginsNone, IsBehind}
use Rattle.td_journal.specs.Keeping.{Starts, StartsNot}
use Rattle.td_journal.specs.Reopening.{Retakes, RetakesNot}
use Rattle.td_journal.specs.Stores.{GoesOn, IsCutTo, IsGoneOnWith, IsMadeAnew, IsRefused, KeepsNot}
use Rattle.td_journal.specs.declared.keeper.StartError.{StartError}
use Rattle.td_journal.specs.declared.keeper.StartError.TheVariants.{Broken, WriteFault}
use Rattle.td_journal.specs.declared.reopening.ReopenError.{ReopenError}
use Rattle.td_journal.specs.declared.reopening.ReopenError.TheVariants as reopen_error
use Rattle.td_journal.specs.declared.stores.StoreError.{StoreError}
use Rattle.td_journal.specs.declared.stores.StoreError.TheVariants.{OutOfMemory, JournalFile}

pub resumed : (n : ℕ) (s : Seen) (w : Output) → 0 < n → IsBehind n s w w
resumed zero s w some = absurd (omega (arith, some))
resumed (suc n) s w some = refl

pub started : (n : ℕ) (s : Seen) (cut w : Output) → n ≤ 0 → Starts s cut w → IsBehind n s cut w
started zero s cut w none starts = starts
started (suc n) s cut w none starts = absurd (omega (arith, none))

-- a site that is open fails by its writer alone
pub not_written : (s : Seen) (e : StartError) (cut w : Output) → s.live ≡ true → StartsNot s e cut w → StartsNot s WriteFault cut w
not_written s Broken cut w live h = absurd (true≢false (sym live ∙ h.0))
not_written s WriteFault cut w live h = h

pub not_started : {W : Type 0} (writer : sink.Ghosts W) (n : ℕ) (s : Seen) (e : StartError) (cut w : W)
    → n ≤ 0 → s.live ≡ true → StartsNot s e (output_of writer cut) (output_of writer w) → BeginsNone writer n s cut
not_started writer n s e cut w none live h = (omega (arith, none), w, not_written s e (output_of writer cut) (output_of writer w) live h)

-- a keeper behind what was kept goes on with it
pub gone_on : (n : ℕ) (kept : Option (List ℕ)) (s after : Seen) (cut w : Output) → after ≡ s → IsCutTo n kept cut.held → IsBehind n s cut w → IsGoneOnWith Second n kept after w
gone_on zero kept s after cut w same is behind = (cut, is, subst (λ (t : Seen). Starts t cut w) (sym same) behind)
gone_on (suc n) kept s after cut w same is behind = subst (λ (o : Output). IsCutTo (suc n) kept o.held) (sym behind) is

-- what was read of a journal, from its beginning
goes_on : (kept : Option (List ℕ)) (old new : Input) (s after : Seen) (w : Output) (n : ℕ) (v : Version)
    → old.left ≡ kept → Retakes s old new after n v → IsGoneOnWith v n kept after w → GoesOn kept s after w
goes_on kept old new s after w n v begun retakes gone = record {
  failures = old.failures;
  read = new;
  whole = n;
  version = v;
  reopens = subst (λ (l : Option (List ℕ)). Retakes s (record { left = l; failures = old.failures }) new after n v) begun retakes;
  goes_on = gone;
}

-- what was begun beside has taken the old one's place
pub anew : (kept : Option (List ℕ)) (s after : Seen) (empty begun w : Output) → after ≡ s → IsCutTo 0 kept empty.held → Starts s empty begun → w.held ≡ begun.held → IsMadeAnew kept after w
anew kept s after empty begun w same is starts held = (empty, is, begun, subst (λ (t : Seen). Starts t empty begun) (sym same) starts, held)

goes_on_not : (Fails : StoreError → Type 0) (kept : Option (List ℕ)) (s : Seen) (e : StoreError) → Fails e → KeepsNot Fails kept s e
goes_on_not Fails kept s OutOfMemory h = inl h
goes_on_not Fails kept s JournalFile h = inl h

refused_by : (kept : Option (List ℕ)) (old new : Input) (s : Seen) (error : ReopenError) → old.left ≡ kept → RetakesNot s old new error → IsRefused kept s error
refused_by kept old new s error begun retakes = record {
  failures = old.failures;
  read = new;
  refuses = subst (λ (l : Option (List ℕ)). RetakesNot s (record { left = l; failures = old.failures }) new error) begun retakes;
}

-- bytes that were read to where they miss are refused; else the reader has counted a failure
by_bytes : (Fails : StoreError → Type 0) (kept : Option (List ℕ)) (old new : Input) (s : Seen) (error : ReopenError) → (new.failures ≡ counted old.failures → Fails JournalFile)
    → error ≢ reopen_error.OutOfMemory → RetakesNot s old new error → IsRefused kept s error → KeepsNot Fails kept s JournalFile
by_bytes Fails kept old new s reopen_error.OutOfMemory unread had retakes is = absurd (had refl)
by_bytes Fails kept old new s reopen_error.ReadFault unread had retakes is = inl (unread retakes.3)
by_bytes Fails kept old new s (reopen_error.Open e) unread had retakes is = inr (reopen_error.Open e, (had, λ h. cc), is)
by_bytes Fails kept old new s (reopen_error.Refused e) unread had retakes is = inr (reopen_error.Refused e, (had, λ h. cc), is)
by_bytes Fails kept old new s (reopen_error.Take e) unread had retakes is = inr (reopen_error.Take e, (had, λ h. cc), is)

pub not_kept : (Fails : StoreError → Type 0) (kept : Option (List ℕ)) (old new : Input) (s : Seen) (error : ReopenError) (e : StoreError)
    → old.left ≡ kept → RetakesNot s old new error → (new.failures ≡ counted old.failures → Fails JournalFile)
    → (e ≡ OutOfMemory → error ≡ reopen_error.OutOfMemory) → (e ≡ JournalFile → error ≢ reopen_error.OutOfMemory) → KeepsNot Fails kept s e
not_kept Fails kept old new s error OutOfMemory begun retakes unread wanting refused =
    inr (subst (λ (x : ReopenError). IsRefused kept s x) (wanting refl) (refused_by kept old new s error begun retakes))
not_kept Fails kept old new s error JournalFile begun retakes unread wanting refused =
    by_bytes Fails kept old new s error unread (refused refl) retakes (refused_by kept old new s error begun retakes)

-- ---- of what a keeper is made of

module _ {K : Type 0} (seen : K → Seen) (out : K → Output) (Same : K → Type 0) (Fails : StoreError → Type 0) (n : ℕ) where
  pub went_on : {W : Type 0} (writer : sink.Ghosts W) (kept : Option (List ℕ)) (s : Seen) (cut : W) (r : Result K StoreError) → IsCutTo n kept (writer.held cut)
      → ((after : W) → writer.faults after ≡ counted (writer.faults cut) → Fails JournalFile) → ((k : K) → Same k → seen k ≡ s)
      → MatchResult r (λ k. IsBehind n s (output_of writer cut) (out k) × Same k) (λ e. BeginsNone writer n s cut × (e ≡ JournalFile))
      → MatchResult r (λ k. IsGoneOnWith Second n kept (seen k) (out k) × Same k) (λ e. Fails e)
  went_on writer kept s cut (Ok k) is unwritten same (behind, all) = (gone_on n kept s (seen k) (output_of writer cut) (out k) (same k all) is behind, all)
  went_on writer kept s cut (Err e) is unwritten same (none, at) = subst (λ (x : StoreError). Fails x) (sym at) (unwritten none.1 none.2.1.1)

  pub kept_on : (v : Version) (kept : Option (List ℕ)) (old new : Input) (s mid : Seen) (r : Result K StoreError) → old.left ≡ kept → Retakes s old new mid n v
      → ((k : K) → Same k → seen k ≡ mid) → MatchResult r (λ k. IsGoneOnWith v n kept (seen k) (out k) × Same k) (λ e. Fails e)
      → MatchResult r (λ k. GoesOn kept s (seen k) (out k)) (λ e. KeepsNot Fails kept s e)
  kept_on v kept old new s mid (Ok k) begun retakes same (gone, is) =
      goes_on kept old new s (seen k) (out k) n v begun (subst (λ (t : Seen). Retakes s old new t n v) (sym (same k is)) retakes) gone
  kept_on v kept old new s mid (Err e) begun retakes same not = goes_on_not Fails kept s e not
