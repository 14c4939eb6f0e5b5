-- Fields one after the other.
use Rattle.std.proofs.Common.{◌≡◌, ℕ, ◌<◌, ltb, Bool, true, false, not, List, ◌++◌, length, Option, Result, Ok, Err, refl, ap, ◌∙◌, append_assoc, arith, length-append}
use Rattle.std.proofs.lemmas.Bool.{le-ltb, lt-ltb}
use Rattle.std.proofs.lemmas.List.{take_at, take_all, drop_at}
use Rattle.td_frames.specs.declared.error.FrameError.{FrameError}
use Rattle.td_frames.specs.declared.error.FrameError.TheVariants.{OutOfMemory, ReadFault, Cut, Magic, Version, BadFrame}
use Rattle.td_frames.specs.Reading.{Miss, short, checked_at, then_at, ToldErr, ReadsValue}

pub checked_cut : {A : Type 0} (n : ℕ) (test : List ℕ → Bool) (value : List ℕ → A) (miss : Miss) (b : List ℕ) → length b < n → checked_at n test value miss b ≡ Err short
checked_cut n test value miss b lt = rw (lt-ltb (length b) n lt) refl

pub checked_passes : {A : Type 0} (n : ℕ) (test : List ℕ → Bool) (value : List ℕ → A) (miss : Miss) (b more : List ℕ) → length b ≡ n → test b ≡ true
    → checked_at n test value miss (b ++ more) ≡ Ok (value b, more)
checked_passes n test value miss b more len passes =
    let long : ltb (length (b ++ more)) n ≡ false = le-ltb _ _ (omega (arith, length-append b more)) in
    rw (long, take_at b more n len, drop_at b more n len, passes) refl

pub checked_fails : {A : Type 0} (n : ℕ) (test : List ℕ → Bool) (value : List ℕ → A) (miss : Miss) (b : List ℕ) → length b ≡ n → test b ≡ false → checked_at n test value miss b ≡ Err miss
checked_fails n test value miss b len fails =
    let long : ltb (length b) n ≡ false = le-ltb _ _ (omega (arith, len)) in
    rw (long, take_all n b (omega (arith, len)), fails) refl

-- what is told of the first is told of both
pub told_then : {A B : Type 0} (e : FrameError) (r : Result (A × List ℕ) Miss) (next : A → List ℕ → Result (B × List ℕ) Miss) (left : Option (List ℕ)) (old new : ℕ)
    → ToldErr e r left old new → ToldErr e (then_at r next) left old new
told_then OutOfMemory r next left old new h = h
told_then ReadFault r next left old new h = (ap (λ x. then_at x next) h.0, h.1)
told_then Cut r next left old new h = (ap (λ x. then_at x next) h.0, h.1, h.2)
told_then Magic r next left old new h = (ap (λ x. then_at x next) h.0, h.1)
told_then Version r next left old new h = (ap (λ x. then_at x next) h.0, h.1)
told_then BadFrame r next left old new h = (ap (λ x. then_at x next) h.0, h.1)

pub told_as : {A : Type 0} (e : FrameError) (r s : Result (A × List ℕ) Miss) (left : Option (List ℕ)) (old new : ℕ) → r ≡ s → ToldErr e s left old new → ToldErr e r left old new
told_as e r s left old new same h = rw same h

-- one thing that is read whole, and then what is read after it
pub reads_then : {A B : Type 0} (first : List ℕ → Result (A × List ℕ) Miss) (next : A → List ℕ → Result (B × List ℕ) Miss) (x : A) (b c : List ℕ) (r : Result B FrameError)
    (left : Option (List ℕ)) (old mid new : ℕ) → ((more : List ℕ) → first (b ++ more) ≡ Ok (x, more)) → mid ≡ old → ReadsValue (next x) c r left mid new
    → ReadsValue (λ bytes. then_at (first bytes) next) (b ++ c) r left old new
reads_then first next x b c (Ok y) left old mid new whole same h =
    ((λ more. ap (λ bytes. then_at (first bytes) next) (append_assoc b c more) ∙ ap (λ r. then_at r next) (whole (c ++ more)) ∙ h.0 more), h.1 ∙ same)
reads_then first next x b c (Err e) left old mid new whole same h =
    told_as e (then_at (first (b ++ c)) next) (next x c) left old new (ap (λ r. then_at r next) (whole c)) (rw (← same) h)

pub passed : (t : Bool) → false ≡ not t → t ≡ true
passed true e = refl
passed false e = absurd cc

pub failed : (t : Bool) → true ≡ not t → t ≡ false
failed true e = absurd cc
failed false e = refl
