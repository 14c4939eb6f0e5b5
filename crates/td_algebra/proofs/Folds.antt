-- What summaries make of the values of their terms.
use Rattle.std.proofs.Common.{Result, Err, ap}
use Rattle.td_algebra.specs.declared.errors.Stop.{Stop}
use Rattle.td_algebra.specs.declared.errors.Fault.{Fault}
use Rattle.td_algebra.specs.declared.errors.Fault.TheVariants.{Raised, OutOfMemory, Wanting}
use Rattle.td_algebra.specs.Raising.{Answers, AnswersBy, and_then}

-- the error of the terms stands, or what is made of their values
pub fails_so : {A B V W : Type 0} (see : V → A) (f : Fault W) (a : Result A Stop) (k : A → Result B Stop) → AnswersBy see (Err f) a → Answers (Err f) (and_then a k)
fails_so see (Raised e) a k is = ap (λ r. and_then r k) is
fails_so see OutOfMemory a k is = tt
fails_so see (Wanting w) a k is = tt
