-- Texts that end in a word.
use Rattle.std.proofs.Common.{◌≡◌, ◌≤◌, ◌+◌, ◌-◌, ℕ, Bool, true, false, cond, eqb, List, length, take, codes, Option, Some, None, refl, ap, sym, arith, subst, rules}
use Rattle.std.specs.List.{ends_with}
use Rattle.std.specs.Str.{IsCharBoundary}
use Rattle.std.specs.Str.Pattern.{FindsTextSuffix, StripsSuffix}
use Rattle.std.proofs.lemmas.Str.Pattern.{ends_text}
use Rattle.td_client_tokens.specs.declared.rights.Rights.{Rights}
use Rattle.td_client_tokens.specs.declared.rights.Rights.TheVariants.{Read, Write, All}
use Rattle.td_client_tokens.specs.Lines.{ending, rights_at_end, name_before}

lacks : (n s : List ℕ) → FindsTextSuffix n s None → ends_with eqb s n ≡ false
lacks n s h = sym (ends_text false n s h)

has : (n s x : List ℕ) → StripsSuffix (FindsTextSuffix n) s x → ends_with eqb s n ≡ true
has n s x h =
    let k = h.0 in
    let fits : k ≤ length s = omega arith in
    let at : IsCharBoundary s (length s - k) = subst (λ (m : ℕ). IsCharBoundary s (length s - m)) (sym h.1.0) h.1.2 in
    sym (ends_text true n s (k, h.1, fits, at))

front : (n s x : List ℕ) → StripsSuffix (FindsTextSuffix n) s x → x ≡ take (length s - length n) s
front n s x h = subst (λ (m : ℕ). x ≡ take (length s - m) s) h.1.0 h.2

chosen : (a b d : Bool) (o : Option Rights) → a ≡ false → b ≡ false → cond d (Some All) None ≡ o → cond a (Some Read) (cond b (Some Write) (cond d (Some All) None)) ≡ o
chosen false false d o p q e = e
chosen true b d o p q e = absurd cc
chosen false true d o p q e = absurd cc

pub none_at_end : (s : List ℕ) → FindsTextSuffix (codes " read") s None → FindsTextSuffix (codes " write") s None → FindsTextSuffix (codes " all") s None → rights_at_end s ≡ None
none_at_end s a b d = chosen _ _ _ None (lacks (ending Read) s a) (lacks (ending Write) s b) (ap (λ t. cond t (Some All) None) (lacks (ending All) s d))

pub all_at_end : (s x : List ℕ) → FindsTextSuffix (codes " read") s None → FindsTextSuffix (codes " write") s None → StripsSuffix (FindsTextSuffix (codes " all")) s x → (rights_at_end s ≡ Some All) × (x ≡ name_before s All)
all_at_end s x a b d = (chosen _ _ _ (Some All) (lacks (ending Read) s a) (lacks (ending Write) s b) (ap (λ t. cond t (Some All) None) (has (ending All) s x d)), front (ending All) s x d)
