-- What stripping a front of a text, and testing whether bytes are text, say in the words of the definitions.
use Rattle.std.proofs.Common.{◌≡◌, ℕ, List, [], ◌++◌, Bool, true, false, cond, take, drop, length, length-append, Option, Some, None, refl, sym, ap, ◌∙◌, arith, take_all, take-append-drop, MatchOption, ◌∷◌, ◌-◌, ◌+◌, ◌≤◌, ◌&&◌, nat_le, unwrap_or, option_map}
use Rattle.std.proofs.Math.Seq.{drop-append_seam}
use Rattle.std.proofs.lemmas.List.{take-append-le}
use Rattle.std.specs.Str.{bytes_eq, is_utf8, IsUtf8}
use Rattle.std.specs.Str.Pattern.{FindsTextPrefix, StripsPrefix, LacksTextAt}
use Rattle.std.specs.Prelude.{◌≢◌}
use Rattle.std.specs.Option.{option_copied}
use Rattle.std.specs.Borrow.{Bor}
use Rattle.std.proofs.lemmas.Slice.Eq.{bytes_eq-Decides}
use Rattle.std.proofs.lemmas.Str.{IsUtf8-from_is_utf8, is_utf8-from_IsUtf8}
use Rattle.std.proofs.lemmas.Bool.{le-leb}
use Rattle.td_commands.specs.declared.command.Command.{Command}
use Rattle.td_commands.specs.declared.command.Command.TheVariants as command
use Rattle.td_commands.specs.Commands.{meant}
use Rattle.td_commands.specs.Lines.{after_front, before_space, Line, faulty, form_of, line_of}

take_front : (front rest : List ℕ) → take (length front) (front ++ rest) ≡ front
take_front front rest = take-append-le (length front) front rest (omega arith) ∙ take_all (length front) front (omega arith)

none_after : (front bs : List ℕ) → LacksTextAt front bs 0 → (b : Bool) → bytes_eq (take (length front) bs) front ≡ b → None ≡ cond b (Some (drop (length front) bs)) None
none_after front bs lacks false e = refl
none_after front bs lacks true e =
    absurd (lacks (drop (length front) bs) (sym (take-append-drop (length front) bs) ∙ ap (λ (f : List ℕ). f ++ drop (length front) bs) ((bytes_eq-Decides _ _).0 e)))

pub after_is : (front bs : List ℕ) (r : Option (Bor (List ℕ))) → MatchOption r (FindsTextPrefix front bs None) (λ x. StripsPrefix (FindsTextPrefix front) bs x.now) → option_copied r ≡ after_front front bs
after_is front bs None lacks = none_after front bs lacks (bytes_eq (take (length front) bs) front) refl
after_is front bs (Some x) (n, (count, split, edge), rest, len) =
    let there : take (length front) bs ≡ front = ap (take (length front)) split ∙ take_front front (drop n bs) in
    let same : bytes_eq (take (length front) bs) front ≡ true = (bytes_eq-Decides _ _).1 there in
    ap Some rest ∙ ap (λ (k : ℕ). Some (drop k bs)) count ∙ rw same refl

-- ---- a space at the end
last_of : (front : List ℕ) → drop (length (front ++ 32 ∷ []) - 1) (front ++ 32 ∷ []) ≡ 32 ∷ []
last_of front = let n = length-append front (32 ∷ []) in let m : length (front ++ 32 ∷ []) - 1 ≡ length front = omega (arith, n) in ap (λ (k : ℕ). drop k (front ++ 32 ∷ [])) m ∙ drop-append_seam front (32 ∷ [])

others_of : (front : List ℕ) → take (length (front ++ 32 ∷ []) - 1) (front ++ 32 ∷ []) ≡ front
others_of front = let n = length-append front (32 ∷ []) in let m : length (front ++ 32 ∷ []) - 1 ≡ length front = omega (arith, n) in ap (λ (k : ℕ). take k (front ++ 32 ∷ [])) m ∙ take_front front (32 ∷ [])

no_space : (bs : List ℕ) → ((front : List ℕ) → bs ≢ front ++ (32 ∷ [])) → (b : Bool) → bytes_eq (drop (length bs - 1) bs) (32 ∷ []) ≡ b → None ≡ cond b (Some (take (length bs - 1) bs)) None
no_space bs never false e = refl
no_space bs never true e =
    absurd (never (take (length bs - 1) bs) (sym (take-append-drop (length bs - 1) bs) ∙ ap (λ (l : List ℕ). take (length bs - 1) bs ++ l) ((bytes_eq-Decides _ _).0 e)))

spaced : (front : List ℕ) → Some front ≡ before_space (front ++ 32 ∷ [])
spaced front =
    let same : bytes_eq (drop (length (front ++ 32 ∷ []) - 1) (front ++ 32 ∷ [])) (32 ∷ []) ≡ true = (bytes_eq-Decides _ _).1 (last_of front) in
    ap Some (sym (others_of front)) ∙ rw same refl

pub before_space_is : (bs : List ℕ) (r : Option (Bor (List ℕ))) → MatchOption r ((front : List ℕ) → bs ≢ front ++ (32 ∷ [])) (λ x. bs ≡ x.now ++ (32 ∷ [])) → option_copied r ≡ before_space bs
before_space_is bs None never = no_space bs never (bytes_eq (drop (length bs - 1) bs) (32 ∷ [])) refl
before_space_is bs (Some x) is = spaced x.now ∙ ap before_space (sym is)

faulty_by : (bs : List ℕ) (a b : Bool) → (IsUtf8 bs → ⊥) → is_utf8 bs ≡ b → faulty ≡ cond (a && b) (unwrap_or (form_of bs) faulty) faulty
faulty_by bs true true text e = absurd (text (IsUtf8-from_is_utf8 bs e))
faulty_by bs true false text e = refl
faulty_by bs false b text e = refl

pub line_faulty : (bs : List ℕ) → (IsUtf8 bs → ⊥) → faulty ≡ line_of bs
line_faulty bs text = faulty_by bs (nat_le (length bs) 16384) (is_utf8 bs) text refl

meant_or : (r : Option Command) (l : Option Line) → option_map meant r ≡ l → meant (unwrap_or r command.Faulty) ≡ unwrap_or l faulty
meant_or None l e = ap (λ (o : Option Line). unwrap_or o faulty) e
meant_or (Some x) l e = ap (λ (o : Option Line). unwrap_or o faulty) e

pub line_read : (bs line : List ℕ) (r : Option Command) (x : Command) → length bs ≤ 16384 → line ≡ bs → IsUtf8 bs → option_map meant r ≡ form_of line → x ≡ unwrap_or r command.Faulty → meant x ≡ line_of bs
line_read bs line r x short same text e u =
    let fits : nat_le (length bs) 16384 ≡ true = le-leb _ _ short in
    let good = is_utf8-from_IsUtf8 bs text in
    rw (fits, good) (ap meant u ∙ meant_or r (form_of bs) (e ∙ ap form_of same))
