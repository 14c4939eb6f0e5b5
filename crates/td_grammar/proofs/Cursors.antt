-- The token at the front, and what goes on with it.
use Rattle.std.proofs.Common.{◌≡◌, ℕ, cond, [], ◌∷◌, Option, Some, None, refl, ◌&&◌}
use Rattle.td_tokens.specs.declared.token.Word.{Word}
use Rattle.td_tokens.specs.declared.token.Word.TheVariants as w
use Rattle.td_tokens.specs.declared.token.TokenKind.{TokenKind}
use Rattle.td_tokens.specs.declared.token.TokenKind.TheVariants as k
use Rattle.td_tokens.specs.Lex.{word, name, int, text}
use Rattle.td_syntax.specs.declared.tree.BinaryOperator.TheVariants as binary
use Rattle.td_grammar.specs.Grammar.{Tokens, Infix, infix_at, infix_after, infix_word, with_rest, not_matching, target_at, assign_at, binds, form_number}
use Rattle.td_grammar.specs.ForProofs.Reader.{look, at, at_name, same_word, tail, word_number}

-- the number by the kind of the token
abbrev pub number_by : Option TokenKind → ℕ
number_by (Some (k.Word v)) = word_number v
number_by _ = 0

binds_not : (ts : Tokens) → form_number (not_matching ts) 5 ≡ 5
binds_not (word w.Matching ∷ ts) = refl
binds_not _ = refl

pub binds_by_look : (ts : Tokens) → binds ts ≡ cond (at w.OpenBrace ts) (cond (target_at (tail ts)) 0 9) (number_by (look ts))
unfolding binds at same_word
binds_by_look (word w.Not ∷ ts) = binds_not ts
binds_by_look _ = refl

abbrev pub infix_kind : Option TokenKind → Tokens → Option Infix
infix_kind (Some (k.Word v)) ts = with_rest (tail ts) (infix_word v)
infix_kind _ ts = None

matching : (ts : Tokens) → not_matching ts ≡ cond (at w.Matching ts) (Some (5, binary.NotMatching, tail ts)) None
unfolding at same_word
matching (word w.Matching ∷ ts) = refl
matching _ = refl

after : (v : Word) (ts : Tokens) → infix_after v ts ≡ cond (same_word v w.Not) (cond (at w.Matching ts) (Some (5, binary.NotMatching, tail ts)) None) (with_rest ts (infix_word v))
unfolding same_word
after w.Not ts = matching ts
after _ ts = refl

pub infix_by_look : (ts : Tokens) → infix_at ts ≡ cond (at w.Not ts) (cond (at w.Matching (tail ts)) (Some (5, binary.NotMatching, tail (tail ts))) None) (infix_kind (look ts) ts)
unfolding at
infix_by_look [] = refl
infix_by_look (name x ∷ ts) = refl
infix_by_look (int n ∷ ts) = refl
infix_by_look (text s ∷ ts) = refl
infix_by_look (word v ∷ ts) = after v ts

assigned : (ts : Tokens) → assign_at ts ≡ at w.Assign ts
unfolding at same_word
assigned (word w.Assign ∷ ts) = refl
assigned _ = refl

pub target_by_look : (ts : Tokens) → target_at ts ≡ (at_name ts && at w.Assign (tail ts))
unfolding at_name
target_by_look (name x ∷ ts) = assigned ts
target_by_look (word v ∷ ts) = refl
target_by_look (int n ∷ ts) = refl
target_by_look (text s ∷ ts) = refl
target_by_look [] = refl
