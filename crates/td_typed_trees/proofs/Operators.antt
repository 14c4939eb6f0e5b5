-- Operators of one rank are one.
use Rattle.std.proofs.Common.{◌≡◌, ℕ, [], ◌∷◌, get_or, refl, sym, ap, ◌∙◌}
use denote.Enum.Declared.{tag_of}
use Rattle.td_syntax.specs.contracts.tree.Nesting as nesting
use Rattle.td_syntax.specs.declared.tree.Nesting.{Nesting}
use Rattle.td_syntax.specs.declared.tree.Nesting.TheVariants as n
use Rattle.td_syntax.specs.contracts.tree.UnaryOperator as unary
use Rattle.td_syntax.specs.declared.tree.UnaryOperator.{UnaryOperator}
use Rattle.td_syntax.specs.declared.tree.UnaryOperator.TheVariants as u
use Rattle.td_syntax.specs.contracts.tree.BinaryOperator as binary
use Rattle.td_syntax.specs.declared.tree.BinaryOperator.{BinaryOperator}
use Rattle.td_syntax.specs.declared.tree.BinaryOperator.TheVariants as b

abbrev nesting_at : ℕ → Nesting
nesting_at rank = get_or (n.Group ∷ n.Wrap ∷ []) rank n.Group

nesting_back : (a : Nesting) → nesting_at (tag_of nesting.the_type a) ≡ a
nesting_back n.Group = refl
nesting_back n.Wrap = refl

pub same_nesting : (a b : Nesting) → tag_of nesting.the_type a ≡ tag_of nesting.the_type b → a ≡ b
same_nesting a b e = sym (nesting_back a) ∙ ap nesting_at e ∙ nesting_back b

abbrev unary_at : ℕ → UnaryOperator
unary_at rank = get_or (u.Not ∷ u.Negate ∷ u.Closure ∷ u.TupleFrom ∷ u.IsEmpty ∷ u.Count ∷ []) rank u.Not

unary_back : (a : UnaryOperator) → unary_at (tag_of unary.the_type a) ≡ a
unary_back u.Not = refl
unary_back u.Negate = refl
unary_back u.Closure = refl
unary_back u.TupleFrom = refl
unary_back u.IsEmpty = refl
unary_back u.Count = refl

pub same_unary : (a b : UnaryOperator) → tag_of unary.the_type a ≡ tag_of unary.the_type b → a ≡ b
same_unary a b e = sym (unary_back a) ∙ ap unary_at e ∙ unary_back b

abbrev binary_at : ℕ → BinaryOperator
binary_at rank =
    get_or (
    b.Or ∷ b.Xor ∷ b.And ∷ b.Equals ∷ b.Differs ∷ b.Less ∷ b.Greater ∷ b.AtMost ∷ b.AtLeast ∷ b.In ∷ b.Join
    ∷ b.Union ∷ b.Intersect ∷ b.Minus ∷ b.Compose ∷ b.Matching ∷ b.NotMatching ∷ b.Add ∷ b.Subtract
    ∷ b.Concatenate ∷ b.Multiply ∷ b.Divide ∷ []
    ) rank b.Or

binary_back : (a : BinaryOperator) → binary_at (tag_of binary.the_type a) ≡ a
binary_back b.Or = refl
binary_back b.Xor = refl
binary_back b.And = refl
binary_back b.Equals = refl
binary_back b.Differs = refl
binary_back b.Less = refl
binary_back b.Greater = refl
binary_back b.AtMost = refl
binary_back b.AtLeast = refl
binary_back b.In = refl
binary_back b.Join = refl
binary_back b.Union = refl
binary_back b.Intersect = refl
binary_back b.Minus = refl
binary_back b.Compose = refl
binary_back b.Matching = refl
binary_back b.NotMatching = refl
binary_back b.Add = refl
binary_back b.Subtract = refl
binary_back b.Concatenate = refl
binary_back b.Multiply = refl
binary_back b.Divide = refl

pub same_binary : (o p : BinaryOperator) → tag_of binary.the_type o ≡ tag_of binary.the_type p → o ≡ p
same_binary o p e = sym (binary_back o) ∙ ap binary_at e ∙ binary_back p
