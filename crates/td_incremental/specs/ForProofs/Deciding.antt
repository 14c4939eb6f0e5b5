-- What is told of expressions, and of the relvars that they name.
use Rattle.std.specs.Prelude.{◌≡◌, ℕ, Bool, true, false, if◌then◌else◌, List, slice_index_or}
use Rattle.td_syntax.specs.declared.tree.BinaryOperator.{BinaryOperator}
use Rattle.td_syntax.specs.declared.tree.BinaryOperator.TheVariants as binary
use Rattle.td_syntax.specs.declared.tree.Nesting.{Nesting}
use Rattle.td_syntax.specs.declared.tree.Nesting.TheVariants as nesting
use Rattle.td_syntax.specs.declared.tree.UnaryOperator.{UnaryOperator}
use Rattle.td_syntax.specs.declared.tree.UnaryOperator.TheVariants as unary
use Rattle.td_typed_trees.specs.declared.tree.Typed.{Typed}
use Rattle.td_typed_trees.specs.declared.tree.Typed.TheVariants as tree
use Rattle.td_headings.specs.Catalogues.{CatalogueData}
use Rattle.td_incremental.specs.Growth.{IsUnread, Spreads, goes_by_left, goes_by_right}
use Rattle.td_incremental.specs.Safety.{Widens}
use Rattle.td_incremental.specs.declared.watching.Growth.{Growth}
use Rattle.td_incremental.specs.declared.watching.Growth.TheVariants as growth

abbrev pub IsGrowth : CatalogueData → ℕ → Typed → Growth → Type 0
IsGrowth c n u growth.Unread = IsUnread c n u
IsGrowth c n u growth.Spreads = Spreads c n u
IsGrowth c n u growth.Other = Unit {0}

-- what is told at each place, of the relvar there; beyond them nothing is told
abbrev pub AreGrowths : CatalogueData → ℕ → List Growth → Type 0
AreGrowths c n gs = (m : ℕ) → IsGrowth c n (tree.Relvar m) (slice_index_or gs m growth.Other)

-- ---- of forms by those of their parts
abbrev pub if_unread : Bool → Growth → Growth
if_unread b g = if b then g else growth.Other

abbrev pub is_union : BinaryOperator → Bool
is_union binary.Union = true
is_union o = false

abbrev pub spreads_if : Bool → Growth
spreads_if b = if b then growth.Spreads else growth.Other

abbrev pub of_both : BinaryOperator → Growth → Growth → Growth
of_both o growth.Unread growth.Unread = growth.Unread
of_both o growth.Unread growth.Spreads = spreads_if (goes_by_right o)
of_both o growth.Spreads growth.Unread = spreads_if (goes_by_left o)
of_both o growth.Spreads growth.Spreads = spreads_if (is_union o)
of_both o growth.Unread growth.Other = growth.Other
of_both o growth.Spreads growth.Other = growth.Other
of_both o growth.Other h = growth.Other

abbrev pub of_nest : Nesting → Growth → Growth
of_nest nesting.Wrap g = g
of_nest nesting.Group growth.Unread = growth.Unread
of_nest nesting.Group growth.Spreads = growth.Other
of_nest nesting.Group growth.Other = growth.Other

-- ---- of constraints
abbrev pub is_and : BinaryOperator → Bool
is_and binary.And = true
is_and o = false

abbrev pub is_emptiness : UnaryOperator → Bool
is_emptiness unary.IsEmpty = true
is_emptiness o = false

abbrev pub of_unary : UnaryOperator → Growth → Bool
of_unary o growth.Unread = true
of_unary o growth.Spreads = is_emptiness o
of_unary o growth.Other = false

abbrev pub is_at_most : BinaryOperator → Bool
is_at_most binary.AtMost = true
is_at_most o = false

abbrev pub is_at_least : BinaryOperator → Bool
is_at_least binary.AtLeast = true
is_at_least o = false

abbrev pub of_comparison : BinaryOperator → Growth → Growth → Bool
of_comparison o growth.Unread growth.Unread = true
of_comparison o growth.Unread growth.Spreads = is_at_least o
of_comparison o growth.Spreads growth.Unread = is_at_most o
of_comparison o growth.Spreads growth.Spreads = false
of_comparison o growth.Unread growth.Other = false
of_comparison o growth.Spreads growth.Other = false
of_comparison o growth.Other h = false

-- ---- of what has all that it had
abbrev pub is_not_matching : BinaryOperator → Bool
is_not_matching binary.NotMatching = true
is_not_matching o = false

-- which relvars are known to, by their places
abbrev pub AreWide : CatalogueData → ℕ → List Bool → Type 0
AreWide c n bs = (m : ℕ) → slice_index_or bs m false ≡ true → Widens c n (tree.Relvar m)

abbrev pub is_minus : BinaryOperator → Bool
is_minus binary.Minus = true
is_minus o = false
