-- The names of constraints among tests.
use Rattle.std.proofs.Common.{◌≡◌, ℕ, ◌||◌, List, [], ◌∷◌, ◌++◌, map, refl, sym, ap, ◌∙◌}
use Rattle.std.specs.List.{list_any}
use Rattle.td_values.specs.TextOrder.{text_equivalence}
use Rattle.td_schema.specs.Kinds.{Name}
use Rattle.td_schema.specs.Schemas.{same_text}
use Rattle.td_typed_trees.specs.declared.tree.Typed.{Typed}
use Rattle.td_headings.specs.Definitions.{is_constraint}
use Rattle.td_headings.specs.ForProofs.TestNames.{constraint_names}
use Rattle.td_headings.specs.declared.defined.Test.{Test}
use Rattle.td_headings.specs.declared.defined.Test.TheVariants as test

pub names_append : (ts us : List Test) → constraint_names (ts ++ us) ≡ constraint_names ts ++ constraint_names us
names_append [] us = refl
names_append (test.Key r ns ∷ ts) us = names_append ts us
names_append (test.Constraint n u ∷ ts) us = ap (λ ns. n ∷ ns) (names_append ts us)

-- tests of keys have none
pub keys_have_none : (r : ℕ) (ks : List (List Name)) → constraint_names (map (test.Key r) ks) ≡ []
keys_have_none r [] = refl
keys_have_none r (k ∷ ks) = keys_have_none r ks

-- a name is that of a constraint where it is among these
pub found_by_name : (n : Name) (ts : List Test) → list_any (is_constraint n) ts ≡ list_any (same_text n) (constraint_names ts)
found_by_name n [] = refl
found_by_name n (test.Key r ns ∷ ts) = found_by_name n ts
found_by_name n (test.Constraint m u ∷ ts) = (λ i. text_equivalence.symm m n i || found_by_name n ts i)

append_none : (ns ms : List Name) → ms ≡ [] → ns ++ ms ≡ ns
append_none [] ms e = e
append_none (n ∷ ns) ms e = ap (λ xs. n ∷ xs) (append_none ns ms e)

-- with tests of keys behind them there are the same
pub same_names : (ns : List Name) (old new keys : List Test) → ns ≡ constraint_names old → new ≡ old ++ keys → constraint_names keys ≡ [] → ns ≡ constraint_names new
same_names ns old new keys is e none = is ∙ sym (append_none (constraint_names old) (constraint_names keys) none) ∙ sym (names_append old keys) ∙ ap constraint_names (sym e)

-- and with a constraint one more
pub one_name_more : (ns more : List Name) (old new : List Test) (n : Name) (u : Typed) → ns ≡ constraint_names old → more ≡ ns ++ n ∷ [] → new ≡ old ++ test.Constraint n u ∷ [] → more ≡ constraint_names new
one_name_more ns more old new n u is e f = e ∙ ap (λ ms. ms ++ n ∷ []) is ∙ sym (names_append old (test.Constraint n u ∷ [])) ∙ ap constraint_names (sym f)
