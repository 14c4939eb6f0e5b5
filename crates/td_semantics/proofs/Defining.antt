-- Definitions one after the other.
use Rattle.std.proofs.Common.{◌≡◌, ℕ, suc, ◌+◌, ◌<◌, length, get_or, drop, drop-cons, add-one, List, [], ◌∷◌, refl, sym, ap, subst, ◌∙◌}
use Rattle.td_syntax.specs.declared.script.Definition.{Definition}
use Rattle.td_typing.proofs.KindLemmas.{some_same}
use Rattle.td_headings.specs.Catalogues.{CatalogueData, nothing_defined}
use Rattle.td_headings.specs.Definitions.{Defines}
use Rattle.td_headings.proofs.Deciding.{is_after}
use Rattle.td_semantics.specs.Scripts.{DefinesAll, all_defined, next_defined}

-- a definition makes one catalogue
one : (c d e : CatalogueData) (x : Definition) → Defines c x d → Defines c x e → d ≡ e
one c d e x p q = some_same d e (sym (is_after p) ∙ is_after q)

first : (c : CatalogueData) (x : Definition) (xs : List Definition) (e : CatalogueData) → DefinesAll c (x ∷ xs) e → (d : CatalogueData) × Defines c x d × DefinesAll d xs e
first c x xs e (next_defined {d} p q) = (d, p, q)

-- and definitions one after the other one
pub one_made : (c d e : CatalogueData) (xs : List Definition) → DefinesAll c xs d → DefinesAll c xs e → d ≡ e
one_made c d e [] all_defined all_defined = refl
one_made c d e (x ∷ xs) (next_defined {d = f} p ps) (next_defined {d = g} q qs) = one_made f d e xs ps (subst (λ z. DefinesAll z xs e) (one c g f x q p) qs)

-- what is left of the definitions makes of c what all make of nothing
pub record Walked (all rest : List Definition) (c : CatalogueData) : Type 0 where
  pub goes : (d : CatalogueData) → DefinesAll c rest d → DefinesAll nothing_defined all d
  pub comes : (d : CatalogueData) → DefinesAll nothing_defined all d → DefinesAll c rest d

pub begun : (all : List Definition) (c : CatalogueData) → c ≡ nothing_defined → Walked all all c
begun all c e = subst (Walked all all) (sym e) (record { goes = λ d h. h; comes = λ d h. h })

pub left_at : (all : List Definition) (i : ℕ) (x : Definition) → i < length all → x ≡ get_or all i x → drop i all ≡ x ∷ drop (i + 1) all
left_at all i x within at = drop-cons all i x within ∙ ap (λ (y : Definition). y ∷ drop (suc i) all) (sym at) ∙ ap (λ (n : ℕ). x ∷ drop n all) (sym (add-one i))

pub one_more : (all rest : List Definition) (x : Definition) (c d : CatalogueData) → Walked all (x ∷ rest) c → Defines c x d → Walked all rest d
one_more all rest x c d w p = record {
  goes = λ e h. w.goes e (next_defined p h);
  comes = λ e h. let f = first c x rest e (w.comes e h) in subst (λ z. DefinesAll z rest e) (one c f.0 d x f.1 p) f.2;
}

pub ended : (all : List Definition) (c : CatalogueData) → Walked all [] c → DefinesAll nothing_defined all c
ended all c w = w.goes c all_defined

pub stopped : (all rest : List Definition) (x : Definition) (c : CatalogueData) → Walked all (x ∷ rest) c → ((d : CatalogueData) → Defines c x d → ⊥) → (e : CatalogueData) → DefinesAll nothing_defined all e → ⊥
stopped all rest x c w never e h = let f = first c x rest e (w.comes e h) in never f.0 f.1
