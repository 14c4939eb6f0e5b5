-- Relvars of which one changed: what does not read it is the same, and so it stays with all virtual relvars.
use Rattle.std.proofs.Common.{◌≡◌, ⊎_elim, ℕ, true, List, [], ◌∷◌, Option, Some, None, if◌then◌else◌, Result, refl, ap, sym, ◌∙◌, subst, true≢false, eq-eqb, ne_eqb}
use Rattle.std.specs.Prelude.{slice_get}
use Rattle.std.specs.List.{filter_map, cons_option}
use Rattle.std.proofs.lemmas.Bool.{cases_eq}
use Rattle.td_values.specs.Rows.{RowsData}
use Rattle.td_typed_trees.specs.declared.expression.VirtualUnder.{VirtualUnder}
use Rattle.td_typed_trees.specs.declared.tree.Typed.{Typed}
use Rattle.td_typed_trees.specs.declared.tree.Typed.TheVariants as tree
use Rattle.td_algebra.specs.declared.errors.Stop.{Stop}
use Rattle.td_headings.specs.Catalogues.{CatalogueData}
use Rattle.td_headings.specs.Expressions.{virtual_at, virtual_of}
use Rattle.td_headings.specs.Reached.{is_base}
use Rattle.td_headings.specs.declared.defined.Origin.{Origin}
use Rattle.td_headings.specs.declared.defined.Origin.TheVariants as origin
use Rattle.td_meaning.specs.Mean.{Meaning, Relvars, Selection, mean, rows_in}
use Rattle.td_semantics.specs.Meanings.{no_names, with_virtual, with_virtuals}
use Rattle.td_incremental.specs.Growth.{IsUnread}
use Rattle.td_incremental.proofs.Named.{named_agree}
use Rattle.td_incremental.proofs.Reading.{named_unread, tree_unread}

-- ---- with a virtual relvar more
module _ (p : Selection) where
  pub put_here : (r : Relvars) (v : VirtualUnder) (m : ℕ) → v.place ≡ m → with_virtual p r v m ≡ rows_in (mean r p v.tree) no_names
  put_here r v m same = ap (λ b. if b then rows_in (mean r p v.tree) no_names else r m) (eq-eqb v.place m same)

  pub put_other : (r : Relvars) (v : VirtualUnder) (m : ℕ) → (v.place ≡ m → ⊥) → with_virtual p r v m ≡ r m
  put_other r v m apart = ap (λ b. if b then rows_in (mean r p v.tree) no_names else r m) (ne_eqb v.place m apart)

-- a base relvar is no virtual one
pub not_base : (c : CatalogueData) (n : ℕ) → is_base (slice_get c.origins n) ≡ true → (m : ℕ) (u : Typed) → slice_get c.origins m ≡ Some (origin.Virtual u) → m ≡ n → ⊥
not_base c n base m u is same = true≢false (sym base ∙ ap (λ k. is_base (slice_get c.origins k)) (sym same) ∙ ap is_base is)

module _ (c : CatalogueData) (n : ℕ) (p : Selection) (P : Typed → Type 0) (Rel : Result RowsData Stop → Result RowsData Stop → Result RowsData Stop → Type 0) where
  -- three states of relvars: what does not read n has the same in all, and what P holds of is related
  pub record Alike (r s t : Relvars) : Type 0 where
    pub old : (m : ℕ) → IsUnread c n (tree.Relvar m) → r m ≡ s m
    pub new : (m : ℕ) → IsUnread c n (tree.Relvar m) → t m ≡ s m
    pub itself_related : Rel (r n) (s n) (t n)
    pub virtual_related : (m : ℕ) (u : Typed) → slice_get c.origins m ≡ Some (origin.Virtual u) → P u → Rel (r m) (s m) (t m)

  module _ (r s t : Relvars) (a : Alike r s t) where
    pub old_same : (u : Typed) → IsUnread c n u → mean r p u ≡ mean s p u
    old_same u unread = named_agree r s p u (λ m h. a.old m (named_unread c n u unread m h))

    pub new_same : (u : Typed) → IsUnread c n u → mean t p u ≡ mean s p u
    new_same u unread = named_agree t s p u (λ m h. a.new m (named_unread c n u unread m h))

  along_rows : {x y z d e f : Result RowsData Stop} → x ≡ d → y ≡ e → z ≡ f → Rel d e f → Rel x y z
  along_rows {x} {y} {z} {d} {e} {f} i j k h = subst (λ w. Rel w y z) (sym i) (subst (λ w. Rel d w z) (sym j) (subst (λ w. Rel d e w) (sym k) h))

  some_tree : (u v : Typed) → Some (origin.Virtual u) ≡ Some (origin.Virtual v) → u ≡ v
  some_tree u v h = cc

  module _ (base : is_base (slice_get c.origins n) ≡ true) (step : (r s t : Relvars) → Alike r s t → (u : Typed) → P u → Rel (rows_in (mean r p u) no_names) (rows_in (mean s p u) no_names) (rows_in (mean t p u) no_names)) where
    module _ (r s t : Relvars) (a : Alike r s t) (v : VirtualUnder) (is : slice_get c.origins v.place ≡ Some (origin.Virtual v.tree)) where
      one_unread : (x y : Relvars) → ((m : ℕ) → IsUnread c n (tree.Relvar m) → x m ≡ y m) → ((u : Typed) → IsUnread c n u → mean x p u ≡ mean y p u) → (m : ℕ) → IsUnread c n (tree.Relvar m) → with_virtual p x v m ≡ with_virtual p y v m
      one_unread x y others trees m unread =
          ⊎_elim
          (λ same. put_here p x v m same ∙ ap (λ (f : Meaning). rows_in f no_names) (trees v.tree (tree_unread c n v.place v.tree is (subst (λ k. IsUnread c n (tree.Relvar k)) (sym same) unread))) ∙ sym (put_here p y v m same))
          (λ apart. put_other p x v m apart ∙ others m unread ∙ sym (put_other p y v m apart))
          (cases_eq v.place m)

      with_more : Alike (with_virtual p r v) (with_virtual p s v) (with_virtual p t v)
      with_more = record {
        old = one_unread r s a.old (old_same r s t a);
        new = one_unread t s a.new (new_same r s t a);
        itself_related = let apart = not_base c n base v.place v.tree is in along_rows (put_other p r v n apart) (put_other p s v n apart) (put_other p t v n apart) a.itself_related;
        virtual_related = λ m u there h.
            ⊎_elim
            (λ same.
            along_rows (put_here p r v m same) (put_here p s v m same) (put_here p t v m same)
            (step r s t a v.tree (subst P (some_tree u v.tree (sym there ∙ ap (slice_get c.origins) (sym same) ∙ is)) h)))
            (λ apart. along_rows (put_other p r v m apart) (put_other p s v m apart) (put_other p t v m apart) (a.virtual_related m u there h))
            (cases_eq v.place m);
      }

    -- ---- with all virtual relvars
    abbrev AllAlike : List VirtualUnder → Relvars → Relvars → Relvars → Type 0
    AllAlike vs r s t = Alike (with_virtuals p vs r) (with_virtuals p vs s) (with_virtuals p vs t)

    one_place : (m : ℕ) (vs : List VirtualUnder) → ((r s t : Relvars) → Alike r s t → AllAlike vs r s t) → (r s t : Relvars) → Alike r s t → (o : Option Origin) → slice_get c.origins m ≡ o → AllAlike (cons_option (virtual_of m o) vs) r s t
    one_place m vs rest r s t a None is = rest r s t a
    one_place m vs rest r s t a (Some (origin.Base ks e)) is = rest r s t a
    one_place m vs rest r s t a (Some (origin.Virtual u)) is =
        let v : VirtualUnder = record { place = m; tree = u } in
        rest (with_virtual p r v) (with_virtual p s v) (with_virtual p t v) (with_more r s t a v is)

    pub all_alike : (ns : List ℕ) (r s t : Relvars) → Alike r s t → AllAlike (filter_map (virtual_at c) ns) r s t
    all_alike [] r s t a = a
    all_alike (m ∷ ms) r s t a = one_place m (filter_map (virtual_at c) ms) (all_alike ms) r s t a (slice_get c.origins m) refl
