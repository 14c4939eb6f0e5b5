-- Lines, one after the other.
use Rattle.std.proofs.Common.{◌≡◌, ◌≤◌, ℕ, ◌+◌, List, [], ◌∷◌, ◌++◌, drop, length, Result, refl, sym, ap, ◌∙◌, append-nil, append_assoc}
use Rattle.std.proofs.lemmas.List.{drop_all}
use Rattle.td_values.specs.Rows.{RowsData}
use Rattle.td_algebra.specs.declared.errors.Stop.{Stop}
use Rattle.td_headings.specs.Catalogues.{CatalogueData}
use Rattle.td_semantics.specs.Databases.{DatabaseData}
use Rattle.td_semantics.specs.declared.outcome.Outcome.{Outcome}
use Rattle.td_stamps.specs.declared.entry.Entry.{Entry}
use Rattle.td_stamps.specs.declared.entry.Stamp.{Stamp}
use Rattle.td_listings.specs.ForProofs.Asked.{IsRelvarAt}
use Rattle.td_listings.specs.Texts.{log_of, relvar_lines, relvars_from, relvar_value}
use Rattle.td_listings.proofs.Relvars.{opened}

-- entries without outcomes have no lines
no_lines : (es : List Entry) → log_of es [] ≡ []
no_lines [] = refl
no_lines (e ∷ es) = refl

pub log_end : (out all : List ℕ) (es : List Entry) (os : List (Stamp × Outcome)) (n : ℕ) → length os ≤ n → out ++ log_of es (drop n os) ≡ all → out ≡ all
log_end out all es os n past e =
    sym (append-nil out) ∙ ap (λ (l : List ℕ). out ++ l) (sym (no_lines es) ∙ ap (log_of es) (sym (drop_all n os past))) ∙ e

-- one relvar more
pub next_relvar : (c : CatalogueData) (d : DatabaseData) (x : List ℕ) (n : ℕ) (old new all : List ℕ) → IsRelvarAt c x n → (m : Result RowsData Stop) → relvar_value d n ≡ m → new ≡ old ++ relvar_lines x m
    → old ++ relvars_from d n (drop n c.schema.relvars) ≡ all → new ++ relvars_from d (n + 1) (drop (n + 1) c.schema.relvars) ≡ all
next_relvar c d x n old new all r m value shown so_far =
    let rest : List ℕ = relvars_from d (n + 1) (drop (n + 1) c.schema.relvars) in
    ap (λ w. w ++ rest) shown
    ∙ append_assoc old (relvar_lines x m) rest
    ∙ ap (λ w. old ++ w) (sym (ap (relvars_from d n) (opened c.schema.relvars n r.relvar r.there) ∙ ap (λ y. relvar_lines y (relvar_value d n) ++ rest) r.name ∙ ap (λ k. relvar_lines x k ++ rest) value))
    ∙ so_far
