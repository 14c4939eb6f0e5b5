-- The dependencies of a catalogue stay those of its database.
use Rattle.std.proofs.Common.{◌≡◌, List, Result, Ok, Err, ap, sym, ◌∙◌, subst}
use Rattle.std.specs.Prelude.{OnErr, OnOk}
use Rattle.td_accesses.specs.Dependencies.{AreDependencies}
use Rattle.td_accesses.specs.declared.dependencies.RelvarDependencies.{RelvarDependencies}
use Rattle.td_assign.specs.Redoing.{IsBetween}
use Rattle.td_headings.specs.Catalogues.{CatalogueData}
use Rattle.td_semantics.specs.Databases.{DatabaseData, Stored}
use Rattle.td_replay.specs.ForProofs.Going.{origin_of}

pub over_same : (c d : CatalogueData) (xs : List RelvarDependencies) → c ≡ d → AreDependencies d xs → AreDependencies c xs
over_same c d xs same are = subst (λ (z : CatalogueData). AreDependencies z xs) (sym same) are

-- with the same origin
pub stay_by_origin : (d e f : DatabaseData) (xs : List RelvarDependencies) → d ≡ e → origin_of f ≡ origin_of e → AreDependencies d.catalogue xs → AreDependencies f.catalogue xs
stay_by_origin d e f xs same origin are = over_same f.catalogue d.catalogue xs (ap (λ (z : DatabaseData). z.catalogue) origin ∙ ap (λ (z : DatabaseData). z.catalogue) (sym same)) are

-- with other relations stored, and on the way there
pub stay_stored : (d f : DatabaseData) (ys : Stored) (xs : List RelvarDependencies) → f ≡ record d { stored = ys } → AreDependencies d.catalogue xs → AreDependencies f.catalogue xs
stay_stored d f ys xs is are = over_same f.catalogue d.catalogue xs (ap (λ (z : DatabaseData). z.catalogue) is) are

pub stay_between : {A E : Type 0} (m : Result A E) (d f : DatabaseData) (ys zs : Stored) (xs : List RelvarDependencies) → OnOk m (f ≡ record d { stored = ys }) → OnErr m (IsBetween d zs f) → AreDependencies d.catalogue xs → AreDependencies f.catalogue xs
stay_between (Ok u) d f ys zs xs done failed are = stay_stored d f ys xs done are
stay_between (Err e) d f ys zs xs done failed are = over_same f.catalogue d.catalogue xs failed.catalogue are
