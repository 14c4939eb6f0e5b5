-- A typed assignment: its target is a base relvar, and its source is an expression of that heading.
use Rattle.std.proofs.Common.{◌≡◌, ℕ, ◌+◌, ◌<◌, List, length, drop, get_or, None, Some, IfOk, Result, Ok, Err, slice_get, sym, ap, ◌∙◌}
use Rattle.td_values.specs.Headings.{Header}
use Rattle.td_values.specs.Rows.{RowsData}
use Rattle.td_values.specs.declared.TypeKind.TheVariants as kind
use Rattle.td_syntax.specs.declared.tree.Named.{Named}
use Rattle.td_typing.proofs.KindLemmas.{some_same}
use Rattle.td_headings.specs.Catalogues.{CatalogueData}
use Rattle.td_headings.specs.Reached.{is_base}
use Rattle.td_headings.specs.Statements.{source_of, target_of}
use Rattle.td_headings.specs.declared.statement.TypedAssignment.{TypedAssignment}
use Rattle.td_algebra.specs.Raising.{and_then}
use Rattle.td_algebra.specs.declared.errors.Stop.{Stop}
use Rattle.td_meaning.specs.Mean.{Relvars}
use Rattle.td_type_soundness.specs.Meanings.{IsRelationOver}
use Rattle.td_semantics.specs.Raises.{Tells}
use Rattle.td_semantics.specs.declared.failure.Failure.{Failure}
use Rattle.td_semantics.specs.declared.failure.Failure.TheVariants as failure
use Rattle.td_semantics.specs.Trees.{IsIn}
use Rattle.td_semantics.specs.Databases.{Belongs}
use Rattle.td_relvars.proofs.Asked.{relvar_there}
use Rattle.td_semantics.specs.Given.{Given, gives, nothing_given}
use Rattle.td_assign.specs.ForProofs.Lists.{given, given_to}
use Rattle.td_assign.specs.ForProofs.Given.{IsAssigned, Stands}
use Rattle.td_semantics.specs.Sources.{source_means, sources}
use Rattle.td_assign.specs.declared.changes.Change.{Change}
use Rattle.td_assign.proofs.Differing.{left_at}
use Rattle.td_assign.proofs.Giving.{given_gives}

module _ (c : CatalogueData) (x : TypedAssignment) (is : IsAssigned c x) where
  there : slice_get c.schema.relvars x.target ≡ Some is.1.relvar
  there = relvar_there c (target_of is.0) x.target is.1.relvar is.1.names

  pub is_there : {P : Type 0} → slice_get c.schema.relvars x.target ≡ None → P
  is_there none = let nothing : Some is.1.relvar ≡ None = sym there ∙ none in cc

  pub source_in : IsIn c x.source
  source_in = record {
    tree = record { expr = source_of is.0; types = is.1.source.types };
    attributes = is.1.source.attributes;
    under = is.1.source.under;
  }

  module _ (v : Named Header) (at : slice_get c.schema.relvars x.target ≡ Some v) where
    pub kind_is : x.source.kind ≡ kind.Relation v.value
    kind_is = is.1.kind_ ∙ ap (λ (w : Named Header). kind.Relation w.value) (some_same is.1.relvar v (sym there ∙ at))

    pub belongs : (r : RowsData) → IsRelationOver c.schema v.value r → Belongs c x.target r
    belongs r of = record { relvar = v; stored = ap is_base is.1.is_real; there = at; relation = of }

    pub if_belongs : {E : Type 0} (m : Result RowsData E) → IfOk m (IsRelationOver c.schema v.value) → IfOk m (Belongs c x.target)
    if_belongs (Ok r) h = belongs r h
    if_belongs (Err e) h = tt

-- ---- one source after the other
pub stands : (m : Result RowsData Stop) (f : Failure) → Tells {A = RowsData} (Err f) m → Stands f m
stands m (failure.Raised e) h = h
stands m failure.OutOfMemory h = tt

module _ (c : CatalogueData) (r : Relvars) (all : List TypedAssignment) (i : ℕ) (x : TypedAssignment) (cs : List Change) (lt : i < length all) (at : x ≡ get_or all i x) (left : sources c r (given_to cs) (drop i all) ≡ sources c r nothing_given all) where
  abbrev after : Result RowsData Stop → Result Given Stop
  after m = and_then m (λ q. sources c r (gives x.target q (given_to cs)) (drop (i + 1) all))

  next : after (source_means c r (given_to cs) x) ≡ sources c r nothing_given all
  next = ap (sources c r (given_to cs)) (sym (left_at all i x lt at)) ∙ left

  pub more : (new : List Change) → (q : RowsData) × (source_means c r (given_to cs) x ≡ Ok q) × (new ≡ given x.target q cs) → sources c r (given_to new) (drop (i + 1) all) ≡ sources c r nothing_given all
  more new g = ap (λ ys. sources c r ys (drop (i + 1) all)) (ap given_to g.2 ∙ given_gives x.target g.0 cs) ∙ sym (ap after g.1) ∙ next

  pub stopped : (f : Failure) → Stands f (source_means c r (given_to cs) x) → Stands f (sources c r nothing_given all)
  stopped (failure.Raised e) h = sym next ∙ ap after h
  stopped failure.OutOfMemory h = tt
