-- What is told of the value of an expression of a catalogue.
use Rattle.std.proofs.Common.{◌≡◌, [], Result, Ok, Err, ap, sym, ◌∙◌, subst}
use Rattle.td_values.specs.Data.{Datum, Attrs, no_attrs, fields_of}
use Rattle.td_values.specs.Headings.{Header}
use Rattle.td_values.specs.Rows.{RowsData}
use Rattle.td_values.specs.declared.TypeKind.{TypeKind}
use Rattle.td_values.specs.declared.TypeKind.TheVariants as kind
use Rattle.td_tuples.specs.Parts.{Fits}
use Rattle.td_tuples.proofs.Lists.{entries-from_entries}
use Rattle.td_typed_trees.specs.declared.expression.Expression.{Expression}
use Rattle.td_algebra.specs.declared.errors.Stop.{Stop}
use Rattle.td_headings.specs.Catalogues.{CatalogueData}
use Rattle.td_headings.specs.Definitions.{Defined}
use Rattle.td_headings.specs.Expressions.{IsTree, no_tuple}
use Rattle.td_schema.specs.Schemas.{SchemaData}
use Rattle.td_meaning.specs.Mean.{Relvars}
use Rattle.td_operators.specs.Values.{rows_of}
use Rattle.td_type_soundness.specs.Meanings.{GivesValue, HasKind, IsError, IsRelationOver, OrError}
use Rattle.td_type_soundness.proofs.Values.{rows_given}
use Rattle.td_semantics.specs.Meanings.{means}
use Rattle.td_semantics.specs.Trees.{AreBases, IsIn, tree_means}
use Rattle.td_eval.proofs.AllThere.{means_its_tree}
use Rattle.td_eval.proofs.HasValues.{trees_have_values}

pub none_fits : Fits no_tuple no_attrs
none_fits = sym (ap fields_of (entries-from_entries [] tt))

-- ---- what evaluation answers
module _ (c : CatalogueData) (x : Expression) (r : Relvars) (t : Attrs) (defined : Defined c) (is : IsIn c x) (are : AreBases c r) (none : t ≡ no_attrs) where
  as_tree : means x r t ≡ tree_means c r x.tree no_attrs
  as_tree = means_its_tree c x r t defined (subst (λ h. IsTree c h x.tree x.kind) (sym is.attributes) is.tree) is.under ∙ ap (tree_means c r x.tree) none

  gives : GivesValue c.schema x.kind (means x r t)
  gives = subst (GivesValue c.schema x.kind) (sym as_tree) (trees_have_values c no_tuple x.tree x.kind r no_attrs defined is.tree are (none_fits, tt))

  pub told : (m : Result Datum Stop) → means x r t ≡ m → tree_means c r x.tree no_attrs ≡ m
  told m e = sym as_tree ∙ e

  pub typed : (v : Datum) → means x r t ≡ Ok v → HasKind c.schema x.kind v
  typed v e = subst (GivesValue c.schema x.kind) e gives

  pub raised : (e : Stop) → means x r t ≡ Err e → IsError e
  raised e is = subst (GivesValue c.schema x.kind) is gives

-- the relation that a value of a relation type has
pub rows_typed : (s : SchemaData) (h : Header) (k : TypeKind) (v : Datum) (r : RowsData) → k ≡ kind.Relation h → HasKind s k v → rows_of v ≡ Ok r → IsRelationOver s h r
rows_typed s h k v r is has e = subst (OrError (IsRelationOver s h)) e (rows_given s h v (subst (λ j. HasKind s j v) is has))
