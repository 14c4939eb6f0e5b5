-- What a step leaves: relvars that are no targets as they were, and each target with a relation of its heading.
use Rattle.std.proofs.Common.{◌≡◌, ⊎_elim, ℕ, ◌==◌, Bool, true, false, if◌then◌else◌, eqb-true, List, [], ◌∷◌, Some, Result, Ok, Err, refl, ap, sym, subst}
use Rattle.td_values.specs.Data.{fields_of, no_attrs}
use Rattle.td_values.specs.Rows.{RowsData}
use Rattle.td_tuples.specs.Parts.{Fits}
use Rattle.td_tuples.proofs.Lists.{entries-from_entries}
use Rattle.td_operators.specs.Values.{truth_of}
use Rattle.td_syntax.specs.declared.script.Action.{Action}
use Rattle.td_syntax.specs.declared.script.Statement.{Statement}
use Rattle.td_syntax.specs.declared.script.Statement.TheVariants as statement
use Rattle.td_typing.proofs.KindLemmas.{some_same}
use Rattle.td_algebra.specs.Raising.{and_then}
use Rattle.td_algebra.specs.declared.errors.Stop.{Stop}
use Rattle.td_headings.specs.Expressions.{no_tuple}
use Rattle.td_headings.specs.Reached.{is_base}
use Rattle.td_headings.specs.Statements.{AreAssignments, IsAssignment, IsTarget, TypesStatement, next_assignment, no_assignments, source_of, target_of, types_assignment, types_conditional}
use Rattle.td_headings.specs.declared.statement.TypedAssignment.{TypedAssignment}
use Rattle.td_headings.specs.declared.statement.TypedStatement.{TypedStatement}
use Rattle.td_type_soundness.specs.Meanings.{GivesRelation, GivesValue}
use Rattle.td_eval.proofs.HasValues.{trees_have_values}
use Rattle.td_eval.proofs.OfTypes.{rows_given}
use Rattle.td_relvars.proofs.Asked.{relvar_there}
use Rattle.td_semantics.specs.Databases.{Belongs, DatabaseData, IsDatabase, stored_relvars}
use Rattle.td_semantics.specs.Footprints.{IsTargetOfText}
use Rattle.td_semantics.specs.Given.{Given, gives, nothing_given, seen}
use Rattle.td_semantics.specs.Sources.{made_where, source_means, sources}
use Rattle.td_semantics.specs.Steps.{IsRead, Steps, unread, raised, refused, done, given_by}
use Rattle.td_semantics.specs.Trees.{tree_means}
use Rattle.td_semantics.specs.declared.outcome.Outcome.{Outcome}
use Rattle.td_assign.proofs.Footprint.{given_of, of_or_stays}
use Rattle.td_assign.proofs.Replacing.{bases_seen, given_is}

-- ---- only targets change
pub changes_targets : (d e : DatabaseData) (dialect : ℕ) (text : List ℕ) (o : Outcome) (n : ℕ) → Steps d dialect text o e → (IsTargetOfText d.catalogue dialect text n → ⊥) → stored_relvars e.stored n ≡ stored_relvars d.stored n
changes_targets d e dialect text o n (unread h) never = refl
changes_targets d e dialect text o n (raised p h) never = refl
changes_targets d e dialect text o n (refused p h i j) never = refl
changes_targets d e dialect text o n (done {x = x} {g = g} p h i) never =
    ⊎_elim
    (λ t. absurd (never (record { statement = x; reads = p; target = t })))
    (λ stays. stays d.stored)
    (of_or_stays (IsTarget x) g (given_of d.catalogue (stored_relvars d.stored) x g h) n)

-- ---- each target is given a relation of its heading
ok_same : {A : Type 0} (a b : A) → ◌≡◌ {A = Result A Stop} (Ok a) (Ok b) → a ≡ b
ok_same a b h = cc

none_fits : Fits no_tuple no_attrs
none_fits = sym (ap fields_of (entries-from_entries [] tt))

module _ (d : DatabaseData) (is : IsDatabase d) where
  abbrev Belonging : Given → Type 0
  Belonging g = (n : ℕ) (r : RowsData) → g n ≡ Some r → Belongs d.catalogue n r

  source_belongs : (a : Action) (x : TypedAssignment) → IsAssignment d.catalogue a x → (g : Given) → Belonging g → (r : RowsData) → source_means d.catalogue (stored_relvars d.stored) g x ≡ Ok r → Belongs d.catalogue x.target r
  source_belongs a x p g each r means =
      let c = d.catalogue in
      let relvars = seen g x.target (stored_relvars d.stored) in
      let meant = tree_means c relvars x.source.tree no_attrs in
      let value = trees_have_values c no_tuple x.source.tree x.source.kind relvars no_attrs is.defined (record { expr = source_of a; types = p.source.types }) (bases_seen c g each d.stored is x.target) (none_fits, tt) in
      let rows = rows_given c.schema p.relvar.value meant (subst (λ k. GivesValue c.schema k meant) p.kind_ value) in
      record {
        relvar = p.relvar;
        stored = ap is_base p.is_real;
        there = relvar_there c (target_of a) x.target p.relvar p.names;
        relation = subst (GivesRelation c.schema p.relvar.value) means rows;
      }

  -- where nothing is given yet
  pub alone_belongs : (a : Action) (x : TypedAssignment) → IsAssignment d.catalogue a x → (r : RowsData) → source_means d.catalogue (stored_relvars d.stored) nothing_given x ≡ Ok r → Belongs d.catalogue x.target r
  alone_belongs a x p r means = source_belongs a x p nothing_given (λ n q is. nothing n q is) r means
    where
      nothing : Belonging nothing_given
      nothing n q is = cc

  gives_belongs : (m : ℕ) (r : RowsData) (g : Given) → Belongs d.catalogue m r → Belonging g → Belonging (gives m r g)
  gives_belongs m r g belongs each n q h = by (m == n) refl h
    where
      by : (b : Bool) → m == n ≡ b → (if b then Some r else g n) ≡ Some q → Belongs d.catalogue n q
      by true e same = subst (λ (k : ℕ). Belongs d.catalogue k q) (eqb-true m n e) (subst (Belongs d.catalogue m) (some_same r q same) belongs)
      by false e same = each n q same

  sources_belong : (as' : List Action) (xs : List TypedAssignment) → AreAssignments d.catalogue as' xs → (g h : Given) → Belonging g → sources d.catalogue (stored_relvars d.stored) g xs ≡ Ok h → Belonging h
  sources_belong [] [] no_assignments g h each e = subst Belonging (ok_same g h e) each
  sources_belong [] (x ∷ xs) p g h each e = elim p [ ]
  sources_belong (a ∷ as') [] p g h each e = elim p [ ]
  sources_belong (a ∷ as') (x ∷ xs) (next_assignment p ps) g h each e =
      by (source_means d.catalogue (stored_relvars d.stored) g x) refl e (λ r. sources_belong as' xs ps (gives x.target r g) h)
    where
      by : (m : Result RowsData Stop) → source_means d.catalogue (stored_relvars d.stored) g x ≡ m → and_then m (λ r. sources d.catalogue (stored_relvars d.stored) (gives x.target r g) xs) ≡ Ok h → ((r : RowsData) → Belonging (gives x.target r g) → sources d.catalogue (stored_relvars d.stored) (gives x.target r g) xs ≡ Ok h → Belonging h) → Belonging h
      by (Ok r) means f rest = rest r (gives_belongs x.target r g (source_belongs a x p g each r means) each) f
      by (Err s) means f rest = cc

  assigned_belong : (as' : List Action) (xs : List TypedAssignment) → AreAssignments d.catalogue as' xs → (g : Given) → sources d.catalogue (stored_relvars d.stored) nothing_given xs ≡ Ok g → Belonging g
  assigned_belong as' xs p g h =
      let nothing : Belonging nothing_given = λ n r e. cc in
      sources_belong as' xs p nothing_given g nothing h

  given_belongs : (s : Statement) (x : TypedStatement) → TypesStatement d.catalogue s x → (g : Given) → given_by d x ≡ Ok g → Belonging g
  given_belongs (statement.Assignment as') x (types_assignment {xs} p) g h = assigned_belong as' xs p g h
  given_belongs (statement.Conditional a as' bs) x (types_conditional {u} {xs} {ys} i p q) g h =
      by (and_then (tree_means d.catalogue (stored_relvars d.stored) u.tree no_attrs) truth_of) h
    where
      by : (m : Result Bool Stop) → and_then (and_then m (made_where xs ys)) (sources d.catalogue (stored_relvars d.stored) nothing_given) ≡ Ok g → Belonging g
      by (Ok true) e = assigned_belong as' xs p g e
      by (Ok false) e = assigned_belong bs ys q g e
      by (Err f) e = cc

  given_database : (x : TypedStatement) (dialect : ℕ) (text : List ℕ) → IsRead d.catalogue dialect text x → (g : Given) → given_by d x ≡ Ok g → Belonging g
  given_database x dialect text p g h = given_belongs p.statement x p.types g h

pub step_keeps_database : (d e : DatabaseData) (dialect : ℕ) (text : List ℕ) (o : Outcome) → IsDatabase d → Steps d dialect text o e → IsDatabase e × (e.catalogue ≡ d.catalogue)
step_keeps_database d e dialect text o is (unread h) = (is, refl)
step_keeps_database d e dialect text o is (raised p h) = (is, refl)
step_keeps_database d e dialect text o is (refused p h i j) = (is, refl)
step_keeps_database d e dialect text o is (done {x = x} {g = g} p h i) = (given_is d.catalogue g (given_database d is x dialect text p g h) d.stored is, refl)
