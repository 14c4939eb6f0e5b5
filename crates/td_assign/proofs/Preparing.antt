-- What a text comes to, step by step.
use Rattle.std.proofs.Common.{◌≡◌, ℕ, Bool, if◌then◌else◌, List, [], ◌∷◌, Option, None, Some, IfOk, MatchOption, Result, Ok, Err, option_map, refl, ap, sym, ◌∙◌, subst, arith}
use Rattle.std.specs.List.{All}
use Rattle.std.proofs.lemmas.List.Elements.{All-cons, All-nil}
use Rattle.td_values.specs.declared.raises.Raise.{Raise}
use Rattle.td_syntax.specs.declared.script.Action.{Action}
use Rattle.td_syntax.specs.declared.script.Statement.{Statement}
use Rattle.td_syntax.specs.declared.script.Statement.TheVariants as statement
use Rattle.td_syntax.specs.declared.tree.Expr.{Expr}
use Rattle.td_typed_trees.specs.declared.expression.Expression.{Expression}
use Rattle.td_values.specs.declared.TypeKind.TheVariants as kind
use Rattle.td_grammar.specs.Statements as grammar
use Rattle.td_typing.proofs.KindLemmas.{some_same}
use Rattle.td_algebra.specs.Raising.{and_then}
use Rattle.td_algebra.specs.declared.errors.Stop.{Stop}
use Rattle.td_headings.specs.Catalogues.{CatalogueData}
use Rattle.td_headings.specs.Statements as typed
use Rattle.td_headings.specs.Statements.{AreAssignments, IsCondition, TypesNoStatement, next_assignment, no_assignments, types_assignment, types_conditional}
use Rattle.td_headings.specs.declared.defined.Test.{Test}
use Rattle.td_headings.specs.declared.statement.TypedAssignment.{TypedAssignment}
use Rattle.td_headings.specs.declared.statement.TypedStatement.{TypedStatement}
use Rattle.td_headings.specs.declared.statement.TypedStatement.TheVariants as typed_statement
use Rattle.td_meaning.specs.Mean.{Relvars}
use Rattle.td_semantics.specs.Raises.{stop_of}
use Rattle.td_semantics.specs.Reports.{IsReport, title}
use Rattle.td_semantics.specs.declared.broken.BrokenTest.{BrokenTest}
use Rattle.td_semantics.specs.declared.broken.BrokenTest.TheVariants as broken
use Rattle.td_semantics.specs.declared.broken.TestFailure.{TestFailure}
use Rattle.td_semantics.specs.Tests.{failing}
use Rattle.td_semantics.specs.Databases.{DatabaseData, IsDatabase, IsLegal, stored_relvars}
use Rattle.td_semantics.specs.Given.{nothing_given, replaced, with_given}
use Rattle.td_semantics.specs.Sources.{made_where, sources}
use Rattle.td_semantics.specs.Trees.{IsIn}
use Rattle.td_relations.specs.Deltas.{DeltaData}
use Rattle.td_integrity.specs.Changes.{PassedBefore}
use Rattle.td_assign.specs.ForProofs.Lists.{given_to}
use Rattle.td_semantics.specs.Differences.{AreDifferences, LeadOver}
use Rattle.td_semantics.proofs.Leading.{differences_lead}
use Rattle.td_assign.specs.ForProofs.Given.{AreAssigned, AreChanges, IsAssigned, Stands, assigned_by}
use Rattle.td_semantics.specs.declared.failure.Failure.{Failure}
use Rattle.td_semantics.specs.declared.failure.Failure.TheVariants as failure
use Rattle.td_assign.specs.ForProofs.Prepared.{AreAssignedTo, AreAssignedWhole, IsJudged, IsMade, IsMadeWhole, IsPrepared, MayChange, Refuses, by_assignments, by_error, by_source, by_test, chosen_by, failing_after}
use Rattle.td_semantics.specs.Steps.{IsRead, IsUnreadText, Steps, TellsTest, done, given_by, raised, refused}
use Rattle.td_assign.specs.declared.changes.Change.{Change}
use Rattle.td_semantics.specs.declared.outcome.Outcome.{Outcome}
use Rattle.td_semantics.specs.declared.outcome.Outcome.TheVariants as outcome
use Rattle.td_assign.specs.declared.running.Prepared.{Prepared}
use Rattle.td_assign.specs.declared.running.Prepared.TheVariants.{Changes, InPlace, Refused}
use Rattle.td_assign.proofs.Replacing.{all_replaced}
use Rattle.td_semantics.proofs.Unique.{one_text}

-- ---- no reading, or no typing
module _ (c : CatalogueData) (dialect : ℕ) (text : List ℕ) where
  pub without_reading : ((s : Statement) → ¬ grammar.IsStatementIn dialect text s) → IsUnreadText c dialect text
  without_reading none x p = none p.statement p.reads

  pub without_typing : (s : Statement) → grammar.IsStatementIn dialect text s → TypesNoStatement c s → IsUnreadText c dialect text
  without_typing s reads never x p = never x (subst (λ t. typed.TypesStatement c t x) (one_text dialect text p.statement s p.reads reads) p.types)

all_assigned : (c : CatalogueData) (as' : List Action) (xs : List TypedAssignment) → AreAssignments c as' xs → All (IsAssigned c) xs
all_assigned c [] [] no_assignments = All-nil (IsAssigned c)
all_assigned c (a ∷ as') (x ∷ xs) (next_assignment p ps) = All-cons (IsAssigned c) x xs (a, p) (all_assigned c as' xs ps)
all_assigned c [] (x ∷ xs) h = elim h [ ]
all_assigned c (a ∷ as') [] h = elim h [ ]

-- ---- the parts of a statement
all_alone_of : (c : CatalogueData) (s : Statement) (x : TypedStatement) (xs : List TypedAssignment) → typed.TypesStatement c s x → x ≡ typed_statement.Assignment xs → AreAssigned c xs
all_alone_of c (statement.Assignment as') x xs (types_assignment {xs = zs} h) is =
    let same : zs ≡ xs = cc in
    subst (AreAssigned c) same (all_assigned c as' zs h)
all_alone_of c (statement.Conditional a as' bs) x xs (types_conditional i p q) is = cc

first_of_both : (c : CatalogueData) (s : Statement) (x : TypedStatement) (u : Expression) (xs ys : List TypedAssignment) → typed.TypesStatement c s x → x ≡ typed_statement.Conditional u xs ys → AreAssigned c xs
first_of_both c (statement.Assignment as') x u xs ys (types_assignment h) is = cc
first_of_both c (statement.Conditional a as' bs) x u xs ys (types_conditional {xs = zs} i p q) is =
    let same : zs ≡ xs = cc in
    subst (AreAssigned c) same (all_assigned c as' zs p)

second_of_both : (c : CatalogueData) (s : Statement) (x : TypedStatement) (u : Expression) (xs ys : List TypedAssignment) → typed.TypesStatement c s x → x ≡ typed_statement.Conditional u xs ys → AreAssigned c ys
second_of_both c (statement.Assignment as') x u xs ys (types_assignment h) is = cc
second_of_both c (statement.Conditional a as' bs) x u xs ys (types_conditional {ys = zs} i p q) is =
    let same : zs ≡ ys = cc in
    subst (AreAssigned c) same (all_assigned c bs zs q)

condition_of_both : (c : CatalogueData) (s : Statement) (x : TypedStatement) (u : Expression) (xs ys : List TypedAssignment) → typed.TypesStatement c s x → x ≡ typed_statement.Conditional u xs ys → (a : Expr) × IsCondition c a u
condition_of_both c (statement.Assignment as') x u xs ys (types_assignment h) is = cc
condition_of_both c (statement.Conditional a as' bs) x u xs ys (types_conditional {u = v} i p q) is =
    let same : v ≡ u = cc in
    (a, subst (IsCondition c a) same i)

module _ (c : CatalogueData) (x : TypedStatement) (t : (s : Statement) × typed.TypesStatement c s x) where
  pub all_alone : (xs : List TypedAssignment) → x ≡ typed_statement.Assignment xs → AreAssigned c xs
  all_alone xs is = all_alone_of c t.0 x xs t.1 is

  module _ (u : Expression) (xs ys : List TypedAssignment) (is : x ≡ typed_statement.Conditional u xs ys) where
    pub first_of : AreAssigned c xs
    first_of = first_of_both c t.0 x u xs ys t.1 is

    pub second_of : AreAssigned c ys
    second_of = second_of_both c t.0 x u xs ys t.1 is

    its_condition : (a : Expr) × IsCondition c a u
    its_condition = condition_of_both c t.0 x u xs ys t.1 is

    pub condition_kind : u.kind ≡ kind.Boolean
    condition_kind = its_condition.1.kind_

    pub condition_in : IsIn c u
    condition_in = record {
      tree = record { expr = its_condition.0; types = its_condition.1.expression.types };
      attributes = its_condition.1.expression.attributes;
      under = its_condition.1.expression.under;
    }

-- what the condition comes to decides
pub where_ok : (m : Result Bool Stop) (b : Bool) (xs ys : List TypedAssignment) → m ≡ Ok b → and_then m (made_where xs ys) ≡ Ok (if b then xs else ys)
where_ok (Ok a) b xs ys h = let same : a ≡ b = cc in ap (λ (v : Bool). made_where xs ys v) same
where_ok (Err f) b xs ys h = cc

pub where_err : (m : Result Bool Stop) (f : Failure) (xs ys : List TypedAssignment) → Stands f m → Stands f (and_then m (made_where xs ys))
where_err m (failure.Raised e) xs ys h = ap (λ (r : Result Bool Stop). and_then r (made_where xs ys)) h
where_err m failure.OutOfMemory xs ys h = tt

pub made : {E : Type 0} (d : DatabaseData) (x : TypedStatement) (xs : List TypedAssignment) → chosen_by d x ≡ Ok xs → (r : Result Prepared E) → IfOk r (AreAssignedTo d xs) → IfOk r (IsMade d x)
made d x xs h (Ok m) a = by_assignments xs h a
made d x xs h (Err e) a = tt

-- ---- how a test is told
module _ (c : CatalogueData) (t : Test) where
  pub tells_error : (o : Option Stop) (f : Option Raise) (e : Raise) → f ≡ Some e → option_map stop_of f ≡ o → TellsTest c t o (outcome.Raised e)
  tells_error None f e is h = let nothing : Some (stop_of e) ≡ None = sym (ap (option_map stop_of) is) ∙ h in cc
  tells_error (Some s) f e is h = sym (some_same (stop_of e) s (sym (ap (option_map stop_of) is) ∙ h))

  pub tells_key : (o : Option Stop) (f : Option Raise) (b : BrokenTest) (n : List ℕ) → f ≡ None → b ≡ broken.Key n → b ≡ title c t → option_map stop_of f ≡ o → TellsTest c t o (outcome.BreaksKey n)
  tells_key None f b n no_error is at h = sym at ∙ is
  tells_key (Some s) f b n no_error is at h = let nothing : None ≡ Some s = sym (ap (option_map stop_of) no_error) ∙ h in cc

  pub tells_constraint : (o : Option Stop) (f : Option Raise) (b : BrokenTest) (n : List ℕ) → f ≡ None → b ≡ broken.Constraint n → b ≡ title c t → option_map stop_of f ≡ o → TellsTest c t o (outcome.BreaksConstraint n)
  tells_constraint None f b n no_error is at h = sym at ∙ is
  tells_constraint (Some s) f b n no_error is at h = let nothing : None ≡ Some s = sym (ap (option_map stop_of) no_error) ∙ h in cc

pub reported : (c : CatalogueData) (o : Option (Test × Option Stop)) (f : TestFailure) → IsReport c o (Some f) → (t : Test) × (e : Option Stop) × (o ≡ Some (t, e)) × IsReport c (Some (t, e)) (Some f)
reported c None f h = cc
reported c (Some p) f h = (p.0, p.1, refl, h)

pub passes : (c : CatalogueData) (o : Option (Test × Option Stop)) → IsReport c o None → o ≡ None
passes c None h = refl
passes c (Some p) h = absurd h

module _ (d : DatabaseData) (cs : List Change) where
  pub report_is : (ys : List Change) (k : CatalogueData) (o : Option TestFailure) → IsDatabase d → AreChanges d.catalogue cs → k ≡ d.catalogue → ys ≡ cs → IsReport k (failing k (replaced (given_to ys) (stored_relvars d.stored)) k.tests) o → IsReport d.catalogue (failing_after d cs) o
  report_is ys k o is are same seen h =
      subst (λ r. IsReport d.catalogue (failing d.catalogue r d.catalogue.tests) o) (all_replaced d.catalogue cs are d.stored is)
      (subst (λ (zs : List Change). IsReport d.catalogue (failing d.catalogue (replaced (given_to zs) (stored_relvars d.stored)) d.catalogue.tests) o) seen
      (subst (λ (z : CatalogueData). IsReport z (failing z (replaced (given_to ys) (stored_relvars d.stored)) z.tests) o) same h))

  pub passed_before : (ys : List Change) (k : CatalogueData) (ds zs : List (ℕ × DeltaData)) → IsDatabase d → AreChanges d.catalogue cs → IsLegal d → k ≡ d.catalogue → ys ≡ cs → zs ≡ ds → AreDifferences (stored_relvars d.stored) (stored_relvars (with_given (given_to cs) d.stored)) ds → PassedBefore k (replaced (given_to ys) (stored_relvars d.stored)) zs
  passed_before ys k ds zs is are legal same seen listed h =
      subst (λ (z : CatalogueData). PassedBefore z (replaced (given_to ys) (stored_relvars d.stored)) zs) (sym same) (record {
        before = stored_relvars d.stored;
        legal = legal;
        lead =
            subst (LeadOver (stored_relvars d.stored) (replaced (given_to ys) (stored_relvars d.stored))) (sym listed)
            (subst (λ r. LeadOver (stored_relvars d.stored) r ds) (sym (ap (λ (us : List Change). replaced (given_to us) (stored_relvars d.stored)) seen ∙ all_replaced d.catalogue cs are d.stored is)) (differences_lead _ _ ds h));
      })

  pub refused_by : (o : Option TestFailure) (f : TestFailure) (out : Outcome) → o ≡ Some f → IsReport d.catalogue (failing_after d cs) o → ((c : CatalogueData) (t : Test) (e : Option Stop) → IsReport c (Some (t, e)) (Some f) → TellsTest c t e out) → IsJudged d cs (Refused out)
  refused_by o f out is h tells =
      let r = reported d.catalogue (failing_after d cs) f (subst (IsReport d.catalogue (failing_after d cs)) is h) in
      (r.0, r.1, r.2, tells d.catalogue r.0 r.1 r.3)

  pub none_fails : (o : Option TestFailure) → o ≡ None → IsReport d.catalogue (failing_after d cs) o → failing_after d cs ≡ None
  none_fails o is h = passes d.catalogue (failing_after d cs) (subst (IsReport d.catalogue (failing_after d cs)) is h)

module _ (c k : CatalogueData) (dialect : ℕ) (text : List ℕ) (o : Option TypedStatement) (same : k ≡ c) (h : MatchOption o (IsUnreadText k dialect text) (IsRead k dialect text)) where
  pub read_is : (x : TypedStatement) → o ≡ Some x → IsRead c dialect text x
  read_is x is = subst (λ (z : CatalogueData). IsRead z dialect text x) same (subst (λ q. MatchOption q (IsUnreadText k dialect text) (IsRead k dialect text)) is h)

  pub unread_is : o ≡ None → IsUnreadText c dialect text
  unread_is is = subst (λ (z : CatalogueData). IsUnreadText z dialect text) same (subst (λ q. MatchOption q (IsUnreadText k dialect text) (IsRead k dialect text)) is h)

-- ---- what follows from each step
pub judged : {E : Type 0} (d : DatabaseData) (xs : List TypedAssignment) (cs : List Change) → assigned_by d xs ≡ Ok (given_to cs) → (m : Result Prepared E) → IfOk m (IsJudged d cs) → IfOk m (AreAssignedTo d xs)
judged d xs cs given (Ok (Changes v ds)) h = (given ∙ ap (λ ys. Ok (given_to ys)) (sym h.0), subst (λ ys. MayChange d ys ds.items) (sym h.0) h.1)
judged d xs cs given (Ok (InPlace n x)) h = absurd h
judged d xs cs given (Ok (Refused o)) h = by_test cs given h
judged d xs cs given (Err e) h = tt

pub judged_whole : {E : Type 0} (d : DatabaseData) (xs : List TypedAssignment) (cs : List Change) → assigned_by d xs ≡ Ok (given_to cs) → (m : Result Prepared E) → IfOk m (IsJudged d cs) → IfOk m (AreAssignedWhole d xs)
judged_whole d xs cs given (Ok (Changes v ds)) h = ((given ∙ ap (λ ys. Ok (given_to ys)) (sym h.0), subst (λ ys. MayChange d ys ds.items) (sym h.0) h.1), tt)
judged_whole d xs cs given (Ok (InPlace n x)) h = absurd h
judged_whole d xs cs given (Ok (Refused o)) h = (by_test cs given h, tt)
judged_whole d xs cs given (Err e) h = tt

pub made_whole : {E : Type 0} (d : DatabaseData) (x : TypedStatement) (xs : List TypedAssignment) → chosen_by d x ≡ Ok xs → (r : Result Prepared E) → IfOk r (AreAssignedWhole d xs) → IfOk r (IsMadeWhole d x)
made_whole d x xs h (Ok m) a = (by_assignments xs h a.0, a.1)
made_whole d x xs h (Err e) a = tt

-- what a statement gives is what the assignments give that it makes
pub given_as : (d : DatabaseData) (x : TypedStatement) (xs : List TypedAssignment) → chosen_by d x ≡ Ok xs → given_by d x ≡ assigned_by d xs
given_as d x xs is = ap (λ m. and_then m (sources d.catalogue (stored_relvars d.stored) nothing_given)) is

module _ (d : DatabaseData) (dialect : ℕ) (text : List ℕ) (x : TypedStatement) (p : IsRead d.catalogue dialect text x) where
  module _ (xs : List TypedAssignment) (is : chosen_by d x ≡ Ok xs) where
    refuses : (o : Outcome) → Refuses d xs o → Steps d dialect text o d
    refuses (outcome.Raised e) (by_source given) = raised p (given_as d x xs is ∙ given)
    refuses o (by_test cs given j) = refused p (given_as d x xs is ∙ given) j.2 j.3

    all_made : (m : Prepared) → AreAssignedTo d xs m → IsPrepared d dialect text m
    all_made (Changes v ds) h = (done p (given_as d x xs is ∙ h.0) h.1.passes, h.1)
    all_made (InPlace n y) h = (x, p, (xs, is, h))
    all_made (Refused o) h = refuses o h

  none_made : (e : Raise) → chosen_by d x ≡ Err (stop_of e) → Steps d dialect text (outcome.Raised e) d
  none_made e is = raised p (ap (λ m. and_then m (sources d.catalogue (stored_relvars d.stored) nothing_given)) is)

  pub prepared : (m : Prepared) → IsMade d x m → IsPrepared d dialect text m
  prepared m (by_assignments xs is h) = all_made xs is m h
  prepared m (by_error e is same) = subst (IsPrepared d dialect text) (sym same) (none_made e is)

pub no_differences : (r : Relvars) → AreDifferences r r []
no_differences r = record {
  once = λ i j d before within. absurd (omega (arith, within));
  only = λ p there. absurd (omega (arith, there.1));
  all = λ n never. refl;
}
