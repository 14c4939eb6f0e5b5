-- What is made tuple by tuple of a relation that gained tuples.
use Rattle.std.proofs.Common.{◌≡◌, ◌⊎◌, inl, inr, ⊎_elim, ℕ, zero, suc, Result, Ok, Err, refl, sym, ap, ◌∙◌, subst, arith}
use Rattle.td_values.specs.Data.{Attrs}
use Rattle.td_values.specs.Headings.{Header}
use Rattle.td_values.specs.Rows.{RowsData}
use Rattle.td_relations.specs.Sets.{Has, IsRelationOf}
use Rattle.td_algebra.specs.Raising.{UnlessRaised}
use Rattle.td_algebra.proofs.Bridges.{same_stop}
use Rattle.td_algebra.specs.declared.errors.Stop.{Stop}
use Rattle.td_incremental.proofs.Answers.{Grown}

-- w gained the tuples of b: it has them, and no others that a has not; it may lack some of a
pub record IsGrown (a w b : RowsData) : Type 0 where
  pub old_heading : a.heading ≡ w.heading
  pub new_heading : b.heading ≡ w.heading
  pub either : (t : Attrs) → Has w t → Has a t ⊎ Has b t
  pub new : (t : Attrs) → Has b t → Has w t

-- ---- relations of tuples that are each made of one
module _ (k : Header → Header) (Q : Header → Attrs → Attrs → Type 0) where
  abbrev pub Made : RowsData → Attrs → Type 0
  Made r u = (t : Attrs) × Has r t × Q r.heading t u

  abbrev pub IsMade : RowsData → RowsData → Type 0
  IsMade r n = IsRelationOf (k r.heading) (Made r) n

  module _ (a w b : RowsData) (g : IsGrown a w b) where
    made_there : (r : RowsData) → r.heading ≡ w.heading → ((t : Attrs) → Has r t → Has w t) → (u : Attrs) → Made r u → Made w u
    made_there r same there u m = (m.0, there m.0 m.1, subst (λ h. Q h m.0 u) same m.2)

    made_from : (r : RowsData) → r.heading ≡ w.heading → (t u : Attrs) → Has r t → Q w.heading t u → Made r u
    made_from r same t u has q = (t, has, subst (λ h. Q h t u) (sym same) q)

    pub all_made : (l m n : RowsData) → IsMade a l → IsMade w m → IsMade b n → IsGrown l m n
    all_made l m n p q r = record {
      old_heading = p.heading ∙ ap k g.old_heading ∙ sym q.heading;
      new_heading = r.heading ∙ ap k g.new_heading ∙ sym q.heading;
      either = λ u has.
          let s = q.only u has in
          ⊎_elim
          (λ there. inl (p.all u (made_from a g.old_heading s.0 u there s.2)))
          (λ there. inr (r.all u (made_from b g.new_heading s.0 u there s.2)))
          (g.either s.0 s.1);
      new = λ u has. q.all u (made_there b g.new_heading g.new u (r.only u has));
    }

  -- the relation of what is made, or the least error, each raised at one
  module _ (X : Attrs → Stop → Type 0) where
    abbrev pub Raised : RowsData → Stop → Type 0
    Raised r e = (t : Attrs) × Has r t × X t e

    abbrev pub Walks : RowsData → Result RowsData Stop → Type 0
    Walks r o = UnlessRaised (Raised r) (IsMade r) o

    module _ (a w b : RowsData) (g : IsGrown a w b) where
      raised_new : (e : Stop) → Raised b e → Raised w e
      raised_new e s = (s.0, g.new s.0 s.1, s.2)

      -- where the old tuples raise nothing
      by_new : (l : RowsData) → Walks a (Ok l) → (e : Stop) → Raised w e → Raised b e
      by_new l p e s = ⊎_elim (λ there. absurd (p.0 e (s.0, there, s.2))) (λ there. (s.0, there, s.2)) (g.either s.0 s.1)

      pub walked : (x y z : Result RowsData Stop) → Walks a x → Walks w y → Walks b z → Grown IsGrown x y z
      walked (Ok l) (Ok m) (Ok n) p q r = all_made a w b g l m n p.1 q.1 r.1
      walked (Ok l) (Ok m) (Err f) p q r = q.0 f (raised_new f r.0)
      walked (Ok l) (Err e) (Ok n) p q r = r.0 e (by_new l p e q.0)
      walked (Ok l) (Err e) (Err f) p q r = let less = q.1 f (raised_new f r.0) in let more = r.1 e (by_new l p e q.0) in same_stop e f (omega (arith, less, more))
      walked (Err e) y z p q r = tt
