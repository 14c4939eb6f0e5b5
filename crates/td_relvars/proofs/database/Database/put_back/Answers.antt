use Rattle.std.proofs.Common.{◌≡◌, ◌∷◌, ℕ, List, All, map, refl, ap, sym, subst, ◌∙◌, rules}
use Rattle.std.specs.Vec.Iter.{into_iter_items}
use Rattle.std.proofs.lemmas.List.Elements.{All-head, All-tail}
use Rattle.td_values.specs.Rows.{RowsData}
use Rattle.td_bases.specs.Bases.{BaseData}
use Rattle.td_headings.specs.Catalogues.{CatalogueData}
use Rattle.td_semantics.specs.Databases.{Belongs}
use Rattle.td_relvars.specs.ForProofs.Kept.{copied_keys, copies_of}
use Rattle.td_relvars.specs.Keys.{key_at}
use Rattle.td_relvars.specs.Parts.{AreTheirs, PartData, put_part}
use Rattle.td_relvars.proofs.PartLemmas.{first_theirs, other_theirs}
use Rattle.td_relvars.proofs.database.Database.put_back.Goals as goal

abbrev Own : CatalogueData → ℕ × RowsData → Type 0
Own k p = Belongs k p.0 p.1

abbrev of_bases : List (ℕ × BaseData) → PartData
of_bases ps = record { copies = copies_of ps; keys = copied_keys ps }

pub loop-relvar-init : goal.loop-relvar-init
loop-relvar-init c =
    let d = c.args.self.now in
    let seen : c.part.inside.bases.items ≡ into_iter_items c.into_iter-relvar-iterator.result = search rules in
    let whole : c.args.part ≡ of_bases (into_iter_items c.into_iter-relvar-iterator.result) = sym c.part.view_is ∙ ap of_bases seen in
    record {
      same = refl;
      left = ap (λ (p : PartData). put_part p.copies d.stored) (sym whole);
      each = subst (λ (p : PartData). All (Own d.catalogue) p.copies) whole c.requires.belongs;
      keys = subst (AreTheirs d.catalogue) whole c.requires.keys;
    }

pub set-requires-clause-belongs : goal.set-requires-clause-belongs
set-requires-clause-belongs c =
    let k = c.args.self.now.catalogue in
    let p : ℕ × BaseData = (c.in-Some.relvar, c.in-Some.base) in
    let rest = into_iter_items c.next.new.self in
    subst (λ (z : CatalogueData). Belongs z p.0 p.1.rows) (sym c.loop-relvar.invariant.same)
    (All-head (Own k) (p.0, p.1.rows) (copies_of rest) (subst (λ (ps : List (ℕ × BaseData)). All (Own k) (copies_of ps)) c.in-Some.ensures.steps.0 c.loop-relvar.invariant.each))

pub set-requires-clause-key : goal.set-requires-clause-key
set-requires-clause-key c =
    let k = c.args.self.now.catalogue in
    let p : ℕ × BaseData = (c.in-Some.relvar, c.in-Some.base) in
    let rest = into_iter_items c.next.new.self in
    first_theirs k p rest (subst (λ (ps : List (ℕ × BaseData)). AreTheirs k (of_bases ps)) c.in-Some.ensures.steps.0 c.loop-relvar.invariant.keys)
    ∙ ap (λ (z : CatalogueData). key_at z p.0) (sym c.loop-relvar.invariant.same)

pub loop-relvar-preserved : goal.loop-relvar-preserved
loop-relvar-preserved c =
    let k = c.args.self.now.catalogue in
    let p : ℕ × BaseData = (c.in-Some.relvar, c.in-Some.base) in
    let rest = into_iter_items c.next.new.self in
    let before = c.loop-relvar.self.stored in
    record {
      same = c.set.ensures.catalogue ∙ c.loop-relvar.invariant.same;
      left =
          ap (put_part (copies_of rest)) c.set.ensures.stored ∙ sym (ap (λ (ps : List (ℕ × BaseData)). put_part (copies_of ps) before) c.in-Some.ensures.steps.0)
          ∙ c.loop-relvar.invariant.left;
      each = All-tail (Own k) (p.0, p.1.rows) (copies_of rest) (subst (λ (ps : List (ℕ × BaseData)). All (Own k) (copies_of ps)) c.in-Some.ensures.steps.0 c.loop-relvar.invariant.each);
      keys = other_theirs k p rest (subst (λ (ps : List (ℕ × BaseData)). AreTheirs k (of_bases ps)) c.in-Some.ensures.steps.0 c.loop-relvar.invariant.keys);
    }
