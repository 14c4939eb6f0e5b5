use Rattle.std.proofs.Common.{◌≡◌, ap, sym, ◌∙◌, subst}
use Rattle.td_semantics.specs.Databases.{Belongs, DatabaseData, IsDatabase, with_relation}
use Rattle.td_relvars.specs.ForProofs.Kept.{AreFirst, keys_of, rows_of}
use Rattle.td_relvars.specs.Keys.{key_at}
use Rattle.td_relvars.proofs.Bases.{first_set, rows_set}
use Rattle.td_relvars.proofs.Stores.{put_is, put_set}
use Rattle.td_relvars.proofs.database.Database.set.Goals as goal

pub invariant_of-self : goal.invariant_of-self
invariant_of-self c =
    let s = c.self.inside in
    let n = c.args.relvar in
    let b = c.args.base in
    let xs = s.stored.items in
    let belongs = subst (λ (d : DatabaseData). Belongs d.catalogue n b.rows) (sym c.self.view_is) c.requires.belongs in
    let key = subst (λ (d : DatabaseData). b.key ≡ key_at d.catalogue n) (sym c.self.view_is) c.requires.key in
    let rows = ap rows_of c.set_at.ensures ∙ rows_set xs n b ∙ put_set n b.rows (rows_of xs) in (
      subst (λ ys. IsDatabase (record { catalogue = s.catalogue; stored = ys })) (sym rows) (put_is s.catalogue (rows_of xs) c.self.invariant.0 n b.rows belongs),
      subst (λ ys. AreFirst s.catalogue (keys_of ys)) (sym c.set_at.ensures) (first_set s.catalogue xs n b c.self.invariant.1 key),
    )

pub returns-clause-stored : goal.returns-clause-stored
returns-clause-stored c =
    let n = c.args.relvar in
    let b = c.args.base in
    let xs = c.self.inside.stored.items in
    ap rows_of c.set_at.ensures ∙ rows_set xs n b ∙ put_set n b.rows (rows_of xs) ∙ ap (λ (d : DatabaseData). with_relation n b.rows d.stored) c.self.view_is
