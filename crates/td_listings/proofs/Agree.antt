-- What sites show that hold the same set.
use Rattle.std.proofs.Common.{◌≡◌, ℕ, List, length, Result, Ok, sym, ap, ◌∙◌}
use Rattle.td_values.specs.Rows.{RowsData}
use Rattle.td_algebra.specs.declared.errors.Stop.{Stop}
use Rattle.td_semantics.specs.Databases.{DatabaseData}
use Rattle.td_stamps.specs.Laws.{SameMembersSameList}
use Rattle.td_replica.specs.Laws.{SitesAgree}
use Rattle.td_listings.specs.Laws.{ListingsAgree, LogsAgree, TablesAgree}
use Rattle.td_listings.specs.Texts.{listing_of, log_of, relvar_value}
use Rattle.td_listings.specs.Tables.{table_of}

module _ (agree : SitesAgree) (one_list : SameMembersSameList) where
  pub listings : ListingsAgree
  listings s t h text other a b =
      let k = agree s t h a.outcomes b.outcomes a.database b.database a.told b.told in
      let l = one_list s.entries t.entries h.one_set h.other_set h.members in
      a.lines ∙ (λ i. listing_of (k.1 i) (k.0 i) (length (l i))) ∙ sym b.lines

  pub logs : LogsAgree
  logs s t h text other a b =
      let k = agree s t h a.outcomes b.outcomes a.told.0 b.told.0 a.told.1 b.told.1 in
      let l = one_list s.entries t.entries h.one_set h.other_set h.members in
      a.lines ∙ (λ i. log_of (l i) (k.0 i)) ∙ sym b.lines

  ok_same : (q r : RowsData) → ◌≡◌ {A = Result RowsData Stop} (Ok q) (Ok r) → q ≡ r
  ok_same q r e = cc

  pub tables : TablesAgree
  tables s t h n text other a b =
      let k = agree s t h a.leaves.0 b.leaves.0 a.database b.database a.leaves.1 b.leaves.1 in
      a.records ∙ ap table_of (ok_same a.relation b.relation (sym a.value ∙ ap (λ (d : DatabaseData). relvar_value d n) k.1 ∙ b.value)) ∙ sym b.records
