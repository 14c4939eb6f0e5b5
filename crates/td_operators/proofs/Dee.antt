-- The tuple without attributes has the heading without columns.
use Rattle.std.proofs.Common.{◌≡◌, ◌<◌, ℕ, zero, suc, List, [], ◌∷◌, length, get_or, ap, sym, subst, arith}
use Rattle.std.specs.FinMap as by_name
use Rattle.std.specs.List.{All}
use Rattle.td_values.specs.Data.{Attrs, no_attrs, fields_of}
use Rattle.td_values.specs.Headings.{Header}
use Rattle.td_tuples.specs.Parts.{Fits}
use Rattle.td_tuples.proofs.Lists.{entries-from_entries}

none_fits : Fits by_name.empty no_attrs
none_fits = sym (ap fields_of (entries-from_entries [] tt))

one_fits : (k : ℕ) (d : Attrs) → k < length (no_attrs ∷ []) → Fits by_name.empty (get_or (no_attrs ∷ []) k d)
one_fits zero d p = none_fits
one_fits (suc k) d p = absurd (omega (arith, p))

pub dee_fits : (h : Header) (ts : List Attrs) → h ≡ by_name.empty → ts ≡ no_attrs ∷ [] → All (Fits h) ts
dee_fits h ts is one = subst (λ g. All (Fits g) ts) (sym is) (subst (All (Fits by_name.empty)) (sym one) one_fits)
