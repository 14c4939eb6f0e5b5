-- What is kept of sites, and what is kept when one more is.
use Rattle.std.proofs.Common.{◌≡◌, ℕ, ◌≤◌, Bool, true, false, cond, eqb, List, Option, Some, refl, sym, ap, subst, ◌∙◌, arith, nat_cmp}
use Rattle.std.specs.BTreeMap as by_site
use Rattle.std.specs.BTreeMap.{is_at}
use Rattle.std.specs.Cmp.{unsigned_tied}
use Rattle.std.specs.Prelude.{IfSome}
use Rattle.std.proofs.lemmas.Bool.{eqb-true}
use Rattle.td_stamps.specs.declared.entry.Entry.{Entry}
use Rattle.td_stamps.specs.Sets.{is_set}
use Rattle.td_comparison.specs.Hashed.{IsFed, IsPrefixOf}
use Rattle.td_comparison.specs.declared.digest.SiteFeed.{SiteFeed}
use Rattle.td_comparison.specs.declared.prefixes.SitePrefix.{SitePrefix}
use Rattle.td_comparison.proofs.Beyond.{all_taken}

-- what a feed has taken of all that is held, where no number is missing
pub prefix_of : (xs : List Entry) (f : SiteFeed) → is_set xs ≡ true → f.number ≤ f.last → IsFed xs xs f → IsPrefixOf xs f.site (record { number = f.number; hasher = f.hasher })
prefix_of xs f set whole fed = record { all = λ k low high. fed.all k low (omega arith); taken = all_taken xs f set fed }

pub kept_with : (xs : List Entry) (m n : by_site.BTreeMap ℕ SitePrefix) (site : ℕ) (new : SitePrefix) → ((q : ℕ) → by_site.get nat_cmp n q ≡ cond (is_at (nat_cmp site) q) (Some new) (by_site.get nat_cmp m q)) → IsPrefixOf xs site new
    → ((s : ℕ) (p : SitePrefix) → by_site.get nat_cmp m s ≡ Some p → IsPrefixOf xs s p) → (s : ℕ) (p : SitePrefix) → by_site.get nat_cmp n s ≡ Some p → IsPrefixOf xs s p
kept_with xs m n site new updated is others s p found =
    by_case (eqb site s) refl (sym (updated s ∙ ap (λ (b : Bool). cond b (Some new) (by_site.get nat_cmp m s)) (unsigned_tied site s)) ∙ found)
  where
    same_prefix : Some new ≡ Some p → IsPrefixOf xs site p
    same_prefix eq = subst (λ (o : Option SitePrefix). IfSome o (IsPrefixOf xs site)) eq is

    by_case : (b : Bool) → eqb site s ≡ b → cond b (Some new) (by_site.get nat_cmp m s) ≡ Some p → IsPrefixOf xs s p
    by_case true here eq = subst (λ (q : ℕ). IsPrefixOf xs q p) (eqb-true site s here) (same_prefix eq)
    by_case false other eq = others s p eq
