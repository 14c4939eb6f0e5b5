use Rattle.std.proofs.Common.{◌≡◌, ◌++◌, ◌∷◌, Bool, true, false, cond, ℕ, List, Vec, Global, [], get_or, take, sym, ap, ◌∙◌, append-nil}
use Rattle.td_comparison.specs.ForProofs.{is_unequal, sites_unequal}
use Rattle.td_comparison.specs.declared.digest.SiteDigest.{SiteDigest}
use Rattle.td_comparison.proofs.Unequal.{more_unequal, none_unequal}
use Rattle.td_comparison.proofs.differing.unequal_sites.Goals as goal
use Rattle.td_comparison.proofs.differing.unequal_sites.Goals.{then-is_unequal+in_ok-push, else-is_unequal}

pub loop-at-init : goal.loop-at-init
loop-at-init c = c.new-sites.ensures.items ∙ sym (none_unequal c.args.are_answers)

abbrev none : SiteDigest
none = record { site = 0; number = 0; digest = [] }

pub loop-at-preserved : goal.loop-at-preserved
loop-at-preserved c =
    let i = c.loop-at.at in
    let b = c.args.are_answers in
    let own = c.args.own.now in
    let others = c.args.others.now in
    let site = (get_or others i none).site in
    let so_far = sites_unequal b (take i own) (take i others) in
    let step = more_unequal b own others i none none c.requires c.loop-at-test.true in
    elim c.if-is_unequal.branch [
      | then-is_unequal+in_ok-push w ↦
          let is : is_unequal b (get_or own i none) (get_or others i none) ≡ true = sym c.is_unequal.ensures ∙ w.if-is_unequal.true in
          let items : c.if-is_unequal.sites.items ≡ c.loop-at.sites.items ++ site ∷ [] = ap (λ (v : Vec ℕ Global). v.items) w.sites-is ∙ w.in_ok-push.ensures.items in
          items ∙ ap (λ (l : List ℕ). l ++ site ∷ []) c.loop-at.invariant ∙ ap (λ (t : Bool). so_far ++ cond t (site ∷ []) []) (sym is) ∙ sym step
      | else-is_unequal w ↦
          let is : is_unequal b (get_or own i none) (get_or others i none) ≡ false = sym c.is_unequal.ensures ∙ w.if-is_unequal.false in
          let items : c.if-is_unequal.sites.items ≡ c.loop-at.sites.items = ap (λ (v : Vec ℕ Global). v.items) w.sites-is in
          items ∙ c.loop-at.invariant ∙ sym (append-nil so_far) ∙ ap (λ (t : Bool). so_far ++ cond t (site ∷ []) []) (sym is) ∙ sym step
    ]
