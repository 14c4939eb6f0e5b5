-- What a set has up to an entry of a stamp is one.
use Rattle.std.proofs.Common.{◌≡◌, true, List, [], ◌∷◌, ◌++◌, sym, ap, ◌∙◌, subst, append_assoc}
use Rattle.td_stamps.specs.Sets.{is_set}
use Rattle.td_stamps.specs.declared.entry.Entry.{Entry}
use Rattle.td_stamps.specs.declared.entry.Stamp.{Stamp}
use Rattle.td_replica.specs.Past.{EndsAt}
use Rattle.td_replica.proofs.Places.{one_place}

pub one_front : (at : Stamp) (es fs front other : List Entry) → is_set es ≡ true → es ≡ fs → EndsAt at es front → EndsAt at fs other → front ≡ other
one_front at es fs front other set same p q =
    let here : es ≡ p.before ++ p.last ∷ p.behind = p.all ∙ ap (λ (l : List Entry). l ++ p.behind) p.front_is ∙ append_assoc p.before (p.last ∷ []) p.behind in
    let there : fs ≡ q.before ++ q.last ∷ q.behind = q.all ∙ ap (λ (l : List Entry). l ++ q.behind) q.front_is ∙ append_assoc q.before (q.last ∷ []) q.behind in
    let place = one_place p.before q.before p.last q.last p.behind q.behind (subst (λ (l : List Entry). is_set l ≡ true) here set) (sym here ∙ same ∙ there) (p.stamp ∙ sym q.stamp) in
    p.front_is ∙ (λ i. place.0 i ++ place.1 i ∷ []) ∙ sym q.front_is
