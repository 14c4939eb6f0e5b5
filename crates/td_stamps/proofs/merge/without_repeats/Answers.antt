use Rattle.std.proofs.Common.{◌≡◌, ℕ, List, get_or, ◌++◌, ◌∷◌, [], true, None, Some, ◌≤◌, ◌<◌, refl, sym, ap, subst, ◌∙◌, length, ◌-◌, arith}
use Rattle.std.specs.List.{list_all, slice_get}
use Rattle.std.specs.List.Sorted.{IsSortedBy}
use Rattle.std.specs.Option.{option_copied}
use Rattle.std.specs.Vec.Iter.{into_iter_items}
use Rattle.std.proofs.lemmas.List.{append_assoc}
use Rattle.td_stamps.specs.Entries.{before, in_range}
use Rattle.td_stamps.specs.Checks.{first_clash, last_seq}
use Rattle.td_stamps.specs.Sets.{union}
use Rattle.td_stamps.proofs.Sorting.{again, tied_to_last, number_taken, fits_last, so_far_set, after_last, no_last, none_of, number_from_one, latest_push}
use Rattle.td_stamps.proofs.merge.without_repeats.Goals as goal
use Rattle.td_stamps.proofs.merge.without_repeats.Goals.{in-Some-last+else-not-is_before, in_default}

pub loop-entry-preserved-then-is_same : goal.loop-entry-preserved-then-is_same
loop-entry-preserved-then-is_same c =
    let ys = c.loop-entry.yielded in
    let e = c.in-Some.entry in
    let rest = into_iter_items c.next.new.self in
    let seen : c.args.sorted.items ≡ ys ++ e ∷ rest = c.loop-entry.invariant.seen ∙ ap (λ t. ys ++ t) c.in-Some.ensures.steps.0 in
    let sorted = subst (λ t. IsSortedBy before t) seen c.requires.in_order in
    let last : slice_get (union [] ys) (length (union [] ys) - 1) ≡ Some c.in-Some-last.last.now = subst (λ t. slice_get t (length t - 1) ≡ Some c.in-Some-last.last.now) (c.deref.ensures.value ∙ c.loop-entry.invariant.items) (sym c.in-Some-last.ensures.value) in
    let step = again ys e rest sorted c.loop-entry.invariant.clear c.in-Some-last.last.now last (sym c.is_same.ensures ∙ c.if-is_same.true) in
    record {
      seen = rw append_assoc seen;
      clear = step.0;
      items = c.loop-entry.invariant.items ∙ step.1;
      latest = c.loop-entry.invariant.latest;
    }

pub returns-then-not-is_before : goal.returns-then-not-is_before
returns-then-not-is_before c =
    let ys = c.loop-entry.yielded in
    let e = c.in-Some.entry in
    let rest = into_iter_items c.next.new.self in
    let seen : c.args.sorted.items ≡ ys ++ e ∷ rest = c.loop-entry.invariant.seen ∙ ap (λ t. ys ++ t) c.in-Some.ensures.steps.0 in
    let sorted = subst (λ t. IsSortedBy before t) seen c.requires.in_order in
    let last : slice_get (union [] ys) (length (union [] ys) - 1) ≡ Some c.in-Some-last.last.now = subst (λ t. slice_get t (length t - 1) ≡ Some c.in-Some-last.last.now) (c.deref.ensures.value ∙ c.loop-entry.invariant.items) (sym c.in-Some-last.ensures.value) in
    λ none. tied_to_last ys e rest sorted c.loop-entry.invariant.clear c.in-Some-last.last.now last (sym c.is_same.ensures ∙ c.if-is_same.false) (sym c.is_before.ensures ∙ c.if-not-is_before.true) (sym (ap (first_clash []) seen) ∙ none)

pub returns-then-entry-number_at : goal.returns-then-entry-number_at
returns-then-entry-number_at c =
    let ys = c.loop-entry.yielded in
    let e = c.in-Some.entry in
    let rest = into_iter_items c.next.new.self in
    let out = union [] ys in
    let seen : c.args.sorted.items ≡ ys ++ e ∷ rest = c.loop-entry.invariant.seen ∙ ap (λ t. ys ++ t) c.in-Some.ensures.steps.0 in
    let sorted = subst (λ t. IsSortedBy before t) seen c.requires.in_order in
    let set = so_far_set ys e rest sorted c.loop-entry.invariant.clear in
    let is : c.deref.result.now ≡ out = c.deref.ensures.value ∙ c.loop-entry.invariant.items in
    let after : list_all (λ x. before x e) out ≡ true = elim c.match-last.branch [
      | in-Some-last+else-not-is_before w ↦
          let last : slice_get out (length out - 1) ≡ Some w.in-Some-last.last.now = subst (λ t. slice_get t (length t - 1) ≡ Some w.in-Some-last.last.now) is (sym w.in-Some-last.ensures.value) in
          after_last out w.in-Some-last.last.now e set last (sym w.is_before.ensures ∙ w.if-not-is_before.false)
      | in_default w ↦
          let none : slice_get out (length out - 1) ≡ None = subst (λ t. slice_get t (length t - 1) ≡ None) is (sym c.last.ensures.value ∙ ap option_copied (none_of c.last.result w.in_default.not-Some)) in
          subst (λ t. list_all (λ x. before x e) t ≡ true) (sym (no_last out none)) refl
    ] in
    let fits = number_from_one ys e rest (subst (λ t. list_all in_range t ≡ true) seen c.requires.ranges) in
    let number : c.number_at.result ≡ last_seq e.site out = c.number_at.ensures ∙ ap (λ (ns : List ℕ). get_or ns e.site 0) c.deref-in-loop-entry.ensures.value ∙ c.loop-entry.invariant.latest e.site ∙ ap (last_seq e.site) c.loop-entry.invariant.items in
    λ none. number_taken ys e rest sorted c.loop-entry.invariant.clear after fits (subst (λ n. e.seq ≤ n) number (omega arith)) (sym (ap (first_clash []) seen) ∙ none)

pub loop-entry-preserved : goal.loop-entry-preserved
loop-entry-preserved c =
    let ys = c.loop-entry.yielded in
    let e = c.in-Some.entry in
    let rest = into_iter_items c.next.new.self in
    let out = union [] ys in
    let seen : c.args.sorted.items ≡ ys ++ e ∷ rest = c.loop-entry.invariant.seen ∙ ap (λ t. ys ++ t) c.in-Some.ensures.steps.0 in
    let sorted = subst (λ t. IsSortedBy before t) seen c.requires.in_order in
    let set = so_far_set ys e rest sorted c.loop-entry.invariant.clear in
    let is : c.deref.result.now ≡ out = c.deref.ensures.value ∙ c.loop-entry.invariant.items in
    let after : list_all (λ x. before x e) out ≡ true = elim c.match-last.branch [
      | in-Some-last+else-not-is_before w ↦
          let last : slice_get out (length out - 1) ≡ Some w.in-Some-last.last.now = subst (λ t. slice_get t (length t - 1) ≡ Some w.in-Some-last.last.now) is (sym w.in-Some-last.ensures.value) in
          after_last out w.in-Some-last.last.now e set last (sym w.is_before.ensures ∙ w.if-not-is_before.false)
      | in_default w ↦
          let none : slice_get out (length out - 1) ≡ None = subst (λ t. slice_get t (length t - 1) ≡ None) is (sym c.last.ensures.value ∙ ap option_copied (none_of c.last.result w.in_default.not-Some)) in
          subst (λ t. list_all (λ x. before x e) t ≡ true) (sym (no_last out none)) refl
    ] in
    let number : c.number_at.result ≡ last_seq e.site out = c.number_at.ensures ∙ ap (λ (ns : List ℕ). get_or ns e.site 0) c.deref-in-loop-entry.ensures.value ∙ c.loop-entry.invariant.latest e.site ∙ ap (last_seq e.site) c.loop-entry.invariant.items in
    let high : last_seq e.site out < e.seq = subst (λ n. n < e.seq) number (omega arith) in
    let step = fits_last ys e rest sorted c.loop-entry.invariant.clear after high in
    let pushed : c.push.new.self.items ≡ out ++ e ∷ [] = c.in_ok-push.ensures.items ∙ ap (λ t. t ++ e ∷ []) c.loop-entry.invariant.items in
    record {
      seen = rw append_assoc seen;
      clear = step.0;
      items = pushed ∙ step.1;
      latest = λ site. latest_push c.loop-entry.latest.items c.set_number_at.new.numbers.items out e (λ q. c.loop-entry.invariant.latest q ∙ ap (last_seq q) c.loop-entry.invariant.items) high c.in_ok-set_number_at.ensures.numbers site ∙ sym (ap (last_seq site) pushed);
    }
