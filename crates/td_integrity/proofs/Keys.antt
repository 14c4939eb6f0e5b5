-- A key is one where its parts tell the tuples apart.
use Rattle.std.proofs.Common.{◌≡◌, ◌↔◌, ℕ, Bool, true, false, IsTrue, List, refl, sym}
use Rattle.std.specs.List.Sorted.{IsStrictlySortedBy}
use Rattle.td_values.specs.Order.{attrs_order}
use Rattle.td_values.specs.Rows.{RowsData}
use Rattle.td_algebra.specs.Keys.{TellApart}
use Rattle.td_semantics.specs.Tests.{is_key}
use Rattle.td_integrity.proofs.Apart.{keys_apart}

same_answer : {P : Type 0} (a b : Bool) → IsTrue a ↔ P → (b ≡ true) ↔ P → a ≡ b
same_answer true b p q = sym (q.1 (p.0 refl))
same_answer false true p q = p.1 (q.0 refl)
same_answer false false p q = refl

pub tested : (key : List (List ℕ)) (r : RowsData) (b : Bool) → IsStrictlySortedBy attrs_order r.tuples → IsTrue b ↔ TellApart key r → b ≡ is_key key r.tuples
tested key r b sorted says = same_answer b (is_key key r.tuples) says (keys_apart key r sorted)
