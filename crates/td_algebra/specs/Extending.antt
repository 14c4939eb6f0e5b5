-- Extension: each tuple with new attributes, each the value of a function on it (Date and Darwen, The Third Manifesto).
use Rattle.std.specs.Prelude.{◌≡◌, ℕ, List, Result, Ok, Err, if◌then◌else◌}
use Rattle.std.specs.Borrow.{Bor}
use Rattle.std.specs.List.{All, Contains}
use Rattle.td_algebra.specs.declared.errors.Stop.{Stop}
use Rattle.td_algebra.specs.declared.errors.Stop.TheVariants.{Untyped}
use Rattle.std.specs.Ordering.{is_eq}
use Rattle.td_values.specs.Data.{Ty, Datum, Attrs}
use Rattle.td_values.specs.Order.{ty_order}
use Rattle.td_values.specs.Rows.{RowsData}
use Rattle.td_values.specs.Whole.{type_of}
use Rattle.td_relations.specs.Sets.{Has}
use Rattle.td_tuples.specs.Unions.{beside, tuple_of}
use Rattle.td_algebra.specs.declared.errors.Fault.{Fault}
use Rattle.td_tuples.specs.declared.items.Item.{Item}
use Rattle.td_algebra.specs.Raising.{Answers, all_of, and_then}

-- what a term means at a tuple: a value or an error
abbrev pub TermMeaning : Type 0 → Type 0
TermMeaning E = E → Attrs → Result Datum Stop

-- the name with the value, if that is of the type
abbrev pub typed_field : List ℕ → Ty → Datum → Result (List ℕ × Datum) Stop
typed_field n ty d = if is_eq (ty_order (type_of d) ty) then Ok (n, d) else Err Untyped

-- the item's name with its value at the tuple
abbrev pub field_at : {E : Type 0} → TermMeaning E → Attrs → Item E → Result (List ℕ × Datum) Stop
field_at m t i = and_then (m i.term t) (typed_field i.name i.ty)

-- the names and values of all items at the tuple, or the least error of theirs
abbrev pub fields_at : {E : Type 0} → TermMeaning E → List (Item E) → Attrs → Result (List (List ℕ × Datum)) Stop
fields_at m items t = all_of (field_at m t) items

-- the tuple with the items' values, new or replaced
abbrev pub extended_at : {E : Type 0} → TermMeaning E → List (Item E) → Attrs → Result Attrs Stop
extended_at m items t = and_then (fields_at m items t) (λ fs. Ok (beside (tuple_of fs) t))

-- each t of r with the items' values on t
abbrev pub Extended : {E : Type 0} → TermMeaning E → List (Item E) → RowsData → Attrs → Type 0
Extended m items r u = (t : Attrs) × Has r t × (extended_at m items t ≡ Ok u)

-- an item raises this error at a tuple of r
abbrev pub RaisedBy : {E : Type 0} → TermMeaning E → List (Item E) → RowsData → Stop → Type 0
RaisedBy {E} m items r e = (i : Item E) × (t : Attrs) × Contains items i × Has r t × (field_at m t i ≡ Err e)

-- what a function takes at a term and a tuple
abbrev pub TakesBoth : {E : Type 0} → (Bor E → Bor Attrs → Type 0) → E → Attrs → Type 0
TakesBoth pre e t = (p : _) (q : _) → p.now ≡ e → q.now ≡ t → pre p q

-- what it answers there is the meaning
abbrev pub Means : {E W : Type 0} → (Bor E → Bor Attrs → Result Datum (Fault W) → Type 0) → TermMeaning E → E → Attrs → Type 0
Means {W = W} post m e t = (p : _) (q : _) (a : Result Datum (Fault W)) → p.now ≡ e → q.now ≡ t → post p q a → Answers a (m e t)

-- what a function takes at the terms of all items and a tuple; and what it answers there is the meaning
abbrev pub TakesItems : {E : Type 0} → (Bor E → Bor Attrs → Type 0) → List (Item E) → Attrs → Type 0
TakesItems pre items t = All (λ i. TakesBoth pre i.term t) items

abbrev pub MeansItems : {E W : Type 0} → (Bor E → Bor Attrs → Result Datum (Fault W) → Type 0) → TermMeaning E → List (Item E) → Attrs → Type 0
MeansItems post m items t = All (λ i. Means post m i.term t) items
