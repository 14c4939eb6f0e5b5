-- Lists of names: attribute lists, renamings, the names of new attributes.
use Rattle.std.specs.Prelude.{Bool, true, not, ◌&&◌, List, [], ◌∷◌, map, Option}
use Rattle.std.specs.List.{filter}
use Rattle.td_values.specs.Headings.{Header}
use Rattle.td_syntax.specs.declared.tree.Attributes.{Attributes}
use Rattle.td_syntax.specs.declared.tree.Attributes.TheVariants as attributes
use Rattle.td_syntax.specs.declared.tree.Renaming.{Renaming}
use Rattle.td_tuples.specs.Parts.{is_in, is_out, names_of}
use Rattle.td_tuples.specs.Renamings.{name_after}
use Rattle.td_schema.specs.Kinds.{Name, are_there}
use Rattle.td_schema.specs.Results.{where_true}

-- no name stands twice
abbrev pub are_distinct : List Name → Bool
are_distinct [] = true
are_distinct (n ∷ ns) = not (is_in ns n) && are_distinct ns

-- the names in an attribute list
abbrev pub listed : Attributes → List Name
listed (attributes.Only ns) = ns
listed (attributes.AllBut ns) = ns

-- the attributes of h that it means: those, or all but those
abbrev pub chosen : Attributes → Header → List Name
chosen (attributes.Only ns) h = ns
chosen (attributes.AllBut ns) h = filter (is_out ns) (names_of h)

-- An attribute list names attributes of h that are there, each once.
unfoldable pub attributes_of : Attributes → Header → Option (List Name)
attributes_of a h = where_true (are_distinct (listed a) && are_there (listed a) h) (chosen a h)

-- the renamings, each an old name with its new one
abbrev pub renaming_pair : Renaming → Name × Name
renaming_pair r = (r.from, r.to)

abbrev pub old_names : List (Name × Name) → List Name
old_names items = map (λ i. i.0) items

-- The old names are there and distinct, and the names that result are distinct.
abbrev pub may_rename : List (Name × Name) → Header → Bool
may_rename items h = are_distinct (old_names items) && are_there (old_names items) h && are_distinct (map (name_after items) (names_of h))
