-- A text has one tree, and a tree that has a type is not ill typed.
use Rattle.std.proofs.Common.{◌≡◌, length, get_or, List, [], ◌∷◌, Some, refl, sym, ap, ◌∙◌, subst}
use Rattle.td_tokens.specs.Lex.{Text}
use Rattle.td_values.specs.declared.TypeKind.{TypeKind}
use Rattle.td_syntax.specs.declared.script.Definition.{Definition}
use Rattle.td_syntax.specs.declared.script.Statement.{Statement}
use Rattle.td_syntax.specs.declared.tree.Expr.{Expr}
use Rattle.td_grammar.specs.Grammar.{IsQuery}
use Rattle.td_grammar.specs.Statements.{IsScript, IsStatement}
use Rattle.td_grammar.proofs.OneTree.{reader_decides_queries}
use Rattle.td_grammar.proofs.OneStatement.{reader_decides_statements, reader_decides_scripts}
use Rattle.td_typed_trees.specs.declared.tree.Typed.{Typed}
use Rattle.td_typing.specs.Types.{Types}
use Rattle.td_headings.specs.Catalogues.{CatalogueData}
use Rattle.td_headings.specs.Definitions.{Defines, names_of_relvars}
use Rattle.td_headings.specs.Statements.{TypesStatement}
use Rattle.td_headings.specs.declared.statement.TypedStatement.{TypedStatement}
use Rattle.td_type_errors.specs.Diagnoses.{IsQueryWithoutType, IsStatementWithoutType, IsDefinitionWithoutType, IsDefinition, IsDefined, FindsDefinition}

some_same : {A : Type 0} (a b : A) → Some a ≡ Some b → a ≡ b
some_same a b h = cc

first_same : {A : Type 0} (a b : A) → a ∷ [] ≡ b ∷ [] → a ≡ b
first_same a b h = cc

one_query : (text : Text) (a b : Expr) → IsQuery text a → IsQuery text b → a ≡ b
one_query text a b p q = some_same a b (sym ((reader_decides_queries text a).1 p) ∙ (reader_decides_queries text b).1 q)

one_statement : (text : Text) (a b : Statement) → IsStatement text a → IsStatement text b → a ≡ b
one_statement text a b p q = some_same a b (sym ((reader_decides_statements text a).1 p) ∙ (reader_decides_statements text b).1 q)

one_script : (text : Text) (a b : List Definition) → IsScript text a → IsScript text b → a ≡ b
one_script text a b p q = some_same a b (sym ((reader_decides_scripts text a).1 p) ∙ (reader_decides_scripts text b).1 q)

-- ---- a text that is not read
pub unread_query : (c : CatalogueData) (text : Text) → ((tree : Expr) → ¬ (IsQuery text tree)) → ¬ (IsQueryWithoutType c text)
unread_query c text none h = none h.0 h.1

pub unread_statement : (c : CatalogueData) (text : Text) → ((tree : Statement) → ¬ (IsStatement text tree)) → ¬ (IsStatementWithoutType c text)
unread_statement c text none h = none h.0 h.1

pub no_definition : (c : CatalogueData) (text : Text) → ((tree : Definition) → ¬ (IsDefinition text tree)) → ¬ (IsDefinitionWithoutType c text)
no_definition c text none h = none h.0 h.1

-- ---- one that is well typed
pub typed_query : (c : CatalogueData) (text : Text) (a : Expr) (u : Typed) (k : TypeKind) → IsQuery text a → Types c.schema (names_of_relvars c) a u k → ¬ (IsQueryWithoutType c text)
typed_query c text a u k read types h = h.2 u k (subst (λ (e : Expr). Types c.schema (names_of_relvars c) e u k) (one_query text a h.0 read h.1) types)

pub typed_statement : (c : CatalogueData) (text : Text) (a : Statement) (x : TypedStatement) → IsStatement text a → TypesStatement c a x → ¬ (IsStatementWithoutType c text)
typed_statement c text a x read types h = h.2 x (subst (λ (s : Statement). TypesStatement c s x) (one_statement text a h.0 read h.1) types)

one_definition : (text : Text) (a b : Definition) → IsDefinition text a → IsDefinition text b → a ≡ b
one_definition text a b p q = first_same a b (one_script text (a ∷ []) (b ∷ []) p q)

-- a script that is not one definition long is no definition
pub not_one : (text : Text) (trees shown : List Definition) → IsScript text trees → shown ≡ trees → ¬ (length shown ≡ 1) → (tree : Definition) → ¬ (IsDefinition text tree)
not_one text trees shown read is longer tree other = longer (ap length (is ∙ one_script text trees (tree ∷ []) read other))

-- the first of what is found is the definition
pub is_first : (text : Text) (trees shown : List Definition) (x : Definition) → FindsDefinition text (Some trees) → shown ≡ trees → x ≡ get_or shown 0 x → IsDefinition text x
is_first text trees shown x found same is = subst (IsDefinition text) (sym (is ∙ ap (λ xs. get_or xs 0 x) (same ∙ found.1))) found.2

pub typed_definition : (c d : CatalogueData) (text : Text) (a : Definition) → IsDefinition text a → Defines c a d → ¬ (IsDefinitionWithoutType c text)
typed_definition c d text a read types h = h.2 d (subst (λ (x : Definition). Defines c x d) (one_definition text a h.0 read h.1) types)

pub is_defined : (c d : CatalogueData) (text : Text) (a : Definition) → IsDefinition text a → Defines c a d → IsDefined c text d
is_defined c d text a read types = record {
  defined = λ b other. subst (λ (x : Definition). Defines c x d) (one_definition text a b read other) types;
  none = λ never. absurd (never a read);
}

pub stays : (c : CatalogueData) (text : Text) → ((tree : Definition) → ¬ (IsDefinition text tree)) → IsDefined c text c
stays c text never = record { defined = λ tree read. absurd (never tree read); none = λ _. refl }
