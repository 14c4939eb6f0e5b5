-- One line more.
use Rattle.std.proofs.Common.{◌≡◌, ◌<◌, ◌+◌, ℕ, add-one, Bor, subst, Bool, true, false, cond, eqb, List, [], ◌∷◌, ◌++◌, length, map, get_or, drop, drop-cons, Option, Some, None, Result, Ok, Err, refl, ap, sym, ◌∙◌}
use Rattle.std.proofs.lemmas.List.{get_or-map, length-map}
use Rattle.std.specs.List.{list_any}
use Rattle.std.specs.Str.{bytes_eq, trim}
use Rattle.td_client_tokens.specs.declared.token.ClientToken.{ClientToken}
use Rattle.td_client_tokens.specs.declared.token.TokenFault.{TokenFault}
use Rattle.td_client_tokens.specs.declared.token.TokenFault.TheVariants.{SecretTwice}
use Rattle.td_client_tokens.specs.declared.text.ReadTokensError.{ReadTokensError}
use Rattle.td_client_tokens.specs.declared.text.ReadTokensError.TheVariants as error
use Rattle.td_client_tokens.specs.Lines.{line_entry}
use Rattle.td_client_tokens.specs.Texts.{is_passed_over, is_same_name, twice, then_more, tokens_after, with_entry, with_line}
use Rattle.td_client_tokens.specs.Tokens.{Entry, shown}
use Rattle.td_client_tokens.proofs.Maps.{list_any_map}

-- the secret and the name are those of an earlier token, or not
abbrev after : List Entry → Entry → Bool → Bool → Result (List Entry) TokenFault
after held e a b = cond a (Err SecretTwice) (cond b (Err (twice e.name)) (Ok (held ++ e ∷ [])))

read_as : (held : List ClientToken) (bs : List ℕ) (e : Entry) (a b : Bool) → is_passed_over bs ≡ false → line_entry bs ≡ Ok e
    → list_any (λ (t : ClientToken). bytes_eq ((shown t).secret) e.secret) held ≡ a → list_any (λ (t : ClientToken). is_same_name ((shown t).name) e.name) held ≡ b
    → with_line (map shown held) bs ≡ after (map shown held) e a b
read_as held bs e a b p q h k =
    ap (λ x. cond x (Ok (map shown held)) (with_entry (map shown held) (line_entry bs))) p ∙ ap (with_entry (map shown held)) q
    ∙ ap (λ x. after (map shown held) e x (list_any (λ (o : Entry). is_same_name o.name e.name) (map shown held))) (list_any_map (λ (o : Entry). bytes_eq o.secret e.secret) shown held ∙ h)
    ∙ ap (λ x. after (map shown held) e a x) (list_any_map (λ (o : Entry). is_same_name o.name e.name) shown held ∙ k)

pub same_secret : (held : List ClientToken) (bs : List ℕ) (e : Entry) → is_passed_over bs ≡ false → line_entry bs ≡ Ok e
    → list_any (λ (t : ClientToken). bytes_eq ((shown t).secret) e.secret) held ≡ true → with_line (map shown held) bs ≡ Err SecretTwice
same_secret held bs e p q h = read_as held bs e true _ p q h refl

pub same_name : (held : List ClientToken) (bs : List ℕ) (e : Entry) → is_passed_over bs ≡ false → line_entry bs ≡ Ok e
    → list_any (λ (t : ClientToken). bytes_eq ((shown t).secret) e.secret) held ≡ false → list_any (λ (t : ClientToken). is_same_name ((shown t).name) e.name) held ≡ true
    → with_line (map shown held) bs ≡ Err (twice e.name)
same_name held bs e p q h k = read_as held bs e false true p q h k

pub one_more : (held : List ClientToken) (bs : List ℕ) (e : Entry) → is_passed_over bs ≡ false → line_entry bs ≡ Ok e
    → list_any (λ (t : ClientToken). bytes_eq ((shown t).secret) e.secret) held ≡ false → list_any (λ (t : ClientToken). is_same_name ((shown t).name) e.name) held ≡ false
    → with_line (map shown held) bs ≡ Ok (map shown held ++ e ∷ [])
one_more held bs e p q h k = read_as held bs e false false p q h k

pub next_line : (ls : List (Bor (List ℕ))) (i : ℕ) (d : Bor (List ℕ)) (held : List Entry) → i < length ls
    → tokens_after (drop i (map (λ x. x.now) ls)) (i + 1) held
    ≡ then_more (i + 1) (tokens_after (drop (i + 1) (map (λ x. x.now) ls)) (i + 1 + 1)) (with_line held (trim ((get_or ls i d).now)))
next_line ls i d held h =
    let xs : List (List ℕ) = map (λ x. x.now) ls in
    let k : i < length xs = subst (λ n. i < n) (sym (length-map ls (λ x. x.now))) h in
    ap (λ bs. tokens_after bs (i + 1) held) (drop-cons xs i [] k)
    ∙ ap (λ n. then_more (i + 1) (tokens_after (drop n xs) (i + 1 + 1)) (with_line held (trim (get_or xs i [])))) (sym (add-one i))
    ∙ ap (λ bs. then_more (i + 1) (tokens_after (drop (i + 1) xs) (i + 1 + 1)) (with_line held (trim bs))) (get_or-map (λ (x : Bor (List ℕ)). x.now) ls i d [] h)
