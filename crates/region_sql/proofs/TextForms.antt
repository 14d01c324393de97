-- The text literals of a list of row statements are UTF-8.
use Rattle.std.proofs.Common.{◌≡◌, ℕ, List, [], ◌∷◌, Option, None, Some, All, subst, sym, inl, inr}
use Rattle.std.specs.Prelude.{⊤}
use Rattle.std.proofs.lemmas.List.Elements.{All-cons, All-nil}
use Rattle.std.proofs.lemmas.Option.{none-some, same_Some}
use Rattle.region_sql.specs.declared.row_readers.Change.{Change}
use Rattle.region_sql.specs.declared.row_readers.Change.TheVariants as changes
use Rattle.region_sql.specs.declared.row_statements.Literal.{Literal}
use Rattle.region_sql.specs.declared.row_statements.Literal.TheVariants as literals
use Rattle.region_sql.specs.declared.row_statements.RowStatement.{RowStatement}
use Rattle.region_sql.specs.declared.row_statements.RowStatement.TheVariants as rows
use Rattle.region_sql.specs.declared.row_statements.Target.{Target}
use Rattle.region_sql.specs.declared.row_statements.Term.{Term}
use Rattle.region_sql.specs.declared.row_statements.Value.TheVariants as values
use Rattle.region_sql.specs.declared.tokens.Key.TheVariants as key
use Rattle.region_sql.specs.declared.tokens.Sign.TheVariants as sign
use Rattle.region_sql.specs.declared.tokens.Token.{Token}
use Rattle.region_sql.specs.declared.tokens.Token.TheVariants as token
use Rattle.region_sql.specs.Tokens.{key_number, sign_number}
use Rattle.region_sql.specs.Forms.{AreEnded, AreListed, Fits, Form, as_value, both, either, listed, maybe}
use Rattle.region_sql.specs.Grammar.{IsListText, change, changed, compare, delete, equals, insert, inside, list_or_none, literal, literal_in, literal_list, mark, name, names, row, row_list, row_statement, row_statements, select, target, targets, term, terms, three, update, value, wanted, where_terms, word, ◌▸◌, ◌◂◌}
use Rattle.region_sql.specs.TextLiterals.{IsUtf8Literal, IsUtf8Value, TextsAreUtf8}
use Rattle.region_sql.proofs.TextTokens.{AreUtf8Tokens, IsUtf8Token, utf8_back, utf8_front, utf8_of_split}

-- Each value of a form whose tokens are UTF-8 has P.
abbrev Gives : {A : Type 0} → Form A → (A → Type 0) → Type 0
Gives {A} f P = (v : A) (ts : List Token) → AreUtf8Tokens ts → Fits f v ts → P v

-- ---- how forms are put together

anything : {A : Type 0} (f : Form A) → Gives f (λ _. ⊤)
anything f v ts all x = tt

of_both : {A B C : Type 0} (f : Form A) (g : Form B) (h : A → B → C) (P : A → Type 0) (Q : B → Type 0) (R : C → Type 0)
    → ((a : A) (b : B) → P a → Q b → R (h a b)) → Gives f P → Gives g Q → Gives (both f g h) R
of_both f g h P Q R r p q v ts all x =
    let texts = subst AreUtf8Tokens x.5 all in
    subst R (sym x.4) (r x.0 x.1 (p x.0 x.2 (utf8_front x.2 x.3 texts) x.6) (q x.1 x.3 (utf8_back x.2 x.3 texts) x.7))

of_value : {A B : Type 0} (f : Form A) (h : A → B) (P : A → Type 0) (R : B → Type 0) → ((a : A) → P a → R (h a)) → Gives f P → Gives (as_value f h) R
of_value f h P R r p v ts all x = subst R (sym x.1) (r x.0 (p x.0 ts all x.2))

of_either : {A : Type 0} (f g : Form A) (P : A → Type 0) → Gives f P → Gives g P → Gives (either f g) P
of_either f g P p q v ts all (inl x) = p v ts all x
of_either f g P p q v ts all (inr x) = q v ts all x

of_maybe : {A : Type 0} (f : Form A) (P : A → Type 0) (R : Option A → Type 0) → R None → ((a : A) → P a → R (Some a)) → Gives f P → Gives (maybe f) R
of_maybe f P R n s p None ts all x = n
of_maybe f P R n s p (Some a) ts all x = s a (p a ts all x)

second : {A B : Type 0} (f : Form A) (g : Form B) (P : B → Type 0) → Gives g P → Gives (f ▸ g) P
second f g P p = of_both f g (λ a b. b) (λ _. ⊤) P P (λ a b _ h. h) (anything f) p

first : {A B : Type 0} (f : Form A) (g : Form B) (P : A → Type 0) → Gives f P → Gives (f ◂ g) P
first f g P p = of_both f g (λ a b. a) P (λ _. ⊤) P (λ a b h _. h) p (anything g)

within : {A : Type 0} (f : Form A) (P : A → Type 0) → Gives f P → Gives (inside f) P
within f P p = second (mark sign.Open) (f ◂ mark sign.Close) P (first f (mark sign.Close) P p)

are_listed : {A : Type 0} (kind : ℕ) (f : Form A) (P : A → Type 0) → Gives f P → (v : List A) (ts : List Token) → AreUtf8Tokens ts
    → AreListed kind (λ a us. Fits f a us) v ts → All P v
are_listed kind f P p [] ts all x = absurd x
are_listed kind f P p (a ∷ []) ts all x = All-cons P a [] (p a ts all x) (All-nil P)
are_listed kind f P p (a ∷ b ∷ more) ts all x =
    let texts = subst AreUtf8Tokens x.3 all in
    All-cons P a (b ∷ more) (p a x.0 (utf8_front x.0 (x.1 ∷ x.2) texts) x.5) (are_listed kind f P p (b ∷ more) x.2 (utf8_back x.0 (x.1 ∷ x.2) texts).1 x.6)

of_listed : {A : Type 0} (kind : ℕ) (f : Form A) (P : A → Type 0) → Gives f P → Gives (listed kind f) (All P)
of_listed kind f P p v ts all x = are_listed kind f P p v ts all x

are_ended : {A : Type 0} (kind : ℕ) (f : Form A) (P : A → Type 0) → Gives f P → (v : List A) (ts : List Token) → AreUtf8Tokens ts
    → AreEnded kind (λ a us. Fits f a us) v ts → All P v
are_ended kind f P p [] ts all x = absurd x
are_ended kind f P p (a ∷ []) ts all (inl x) = All-cons P a [] (p a ts all x) (All-nil P)
are_ended kind f P p (a ∷ []) ts all (inr x) = All-cons P a [] (p a x.0 (utf8_front x.0 (x.1 ∷ []) (subst AreUtf8Tokens x.2 all)) x.4) (All-nil P)
are_ended kind f P p (a ∷ b ∷ more) ts all x =
    let texts = subst AreUtf8Tokens x.3 all in
    All-cons P a (b ∷ more) (p a x.0 (utf8_front x.0 (x.1 ∷ x.2) texts) x.5) (are_ended kind f P p (b ∷ more) x.2 (utf8_back x.0 (x.1 ∷ x.2) texts).1 x.6)

of_three : {A B C D : Type 0} (f : Form A) (g : Form B) (h : Form C) (make : A → B → C → D) (Q : B → Type 0) (S : C → Type 0) (R : D → Type 0)
    → ((a : A) (b : B) (c : C) → Q b → S c → R (make a b c)) → Gives g Q → Gives h S → Gives (three f g h make) R
of_three {B = B} {C = C} f g h make Q S R r q s =
    of_both {B = B × C} f (both g h (λ b c. (b, c))) (λ a p. make a p.0 p.1) (λ _. ⊤) (λ p. Q p.0 × S p.1) R (λ a p _ k. r a p.0 p.1 k.0 k.1) (anything f)
    (of_both {C = B × C} g h (λ b c. (b, c)) Q S (λ p. Q p.0 × S p.1) (λ b c k l. (k, l)) q s)

-- ---- literals

literal_from : (t : Token) (v : Literal) → IsUtf8Token t → literal_in t ≡ Some v → IsUtf8Literal v
literal_from (token.Integer n) v h e = subst IsUtf8Literal (same_Some (literals.Int n) v e) tt
literal_from (token.Negative n m) v h e = subst IsUtf8Literal (same_Some (literals.Int n) v e) tt
literal_from (token.Text s) v h e = subst IsUtf8Literal (same_Some (literals.Text s) v e) h
literal_from (token.Bool b) v h e = subst IsUtf8Literal (same_Some (literals.Bool b) v e) tt
literal_from _ v h e = absurd (none-some v e)

literal_utf8 : Gives literal IsUtf8Literal
unfolding literal
literal_utf8 v ts all x = let t : IsUtf8Token x.0 = (subst AreUtf8Tokens x.1 all).0 in literal_from x.0 v t x.2

-- ---- terms

abbrev IsUtf8Term : Term → Type 0
IsUtf8Term x = IsUtf8Literal x.literal

term_utf8 : Gives term IsUtf8Term
unfolding term
term_utf8 = of_three name compare literal _ (λ _. ⊤) IsUtf8Literal IsUtf8Term (λ a b c _ h. h) (anything compare) literal_utf8

terms_utf8 : Gives terms (All IsUtf8Term)
unfolding terms
terms_utf8 = of_listed (key_number key.And) term IsUtf8Term term_utf8

where_utf8 : Gives where_terms (All IsUtf8Term)
unfolding where_terms
where_utf8 =
    of_value (maybe (word key.Where ▸ terms)) list_or_none (λ o. All IsUtf8Term (list_or_none o)) (All IsUtf8Term) (λ o h. h)
    (of_maybe (word key.Where ▸ terms) (All IsUtf8Term) (λ o. All IsUtf8Term (list_or_none o)) (All-nil IsUtf8Term) (λ a h. h) (second (word key.Where) terms (All IsUtf8Term) terms_utf8))

-- ---- rows of VALUES

row_utf8 : Gives row (All IsUtf8Literal)
unfolding row literal_list
row_utf8 = within literal_list (All IsUtf8Literal) (of_listed (sign_number sign.Comma) literal IsUtf8Literal literal_utf8)

rows_utf8 : Gives row_list (All (All IsUtf8Literal))
unfolding row_list
rows_utf8 = of_listed (sign_number sign.Comma) row (All IsUtf8Literal) row_utf8

-- ---- targets of UPDATE

changed_utf8 : (column : List ℕ) (o : Option Change) → IsUtf8Value (changed column o)
changed_utf8 column None = tt
changed_utf8 column (Some (changes.Plus n)) = tt
changed_utf8 column (Some (changes.Minus n)) = tt

value_utf8 : Gives value IsUtf8Value
unfolding value
value_utf8 =
    of_either (as_value literal values.Literal) (both name (maybe change) changed) IsUtf8Value
    (of_value literal values.Literal IsUtf8Literal IsUtf8Value (λ a h. h) literal_utf8)
    (of_both name (maybe change) changed (λ _. ⊤) (λ _. ⊤) IsUtf8Value (λ a b _ _. changed_utf8 a b) (anything name) (anything (maybe change)))

abbrev IsUtf8Target : Target → Type 0
IsUtf8Target x = IsUtf8Value x.value

target_utf8 : Gives target IsUtf8Target
unfolding target
target_utf8 = of_both (name ◂ equals) value _ (λ _. ⊤) IsUtf8Value IsUtf8Target (λ a b _ h. h) (anything (name ◂ equals)) value_utf8

targets_utf8 : Gives targets (All IsUtf8Target)
unfolding targets
targets_utf8 = of_listed (sign_number sign.Comma) target IsUtf8Target target_utf8

-- ---- statements

insert_utf8 : Gives insert TextsAreUtf8
unfolding insert
insert_utf8 =
    of_three (word key.Insert ▸ word key.Into ▸ name) (inside names) (word key.Values ▸ row_list) rows.Insert (λ _. ⊤) (All (All IsUtf8Literal)) TextsAreUtf8 (λ a b c _ h. h)
    (anything (inside names)) (second (word key.Values) row_list (All (All IsUtf8Literal)) rows_utf8)

select_utf8 : Gives select TextsAreUtf8
unfolding select
select_utf8 =
    of_three (word key.Select ▸ wanted) (word key.From ▸ name) where_terms (λ what table conditions. rows.Select table what conditions) (λ _. ⊤) (All IsUtf8Term) TextsAreUtf8 (λ a b c _ h. h)
    (anything (word key.From ▸ name)) where_utf8

update_utf8 : Gives update TextsAreUtf8
unfolding update
update_utf8 =
    of_three (word key.Update ▸ name) (word key.Set ▸ targets) where_terms rows.Update (All IsUtf8Target) (All IsUtf8Term) TextsAreUtf8 (λ a b c h k. (h, k))
    (second (word key.Set) targets (All IsUtf8Target) targets_utf8) where_utf8

delete_utf8 : Gives delete TextsAreUtf8
unfolding delete
delete_utf8 =
    of_both (word key.Delete ▸ word key.From ▸ name) where_terms rows.Delete (λ _. ⊤) (All IsUtf8Term) TextsAreUtf8 (λ a b _ h. h)
    (anything (word key.Delete ▸ word key.From ▸ name)) where_utf8

statement_utf8 : Gives row_statement TextsAreUtf8
unfolding row_statement
statement_utf8 =
    of_either insert (either select (either update delete)) TextsAreUtf8 insert_utf8
    (of_either select (either update delete) TextsAreUtf8 select_utf8 (of_either update delete TextsAreUtf8 update_utf8 delete_utf8))

-- the text literals of a list that some bytes are
pub texts_of_list : (text : List ℕ) (list : List RowStatement) → IsListText text list → All TextsAreUtf8 list
unfolding row_statements
texts_of_list text list x = are_ended (sign_number sign.Semicolon) row_statement TextsAreUtf8 statement_utf8 list x.0 (utf8_of_split text x.0 x.1) x.2
