-- The new names of a region statement are texts.
use Rattle.std.proofs.Common.{◌≡◌, ℕ, List, [], ◌∷◌, Option, None, Some, All, IsUtf8, sym, ap, ◌∙◌, subst, inl, inr, codes, rules}
use Rattle.std.proofs.lemmas.List.Elements.{All-cons, All-nil}
use Rattle.std.proofs.lemmas.Option.{none-some, same_Some}
use Rattle.region_sql.specs.declared.region_statements.ColumnType.{ColumnType}
use Rattle.region_sql.specs.declared.region_statements.Goal.{Goal}
use Rattle.region_sql.specs.declared.region_statements.Item.{Item}
use Rattle.region_sql.specs.declared.region_statements.Item.TheVariants as items
use Rattle.region_sql.specs.declared.region_statements.RegionStatement.{RegionStatement}
use Rattle.region_sql.specs.declared.statements.Statement.TheVariants as statements
use Rattle.region_sql.specs.declared.tokens.Key.TheVariants as key
use Rattle.region_sql.specs.declared.tokens.Sign.TheVariants as sign
use Rattle.region_sql.specs.declared.tokens.Soft.TheVariants as softs
use Rattle.region_sql.specs.declared.tokens.Token.{Token}
use Rattle.region_sql.specs.declared.tokens.Token.TheVariants as token
use Rattle.region_sql.specs.Tokens.{sign_number}
use Rattle.region_sql.specs.Forms.{AreListed, Fits, Form, as_value, either}
use Rattle.region_sql.specs.Grammar.{IsStatementText, alter, alteration, altered_database, altered_table, column, create, item, item_list, made_database, mark, word, name, name_in, new_database, new_table, region_statement, statement, used, ◌▸◌, ◌◂◌}
use Rattle.descriptors.specs.Changes.{NewNamesAreUtf8}
use Rattle.descriptors.specs.Columns.{columns_of}
use Rattle.descriptors.proofs.Tokens.{AreTexts, IsText, texts_back, texts_front, texts_of}

-- Each value of a form whose tokens name texts has P.
abbrev Gives : {A : Type 0} → Form A → (A → Type 0) → Type 0
Gives {A} f P = (v : A) (ts : List Token) → AreTexts ts → Fits f v ts → P v

second : {A B : Type 0} (f : Form A) (g : Form B) (P : B → Type 0) → Gives g P → Gives (f ▸ g) P
second f g P h v ts all x = subst P (sym x.4) (h x.1 x.3 (texts_back x.2 x.3 (subst AreTexts x.5 all)) x.7)

first : {A B : Type 0} (f : Form A) (g : Form B) (P : A → Type 0) → Gives f P → Gives (f ◂ g) P
first f g P h v ts all x = subst P (sym x.4) (h x.0 x.2 (texts_front x.2 x.3 (subst AreTexts x.5 all)) x.6)

mapped : {A B : Type 0} (f : Form A) (h : A → B) (P : B → Type 0) → ((a : A) → P (h a)) → Gives (as_value f h) P
mapped f h P each v ts all x = subst P (sym x.1) (each x.0)

one_of : {A : Type 0} (f g : Form A) (P : A → Type 0) → Gives f P → Gives g P → Gives (either f g) P
one_of f g P h k v ts all (inl x) = h v ts all x
one_of f g P h k v ts all (inr x) = k v ts all x

default_text : IsUtf8 (codes "default")
default_text = search rules

placement_text : IsUtf8 (codes "placement")
placement_text = search rules

restricted_text : IsUtf8 (codes "restricted")
restricted_text = search rules

named : (t : Token) (v : List ℕ) → IsText t → name_in t ≡ Some v → IsUtf8 v
named (token.Name n) v h e = subst IsUtf8 (same_Some n v e) h
named (token.Soft softs.Default) v h e = subst IsUtf8 (same_Some (codes "default") v e) default_text
named (token.Soft softs.Placement) v h e = subst IsUtf8 (same_Some (codes "placement") v e) placement_text
named (token.Soft softs.Restricted) v h e = subst IsUtf8 (same_Some (codes "restricted") v e) restricted_text
named _ v h e = absurd (none-some v e)

name_text : Gives name IsUtf8
unfolding name
name_text v ts all x = let t : IsText x.0 = (subst AreTexts x.1 all).0 in named x.0 v t x.2

-- ---- CREATE DATABASE

made_text : (n : List ℕ) (o : Option ((List ℕ × List (List ℕ)) × Option Goal)) → IsUtf8 n → NewNamesAreUtf8 (made_database n o)
made_text n None h = h
made_text n (Some r) h = h

database_text : Gives new_database NewNamesAreUtf8
unfolding new_database
database_text v ts all x =
    subst NewNamesAreUtf8 (sym x.4) (made_text x.0 x.1 (second (word key.Database) name IsUtf8 name_text x.0 x.2 (texts_front x.2 x.3 (subst AreTexts x.5 all)) x.6))

-- ---- CREATE TABLE

abbrev IsNamed : Item → Type 0
IsNamed (items.Column n ty _ key) = IsUtf8 n
IsNamed (items.Key columns) = Unit {0}

column_text : Gives column IsNamed
unfolding column
column_text v ts all x =
    let front = texts_front x.2 x.3 (subst AreTexts x.5 all) in
    let typed = x.6 in
    let inner = texts_front typed.2 typed.3 (subst AreTexts typed.5 front) in
    let named' = typed.6 in
    let text : IsUtf8 named'.0 = name_text named'.0 named'.2 (texts_front named'.2 named'.3 (subst AreTexts named'.5 inner)) named'.6 in
    let same : x.0.0.0 ≡ named'.0 = ap (λ p. p.0.0) typed.4 ∙ ap (λ p. p.0) named'.4 in
    subst IsNamed (sym x.4) (subst IsUtf8 (sym same) text)

item_text : Gives item IsNamed
unfolding item
item_text v ts all (inl x) = subst IsNamed (sym (x.4 ∙ x.7.4 ∙ x.7.7.1)) tt
item_text v ts all (inr x) = column_text v ts all x

one_more : (i : Item) (more : List Item) → IsNamed i → All (λ c. IsUtf8 c.0) (columns_of more) → All (λ c. IsUtf8 c.0) (columns_of (i ∷ more))
one_more (items.Column n ty _ key) more h rest = All-cons (λ (c : List ℕ × ColumnType). IsUtf8 c.0) (n, ty) (columns_of more) h rest
one_more (items.Key columns) more h rest = rest

listed_text : (kind : ℕ) (v : List Item) (ts : List Token) → AreTexts ts → AreListed kind (λ a us. Fits item a us) v ts → All (λ c. IsUtf8 c.0) (columns_of v)
listed_text kind [] ts all x = absurd x
listed_text kind (i ∷ []) ts all x = one_more i [] (item_text i ts all x) (All-nil (λ (c : List ℕ × ColumnType). IsUtf8 c.0))
listed_text kind (i ∷ j ∷ more) ts all x =
    let whole = subst AreTexts x.3 all in
    one_more i (j ∷ more) (item_text i x.0 (texts_front x.0 (x.1 ∷ x.2) whole) x.5) (listed_text kind (j ∷ more) x.2 (texts_back x.0 (x.1 ∷ x.2) whole).1 x.6)

list_text : Gives item_list (λ v. All (λ c. IsUtf8 c.0) (columns_of v))
unfolding item_list
list_text v ts all x = listed_text (sign_number sign.Comma) v ts all x

table_text : Gives new_table NewNamesAreUtf8
unfolding new_table
table_text v ts all x =
    let both_texts = subst AreTexts x.5 all in
    let n : IsUtf8 x.0 = second (word key.Table) name IsUtf8 name_text x.0 x.2 (texts_front x.2 x.3 both_texts) x.6 in
    let rest = x.7 in
    let i : All (λ c. IsUtf8 c.0) (columns_of rest.0) = second (mark sign.Open) (item_list ◂ mark sign.Close) (λ v. All (λ c. IsUtf8 c.0) (columns_of v)) (first item_list (mark sign.Close) (λ v. All (λ c. IsUtf8 c.0) (columns_of v)) list_text) rest.0 rest.2 (texts_front rest.2 rest.3 (subst AreTexts rest.5 (texts_back x.2 x.3 both_texts))) rest.6 in
    let same : x.1.0 ≡ rest.0 = ap (λ p. p.0) rest.4 in
    subst NewNamesAreUtf8 (sym x.4) (n, subst (λ l. All (λ (c : List ℕ × ColumnType). IsUtf8 c.0) (columns_of l)) (sym same) i)

-- ---- the other statements bring no names

abbrev BringsNone : (List ℕ → RegionStatement) → Type 0
BringsNone change = (d : List ℕ) → NewNamesAreUtf8 (change d)

alteration_text : Gives alteration BringsNone
unfolding alteration
alteration_text v ts all (inl x) = subst BringsNone (sym (x.4 ∙ x.7.4 ∙ x.7.7.4 ∙ x.7.7.7.1)) (λ d. tt)
alteration_text v ts all (inr (inl x)) = subst BringsNone (sym (x.4 ∙ x.7.4 ∙ x.7.7.1)) (λ d. tt)
alteration_text v ts all (inr (inr (inl x))) = subst BringsNone (sym (x.4 ∙ x.7.4 ∙ x.7.7.1)) (λ d. tt)
alteration_text v ts all (inr (inr (inr (inl x)))) = subst BringsNone (sym x.1) (λ d. tt)
alteration_text v ts all (inr (inr (inr (inr x)))) = subst BringsNone (sym (x.4 ∙ x.7.1)) (λ d. tt)

altered_database_text : Gives altered_database NewNamesAreUtf8
unfolding altered_database
altered_database_text v ts all x = subst NewNamesAreUtf8 (sym x.4) (alteration_text x.1 x.3 (texts_back x.2 x.3 (subst AreTexts x.5 all)) x.7 x.0)

altered_table_text : Gives altered_table NewNamesAreUtf8
unfolding altered_table
altered_table_text v ts all x = subst NewNamesAreUtf8 (sym x.4) tt

region_text : Gives region_statement NewNamesAreUtf8
unfolding region_statement create alter used
region_text v ts all (inl x) =
    let back = texts_back x.2 x.3 (subst AreTexts x.5 all) in
    subst NewNamesAreUtf8 (sym x.4) (one_of new_database new_table NewNamesAreUtf8 database_text table_text x.1 x.3 back x.7)
region_text v ts all (inr (inl x)) =
    let back = texts_back x.2 x.3 (subst AreTexts x.5 all) in
    subst NewNamesAreUtf8 (sym x.4) (one_of altered_database altered_table NewNamesAreUtf8 altered_database_text altered_table_text x.1 x.3 back x.7)
region_text v ts all (inr (inr x)) = subst NewNamesAreUtf8 (sym (x.4 ∙ x.7.1)) tt

pub names_are_texts : (text : List ℕ) (s : RegionStatement) → IsStatementText text (statements.Region s) → NewNamesAreUtf8 s
unfolding statement
names_are_texts text s x = by x.2
  where
    by : Fits statement (statements.Region s) x.0 → NewNamesAreUtf8 s
    by (inl f) = let same : s ≡ f.0 = cc in subst NewNamesAreUtf8 (sym same) (region_text f.0 x.0 (texts_of text x.0 x.1) f.2)
    by (inr f) = absurd cc
