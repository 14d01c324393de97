-- The kinds of tokens. Source: this project's profile of the SQL of CockroachDB's documentation.
use Rattle.std.specs.Prelude.{ℕ, List, codes}
use Rattle.region_sql.specs.declared.row_statements.Comparison.{Comparison}
use Rattle.region_sql.specs.declared.row_statements.Comparison.TheVariants as comparison
use Rattle.region_sql.specs.declared.tokens.Key.{Key}
use Rattle.region_sql.specs.declared.tokens.Key.TheVariants as key
use Rattle.region_sql.specs.declared.tokens.Soft.{Soft}
use Rattle.region_sql.specs.declared.tokens.Soft.TheVariants as soft
use Rattle.region_sql.specs.declared.tokens.Sign.{Sign}
use Rattle.region_sql.specs.declared.tokens.Sign.TheVariants as sign
use Rattle.region_sql.specs.declared.tokens.Token.{Token}
use Rattle.region_sql.specs.declared.tokens.Token.TheVariants as token

-- Key words are told apart by numbers.
abbrev pub key_number : Key → ℕ
key_number key.Add = 100
key_number key.Alter = 101
key_number key.And = 102
key_number key.By = 103
key_number key.Count = 104
key_number key.Create = 105
key_number key.Database = 106
key_number key.Delete = 107
key_number key.Drop = 108
key_number key.Failure = 109
key_number key.From = 110
key_number key.Global = 111
key_number key.In = 112
key_number key.Insert = 113
key_number key.Into = 114
key_number key.Key = 115
key_number key.Locality = 116
key_number key.Not = 117
key_number key.Null = 118
key_number key.Primary = 119
key_number key.Region = 120
key_number key.Regional = 121
key_number key.Regions = 122
key_number key.Row = 123
key_number key.Select = 124
key_number key.Set = 125
key_number key.Survive = 126
key_number key.Table = 127
key_number key.Unique = 128
key_number key.Update = 129
key_number key.Use = 130
key_number key.Values = 131
key_number key.Where = 132
key_number key.Zone = 133

abbrev pub soft_number : Soft → ℕ
soft_number soft.Default = 50
soft_number soft.Placement = 51
soft_number soft.Restricted = 52

-- A soft key word as a name.
abbrev pub soft_text : Soft → List ℕ
soft_text soft.Default = codes "default"
soft_text soft.Placement = codes "placement"
soft_text soft.Restricted = codes "restricted"

abbrev pub sign_number : Sign → ℕ
sign_number sign.Open = 20
sign_number sign.Close = 21
sign_number sign.Comma = 22
sign_number sign.Semicolon = 23
sign_number sign.Star = 24
sign_number sign.Plus = 25
sign_number sign.Minus = 26

abbrev pub comparison_number : Comparison → ℕ
comparison_number comparison.Eq = 10
comparison_number comparison.Lt = 11
comparison_number comparison.Le = 12
comparison_number comparison.Gt = 13
comparison_number comparison.Ge = 14
comparison_number comparison.Ne = 15

-- Tokens of one kind stand in the same places. Each key word, each sign and each comparison is a
-- kind of its own.
abbrev pub kind_of : Token → ℕ
kind_of (token.Name n) = 0
kind_of (token.Type t) = 1
kind_of (token.Bool b) = 2
kind_of (token.Integer n) = 3
kind_of (token.Negative n m) = 4
kind_of (token.Text t) = 5
kind_of (token.Compare c) = comparison_number c
kind_of (token.Sign s) = sign_number s
kind_of (token.Soft s) = soft_number s
kind_of (token.Key k) = key_number k
