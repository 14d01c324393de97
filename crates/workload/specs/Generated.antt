-- The text of a generated scenario. (Source: this project's profile.)
use Rattle.std.specs.Prelude.{ℕ, zero, suc, ◌%◌, ◌==◌, List, [], ◌∷◌, ◌++◌, Bool, if◌then◌else◌, codes, decimal}
use Rattle.mr_base.specs.Ids.{node_text}
use Rattle.rand_pcg.specs.Lcg.{Lcg}
use Rattle.workload.specs.Draws.{behind, drawn, seeded}
use Rattle.workload.specs.declared.transactions.Statement.{Statement}
use Rattle.workload.specs.declared.transactions.Statement.TheVariants.{InsertUser, UpdateUser, SelectUser, DeleteUser, InsertPromo, CountPromo}
use Rattle.workload.specs.declared.transactions.Transaction.{Transaction}

abbrev pub line : List ℕ → List ℕ
line text = text ++ 10 ∷ []

-- Nine nodes in three zones each of three regions, one database over them, a table with its rows by region and a
-- global table.
abbrev pub header : List ℕ
header =
    line (codes "cluster")
    ++ line (codes "node n1 us-east a 1000")
    ++ line (codes "node n2 us-east b 1000")
    ++ line (codes "node n3 us-east c 1000")
    ++ line (codes "node n4 us-west a 1000")
    ++ line (codes "node n5 us-west b 1000")
    ++ line (codes "node n6 us-west c 1000")
    ++ line (codes "node n7 eu-west a 1000")
    ++ line (codes "node n8 eu-west b 1000")
    ++ line (codes "node n9 eu-west c 1000")
    ++ line (codes "sql CREATE DATABASE d PRIMARY REGION \"us-east\" REGIONS \"us-west\", \"eu-west\"")
    ++ line (codes "sql CREATE TABLE users (id INT PRIMARY KEY, email STRING UNIQUE, v INT) LOCALITY REGIONAL BY ROW")
    ++ line (codes "sql CREATE TABLE promo (code STRING PRIMARY KEY, pct INT) LOCALITY GLOBAL")
    ++ line (codes "begin")

abbrev pub statement_text : Statement → List ℕ
statement_text (InsertUser key value) =
    codes "INSERT INTO users (id, email, v) VALUES (" ++ decimal key ++ codes ", 'e" ++ decimal key ++ codes "', "
    ++ decimal value ++ codes ")"
statement_text (UpdateUser key) = codes "UPDATE users SET v = v + 1 WHERE id = " ++ decimal key
statement_text (SelectUser key) = codes "SELECT * FROM users WHERE id = " ++ decimal key
statement_text (DeleteUser key) = codes "DELETE FROM users WHERE id = " ++ decimal key
statement_text (InsertPromo key percent) =
    codes "INSERT INTO promo (code, pct) VALUES ('c" ++ decimal key ++ codes "', " ++ decimal percent ++ codes ")"
statement_text CountPromo = codes "SELECT count(*) FROM promo"

-- All messages are delivered behind some transactions.
abbrev pub drain_text : (drains : Bool) → List ℕ
drain_text drains = if drains then line (codes "drain") else []

-- Behind each 500th transaction every lease is extended, and timestamps are closed.
abbrev pub leases_text : (number : ℕ) → List ℕ
leases_text number =
    if number % 500 == 0
    then line (codes "lease extend r1") ++ line (codes "lease extend r2") ++ line (codes "lease extend r3")
    ++ line (codes "lease extend r4") ++ line (codes "close all")
    else []

-- Each transaction comes a millisecond after the one before.
abbrev pub transaction_text : Transaction → List ℕ
transaction_text t =
    line (codes "tick all 1")
    ++ line (codes "txn x" ++ decimal t.number ++ codes " " ++ node_text t.gateway ++ codes " now "
    ++ statement_text t.statement)
    ++ drain_text t.drains ++ leases_text t.number

-- The generator of the words behind so many transactions.
unfoldable pub words_after : (count seed : ℕ) → Lcg
words_after zero seed = seeded seed
words_after (suc count) seed = behind (words_after count seed)

-- So many transactions, numbered from 1.
unfoldable pub transactions_text : (count seed : ℕ) → List ℕ
transactions_text zero seed = []
transactions_text (suc count) seed =
    transactions_text count seed ++ transaction_text (drawn (suc count) (words_after count seed))

abbrev pub footer : List ℕ
footer = line (codes "drain") ++ line (codes "settle 1000")

-- The scenario of a seed and a number of transactions.
abbrev pub gen_text : (seed size : ℕ) → List ℕ
gen_text seed size = header ++ transactions_text size seed ++ footer
