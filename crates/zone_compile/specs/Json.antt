use Rattle.std.specs.Prelude.{ℕ, List, fold, Option, Some, None, codes}
use Rattle.serde_json.specs.Data.{Data, null, boolean, number, unsigned, string, array, object, Items, no_items, item, Members, no_members, member, put}
use Rattle.serde_json.specs.Written.{compact_text}
use Rattle.zone_compile.specs.declared.config.ZoneConfig.{ZoneConfig}

-- A configuration as a JSON object with its keys in byte order. (This project's profile.)

abbrev pub counts_members : List (List ℕ × ℕ) → Members
counts_members counts = fold (λ members c. put c.0 (number (unsigned c.1)) members) no_members counts

-- An object from regions to counts, in the byte order of the regions.
abbrev pub counts_object : List (List ℕ × ℕ) → Data
counts_object counts = object (counts_members counts)

abbrev pub text_or_null : Option (List ℕ) → Data
text_or_null None = null
text_or_null (Some text) = string text

abbrev pub texts : Option (List ℕ) → Items
texts None = no_items
texts (Some text) = item (string text) no_items

abbrev pub config_data : ZoneConfig → (range : ℕ) → (table : List ℕ) → (partition : Option (List ℕ)) → Data
config_data c range table partition = object
    (member (codes "constraints") (counts_object c.constraints)
    (member (codes "global_reads") (boolean c.global_reads)
    (member (codes "lease_preferences") (array (texts c.lease))
    (member (codes "num_replicas") (number (unsigned c.num_replicas))
    (member (codes "num_voters") (number (unsigned c.num_voters))
    (member (codes "partition") (text_or_null partition)
    (member (codes "range") (number (unsigned range))
    (member (codes "table") (string table)
    (member (codes "voter_constraints") (counts_object c.voter_constraints)
    no_members)))))))))

-- The object without a space.
abbrev pub config_json : ZoneConfig → (range : ℕ) → (table : List ℕ) → (partition : Option (List ℕ)) → List ℕ
config_json c range table partition = compact_text (config_data c range table partition)
