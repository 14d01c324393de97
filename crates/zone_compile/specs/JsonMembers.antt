use Rattle.std.specs.Prelude.{ℕ, List, Option, codes}
use Rattle.serde_json.specs.Data.{boolean, number, unsigned, string, array, Members, no_members, put}
use Rattle.zone_compile.specs.declared.config.ZoneConfig.{ZoneConfig}
use Rattle.zone_compile.specs.Json.{counts_object, text_or_null, texts}

-- Members with those of a configuration put among them, part by part.

abbrev pub with_names : (range : ℕ) → (table : List ℕ) → (partition : Option (List ℕ)) → Members → Members
with_names range table partition members = put (codes "partition") (text_or_null partition) (put (codes "range") (number (unsigned range)) (put (codes "table") (string table) members))

abbrev pub with_sizes : ZoneConfig → Members → Members
with_sizes c members = put (codes "global_reads") (boolean c.global_reads) (put (codes "lease_preferences") (array (texts c.lease))
    (put (codes "num_replicas") (number (unsigned c.num_replicas)) (put (codes "num_voters") (number (unsigned c.num_voters)) members)))

abbrev pub all_members : ZoneConfig → (range : ℕ) → (table : List ℕ) → (partition : Option (List ℕ)) → Members
all_members c range table partition = put (codes "constraints") (counts_object c.constraints)
    (with_sizes c (with_names range table partition (put (codes "voter_constraints") (counts_object c.voter_constraints) no_members)))
