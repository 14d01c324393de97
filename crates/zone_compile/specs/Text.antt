use Rattle.std.specs.Prelude.{ℕ, List, [], ◌∷◌, ◌++◌, Option, Some, None, Bool, true, false, codes, decimal}
use Rattle.std.specs.List.{flat_map}
use Rattle.region_sql.specs.declared.region_statements.Goal.{Goal}
use Rattle.region_sql.specs.declared.region_statements.Goal.TheVariants.{Zone, Region}
use Rattle.zone_compile.specs.declared.config.ZoneConfig.{ZoneConfig}

-- The text of a configuration, after CockroachDB's SHOW ZONE CONFIGURATIONS, in this project's profile.

abbrev pub counted : (List ℕ × ℕ) → List ℕ
counted c = codes "+region=" ++ c.0 ++ codes ": " ++ decimal c.1

-- More counted regions, each after a comma and a space.
abbrev pub more_text : List (List ℕ × ℕ) → List ℕ
more_text counts = flat_map (λ c. codes ", " ++ counted c) counts

-- Counted regions with a comma and a space between.
abbrev pub counts_text : List (List ℕ × ℕ) → List ℕ
counts_text [] = codes "'[]'"
counts_text (c ∷ more) = codes "'{" ++ counted c ++ more_text more ++ codes "}'"

-- Where all voters stand in the home region it is named alone.
abbrev pub voters_text : Option Goal → Option (List ℕ) → List (List ℕ × ℕ) → List ℕ
voters_text (Some Zone) (Some home) counts = codes "'[+region=" ++ home ++ codes "]'"
voters_text (Some Zone) None counts = counts_text counts
voters_text (Some Region) lease counts = counts_text counts
voters_text None lease counts = counts_text counts

abbrev pub lease_text : Option (List ℕ) → List ℕ
lease_text None = codes "'[]'"
lease_text (Some home) = codes "'[[+region=" ++ home ++ codes "]]'"

abbrev pub global_text : Bool → List ℕ
global_text true = codes "global_reads = true, "
global_text false = []

abbrev pub config_text : ZoneConfig → List ℕ
config_text c = global_text c.global_reads ++ codes "num_replicas = " ++ decimal c.num_replicas ++ codes ", num_voters = " ++ decimal c.num_voters
    ++ codes ", constraints = " ++ counts_text c.constraints ++ codes ", voter_constraints = " ++ voters_text c.goal c.lease c.voter_constraints
    ++ codes ", lease_preferences = " ++ lease_text c.lease
