use Rattle.std.specs.Prelude.{◌≡◌, ◌≢◌, ℕ, ◌+◌, ◌<◌, ◌≤◌, List, [], ◌∷◌, ◌++◌, if◌then◌else◌, fold, get_or, length, map, All, AllPairs, Contains, IsUtf8}
use Rattle.mr_base.specs.declared.nodes.NodeInfo.{NodeInfo}
use Rattle.descriptors.specs.Lists.{has_name}

abbrev pub with_region : List (List ℕ) → NodeInfo → List (List ℕ)
with_region regions node = if has_name regions node.region then regions else regions ++ node.region ∷ []

-- The regions of a cluster, in the order in which its nodes first name them.
abbrev pub regions_of : List NodeInfo → List (List ℕ)
regions_of nodes = fold with_region [] nodes

-- Each node has the number of its place, counted from 1.
abbrev pub AreNumbered : List NodeInfo → Type 0
AreNumbered nodes = (k : ℕ) (other : NodeInfo) → k < length nodes → (get_or nodes k other).id.0 ≡ k + 1

-- The nodes of a cluster: 1 to 64, numbered from 1, in at most 16 regions, whose names are texts. (These
-- numbers are this project's profile.)
pub record AreNodes (nodes : List NodeInfo) : Type 0 where
  pub some : nodes ≢ []
  pub many : length nodes ≤ 64
  pub numbered : AreNumbered nodes
  pub few : length (regions_of nodes) ≤ 16
  pub names : All (λ s. IsUtf8 s.region) nodes

-- Nodes among which ranges of these regions are placed: some, in the order of their numbers, and one at
-- least in each region.
pub record Serve (nodes : List NodeInfo) (regions : List (List ℕ)) : Type 0 where
  pub some : nodes ≢ []
  pub rising : AllPairs (λ s t. s.id.0 < t.id.0) nodes
  pub each : (region : List ℕ) → Contains regions region → Contains (map (λ s. s.region) nodes) region
