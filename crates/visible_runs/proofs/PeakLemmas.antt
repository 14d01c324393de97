use Rattle.std.proofs.Common.{◌≡◌, ℕ, ◌+◌, ◌≤◌, Bool, true, false, cond, max, List, [], ◌∷◌, map, inl, inr, ⊎_elim, refl, sym, ◌∙◌, subst, le_refl, le_trans, arith}
use Rattle.std.specs.Prelude.{◌⊎◌, ◌==◌, Option, Some, None}
use Rattle.std.specs.List.{Contains, find}
use Rattle.std.specs.Option.{option_map_or}
use Rattle.journal.specs.declared.events.Event.TheVariants as events
use Rattle.mr_base.specs.declared.ids.NodeId.{NodeId}
use Rattle.held_reads.proofs.Basics.{cond_false, nodes_same, true_or_false}
use Rattle.run_words.proofs.MemberLemmas.{contains_cases, contains_first, contains_later, contains_none}
use Rattle.run_words.specs.Clocks.{greatest_wall, peak, phys}
use Rattle.run_words.specs.History.{History, Item, Ran, Ticked}
use Rattle.run_words.specs.Setup.{NodeSetup, Setup, has_id, node_ids, node_of}
use Rattle.visible_runs.specs.Laws.{NameNodes}

max_left : (m n : ℕ) → m ≤ max m n
max_left m n = grind arith

max_right : (m n : ℕ) → n ≤ max m n
max_right m n = grind arith

max_both : (m n o p : ℕ) → m ≤ o → n ≤ p → max m n ≤ max o p
max_both m n o p q r = grind (arith, q, r)

-- the greatest of walls
greatest_of : (f : NodeId → ℕ) (ids : List NodeId) (n : NodeId) → Contains ids n → f n ≤ greatest_wall (map f ids)
greatest_of f [] n c = absurd (contains_none n c)
greatest_of f (m ∷ ids) n c =
    ⊎_elim (λ e. subst (λ (k : NodeId). f k ≤ max (f m) (greatest_wall (map f ids))) e (max_left (f m) (greatest_wall (map f ids))))
    (λ q. le_trans (greatest_of f ids n q) (max_right (f m) (greatest_wall (map f ids)))) (contains_cases m n ids c)

greatest_rises : (f g : NodeId → ℕ) (ids : List NodeId) → ((n : NodeId) → f n ≤ g n) → greatest_wall (map f ids) ≤ greatest_wall (map g ids)
greatest_rises f g [] r = le_refl _
greatest_rises f g (m ∷ ids) r = max_both (f m) (greatest_wall (map f ids)) (g m) (greatest_wall (map g ids)) (r m) (greatest_rises f g ids r)

greatest_least : (f : NodeId → ℕ) (ids : List NodeId) (b : ℕ) → ((n : NodeId) → Contains ids n → f n ≤ b) → greatest_wall (map f ids) ≤ b
greatest_least f [] b r = omega arith
greatest_least f (m ∷ ids) b r =
    max_least (f m) (greatest_wall (map f ids)) b (r m (contains_first m ids)) (greatest_least f ids b (λ n c. r n (contains_later m n ids c)))
  where
    max_least : (m n o : ℕ) → m ≤ o → n ≤ o → max m n ≤ o
    max_least m n o p q = grind (arith, p, q)

more : (old ms : ℕ) → old ≤ old + ms
more old ms = omega arith

more_both : (m n ms : ℕ) → m ≤ n → m + ms ≤ n + ms
more_both m n ms p = omega (arith, p)

more_if : (t : Bool) (old ms : ℕ) → old ≤ cond t (old + ms) old
more_if true old ms = more old ms
more_if false old ms = le_refl _

pub phys_rises : (setup : Setup) (x : Item) (h : History) (n : NodeId) → phys setup h n ≤ phys setup (x ∷ h) n
phys_rises setup (Ran line (events.Tick None ms)) h n = more (phys setup h n) ms
phys_rises setup (Ran line (events.Tick (Some m) ms)) h n = more_if (m.0 == n.0) (phys setup h n) ms
phys_rises setup (Ticked ms) h n = more (phys setup h n) ms
phys_rises setup x h n = le_refl _

-- the peak never falls
pub peak_rises : (setup : Setup) (x : Item) (h : History) → peak setup h ≤ peak setup (x ∷ h)
peak_rises setup x h = greatest_rises (phys setup h) (phys setup (x ∷ h)) (node_ids setup) (phys_rises setup x h)

pub known_below : (setup : Setup) (h : History) (n : NodeId) → Contains (node_ids setup) n → phys setup h n ≤ peak setup h
known_below setup h n c = greatest_of (phys setup h) (node_ids setup) n c

-- what no clock passes the peak doesn't pass
pub peak_least : (setup : Setup) (h : History) (b : ℕ) → ((n : NodeId) → Contains (node_ids setup) n → phys setup h n ≤ b) → peak setup h ≤ b
peak_least setup h b f = greatest_least (phys setup h) (node_ids setup) b f

-- a node that is found is there
abbrev pub ids_of : List NodeSetup → List NodeId
ids_of nodes = map (λ node. node.info.id) nodes

pub node_there : (nodes : List NodeSetup) (n : NodeId) → (find (has_id n) nodes ≡ None) ⊎ Contains (ids_of nodes) n
node_there [] n = inl refl
node_there (node ∷ nodes) n =
    ⊎_elim
    (λ q. inr (subst (λ (k : NodeId). Contains (ids_of (node ∷ nodes)) k) (nodes_same node.info.id n q) (contains_first node.info.id (ids_of nodes))))
    (λ q. ⊎_elim (λ e. inl (cond_false (node.info.id.0 == n.0) _ _ q ∙ e)) (λ c. inr (contains_later node.info.id n (ids_of nodes) c)) (node_there nodes n))
    (true_or_false (node.info.id.0 == n.0))

-- the physical clock of any node is behind that of one that is there
module _ (setup : Setup) (g : NodeId) (there : Contains (node_ids setup) g) where
  behind_first : (n : NodeId) → (node_of setup n ≡ None) ⊎ Contains (node_ids setup) n → (k : NodeId) × Contains (node_ids setup) k × (phys setup [] n ≤ phys setup [] k)
  behind_first n (inl e) =
      (g, there, subst (λ (o : Option NodeSetup). option_map_or (λ node. node.clock) o 0 ≤ phys setup [] g) (sym e) (omega arith))
  behind_first n (inr c) = (n, c, le_refl _)

  behind : (h : History) → NameNodes setup h → (n : NodeId) → (k : NodeId) × Contains (node_ids setup) k × (phys setup h n ≤ phys setup h k)
  behind [] names n = behind_first n (node_there setup.nodes n)
  behind (Ran line (events.Tick None ms) ∷ h) names n =
      let old : (k : NodeId) × Contains (node_ids setup) k × (phys setup h n ≤ phys setup h k) = behind h names.1 n in
      (old.0, old.1, more_both (phys setup h n) (phys setup h old.0) ms old.2)
  behind (Ran line (events.Tick (Some m) ms) ∷ h) names n =
      let old : (k : NodeId) × Contains (node_ids setup) k × (phys setup h n ≤ phys setup h k) = behind h names.1 n in
      ⊎_elim
      (λ q. (n, subst (λ (k : NodeId). Contains (node_ids setup) k) (nodes_same m n q) names.0, le_refl _))
      (λ q. (
        old.0,
        old.1,
        subst (λ (p : ℕ). p ≤ cond (m.0 == old.0.0) (phys setup h old.0 + ms) (phys setup h old.0)) (sym (cond_false (m.0 == n.0) _ _ q))
            (le_trans old.2 (more_if (m.0 == old.0.0) (phys setup h old.0) ms)),
      ))
      (true_or_false (m.0 == n.0))
  behind (Ticked ms ∷ h) names n =
      let old : (k : NodeId) × Contains (node_ids setup) k × (phys setup h n ≤ phys setup h k) = behind h names.1 n in
      (old.0, old.1, more_both (phys setup h n) (phys setup h old.0) ms old.2)
  behind (x ∷ h) names n = behind h names.1 n

  -- so it isn't above the peak
  pub phys_below : (h : History) → NameNodes setup h → (n : NodeId) → phys setup h n ≤ peak setup h
  phys_below h names n =
      let b : (k : NodeId) × Contains (node_ids setup) k × (phys setup h n ≤ phys setup h k) = behind h names n in
      le_trans b.2 (known_below setup h b.0 b.1)
