use Rattle.std.proofs.Common.{◌≡◌, ℕ, suc, ◌<◌, Bool, true, List, [], ◌∷◌, ◌++◌, map, length, slice_index_or, inl, inr, ⊎_elim, refl, sym, ap, ◌∙◌, subst, arith, true≢false}
use Rattle.std.specs.Prelude.{◌⊎◌, ◌==◌, ◌&&◌, AllPairs, Option, Some, option_map}
use Rattle.std.specs.List.{Contains, find}
use Rattle.std.proofs.lemmas.Bool.{and_parts}
use Rattle.answer_laws.proofs.AgreeingReads.{in_outer}
use Rattle.answer_laws.proofs.MoreMembers.{mapped_some}
use Rattle.mr_base.specs.Spans.{InSpan, IsKeyBelow}
use Rattle.mr_base.specs.declared.ids.RangeId.{RangeId}
use Rattle.mr_base.specs.declared.script.Fed.{Fed}
use Rattle.mr_base.specs.declared.spans.Ask.{Ask}
use Rattle.mr_base.specs.declared.spans.Pair.{Pair}
use Rattle.mr_base.specs.declared.spans.Span.{Span}
use Rattle.mr_base.specs.declared.timestamps.Ts.{Ts}
use Rattle.mvcc_range.specs.Answer.{IsRow}
use Rattle.row_locality.proofs.PointLemmas.{is_in_decides}
use Rattle.row_locality.specs.Pairs.{KeyValue, key_value}
use Rattle.row_locality.specs.Spans.{is_in, is_inside}
use Rattle.sql_eval.specs.Reads.{IsPartOf, covers, rows_within, served_reads}
use Rattle.held_reads.proofs.AgreementLemmas.{AreAbove, Has, IsRising, has_kept, kept_has, same_list, still_rising}
use Rattle.held_reads.proofs.Basics.{cond_cases, cond_false, cond_true, not_none, ranges_same, some_same, true_or_false}
use Rattle.held_reads.proofs.HeldLemmas.{served_held}
use Rattle.held_reads.specs.KeepsReads.{KeepsReads}
use Rattle.run_laws.specs.Beginnings.{IsSoundSetup}
use Rattle.run_laws.specs.Held.{IsHeld}
use Rattle.run_laws.specs.Lists.{AreFed, IsFedBy}
use Rattle.run_words.proofs.MemberLemmas.{contains_cases, contains_first, contains_later, contains_none}
use Rattle.run_words.specs.History.{History}
use Rattle.run_words.specs.Relations.{WasServed}
use Rattle.run_words.specs.Serving.{ServedRead}
use Rattle.run_words.specs.Setup.{Setup}

-- members of a list with one more at its end
in_last : {X : Type 0} (xs : List X) (x : X) → Contains (xs ++ x ∷ []) x
in_last [] x = contains_first x []
in_last (y ∷ ys) x = contains_later y x (ys ++ x ∷ []) (in_last ys x)

in_front : {X : Type 0} (xs : List X) (x y : X) → Contains xs y → Contains (xs ++ x ∷ []) y
in_front [] x y c = absurd (contains_none y c)
in_front {X} (z ∷ zs) x y c =
    ⊎_elim (λ e. subst (λ (v : X). Contains (z ∷ (zs ++ x ∷ [])) v) e (contains_first z (zs ++ x ∷ []))) (λ q. contains_later z y (zs ++ x ∷ []) (in_front zs x y q)) (contains_cases z y zs c)

front_or_last : {X : Type 0} (xs : List X) (x y : X) → Contains (xs ++ x ∷ []) y → Contains xs y ⊎ (x ≡ y)
front_or_last [] x y c = ⊎_elim (λ e. inr e) (λ q. absurd (contains_none y q)) (contains_cases x y [] c)
front_or_last {X} (z ∷ zs) x y c =
    ⊎_elim (λ e. inl (subst (λ (v : X). Contains (z ∷ zs) v) e (contains_first z zs)))
    (λ q. ⊎_elim (λ d. inl (contains_later z y zs d)) (λ e. inr e) (front_or_last zs x y q)) (contains_cases z y (zs ++ x ∷ []) c)

-- what was fed of a read that was served, and of what served read a span was fed
pub fed_for : (ss : List ServedRead) (fed : List Fed) (s : ServedRead) → AreFed ss fed → Contains ss s → (f : Fed) × Contains fed f × IsFedBy s f
fed_for [] fed s are c = absurd (contains_none s c)
fed_for (y ∷ ys) fed s are c =
    ⊎_elim
    (λ e. (are.1, subst (λ (fs : List Fed). Contains fs are.1) (sym are.2) (in_last are.0 are.1), subst (λ (z : ServedRead). IsFedBy z are.1) e are.3))
    (λ q.
    let r : (f : Fed) × Contains are.0 f × IsFedBy s f = fed_for ys are.0 s are.4 q in
    (r.0, subst (λ (fs : List Fed). Contains fs r.0) (sym are.2) (in_front are.0 are.1 r.0 r.1), r.2))
    (contains_cases y s ys c)

pub fed_from : (ss : List ServedRead) (fed : List Fed) (f : Fed) → AreFed ss fed → Contains fed f → (s : ServedRead) × Contains ss s × IsFedBy s f
fed_from [] fed f are c = absurd (contains_none f (subst (λ (fs : List Fed). Contains fs f) are c))
fed_from (y ∷ ys) fed f are c =
    ⊎_elim
    (λ q.
    let r : (s : ServedRead) × Contains ys s × IsFedBy s f = fed_from ys are.0 f are.4 q in
    (r.0, contains_later y r.0 ys r.1, r.2))
    (λ e. (y, contains_first y ys, subst (λ (g : Fed). IsFedBy y g) e are.3))
    (front_or_last are.0 are.1 f (subst (λ (fs : List Fed). Contains fs f) are.2 c))

-- what a search finds
found_so : (p : Fed → Bool) (xs : List Fed) (x : Fed) → find p xs ≡ Some x → Contains xs x × (p x ≡ true)
found_so p [] x e = absurd (not_none e)
found_so p (y ∷ ys) x e =
    ⊎_elim
    (λ (q : (p y ≡ _) × _). (subst (λ (z : Fed). Contains (y ∷ ys) z) (some_same q.1) (contains_first y ys), subst (λ (z : Fed). p z ≡ true) (some_same q.1) q.0))
    (λ (q : (p y ≡ _) × _). let r : Contains ys x × (p x ≡ true) = found_so p ys x q.1 in (contains_later y x ys r.0, r.1))
    (cond_cases (p y) _ _ (Some x) e)

found_some : (p : Fed → Bool) (xs : List Fed) (x : Fed) → Contains xs x → p x ≡ true → (z : Fed) × (find p xs ≡ Some z)
found_some p [] x c e = absurd (contains_none x c)
found_some p (y ∷ ys) x c e =
    ⊎_elim (λ q. (y, cond_true (p y) _ _ q))
    (λ q.
    let later : Contains ys x = ⊎_elim (λ s. absurd (true≢false (sym e ∙ ap p (sym s) ∙ q))) (λ d. d) (contains_cases y x ys c) in
    let r : (z : Fed) × (find p ys ≡ Some z) = found_some p ys x later e in
    (r.0, cond_false (p y) _ _ q ∙ r.1))
    (true_or_false (p y))

-- rows as pairs of key and value
rows_above : (k : List ℕ) (ps : List Pair) → ((n : ℕ) (d : Pair) → n < length ps → IsKeyBelow k (slice_index_or ps n d).key) → AreAbove k (map key_value ps)
rows_above k [] f = tt
rows_above k (q ∷ qs) f = (f 0 q (omega arith), rows_above k qs (λ n d l. f (suc n) d (omega (arith, l))))

rows_rising : (ps : List Pair) → AllPairs (λ p q. IsKeyBelow p.key q.key) ps → IsRising (map key_value ps)
rows_rising [] all = tt
rows_rising (p ∷ ps) all =
    (rows_above p.key ps (λ n d l. all 0 (suc n) d (omega arith) (omega (arith, l))), rows_rising ps (λ i j d a b. all (suc i) (suc j) d (omega (arith, a)) (omega (arith, b))))

has_row : (p : Pair) (ps : List Pair) → Contains ps p → Has (key_value p) (map key_value ps)
has_row p [] c = absurd (contains_none p c)
has_row p (q ∷ qs) c = ⊎_elim (λ e. inl (subst (λ (x : Pair). key_value q ≡ key_value x) e refl)) (λ d. inr (has_row p qs d)) (contains_cases q p qs c)

row_has : (kv : KeyValue) (ps : List Pair) → Has kv (map key_value ps) → (p : Pair) × Contains ps p × (key_value p ≡ kv)
row_has kv [] h = absurd h
row_has kv (q ∷ qs) (inl e) = (q, contains_first q qs, e)
row_has kv (q ∷ qs) (inr h) =
    let r : (p : Pair) × Contains qs p × (key_value p ≡ kv) = row_has kv qs h in (r.0, contains_later q r.0 qs r.1, r.2)

module _ (setup : Setup) (sound : IsSoundSetup setup) (h : History) (keeps : KeepsReads setup h) (q : Ask) where
  -- a served read that covers an ask
  abbrev Covering : Ts → ServedRead → Fed → Type 0
  Covering ts s f = WasServed setup s h × (s.read.at ≡ ts) × IsFedBy s f × (covers q f ≡ true)

  range_of_ask : (ts : Ts) (s : ServedRead) (f : Fed) → Covering ts s f → q.range ≡ s.range
  range_of_ask ts s f c = ranges_same q.range f.ask.range (and_parts _ _ c.3).0 ∙ ap (λ (x : Ask). x.range) c.2.ask_is

  key_inside : (ts : Ts) (s : ServedRead) (f : Fed) → Covering ts s f → (key : List ℕ) → is_in q.span key ≡ true → InSpan s.read.span key
  key_inside ts s f c key e =
      (is_in_decides s.read.span key).0
      (subst (λ (x : Span). is_in x key ≡ true) (ap (λ (x : Ask). x.span) c.2.ask_is) (in_outer q.span f.ask.span key (and_parts _ _ c.3).1 e))

  moves : (ts : Ts) (s t : ServedRead) (f g : Fed) → Covering ts s f → Covering ts t g → (p : KeyValue) → Has p (rows_within q f) → Has p (rows_within q g)
  moves ts s t f g c d p has =
      let kept : Has p (map key_value f.rows) × (is_in q.span p.0 ≡ true) = kept_has (is_in q.span) (map key_value f.rows) p has in
      let r : (x : Pair) × Contains f.rows x × (key_value x ≡ p) = row_has p f.rows kept.0 in
      let is : InSpan s.read.span r.0.key × IsRow s.entries s.read r.0.key r.0.value = (c.2.rows_are.each r.0).0 r.1 in
      let tested : is_in q.span r.0.key ≡ true = subst (λ (x : KeyValue). is_in q.span x.0 ≡ true) (sym r.2) kept.1 in
      let held : IsHeld setup h s.range s.read.at r.0.key r.0.value = (served_held setup sound h keeps s c.0 r.0.key r.0.value is.0).0 is.1 in
      let there : IsHeld setup h t.range t.read.at r.0.key r.0.value =
      subst (λ (j : RangeId). IsHeld setup h j t.read.at r.0.key r.0.value) (sym (range_of_ask ts s f c) ∙ range_of_ask ts t g d)
      (subst (λ (x : Ts). IsHeld setup h s.range x r.0.key r.0.value) (c.1 ∙ sym d.1) held) in
      let inside : InSpan t.read.span r.0.key = key_inside ts t g d r.0.key tested in
      let row : Contains g.rows (record { key = r.0.key; value = r.0.value }) =
      (d.2.rows_are.each (record { key = r.0.key; value = r.0.value })).1 (inside, (served_held setup sound h keeps t d.0 r.0.key r.0.value inside).1 there) in
      subst (λ (x : KeyValue). Has x (rows_within q g)) r.2
      (has_kept (is_in q.span) (map key_value g.rows) (key_value r.0) (has_row (record { key = r.0.key; value = r.0.value }) g.rows row) tested)

  same_rows : (ts : Ts) (s t : ServedRead) (f g : Fed) → Covering ts s f → Covering ts t g → rows_within q f ≡ rows_within q g
  same_rows ts s t f g c d =
      same_list (rows_within q f) (rows_within q g) (still_rising (is_in q.span) (map key_value f.rows) (rows_rising f.rows c.2.rows_are.rising))
      (still_rising (is_in q.span) (map key_value g.rows) (rows_rising g.rows d.2.rows_are.rising)) (moves ts s t f g c d) (moves ts t s g f d c)

mapped : {X Y : Type 0} (f : X → Y) (o : Option X) (x : X) (y : Y) → o ≡ Some x → f x ≡ y → option_map f o ≡ Some y
mapped {X} {Y} f o x y e g = ap (option_map f) e ∙ ap (λ (z : Y). Some z) g

-- what was fed of some served reads of a timestamp is known from more of them
module _ (setup : Setup) (sound : IsSoundSetup setup) (h : History) (keeps : KeepsReads setup h) (ts : Ts) (part whole : List ServedRead) (fed more : List Fed) (are : AreFed part fed) (are_more : AreFed whole more)
    (at : (s : ServedRead) → Contains whole s → WasServed setup s h × (s.read.at ≡ ts)) (among : (s : ServedRead) → Contains part s → Contains whole s) where
  pub known_part : IsPartOf (served_reads fed) (served_reads more)
  unfolding served_reads
  known_part q pairs e =
      let x : (f : Fed) × (find (covers q) fed ≡ Some f) × (rows_within q f ≡ pairs) = mapped_some (rows_within q) (find (covers q) fed) pairs e in
      let f : Contains fed x.0 × (covers q x.0 ≡ true) = found_so (covers q) fed x.0 x.1 in
      let s : (s : ServedRead) × Contains part s × IsFedBy s x.0 = fed_from part fed x.0 are f.0 in
      let there : Contains whole s.0 = among s.0 s.1 in
      let g : (g : Fed) × Contains more g × IsFedBy s.0 g = fed_for whole more s.0 are_more there in
      let same : x.0.ask ≡ g.0.ask = s.2.ask_is ∙ sym g.2.ask_is in
      let z : (z : Fed) × (find (covers q) more ≡ Some z) = found_some (covers q) more g.0 g.1 (subst (λ (a : Ask). (q.range.0 == a.range.0) && is_inside q.span a.span ≡ true) same f.1) in
      let zc : Contains more z.0 × (covers q z.0 ≡ true) = found_so (covers q) more z.0 z.1 in
      let t : (t : ServedRead) × Contains whole t × IsFedBy t z.0 = fed_from whole more z.0 are_more zc.0 in
      mapped (rows_within q) (find (covers q) more) z.0 pairs z.1
      (sym (same_rows setup sound h keeps q ts s.0 t.0 x.0 z.0 ((at s.0 there).0, (at s.0 there).1, s.2, f.1) ((at t.0 t.1).0, (at t.0 t.1).1, t.2, zc.1)) ∙ x.2)
