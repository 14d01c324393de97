-- What holds of the forms that the grammar gives.
use Rattle.std.proofs.Common.{◌≡◌, ℕ, Bool, true, false, List, [], ◌∷◌, Some, None, refl}
use Rattle.std.specs.Prelude.{codes, Option, if◌then◌else◌}
use Rattle.journal.specs.declared.events.Event.{Event}
use Rattle.journal.specs.declared.events.Event.TheVariants as events
use Rattle.scenario.specs.declared.forms.Form.{Form}
use Rattle.scenario.specs.declared.forms.Form.TheVariants as forms
use Rattle.scenario.specs.declared.forms.LineName.{LineName}
use Rattle.scenario.specs.declared.forms.LineName.TheVariants as names
use Rattle.std.specs.Str.{IsUtf8, is_utf8}
use Rattle.std.proofs.lemmas.Str.{IsUtf8-from_is_utf8}
use Rattle.scenario.specs.Forms.{kind_at, setting_at, acquire_at, apply_at, close_at, cluster_at, deliver_at, drop_at, extend_at, form_at, form_of, lease_at, node_line_at, settle_at, show_at, show_fresh_at, show_node_at, show_range_at, sql_at, start_at, stop_at, tick_at, timeout_at, transfer_at, txn_at}
use Rattle.scenario.specs.Sound.{IsPlaceName, IsTxnName}
use Rattle.scenario.specs.Words.{◌>>=◌, after_word, message_at, node_at, number_at, or_all_at, place_at, range_at, text_at, txn_name_at, whole, word_at}
use Rattle.scenario.proofs.WordTexts.{GoesOn, Has, IsNamed, IsPlace, has_any, has_bind, has_none, has_some, kind_text, node_text, place_names, rest_text, text_text, txn_name_text}

-- Which events the grammar gives as they stand: none of a transaction, of a statement or of a timeout.
abbrev pub IsOwnEvent : Event → Type 0
IsOwnEvent (events.Txn txn gateway kind list) = ⊥
IsOwnEvent (events.Sql text) = ⊥
IsOwnEvent (events.Timeout txn) = ⊥
IsOwnEvent e = Unit {0}

-- What the grammar gives as a form: names are names, the statement or list of a text is one, and events stand
-- as they are.
abbrev pub IsOwnForm : Form → Type 0
IsOwnForm (forms.Cluster settings) = Unit {0}
IsOwnForm (forms.Node info clock) = IsPlaceName info.region × IsPlaceName info.zone
IsOwnForm (forms.Sql text) = IsUtf8 text
IsOwnForm (forms.Txn name gateway kind list) = IsTxnName name × IsUtf8 list
IsOwnForm (forms.Timeout name) = Unit {0}
IsOwnForm (forms.Event e) = IsOwnEvent e

abbrev Own : Option Form → Type 0
Own o = Has IsOwnForm o

own_bind : {A : Type 0} (o : Option A) (g : A → Option Form) → ((x : A) → Own (g x)) → Own (o >>= g)
own_bind {A = A} o g h = has_bind (λ (x : A). Unit {0}) IsOwnForm o g (has_any o) (λ x u. h x)

own_whole : (rest : List ℕ) (v : Form) → IsOwnForm v → Own (whole rest v)
own_whole [] v h = has_some IsOwnForm v h
own_whole (b ∷ rest) v h = has_none IsOwnForm

own_if : (b : Bool) (o p : Option Form) → Own o → Own p → Own (if b then o else p)
own_if true o p h k = h
own_if false o p h k = k

own_none : Own None
own_none = has_none IsOwnForm

own_cluster : (rest : List ℕ) → Own (cluster_at rest)
unfolding cluster_at
own_cluster rest = own_bind (setting_at (codes "max_offset") 500 rest) _ (λ max_offset. own_bind (setting_at (codes "lease") 6000 max_offset.1) _ (λ lease. own_bind (setting_at (codes "lag") 3000 lease.1) _ (λ lag. own_bind (setting_at (codes "lead") 800 lag.1) _ (λ lead. own_bind (setting_at (codes "expire") 5000 lead.1) _ (λ expire. own_whole expire.1 _ tt)))))

own_node_line : (rest : List ℕ) → Own (node_line_at rest)
unfolding node_line_at
own_node_line rest = own_bind (node_at rest) _ (λ id. has_bind IsPlace IsOwnForm (place_at id.1) _ (place_names id.1) (λ region r. has_bind IsPlace IsOwnForm (place_at region.1) _ (place_names region.1) (λ zone z. own_bind (number_at zone.1) _ (λ clock. own_whole clock.1 _ (r, z)))))

own_sql : (rest : List ℕ) → IsUtf8 rest → Own (sql_at rest)
unfolding sql_at
own_sql rest u = has_bind IsUtf8 IsOwnForm (text_at rest) _ (text_text rest u) (λ text t. has_some IsOwnForm _ t)

own_txn : (rest : List ℕ) → IsUtf8 rest → Own (txn_at rest)
unfolding txn_at
own_txn rest u =
    has_bind IsNamed IsOwnForm (txn_name_at rest) _ (txn_name_text rest u) (λ name n.
    has_bind GoesOn IsOwnForm (node_at name.1) _ (node_text name.1 n.1) (λ gateway g.
    has_bind GoesOn IsOwnForm (kind_at gateway.1) _ (kind_text gateway.1 g) (λ kind k.
    has_bind IsUtf8 IsOwnForm (text_at kind.1) _ (text_text kind.1 k) (λ list t. has_some IsOwnForm _ (n.0, t)))))

own_timeout : (rest : List ℕ) → Own (timeout_at rest)
unfolding timeout_at
own_timeout rest = own_bind (txn_name_at rest) _ (λ name. own_whole name.1 _ tt)

own_tick : (rest : List ℕ) → Own (tick_at rest)
unfolding tick_at
own_tick rest = own_bind (or_all_at node_at rest) _ (λ node. own_bind (number_at node.1) _ (λ ms. own_whole ms.1 _ tt))

own_deliver : (rest : List ℕ) → Own (deliver_at rest)
unfolding deliver_at
own_deliver rest = own_bind (message_at rest) _ (λ id. own_whole id.1 _ tt)

own_drop : (rest : List ℕ) → Own (drop_at rest)
unfolding drop_at
own_drop rest = own_bind (message_at rest) _ (λ id. own_whole id.1 _ tt)

own_apply : (rest : List ℕ) → Own (apply_at rest)
unfolding apply_at
own_apply rest = own_bind (node_at rest) _ (λ node. own_bind (range_at node.1) _ (λ range. own_bind (number_at range.1) _ (λ count. own_whole count.1 _ tt)))

own_settle : (rest : List ℕ) → Own (settle_at rest)
unfolding settle_at
own_settle rest = own_bind (number_at rest) _ (λ ms. own_whole ms.1 _ tt)

own_acquire : (rest : List ℕ) → Own (acquire_at rest)
unfolding acquire_at
own_acquire rest = own_bind (range_at rest) _ (λ range. own_bind (node_at range.1) _ (λ node. own_whole node.1 _ tt))

own_transfer : (rest : List ℕ) → Own (transfer_at rest)
unfolding transfer_at
own_transfer rest = own_bind (range_at rest) _ (λ range. own_bind (node_at range.1) _ (λ node. own_whole node.1 _ tt))

own_extend : (rest : List ℕ) → Own (extend_at rest)
unfolding extend_at
own_extend rest = own_bind (range_at rest) _ (λ range. own_whole range.1 _ tt)

own_close : (rest : List ℕ) → Own (close_at rest)
unfolding close_at
own_close rest = own_bind (or_all_at range_at rest) _ (λ range. own_whole range.1 _ tt)

own_stop : (rest : List ℕ) → Own (stop_at rest)
unfolding stop_at
own_stop rest = own_bind (node_at rest) _ (λ node. own_whole node.1 _ tt)

own_start : (rest : List ℕ) → Own (start_at rest)
unfolding start_at
own_start rest = own_bind (node_at rest) _ (λ node. own_whole node.1 _ tt)

own_show_range : (rest : List ℕ) → Own (show_range_at rest)
unfolding show_range_at
own_show_range rest = own_bind (range_at rest) _ (λ range. own_whole range.1 _ tt)

own_show_node : (rest : List ℕ) → Own (show_node_at rest)
unfolding show_node_at
own_show_node rest = own_bind (node_at rest) _ (λ node. own_whole node.1 _ tt)

own_show_fresh : (rest : List ℕ) → Own (show_fresh_at rest)
unfolding show_fresh_at
own_show_fresh rest = own_bind (node_at rest) _ (λ node. own_whole node.1 _ tt)

own_lease : (rest : List ℕ) → Own (lease_at rest)
unfolding lease_at
own_lease rest = own_bind (word_at rest) _ (λ verb. own_if _ _ _ (own_acquire verb.1) (own_if _ _ _ (own_transfer verb.1) (own_if _ _ _ (own_extend verb.1) own_none)))

own_show : (rest : List ℕ) → Own (show_at rest)
unfolding show_at
own_show rest = own_bind (word_at rest) _ (λ what. own_if _ _ _ (own_show_range what.1) (own_if _ _ _ (own_show_node what.1) (own_if _ _ _ (own_show_fresh what.1) (own_if _ _ _ (own_whole what.1 _ tt) own_none))))

own_form_at : (name : LineName) (rest : List ℕ) → IsUtf8 rest → Own (form_at name rest)
unfolding form_at
own_form_at names.Cluster rest u = own_cluster rest
own_form_at names.Node rest u = own_node_line rest
own_form_at names.Sql rest u = own_sql rest u
own_form_at names.Begin rest u = own_whole rest _ tt
own_form_at names.Txn rest u = own_txn rest u
own_form_at names.Tick rest u = own_tick rest
own_form_at names.Deliver rest u = own_deliver rest
own_form_at names.Drop rest u = own_drop rest
own_form_at names.Apply rest u = own_apply rest
own_form_at names.Drain rest u = own_whole rest _ tt
own_form_at names.Settle rest u = own_settle rest
own_form_at names.Lease rest u = own_lease rest
own_form_at names.Close rest u = own_close rest
own_form_at names.Stop rest u = own_stop rest
own_form_at names.Start rest u = own_start rest
own_form_at names.Show rest u = own_show rest
own_form_at names.Timeout rest u = own_timeout rest

pub own_form_of : (name : LineName) (line : List ℕ) (f : Form) → form_of name line ≡ Some f → IsOwnForm f
unfolding form_of
own_form_of name line f e =
    elim (is_utf8 line) as (λ b. is_utf8 line ≡ b → (if b then form_at name (after_word line) else None) ≡ Some f → IsOwnForm f) [
      | true ↦ λ t r. (own_form_at name (after_word line) (rest_text line (IsUtf8-from_is_utf8 line t))).each f r
      | false ↦ λ t r. absurd cc
    ] refl e
