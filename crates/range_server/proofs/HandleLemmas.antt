-- A request is handled by the parts.
use Rattle.std.proofs.Common.{◌≡◌, ◌∙◌, ◌++◌, ℕ, List, [], Option, None, Some, Result, Ok, Err, IfOk, refl, sym, ap, subst}
use Rattle.mr_base.specs.declared.ids.AttemptId.{AttemptId}
use Rattle.mr_base.specs.declared.ids.RangeId.{RangeId}
use Rattle.mr_base.specs.declared.messages.Fate.{Fate}
use Rattle.mr_base.specs.declared.messages.Known.{Known}
use Rattle.mr_base.specs.declared.messages.Reply.{Reply}
use Rattle.mr_base.specs.declared.messages.Request.{Request}
use Rattle.mr_base.specs.declared.messages.Request.TheVariants as requests
use Rattle.mr_base.specs.declared.spans.Span.{Span}
use Rattle.mr_base.specs.declared.timestamps.Ts.{Ts}
use Rattle.mvcc_range.specs.Follows.{Follows}
use Rattle.range_log.specs.LogValue.{LogValue}
use Rattle.range_log.specs.declared.entries.Entry.{Entry}
use Rattle.range_rules.specs.Added.{AreLicensed, added_to}
use Rattle.range_rules.specs.Records.{IsCommitted, IsGivenUp, IsPushed}
use Rattle.range_server.proofs.LogLemmas.{added_from}
use Rattle.range_server.proofs.OutcomeLemmas.{licensed_map, put_held, settles_held}
use Rattle.range_server.specs.Applying.{applied_past}
use Rattle.range_server.specs.Handling.{IsAnswer, IsHandled, Licenses, put_of, seen_past}
use Rattle.range_server.specs.Puts.{IsPuts, PutGives}
use Rattle.range_server.specs.Reads.{IsReply, ReadGives, RefreshGives, read_of, refresh_of, seen_with}
use Rattle.range_server.specs.Records.{Changes, IsMet, SettlesBy, committed_at, given_up, may_abort_at, pushed_by_reader, pushed_by_writer}
use Rattle.range_server.specs.Refusals.{IsByHolder}
use Rattle.range_server.specs.Resolves.{AreResolved, IsResolveOf}
use Rattle.range_server.specs.Scene.{IsBeside, Scene, applied_in}
use Rattle.range_server.specs.Steps.{IsStep}
use Rattle.range_server.specs.declared.reads.Handled.{Handled}
use Rattle.range_server.specs.declared.reads.Right.{Right}
use Rattle.range_server.specs.declared.standing.Standing.{Standing}
use Rattle.ts_cache.specs.Value.{CacheValue}

module _ (sc : Scene) (q : Request) where
  -- a step that answers is a request handled
  pub handled_by : (handled : Handled) (G : List Entry → Type 0) (L : Entry → List Entry → Type 0) (after : LogValue) (new : Standing)
      → ((added : List Entry) → G added → IsAnswer sc q handled.reply handled.by after.entries added)
      → ((added : List Entry) → G added → IsByHolder sc added)
      → ((e : Entry) (before : List Entry) → L e before → Licenses sc q e before)
      → ((seen : CacheValue) → seen_past q handled.reply handled.by seen ≡ seen)
      → IsStep G L sc.log after sc.server new → IsHandled sc q handled after new
  handled_by handled G L after new g by l unseen h =
      record {
        added = h.added;
        grown = h.grown;
        answer = g h.added h.gives;
        licensed = licensed_map L (Licenses sc q) l h.added sc.log.entries h.licensed;
        seen = ap (λ (x : Standing). x.cache) h.kept ∙ sym (unseen sc.server.cache);
        kept = h.kept ∙ sym (ap (λ (x : CacheValue). record sc.server { replica = new.replica; cache = x }) (ap (λ (x : Standing). x.cache) h.kept));
        voters = h.voters;
        beside = h.beside;
        applied = h.applied;
        held = by h.added h.gives;
      }

  -- what only looks at the log is handled too
  pub handled_read : (handled : Handled) (new : Standing) → IsBeside sc.server sc.log.entries
      → new ≡ record sc.server { cache = seen_past q handled.reply handled.by sc.server.cache }
      → IsAnswer sc q handled.reply handled.by sc.log.entries [] → IsHandled sc q handled sc.log new
  handled_read handled new beside e answer =
      let seen = seen_past q handled.reply handled.by sc.server.cache in
      let at : IsHandled sc q handled sc.log (record sc.server { cache = seen })
      = record {
        added = [];
        grown = refl;
        answer = answer;
        licensed = tt;
        seen = refl;
        kept = refl;
        voters = refl;
        beside = record { follows = beside.follows; whole = beside.whole };
        applied = refl;
        held = tt;
      }
      in
      subst (λ (x : Standing). IsHandled sc q handled sc.log x) (sym e) at

-- two facts of what a call gives
pub if_ok_both : {T E : Type 0} (A B C : T → Type 0) → ((x : T) → A x → B x → C x) → (r : Result T E) → IfOk r A → IfOk r B → IfOk r C
if_ok_both A B C f (Ok x) a b = f x a b
if_ok_both A B C f (Err e) a b = tt

module _ (sc : Scene) (beside : IsBeside sc.server sc.log.entries) (attempt : AttemptId) (range : RangeId) (span : Span) where
  module _ (at : Ts) (limit : Option ℕ) (known : List Known) where
    read_answers : (o : Option Reply) (by : Option Right)
        → IsReply (λ reply. ReadGives sc.server (applied_in sc) (read_of attempt span at limit known) reply by) o
        → IsAnswer sc (requests.Read attempt range span at limit known) o by sc.log.entries []
    read_answers None by h = absurd h
    read_answers (Some reply) by h = (h, refl)

    pub read_handled : {E : Type 0} (r : Result Handled E) (new : Standing)
        → IfOk r (λ handled. (entries : List Entry) → Follows sc.server.replica entries
        → IsReply (λ reply. ReadGives sc.server entries (read_of attempt span at limit known) reply handled.by) handled.reply)
        → IfOk r (λ handled. new ≡ record sc.server { cache = seen_with handled.reply handled.by span at sc.server.cache })
        → IfOk r (λ handled. IsHandled sc (requests.Read attempt range span at limit known) handled sc.log new)
    read_handled r new = if_ok_both _ _ _ (λ handled a b. handled_read sc (requests.Read attempt range span at limit known) handled new beside b
        (read_answers handled.reply handled.by (a (applied_in sc) beside.follows))) r

  module _ (from at : Ts) (known : List Known) where
    refresh_answers : (o : Option Reply) (by : Option Right)
        → IsReply (λ reply. RefreshGives sc.server (applied_in sc) (refresh_of attempt span from at known) reply by) o
        → IsAnswer sc (requests.Refresh attempt range span from at known) o by sc.log.entries []
    refresh_answers None by h = absurd h
    refresh_answers (Some reply) by h = (h, refl)

    pub refresh_handled : {E : Type 0} (r : Result Handled E) (new : Standing)
        → IfOk r (λ handled. (entries : List Entry) → Follows sc.server.replica entries
        → IsReply (λ reply. RefreshGives sc.server entries (refresh_of attempt span from at known) reply handled.by) handled.reply)
        → IfOk r (λ handled. new ≡ record sc.server { cache = seen_with handled.reply handled.by span at sc.server.cache })
        → IfOk r (λ handled. IsHandled sc (requests.Refresh attempt range span from at known) handled sc.log new)
    refresh_handled r new = if_ok_both _ _ _ (λ handled a b. handled_read sc (requests.Refresh attempt range span from at known) handled new beside b
        (refresh_answers handled.reply handled.by (a (applied_in sc) beside.follows))) r

abbrev pub replied : Reply → Handled
replied reply = record { reply = Some reply; by = None }

module _ (sc : Scene) (reply : Reply) (after : LogValue) (new : Standing) where
  pub put_handled : (attempt : AttemptId) (range : RangeId) (start : Ts) (anchor : RangeId) (at : Ts) (key : List ℕ) (value : Option (List ℕ)) (known : List Known)
      → IsStep (PutGives sc (put_of attempt start anchor at key value known) reply) (IsPuts sc (put_of attempt start anchor at key value known)) sc.log after sc.server new
      → IsHandled sc (requests.Put attempt range start anchor at key value known) (replied reply) after new
  put_handled attempt range start anchor at key value known =
      handled_by sc (requests.Put attempt range start anchor at key value known) (replied reply) _ _ after new (λ added g. (g, refl)) (put_held sc (put_of attempt start anchor at key value known) reply) (λ e before h. h) (λ seen. refl)

  pub reader_handled : (attempt : AttemptId) (range : RangeId) (other : AttemptId) (at : Ts)
      → IsStep (SettlesBy sc other (pushed_by_reader other at) reply) (Changes other (λ was state. IsPushed was at state)) sc.log after sc.server new
      → IsHandled sc (requests.PushReader attempt range other at) (replied reply) after new
  reader_handled attempt range other at =
      handled_by sc (requests.PushReader attempt range other at) (replied reply) _ _ after new (λ added g. (g, refl)) (settles_held sc other (pushed_by_reader other at) reply) (λ e before h. h) (λ seen. refl)

  pub writer_handled : (attempt : AttemptId) (range : RangeId) (other : AttemptId) (start other_start : Ts)
      → IsStep (SettlesBy sc other (pushed_by_writer attempt other (may_abort_at sc.now start other_start)) reply) (Changes other (IsMet sc.now attempt start other_start)) sc.log after sc.server new
      → IsHandled sc (requests.PushWriter attempt range other start other_start) (replied reply) after new
  writer_handled attempt range other start other_start =
      handled_by sc (requests.PushWriter attempt range other start other_start) (replied reply) _ _ after new (λ added g. (g, refl)) (settles_held sc other (pushed_by_writer attempt other (may_abort_at sc.now start other_start)) reply) (λ e before h. h) (λ seen. refl)

  pub commit_handled : (attempt : AttemptId) (range : RangeId) (at : Ts)
      → IsStep (SettlesBy sc attempt (committed_at at) reply) (Changes attempt (λ was state. IsCommitted was at state)) sc.log after sc.server new
      → IsHandled sc (requests.Commit attempt range at) (replied reply) after new
  commit_handled attempt range at =
      handled_by sc (requests.Commit attempt range at) (replied reply) _ _ after new (λ added g. (g, refl)) (settles_held sc attempt (committed_at at) reply) (λ e before h. h) (λ seen. refl)

  pub abort_handled : (attempt : AttemptId) (range : RangeId)
      → IsStep (SettlesBy sc attempt (given_up attempt) reply) (Changes attempt (λ was state. IsGivenUp attempt was state)) sc.log after sc.server new
      → IsHandled sc (requests.Abort attempt range) (replied reply) after new
  abort_handled attempt range =
      handled_by sc (requests.Abort attempt range) (replied reply) _ _ after new (λ added g. (g, refl)) (settles_held sc attempt (given_up attempt) reply) (λ e before h. h) (λ seen. refl)

module _ (sc : Scene) (after : LogValue) (new : Standing) where
  pub resolve_handled : (attempt : AttemptId) (range : RangeId) (keys : List (List ℕ)) (fate : Fate)
      → IsStep (AreResolved sc attempt keys after.entries) (IsResolveOf attempt keys fate) sc.log after sc.server new
      → IsHandled sc (requests.Resolve attempt range keys fate) (record { reply = None; by = None }) after new
  resolve_handled attempt range keys fate =
      handled_by sc (requests.Resolve attempt range keys fate) (record { reply = None; by = None }) _ _ after new (λ added g. (g, refl)) (λ added g. g.held) (λ e before h. h) (λ seen. refl)

-- what was handled, by what the log grew by
module _ (sc : Scene) (q : Request) (handled : Handled) (after : LogValue) (new : Standing) (h : IsHandled sc q handled after new) where
  told_added : added_to sc.log.entries after.entries ≡ h.added
  told_added = added_from h.added sc.log.entries after.entries h.grown

  pub handled_grown : after.entries ≡ added_to sc.log.entries after.entries ++ sc.log.entries
  handled_grown = h.grown ∙ ap (λ (x : List Entry). x ++ sc.log.entries) (sym told_added)

  pub handled_answer : IsAnswer sc q handled.reply handled.by after.entries (added_to sc.log.entries after.entries)
  handled_answer = subst (λ (x : List Entry). IsAnswer sc q handled.reply handled.by after.entries x) (sym told_added) h.answer

  pub handled_licensed : AreLicensed (Licenses sc q) (added_to sc.log.entries after.entries) sc.log.entries
  handled_licensed = subst (λ (x : List Entry). AreLicensed (Licenses sc q) x sc.log.entries) (sym told_added) h.licensed

  pub handled_applied : new.replica.applied ≡ applied_past (added_to sc.log.entries after.entries) sc.server.replica.applied after.entries
  handled_applied = subst (λ (x : List Entry). new.replica.applied ≡ applied_past x sc.server.replica.applied after.entries) (sym told_added) h.applied

  pub handled_held : IsByHolder sc (added_to sc.log.entries after.entries)
  handled_held = subst (λ (x : List Entry). IsByHolder sc x) (sym told_added) h.held
