-- Another attempt's intent at a key, as a read looks at it.
use Rattle.std.proofs.Common.{◌≡◌, ◌≢◌, ℕ, List, Option, None, Some, sym, subst, ap, ◌∙◌}
use Rattle.mr_base.specs.declared.messages.Fate.{Fate}
use Rattle.mr_base.specs.declared.messages.Fate.TheVariants as fates
use Rattle.mr_base.specs.Timestamps.{IsBelow}
use Rattle.mr_base.specs.declared.timestamps.Ts.{Ts}
use Rattle.mvcc_range.proofs.IntentLemmas.{IsTheIntent, intent_told}
use Rattle.mvcc_range.proofs.TsLemmas.{not_itself}
use Rattle.mvcc_range.specs.Answer.{IsLookedAt, Read, Settles, TellsFate}
use Rattle.mvcc_range.specs.Follows.{intent_at}
use Rattle.mvcc_range.specs.KeyView.{HasNoUnknown, IsLeast, IsOther, IsTheTold, IsTheUnknown, IsTold, IsToldAbove, IsToldBelow, laid_of}
use Rattle.mvcc_range.specs.declared.key_state.KeptIntent.{KeptIntent}
use Rattle.range_log.specs.Facts.{HasIntent, Laid}
use Rattle.range_log.specs.declared.entries.Entry.{Entry}

-- one intent stands at a key
pub one_intent : (entries : List Entry) (key : List ℕ) (i j : Laid) → HasIntent key i entries → HasIntent key j entries → i ≡ j
one_intent entries key i j h k = when (intent_at key entries) (intent_told key entries)
  where
    when : (o : Option KeptIntent) → IsTheIntent entries key o → i ≡ j
    when None t = absurd (t i h)
    when (Some x) t = t.1 i h ∙ sym (t.1 j k)

committed_same : (a b : Ts) → fates.Committed a ≡ fates.Committed b → a ≡ b
committed_same a b h = cc

module _ (entries : List Entry) (read : Read) (key : List ℕ) where
  -- there is none
  pub none_other : None ≡ intent_at key entries → (i : Laid) → ¬ IsOther entries read key i
  none_other is i o = subst (λ (x : Option KeptIntent). IsTheIntent entries key x) (sym is) (intent_told key entries) i o.0

  module _ (k : KeptIntent) (is : Some k ≡ intent_at key entries) where
    there : IsTheIntent entries key (Some k)
    there = subst (λ (x : Option KeptIntent). IsTheIntent entries key x) (sym is) (intent_told key entries)

    -- it is the reader's own
    pub own_other : k.intent.attempt ≡ read.attempt → (i : Laid) → ¬ IsOther entries read key i
    own_other own i o = o.1 (ap (λ (l : Laid). l.attempt) (there.1 i o.0) ∙ own)

    -- the read doesn't look at it
    pub far_other : ¬ IsLookedAt read k.intent.ts → (i : Laid) → ¬ IsOther entries read key i
    far_other far i o = far (subst (λ (l : Laid). IsLookedAt read l.ts) (there.1 i o.0) o.2)

    -- it does
    pub this_other : k.intent.attempt ≢ read.attempt → IsLookedAt read k.intent.ts →
        IsOther entries read key (laid_of k) × ((i : Laid) → IsOther entries read key i → i ≡ laid_of k)
    this_other n l = ((there.0, n, l), λ i o. there.1 i o.0)

  -- what is known of the other's intent
  module _ (k : KeptIntent) (one : (i : Laid) → IsOther entries read key i → i ≡ laid_of k) where
    tells_here : (f : Fate) (i : Laid) → IsOther entries read key i → TellsFate read.known i.attempt f → TellsFate read.known k.intent.attempt f
    tells_here f i o t = subst (λ (l : Laid). TellsFate read.known l.attempt f) (one i o) t

    pub told_as : (ts : Ts) (value : Option (List ℕ)) → IsOther entries read key (laid_of k) →
        TellsFate read.known k.intent.attempt (fates.Committed ts) → ((g : Fate) → TellsFate read.known k.intent.attempt g → g ≡ fates.Committed ts) →
        value ≡ k.value → (i : Laid) × IsTold entries read key i ts × (i.value ≡ value) × ((j : Laid) (x : Ts) → IsTold entries read key j x → (j ≡ i) × (x ≡ ts))
    told_as ts value o t u v =
        (laid_of k, (o, t), sym v, λ j x h. (one j h.0, committed_same x ts (u (fates.Committed x) (tells_here (fates.Committed x) j h.0 h.1))))

    pub told_not : ((ts : Ts) → ¬ TellsFate read.known k.intent.attempt (fates.Committed ts)) → IsTheTold entries read key None
    told_not n = λ i ts h. n ts (tells_here (fates.Committed ts) i h.0 h.1)

    pub unknown_settled : (f : Fate) → TellsFate read.known k.intent.attempt f → Settles read.at f → HasNoUnknown entries read key
    unknown_settled f t s = λ i u. u.3 f (subst (λ (l : Laid). TellsFate read.known l.attempt f) (sym (one i (u.0, u.1, u.2))) t) s

  pub unknown_none : ((i : Laid) → ¬ IsOther entries read key i) → HasNoUnknown entries read key
  unknown_none n = λ i u. n i (u.0, u.1, u.2)

  pub unknown_as : (k : KeptIntent) → IsOther entries read key (laid_of k) → ((f : Fate) → TellsFate read.known k.intent.attempt f → ¬ Settles read.at f) →
      IsTheUnknown entries read key (Some k.intent)
  unknown_as k o n = (k.value, (o.0, o.1, o.2, n))

  -- where the intent that is known as committed lies
  pub told_above_as : (above ts : Ts) (i : Laid) → IsTold entries read key i ts → ((j : Laid) (x : Ts) → IsTold entries read key j x → (j ≡ i) × (x ≡ ts)) → IsBelow above ts →
      IsLeast (IsToldAbove entries read above key) (Some ts)
  told_above_as above ts i t one b = ((b, i, t), λ other h l. not_itself ts (subst (λ (x : Ts). IsBelow x ts) (one h.1 other h.2).1 l))

  pub told_not_above : (above ts : Ts) (i : Laid) → ((j : Laid) (x : Ts) → IsTold entries read key j x → (j ≡ i) × (x ≡ ts)) → ¬ IsBelow above ts →
      IsLeast (IsToldAbove entries read above key) None
  told_not_above above ts i one n = λ other h. n (subst (λ (x : Ts). IsBelow above x) (one h.1 other h.2).1 h.0)

  pub none_above_told : (above : Ts) → IsTheTold entries read key None → IsLeast (IsToldAbove entries read above key) None
  none_above_told above n = λ other h. n h.1 other h.2

  pub told_not_below : (ts : Ts) (i : Laid) → ((j : Laid) (x : Ts) → IsTold entries read key j x → (j ≡ i) × (x ≡ ts)) → ¬ IsBelow ts read.at →
      IsToldBelow entries read key None
  told_not_below ts i one n = λ j x t b. n (subst (λ (y : Ts). IsBelow y read.at) (one j x t).1 b)

  pub none_below_told : IsTheTold entries read key None → IsToldBelow entries read key None
  none_below_told n = λ j x t b. n j x t
