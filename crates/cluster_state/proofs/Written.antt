use Rattle.std.proofs.Common.{◌≡◌, List, [], ◌∷◌, ◌++◌, refl, sym, ap, ◌∙◌, subst}
use Rattle.journal.specs.declared.entries.JournalEntry.{JournalEntry}
use Rattle.run_ledger.specs.LedgerValue.{LedgerValue}
use Rattle.run_words.specs.History.{History, Item, Made}
use Rattle.cluster_state.specs.Tied.{HasMade, IsTied, IsTiedTo, past}
use Rattle.cluster_state.specs.declared.state.State.{State}

-- an entry was written into reserved room
pub written : (old mid new : LedgerValue) (e : JournalEntry) (room : _) → mid ≡ record old { room = mid.room }
    → new ≡ record mid { history = Made e ∷ mid.history; room = room } → new.history ≡ Made e ∷ old.history
written old mid new e room r w = ap (λ (l : LedgerValue). l.history) w ∙ ap (λ (l : LedgerValue). Made e ∷ l.history) r

abbrev with_ledger : State → LedgerValue → State
with_ledger s l = record s { ledger = l }

tied_with : (t : State) (l : LedgerValue) (h : History) → IsTiedTo h t → IsTiedTo h (with_ledger t l)
tied_with t l h i =
    record {
      staged = i.staged;
      laws = i.laws;
      count = i.count;
      nodes_are = i.nodes_are;
      ranges_are = i.ranges_are;
      mails_are = i.mails_are;
      begun_are = i.begun_are;
      sent_are = i.sent_are;
    }

-- what was changed beside the ledger is tied with an item that happened
pub made_item : (s t : State) → t.stage ≡ s.stage → (l : LedgerValue) (x : Item) → l.history ≡ x ∷ past s → IsTiedTo (x ∷ past s) t
    → HasMade (x ∷ []) s (record t { ledger = l })
made_item s t same l x e tied =
    record {
      stage = same;
      history = e;
      tied = subst (λ (h : History). IsTiedTo h (with_ledger t l)) (sym e) (tied_with t l (x ∷ past s) tied);
    }

-- what was changed beside the ledger is tied with the entry that was made
pub made_entry : (s t : State) → t.stage ≡ s.stage → (mid new : LedgerValue) (e : JournalEntry) (room : _) → mid ≡ record s.ledger { room = mid.room }
    → new ≡ record mid { history = Made e ∷ mid.history; room = room } → IsTiedTo (Made e ∷ past s) t
    → HasMade (Made e ∷ []) s (record t { ledger = new })
made_entry s t same mid new e room r w tied =
    record {
      stage = same;
      history = written s.ledger mid new e room r w;
      tied = subst (λ (h : History). IsTiedTo h (with_ledger t new)) (sym (written s.ledger mid new e room r w)) (tied_with t new (Made e ∷ past s) tied);
    }

-- what was changed beside the ledger is tied with all the items of a call
pub made_items : (s t : State) → t.stage ≡ s.stage → (l : LedgerValue) (items : History) → l.history ≡ items ++ past s → IsTiedTo (items ++ past s) t
    → HasMade items s (record t { ledger = l })
made_items s t same l items e tied =
    record {
      stage = same;
      history = e;
      tied = subst (λ (h : History). IsTiedTo h (with_ledger t l)) (sym e) (tied_with t l (items ++ past s) tied);
    }

-- the same of two entries, one after the other
pub made_two : (s t : State) → t.stage ≡ s.stage → (mid one two : LedgerValue) (x y : JournalEntry) (less least : _) → mid ≡ record s.ledger { room = mid.room }
    → one ≡ record mid { history = Made x ∷ mid.history; room = less } → two ≡ record one { history = Made y ∷ one.history; room = least }
    → IsTiedTo (Made y ∷ Made x ∷ past s) t → HasMade (Made y ∷ Made x ∷ []) s (record t { ledger = two })
made_two s t same mid one two x y less least r w v tied =
    let e : two.history ≡ Made y ∷ Made x ∷ past s
    = ap (λ (l : LedgerValue). l.history) v ∙ ap (λ (h : History). Made y ∷ h) (written s.ledger mid one x less r w) in
    record {
      stage = same;
      history = e;
      tied = subst (λ (h : History). IsTiedTo h (with_ledger t two)) (sym e) (tied_with t two (Made y ∷ Made x ∷ past s) tied);
    }
