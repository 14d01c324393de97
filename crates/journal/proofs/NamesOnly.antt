use Rattle.std.proofs.Common.{List, [], ◌∷◌, ◌++◌, sym, subst}
use Rattle.std.specs.Prelude.{reverse}
use Rattle.std.proofs.lemmas.List.{reverse-append}
use Rattle.mr_base.specs.declared.ids.TxnId.{TxnId}
use Rattle.journal.specs.Names.{NamesOnly}
use Rattle.journal.specs.declared.entries.JournalEntry.{JournalEntry}

pub NamesOnly-weaker : (P Q : TxnId → Type 0) → ((t : TxnId) → P t → Q t) → (es : List JournalEntry) → NamesOnly P es → NamesOnly Q es
NamesOnly-weaker P Q f [] h = tt
NamesOnly-weaker P Q f (e ∷ es) h = (λ t n. f t (h.0 t n), NamesOnly-weaker P Q f es h.1)

pub NamesOnly-append : (P : TxnId → Type 0) (es fs : List JournalEntry) → NamesOnly P es → NamesOnly P fs → NamesOnly P (es ++ fs)
NamesOnly-append P [] fs h k = k
NamesOnly-append P (e ∷ es) fs h k = (h.0, NamesOnly-append P es fs h.1 k)

pub NamesOnly-reverse : (P : TxnId → Type 0) (es : List JournalEntry) → NamesOnly P es → NamesOnly P (reverse es)
NamesOnly-reverse P [] h = tt
NamesOnly-reverse P (e ∷ es) h =
    subst (λ (xs : List JournalEntry). NamesOnly P xs) (sym (reverse-append (e ∷ []) es))
    (NamesOnly-append P (reverse es) (e ∷ []) (NamesOnly-reverse P es h.1) (h.0, tt))
