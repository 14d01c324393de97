use Rattle.std.proofs.Common.{◌≡◌, suc, zero, List, [], ◌∷◌, ◌++◌, get_or, true, All, AllPairs, filter, arith}
use Rattle.std.proofs.lemmas.Bool.Decides.{nat_tests}
use Rattle.std.proofs.lemmas.List.Elements.{All-append, filter_passes}
use Rattle.std.proofs.lemmas.List.Kept.{AllPairs-cons, AllPairs-filter}
use Rattle.mr_base.specs.declared.messages.Known.{Known}
use Rattle.txn_coord.specs.Fates.{AreInOrder, IsBefore, is_earlier, is_later, learned}

-- The head is before all behind it, which are in order themselves.
head_before : (x : Known) (xs : List Known) → AllPairs IsBefore (x ∷ xs) → All (IsBefore x) xs
head_before x xs pairs = λ k d h. pairs zero (suc k) d (omega arith) (omega arith)

rest_ordered : (x : Known) (xs : List Known) → AllPairs IsBefore (x ∷ xs) → AllPairs IsBefore xs
rest_ordered x xs pairs = λ i j d h l. pairs (suc i) (suc j) d (omega arith) (omega arith)

-- Two lists in order, the first before the second, are one in order.
ordered_append : (xs ys : List Known) → AllPairs IsBefore xs → AllPairs IsBefore ys → All (λ x. All (IsBefore x) ys) xs → AllPairs IsBefore (xs ++ ys)
ordered_append [] ys p q across = q
ordered_append (x ∷ xs) ys p q across =
    AllPairs-cons IsBefore x (xs ++ ys) (All-append (IsBefore x) xs ys (head_before x xs p) (across zero x (omega arith))) (ordered_append xs ys (rest_ordered x xs p) q (λ k d h. across (suc k) d (omega arith)))

-- What passes a test of its attempt is of such an attempt.
earlier_before : (k f : Known) → is_earlier k f ≡ true → IsBefore f k
earlier_before k f t = grind (arith, nat_tests)

later_behind : (k f : Known) → is_later k f ≡ true → IsBefore k f
later_behind k f t = grind (arith, nat_tests)

before_through : (f g h : Known) → IsBefore f g → IsBefore g h → IsBefore f h
before_through f g h p q = omega arith

-- What is before a fate is before it and all behind it.
before_all : (x k : Known) (ys : List Known) → IsBefore x k → All (IsBefore k) ys → All (IsBefore x) (k ∷ ys)
before_all x k ys h all zero d l = h
before_all x k ys h all (suc i) d l = before_through x k (get_or ys i d) h (all i d (omega arith))

-- A fate that is learned keeps the order.
pub learned_in_order : (k : Known) (fates : List Known) → AreInOrder fates → AreInOrder (learned k fates)
learned_in_order k fates ordered =
    let behind : All (IsBefore k) (filter (is_later k) fates) = λ i d h. later_behind k (get_or (filter (is_later k) fates) i d) (filter_passes (is_later k) fates i d h) in
    ordered_append (filter (is_earlier k) fates) (k ∷ filter (is_later k) fates) (AllPairs-filter IsBefore (is_earlier k) fates ordered) (AllPairs-cons IsBefore k (filter (is_later k) fates) behind (AllPairs-filter IsBefore (is_later k) fates ordered)) (λ i d h. before_all (get_or (filter (is_earlier k) fates) i d) k (filter (is_later k) fates) (earlier_before k (get_or (filter (is_earlier k) fates) i d) (filter_passes (is_earlier k) fates i d h)) behind)
