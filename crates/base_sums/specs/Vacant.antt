-- A list that is filled from the front up to place n and holds nothing from there on: a new array, and one with stores below n. Two that are alike below n are
-- the same list. Assumes nothing.
use Rattle.std.specs.Prelude.{◌≡◌, List, ◌++◌, ℕ, ◌+◌, ◌-◌, ◌≤◌, ◌<◌, length, get_or, set, drop, replicate}
use Rattle.std.proofs.Common.{sym, ap, ◌∙◌, ⊎_elim, arith, length-set, length-append, length-drop, get_or-set_other, get_or-append-add, get_or-drop, ext_get_or}
use Rattle.std.proofs.lemmas.List.{length-replicate}
use Rattle.base_sums.specs.At.{fresh}
use Rattle.base_sums.specs.Each.{less_or_not}

pub record Vacant {A : Type 0} (empty : A) (n places : ℕ) (xs : List A) : Type 0 where
  pub long : length xs ≡ places
  pub none : (i : ℕ) → n ≤ i → get_or xs i empty ≡ empty

pub vacant_new : {A : Type 0} (empty : A) (n places : ℕ) → Vacant empty n places (replicate places empty)
vacant_new empty n places = record { long = length-replicate places empty; none = λ i h. fresh empty places i }

module _ {A : Type 0} {empty : A} {n places : ℕ} {xs : List A} (was : Vacant empty n places xs) where
  -- a store below n
  pub vacant_set : (k : ℕ) (v : A) → k < n → Vacant empty n places (set xs k v)
  vacant_set k v l = record { long = length-set xs k v ∙ was.long; none = λ i h. get_or-set_other xs k i v empty (λ q. omega arith) ∙ was.none i h }

  -- another first part, of n places
  pub vacant_part : (part : List A) → length part ≡ n → n ≤ places → Vacant empty n places (part ++ drop n xs)
  vacant_part part e l = record {
    long = omega (arith, length-append part (drop n xs), length-drop n xs, was.long);
    none = λ i h.
        let there : i ≡ length part + (i - n) = omega arith in
        let back : n + (i - n) ≡ i = omega arith in
        ap (λ (k : ℕ). get_or (part ++ drop n xs) k empty) there ∙ get_or-append-add part (drop n xs) (i - n) empty ∙ get_or-drop n xs (i - n) empty
        ∙ ap (λ (k : ℕ). get_or xs k empty) back ∙ was.none i h;
  }

  pub vacant_later : {m : ℕ} → n ≤ m → Vacant empty m places xs
  vacant_later l = record { long = was.long; none = λ i h. was.none i (omega arith) }

  pub vacant_same : {ys : List A} → Vacant empty n places ys → ((i : ℕ) → i < n → get_or xs i empty ≡ get_or ys i empty) → xs ≡ ys
  vacant_same {ys} other same = ext_get_or empty xs ys (was.long ∙ sym other.long) (λ i _. ⊎_elim (same i) (λ h. was.none i h ∙ sym (other.none i h)) (less_or_not i n))

-- a store at the next place
pub vacant_more : {A : Type 0} {empty : A} {n places : ℕ} {xs : List A} → Vacant empty n places xs → (v : A) → Vacant empty (n + 1) places (set xs n v)
vacant_more {n} was v = vacant_set (vacant_later was (omega arith)) n v (omega arith)
