-- The list of a search: the nodes that have a label and are not settled. It starts with b alone; a node goes on it with its first label, stays where
-- its label falls, and is taken off, the last one put in its place, when it is settled. Its nodes are all different, so it never overflows. Assumes nothing.
use Rattle.std.specs.Prelude.{List, ◌∷◌, ◌≡◌, refl, ℕ, zero, suc, ◌-◌, ◌≤◌, ◌<◌, length, set}
use Rattle.std.proofs.Common.{⊎_elim, sym, ap, ◌∙◌, arith, length-set}
use Rattle.base_sums.specs.At.{Stored, store}
use Rattle.base_sums.specs.Each.{less_or_not, same_or_not}
use Rattle.base_sums.specs.Pigeons.{distinct}
use Rattle.plan_insert.specs.State.{at, Listed}

-- ---- the list begins

pub listed_start : {cells most b : ℕ} {d rank : ℕ → ℕ} {list : List ℕ} → cells ≤ 127 → length list ≡ 128 → at list 0 ≡ b → b ≤ cells → rank b ≡ 0 → d b < most →
    ((v : ℕ) → v ≤ cells → (v ≡ b → ⊥) → d v ≡ most) → Listed cells most d rank list 1
listed_start {b = b} {d} {rank} {list} small long head inside fresh near far = record {
  small = small;
  long = long;
  node = λ i l. rw (only i l) inside;
  waits = λ i l. rw (only i l) fresh;
  near = λ i l. rw (only i l) near;
  once = λ i j l k q. omega arith;
  all = λ v l z h. ⊎_elim (λ q. (0, omega arith, head ∙ sym q)) (λ n. absurd (omega (arith, far v l n))) (same_or_not v b);
}
  where
    only : (i : ℕ) → i < 1 → at list i ≡ b
    only zero l = head
    only (suc i) l = absurd (omega arith)

module _ {cells most : ℕ} {d rank : ℕ → ℕ} {list : List ℕ} {size : ℕ} (l : Listed cells most d rank list size) where
  -- ---- what is known of it

  -- with a node that is not on it, it is still no longer than the row has nodes
  pub listed_room : {v : ℕ} → v ≤ cells → most ≤ d v → size < 128
  listed_room {v} inside far = omega (arith, l.small, distinct (suc size) (suc cells) (at (v ∷ list)) below once_each)
    where
      other : (i : ℕ) → i < size → at list i ≡ v → ⊥
      other i h q = omega (arith, l.near i h, ap d q)

      below : (i : ℕ) → i < suc size → at (v ∷ list) i < suc cells
      below zero h = omega arith
      below (suc i) h = omega (arith, l.node i (omega arith))

      once_each : (i j : ℕ) → i < suc size → j < suc size → at (v ∷ list) i ≡ at (v ∷ list) j → i ≡ j
      once_each zero zero h k q = refl
      once_each zero (suc j) h k q = absurd (other j (omega arith) (sym q))
      once_each (suc i) zero h k q = absurd (other i (omega arith) q)
      once_each (suc i) (suc j) h k q = ap suc (l.once i j (omega arith) (omega arith) q)

  pub listed_upto : size ≤ 128
  listed_upto = omega (arith, l.small, distinct size (suc cells) (at list) (λ i h. omega (arith, l.node i h)) l.once)

  -- ---- a label falls

  module _ {d' : ℕ → ℕ} {v : ℕ} (less : d' v < d v) (same : (w : ℕ) → w ≤ cells → (w ≡ v → ⊥) → d' w ≡ d w) where
    still_near : (i : ℕ) → i < size → d' (at list i) < most
    still_near i h = ⊎_elim (λ q. omega (arith, l.near i h, ap d q, ap d' q)) (λ n. omega (arith, l.near i h, same (at list i) (l.node i h) n)) (same_or_not (at list i) v)

    -- that of a node which had one
    pub listed_lower : d v < most → Listed cells most d' rank list size
    listed_lower had = record {
      small = l.small;
      long = l.long;
      node = l.node;
      waits = l.waits;
      near = still_near;
      once = l.once;
      all = λ w i z h. l.all w i z (⊎_elim (λ q. omega (arith, ap d q)) (λ n. omega (arith, same w i n)) (same_or_not w v));
    }

    -- that of a node which had none
    pub listed_push : v ≤ cells → most ≤ d v → rank v ≡ 0 → d' v < most → Listed cells most d' rank (set list size v) (suc size)
    listed_push inside far fresh near = record {
      small = l.small;
      long = length-set list size v ∙ l.long;
      node = each (λ w. w ≤ cells) inside l.node;
      waits = each (λ w. rank w ≡ 0) fresh l.waits;
      near = each (λ w. d' w < most) near still_near;
      once = once_each;
      all = λ w i z h. ⊎_elim (λ q. (size, omega arith, last.here size refl ∙ sym q)) (λ n. let k = l.all w i z (omega (arith, same w i n)) in (k.0, omega (arith, k.1), there k.0 k.1 ∙ k.2)) (same_or_not w v);
    }
      where
        last : Stored 0 list size v (set list size v)
        last = store 0 list size v (omega (arith, l.long, listed_room inside far))

        there : (i : ℕ) → i < size → at (set list size v) i ≡ at list i
        there i h = last.elsewhere i (λ q. omega arith)

        each : (P : ℕ → Type 0) → P v → ((i : ℕ) → i < size → P (at list i)) → (i : ℕ) → i < suc size → P (at (set list size v) i)
        each P new old i h = ⊎_elim (λ k. rw (there i k) (old i k)) (λ k. rw (last.here i (omega arith)) new) (less_or_not i size)

        other : (i : ℕ) → i < size → at (set list size v) i ≡ v → ⊥
        other i h q = omega (arith, l.near i h, ap d (sym (there i h) ∙ q))

        once_each : (i j : ℕ) → i < suc size → j < suc size → at (set list size v) i ≡ at (set list size v) j → i ≡ j
        once_each i j h k q =
            ⊎_elim
            (λ a. ⊎_elim (λ b. l.once i j a b (sym (there i a) ∙ q ∙ there j b)) (λ b. absurd (other i a (q ∙ last.here j (omega arith)))) (less_or_not j size))
            (λ a. ⊎_elim (λ b. absurd (other j b (sym q ∙ last.here i (omega arith)))) (λ b. omega arith) (less_or_not j size))
            (less_or_not i size)

  -- ---- the node at place i is settled: the last one takes its place

  pub listed_take : {i : ℕ} {rank' : ℕ → ℕ} → i < size → 0 < rank' (at list i) → ((w : ℕ) → w ≤ cells → (w ≡ at list i → ⊥) → rank' w ≡ rank w) →
      Listed cells most d rank' (set list i (at list (size - 1))) (size - 1)
  listed_take {i} {rank'} inside now same = record {
    small = l.small;
    long = length-set list i (at list (size - 1)) ∙ l.long;
    node = each (λ w. w ≤ cells) (λ k h n. l.node k h);
    waits = each (λ w. rank' w ≡ 0) (λ k h n. same (at list k) (l.node k h) (λ q. n (l.once k i h inside q)) ∙ l.waits k h);
    near = each (λ w. d w < most) (λ k h n. l.near k h);
    once = once_each;
    all = λ w m z h. let n = settled w z in found w n (l.all w m (sym (same w m n) ∙ z) h);
  }
    where
      list' : List ℕ
      list' = set list i (at list (size - 1))

      moved : Stored 0 list i (at list (size - 1)) list'
      moved = store 0 list i (at list (size - 1)) (omega (arith, l.long, listed_upto))

      -- whatever is on the list now was at another place than i
      each : (P : ℕ → Type 0) → ((k : ℕ) → k < size → (k ≡ i → ⊥) → P (at list k)) → (j : ℕ) → j < size - 1 → P (at list' j)
      each P old j h =
          ⊎_elim (λ (q : j ≡ i). rw (moved.here j q) (old (size - 1) (omega arith) (λ e. omega arith))) (λ n. rw (moved.elsewhere j n) (old j (omega arith) n)) (same_or_not j i)

      once_each : (j k : ℕ) → j < size - 1 → k < size - 1 → at list' j ≡ at list' k → j ≡ k
      once_each j k h m q =
          ⊎_elim
          (λ (a : j ≡ i). ⊎_elim (λ (b : k ≡ i). omega arith) (λ b. absurd (apart k m b (sym (moved.here j a) ∙ q))) (same_or_not k i))
          (λ a. ⊎_elim (λ (b : k ≡ i). absurd (apart j h a (sym (moved.here k b) ∙ sym q))) (λ b. l.once j k (omega arith) (omega arith) (sym (moved.elsewhere j a) ∙ q ∙ moved.elsewhere k b)) (same_or_not k i))
          (same_or_not j i)
        where
          apart : (k : ℕ) → k < size - 1 → (k ≡ i → ⊥) → at list (size - 1) ≡ at list' k → ⊥
          apart k m b q = omega (arith, l.once (size - 1) k (omega arith) (omega arith) (q ∙ moved.elsewhere k b))

      settled : (w : ℕ) → rank' w ≡ 0 → w ≡ at list i → ⊥
      settled w z q = omega (arith, ap rank' q)

      found : (w : ℕ) → (w ≡ at list i → ⊥) → (k : ℕ) × (k < size) × (at list k ≡ w) → (j : ℕ) × (j < size - 1) × (at list' j ≡ w)
      found w n k = ⊎_elim at_last before (same_or_not k.0 (size - 1))
        where
          elsewhere : k.0 ≡ i → ⊥
          elsewhere q = n (sym k.2 ∙ ap (at list) q)

          at_last : k.0 ≡ size - 1 → (j : ℕ) × (j < size - 1) × (at list' j ≡ w)
          at_last e = (i, ⊎_elim (λ (h : i < size - 1). h) (λ h. absurd (elsewhere (omega arith))) (less_or_not i (size - 1)), moved.here i refl ∙ ap (at list) (sym e) ∙ k.2)

          before : (k.0 ≡ size - 1 → ⊥) → (j : ℕ) × (j < size - 1) × (at list' j ≡ w)
          before e = (k.0, omega (arith, k.1), moved.elsewhere k.0 elsewhere ∙ k.2)
