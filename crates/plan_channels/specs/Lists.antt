-- The kept ones by first node, in rising number: from a number on, the first that begins at a node, and from each the next one. The lists are made from the
-- highest number down, so that a number put in front of its node's list is the least in it. Assumes nothing.
use Rattle.std.specs.Prelude.{Bool, true, false, List, ◌≡◌, refl, ℕ, ◌+◌, ◌≤◌, ◌<◌, set, replicate, length}
use Rattle.std.proofs.Common.{⊎_elim, sym, ◌∙◌, arith, length-set}
use Rattle.std.proofs.lemmas.List.{get_or-replicate}
use Rattle.base_sums.specs.At.{Stored, store, NumbersBelow}
use Rattle.base_sums.specs.Each.{of_yes, same_or_not}
use Rattle.plan_channels.specs.HandOut.{at, flag, CanHandOut}

-- p is the least number from i on that is kept and begins at node v; where there is none, it is `count` or more
pub record Leads (count i v : ℕ) (lo : List ℕ) (kept : List Bool) (p : ℕ) : Type 0 where
  pub on : i ≤ p
  pub upto : p ≤ 256
  pub passed : (j : ℕ) → i ≤ j → j < p → j < count → flag kept j ≡ true → at lo j ≡ v → ⊥
  pub here : p < count → (flag kept p ≡ true) × (at lo p ≡ v)

-- the numbers from i on are in the lists: `first` leads to a node's first one, `after` from each to the next
pub record ListedByNode (count i : ℕ) (lo : List ℕ) (kept : List Bool) (first after : List ℕ) : Type 0 where
  pub first_long : length first ≡ 128
  pub after_long : length after ≡ 256
  pub begins : (v : ℕ) → v < 128 → Leads count i v lo kept (at first v)
  pub next : (j : ℕ) → i ≤ j → j < count → flag kept j ≡ true → Leads count (j + 1) (at lo j) lo kept (at after j)

-- the nodes where the first `count` begin are places of the lists
pub can_list : {cells count k : ℕ} {lo hi : List ℕ} {kept : List Bool} → CanHandOut cells count k lo hi kept → NumbersBelow 128 count lo
can_list can = record { few = can.count_upto; below = λ j l. omega (arith, can.proper.some_cell j l, can.proper.in_row j l, can.cells_upto) }

module _ {count : ℕ} {lo : List ℕ} {kept : List Bool} where
  -- no number is in the lists
  pub listed_none : count ≤ 256 → ListedByNode count count lo kept (replicate 128 256) (replicate 256 0)
  listed_none few = record { first_long = refl; after_long = refl; begins = begins; next = λ j from l. absurd (omega arith) }
    where
      begins : (v : ℕ) → v < 128 → Leads count count v lo kept (at (replicate 128 256) v)
      begins v l =
          rw (get_or-replicate {A = ℕ} 128 v 256 0 l)
          (record { on = omega arith; upto = omega arith; passed = λ j from h lj. absurd (omega arith); here = λ h. absurd (omega arith) })

  -- what leads on from past e leads on from e, unless e is kept and begins at v
  leads_down : {e v p : ℕ} → Leads count (e + 1) v lo kept p → (flag kept e ≡ true → at lo e ≡ v → ⊥) → Leads count e v lo kept p
  leads_down {e} {v} {p} m elsewhere = record { on = omega (arith, m.on); upto = m.upto; passed = passed; here = m.here }
    where
      passed : (j : ℕ) → e ≤ j → j < p → j < count → flag kept j ≡ true → at lo j ≡ v → ⊥
      passed j from h lj ej b = ⊎_elim (λ (q : j ≡ e). elsewhere (rw q at ej) (rw q at b)) (λ ne. m.passed j (omega arith) h lj ej b) (same_or_not j e)

  -- the turn of e, when those from i = e + 1 on are in the lists; then those from n = e on are
  module _
      {i n : ℕ} (e : ℕ) {first after : List ℕ} (can : NumbersBelow 128 count lo) (l : e < count) (listed : ListedByNode count i lo kept first after)
      (above : i ≡ e + 1) (left : n ≡ e)
    where
      s : ListedByNode count (e + 1) lo kept first after
      s = rw above at listed

      -- e is not kept
      pub listed_pass : flag kept e ≡ false → ListedByNode count n lo kept first after
      listed_pass dropped = rw left (record {
        first_long = s.first_long;
        after_long = s.after_long;
        begins = λ v lv. leads_down (s.begins v lv) (λ is b. of_yes (sym dropped ∙ is));
        next = λ j from lj ej. ⊎_elim (λ (q : j ≡ e). absurd (of_yes (sym dropped ∙ (rw q at ej)))) (λ ne. s.next j (omega arith) lj ej) (same_or_not j e);
      })

      -- e is kept, and comes in front of the list of its node
      pub listed_more : flag kept e ≡ true → ListedByNode count n lo kept (set first (at lo e) e) (set after e (at first (at lo e)))
      listed_more is = rw left (record {
        first_long = length-set first (at lo e) e ∙ s.first_long;
        after_long = length-set after e (at first (at lo e)) ∙ s.after_long;
        begins = begins;
        next = next;
      })
        where
          front : Leads count e (at lo e) lo kept e
          front = record { on = omega arith; upto = omega (arith, can.few); passed = λ j from h. absurd (omega arith); here = λ h. (is, refl) }

          leads : Stored 0 first (at lo e) e (set first (at lo e) e)
          leads = store 0 first (at lo e) e (omega (arith, can.below e l, s.first_long))

          begins : (v : ℕ) → v < 128 → Leads count e v lo kept (at (set first (at lo e) e) v)
          begins v lv =
              ⊎_elim (λ (q : v ≡ at lo e). rw (leads.here v q, q) front) (λ ne. rw (leads.elsewhere v ne) (leads_down (s.begins v lv) (λ is b. ne (sym b))))
              (same_or_not v (at lo e))

          follows : Stored 0 after e (at first (at lo e)) (set after e (at first (at lo e)))
          follows = store 0 after e (at first (at lo e)) (omega (arith, can.few, s.after_long))

          next : (j : ℕ) → e ≤ j → j < count → flag kept j ≡ true → Leads count (j + 1) (at lo j) lo kept (at (set after e (at first (at lo e))) j)
          next j from lj ej =
              ⊎_elim
              (λ (q : j ≡ e). rw (follows.here j q, q) (s.begins (at lo e) (can.below e l)))
              (λ ne. rw (follows.elsewhere j ne) (s.next j (omega arith) lj ej)) (same_or_not j e)
