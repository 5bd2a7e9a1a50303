-- The least label on a list, looked for from its end: among the nodes from place i on it is `least`, at place `best`. Each place either takes that of
-- best or changes nothing, and a label that no other is below ends the search. Assumes nothing.
use Rattle.std.specs.Prelude.{List, ◌≡◌, refl, ℕ, ◌-◌, ◌≤◌, ◌<◌, set}
use Rattle.std.proofs.Common.{⊎_elim, arith}
use Rattle.base_sums.specs.Each.{same_or_not}
use Rattle.plan_insert.specs.State.{at, Marks, marks, CanChoose, Chosen}

pub record LeastFrom (label list : List ℕ) (size i best least : ℕ) : Type 0 where
  pub reach : i ≤ best
  pub inside : best < size
  pub label_is : at label (at list best) ≡ least
  pub lowest : (j : ℕ) → i ≤ j → j < size → least ≤ at label (at list j)

module _ {label list : List ℕ} {size : ℕ} where
  pub least_last : 0 < size → LeastFrom label list size (size - 1) (size - 1) (at label (at list (size - 1)))
  least_last some = record { reach = omega arith; inside = omega arith; label_is = refl; lowest = λ j h l. let q : j ≡ size - 1 = omega arith in rw q (omega arith) }

  module _ {i best least : ℕ} (l : LeastFrom label list size i best least) where
    pub least_all : i ≤ 0 → Chosen label list size best
    least_all done = record { inside = l.inside; least = λ j h. omega (arith, l.label_is, l.lowest j (omega arith) h) }

    pub least_floor : {floor : ℕ} → CanChoose label list size floor → least ≡ floor → Chosen label list size best
    least_floor can q = record { inside = l.inside; least = λ j h. omega (arith, l.label_is, can.above j h) }

    module _ (more : 0 < i) where
      -- what holds of the places from i on and of the one before holds from that one on
      one_more : {n : ℕ} → n ≤ least → n ≤ at label (at list (i - 1)) → (j : ℕ) → i - 1 ≤ j → j < size → n ≤ at label (at list j)
      one_more lower here j h k = ⊎_elim (λ (q : j ≡ i - 1). rw q here) (λ n. omega (arith, l.lowest j (omega arith) k)) (same_or_not j (i - 1))

      pub least_taken : at label (at list (i - 1)) < least → LeastFrom label list size (i - 1) (i - 1) (at label (at list (i - 1)))
      least_taken less = record { reach = omega arith; inside = omega (arith, l.reach, l.inside); label_is = refl; lowest = one_more (omega arith) (omega arith) }

      pub least_stays : least ≤ at label (at list (i - 1)) → LeastFrom label list size (i - 1) best least
      least_stays far = record { reach = omega (arith, l.reach); inside = l.inside; label_is = l.label_is; lowest = one_more (omega arith) far }

-- node u, which has the least label, is taken off the list, and the last node is put in its place
pub record Taken (m m' : Marks) (u : ℕ) : Type 0 where
  pub place : ℕ
  pub chosen : Chosen m.label m.list m.size place
  pub node : at m.list place ≡ u
  pub after : m' ≡ marks m.label m.by m.from (set m.list place (at m.list (m.size - 1))) (m.size - 1)
