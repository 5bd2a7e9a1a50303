-- What `best_within` finds is the most that a set within the room given can earn. A set without the last request is a set of the others in
-- the same room, and one with it is a set of the others in the room that the last one leaves; the recursion takes the better. Assumes nothing.
use Rattle.std.specs.Prelude.{◌≡◌, refl, Bool, false, ◌&&◌, cond, ℕ, zero, suc, ◌+◌, ◌≤◌, ◌<◌, max, eqb}
use Rattle.std.proofs.Common.{sym, ap₂, arith}
use Rattle.std.proofs.Math.Bool.{true}
use Rattle.std.proofs.Math.Logic.{⊎_elim}
use borrow.Author.Tests.{ltb-true, lt-ltb, eq-eqb, ne_eqb}
use Rattle.base_sums.specs.Each.{each_at, each_of, decided, less_or_not}
use Rattle.base_sums.specs.Sums.{Σ, when, bit, Σ-ext, when_yes, when_no}
use Rattle.paper_book.specs.Book.{Book, spans, profit}
use Rattle.paper_rules.specs.Ways.{crossed}
use Rattle.paper_rules.specs.Best.{fits, lowered, best_within}
use Rattle.base_sums.specs.Tests.{implied, implies}

-- how many of the first t requests that x keeps cross span s, and what they earn
abbrev pub crossing : Book → ℕ → (ℕ → Bool) → ℕ → ℕ
crossing book t x s = Σ t (λ i. bit (x i && crossed book i s))

abbrev pub earned : Book → ℕ → (ℕ → Bool) → ℕ
earned book t x = Σ t (λ i. when (x i) (profit book i))

-- x, but v for number t
put : (ℕ → Bool) → ℕ → Bool → ℕ → Bool
put x t v i = cond (eqb i t) v (x i)

Σ-put : (t : ℕ) (f : ℕ → Bool → ℕ) (x : ℕ → Bool) (v : Bool) → Σ (suc t) (λ i. f i (put x t v i)) ≡ Σ t (λ i. f i (x i)) + f t v
unfolding Σ put
Σ-put t f x v = ap₂ ◌+◌ (Σ-ext t _ _ (λ i l. rw (ne_eqb i t (λ q. omega arith)))) (rw (eq-eqb t t refl))

module _ (book : Book) (t : ℕ) (room : ℕ → ℕ) where
  -- request t fits: every span has room for what it crosses
  fits_room : fits book t room ≡ true → (s : ℕ) → s < spans book → bit (crossed book t s) ≤ room s
  unfolding fits
  fits_room e s l =
      ⊎_elim (λ c. rw c (ltb-true 0 (room s) (implied (crossed book t s) _ (each_at (spans book) _ e s l) c)))
      (λ c. omega (arith, when_no (crossed book t s) 1 c)) (decided (crossed book t s))

  fits_of : ((s : ℕ) → s < spans book → bit (crossed book t s) ≤ room s) → fits book t room ≡ true
  unfolding fits
  fits_of h = each_of (spans book) _ (λ s l. implies (crossed book t s) _ (λ c. lt-ltb 0 (room s) (rw c at (h s l))))

  -- the better of leaving request t out and taking it, where it fits
  with_it : fits book t room ≡ true → best_within book (suc t) room ≡ max (best_within book t room) (profit book t + best_within book t (lowered book t room))
  unfolding best_within
  with_it e = rw (e, best_within)

  without_it : fits book t room ≡ false → best_within book (suc t) room ≡ best_within book t room
  unfolding best_within
  without_it e = rw (e, best_within)

  no_worse : best_within book t room ≤ best_within book (suc t) room
  no_worse = ⊎_elim (λ e. omega (arith, with_it e)) (λ e. omega (arith, without_it e)) (decided (fits book t room))

-- ---- no set earns more

module _ (book : Book) (t : ℕ) (room : ℕ → ℕ) (x : ℕ → Bool) where
  -- if that is known of the first t requests in any room, it holds of one more: where x keeps it, the others leave room for it
  one_more :
      ((rest : ℕ → ℕ) → ((s : ℕ) → s < spans book → crossing book t x s ≤ rest s) → earned book t x ≤ best_within book t rest)
      → ((s : ℕ) → s < spans book → crossing book (suc t) x s ≤ room s) → earned book (suc t) x ≤ best_within book (suc t) room
  unfolding Σ lowered
  one_more known within = ⊎_elim taken not_taken (decided (x t))
    where
      beside : x t ≡ true → (s : ℕ) → s < spans book → crossing book t x s + bit (crossed book t s) ≤ room s
      beside e s l = rw e at (within s l)

      taken : x t ≡ true → earned book (suc t) x ≤ best_within book (suc t) room
      taken e =
          omega (
            arith,
            when_yes (x t) (profit book t) e,
            with_it book t room (fits_of book t room (λ s l. omega (arith, beside e s l))),
            known (lowered book t room) (λ s l. omega (arith, beside e s l)),
          )

      not_taken : x t ≡ false → earned book (suc t) x ≤ best_within book (suc t) room
      not_taken e = omega (arith, when_no (x t) (profit book t) e, no_worse book t room, known room (λ s l. omega (arith, within s l)))

pub set_bounded :
    (book : Book) (t : ℕ) (room : ℕ → ℕ) (x : ℕ → Bool)
    → ((s : ℕ) → s < spans book → crossing book t x s ≤ room s) → earned book t x ≤ best_within book t room
unfolding Σ
set_bounded book zero room x within = omega arith
set_bounded book (suc t) room x within = one_more book t room x (λ rest. set_bounded book t rest x) within

-- ---- and some set earns it

abbrev pub Attained : Book → ℕ → (ℕ → ℕ) → Type 0
Attained book t room = (x : ℕ → Bool) × ((s : ℕ) → s < spans book → crossing book t x s ≤ room s) × (earned book t x ≡ best_within book t room)

module _ (book : Book) (t : ℕ) (room : ℕ → ℕ) where
  -- a set of the first t requests, in some room, and request t kept or not
  joined :
      (v : Bool) {rest : ℕ → ℕ} (w : Attained book t rest)
      → ((s : ℕ) → s < spans book → crossing book t w.0 s + bit (v && crossed book t s) ≤ room s)
      → best_within book t rest + when v (profit book t) ≡ best_within book (suc t) room
      → Attained book (suc t) room
  joined v w within earns = (
    put w.0 t v,
    λ s l. omega (arith, Σ-put t (λ i b. bit (b && crossed book i s)) w.0 v, within s l),
    omega (arith, Σ-put t (λ i b. when b (profit book i)) w.0 v, w.2),
  )

  left_out : Attained book t room → best_within book t room ≡ best_within book (suc t) room → Attained book (suc t) room
  left_out w e = joined false w (λ s l. omega (arith, w.1 s l)) (omega arith)

  kept_too :
      fits book t room ≡ true → Attained book t (lowered book t room)
      → profit book t + best_within book t (lowered book t room) ≡ best_within book (suc t) room
      → Attained book (suc t) room
  unfolding lowered
  kept_too fit w e = joined true w (λ s l. omega (arith, w.1 s l, fits_room book t room fit s l)) (omega arith)

  larger : Attained book t room → Attained book t (lowered book t room) → Attained book (suc t) room
  larger w u = ⊎_elim fitting (λ e. left_out w (sym (without_it book t room e))) (decided (fits book t room))
    where
      fitting : fits book t room ≡ true → Attained book (suc t) room
      fitting e =
          ⊎_elim (λ l. kept_too e u (omega (arith, with_it book t room e))) (λ l. left_out w (omega (arith, with_it book t room e)))
          (less_or_not (best_within book t room) (profit book t + best_within book t (lowered book t room)))

pub set_attained : (book : Book) (t : ℕ) (room : ℕ → ℕ) → Attained book t room
unfolding Σ best_within
set_attained book zero room = (λ i. false, λ s l. omega arith, refl)
set_attained book (suc t) room = larger book t room (set_attained book t room) (set_attained book t (lowered book t room))
