-- Entries written one after another, by each way through the code that writes the next one: 0, or the way up or down and the channel. Assumes nothing.
use Rattle.std.specs.Prelude.{◌≡◌, Bool, true, false, List, ℕ, ◌+◌, ◌≤◌, ◌<◌, length, set}
use Rattle.std.proofs.Common.{◌∙◌, arith, length-set}
use borrow.Author.Tests.{lt-ltb, le-ltb}
use Rattle.base_sums.specs.At.{flag}
use Rattle.base_sums.specs.Filled.{filled_none, filled_more}
use Rattle.paper_book.specs.Columns.{at}
use Rattle.paper_rules.specs.Ways.{way_from}
use Rattle.law_line.specs.Entries.{entered}
use Rattle.plan_line.specs.Steps.{way_in, entries_of, Entered}

-- n entries are written, in an array of 256 places
pub record Entering (n : ℕ) (a b : List ℕ) (kept : List Bool) (channel entries : List ℕ) : Type 0 where
  pub so_far : Entered n a b kept channel entries
  pub places : length entries ≡ 256

pub entering_none : (a b : List ℕ) (kept : List Bool) (channel entries : List ℕ) → length entries ≡ 256 → Entering 0 a b kept channel entries
entering_none a b kept channel entries all = record { so_far = record { entry = filled_none _ entries }; places = all }

module _ {n : ℕ} {a b : List ℕ} {kept : List Bool} {channel entries : List ℕ} (was : Entering n a b kept channel entries) (l : n < 256) where
  next : {v : ℕ} → v ≡ entries_of a b kept channel n → Entering (n + 1) a b kept channel (set entries n v)
  next {v} e = record { so_far = record { entry = filled_more v was.so_far.entry (omega arith) e }; places = length-set entries n v ∙ was.places }

  pub entering_left : flag kept n ≡ false → Entering (n + 1) a b kept channel (set entries n 0)
  unfolding entered
  entering_left e = next (rw e)

  pub entering_up : flag kept n ≡ true → at a n < at b n → Entering (n + 1) a b kept channel (set entries n (256 + at channel n))
  unfolding entered way_in way_from
  entering_up e h = next (rw (e, lt-ltb _ _ h) (omega arith))

  pub entering_down : flag kept n ≡ true → at b n ≤ at a n → Entering (n + 1) a b kept channel (set entries n (512 + at channel n))
  unfolding entered way_in way_from
  entering_down e h = next (rw (e, le-ltb _ _ h) (omega arith))
