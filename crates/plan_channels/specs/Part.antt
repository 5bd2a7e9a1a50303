-- Columns of which the first `count` places are lent say the same as the whole columns. Assumes nothing.
use Rattle.std.specs.Prelude.{Bool, true, false, List, ◌≡◌, refl, ℕ, ◌≤◌, ◌<◌, length, take, Result, ⊤}
use Rattle.std.proofs.Common.{sym, ◌∙◌, arith, length-take-le, get_or-take}
use Rattle.law_row.specs.Same.{SameIntervals, SameKept, load_same, ruled_same}
use Rattle.plan_channels.specs.HandOut.{at, flag, row_on, CanHandOut, HandedOut}
use Rattle.plan_channels.specs.Lists.{Leads, ListedByNode}
use Rattle.plan_channels.specs.declared.NoneLeft.{NoneLeft}

module _ {count : ℕ} {lo : List ℕ} {kept : List Bool} where
  leads_whole : {i v p : ℕ} → Leads count i v (take count lo) (take count kept) p → Leads count i v lo kept p
  leads_whole {i} {v} {p} m = record { on = m.on; upto = m.upto; passed = passed; here = here }
    where
      passed : (j : ℕ) → i ≤ j → j < p → j < count → flag kept j ≡ true → at lo j ≡ v → ⊥
      passed j from h l e b = m.passed j from h l (get_or-take count kept j false l ∙ e) (get_or-take count lo j 0 l ∙ b)

      here : p < count → (flag kept p ≡ true) × (at lo p ≡ v)
      here l = let is = m.here l in (sym (get_or-take count kept p false l) ∙ is.0, sym (get_or-take count lo p 0 l) ∙ is.1)

  -- the lists of a part lead to the same ones as those of the whole columns up to its end
  pub listed_whole :
      {first after : List ℕ} → count ≤ length lo → ListedByNode (length (take count lo)) 0 (take count lo) (take count kept) first after
      → ListedByNode count 0 lo kept first after
  listed_whole {first} {after} l part =
      let s : ListedByNode count 0 (take count lo) (take count kept) first after = rw (length-take-le count lo l) at part in
      record {
        first_long = s.first_long;
        after_long = s.after_long;
        begins = λ v lv. leads_whole (s.begins v lv);
        next = λ j from lj e.
            rw (sym (get_or-take count lo j 0 lj)) (leads_whole (s.next j from lj (get_or-take count kept j false lj ∙ e)));
      }

-- the part has the same intervals, and keeps the same of them
same_part : (cells count : ℕ) (lo hi : List ℕ) → SameIntervals (row_on cells count (take count lo) (take count hi)) (row_on cells count lo hi)
same_part cells count lo hi = record { cells = refl; count = refl; lo = λ i h. get_or-take count lo i 0 h; hi = λ i h. get_or-take count hi i 0 h }

same_kept : (count : ℕ) (kept : List Bool) → SameKept count (flag (take count kept)) (flag kept)
same_kept count kept i h = get_or-take count kept i false h

module _ {cells count k : ℕ} {lo hi : List ℕ} {kept : List Bool} (l : count ≤ length lo) where
  pub can_part : CanHandOut cells count k lo hi kept → CanHandOut cells (length (take count lo)) k (take count lo) (take count hi) (take count kept)
  can_part can = rw (length-take-le count lo l) (record {
    cells_upto = can.cells_upto;
    count_upto = can.count_upto;
    k_upto = can.k_upto;
    proper = record {
      some_cell = λ i h. rw (get_or-take count lo i 0 h, get_or-take count hi i 0 h) (can.proper.some_cell i h);
      in_row = λ i h. rw (get_or-take count hi i 0 h) (can.proper.in_row i h);
    };
    fits = λ j h. omega (arith, load_same (same_part cells count lo hi) (same_kept count kept) j, can.fits j h);
  })

  pub handed_whole :
      {given : Result ⊤ NoneLeft} {channel : List ℕ}
      → HandedOut cells (length (take count lo)) k (take count lo) (take count hi) (take count kept) given channel → HandedOut cells count k lo hi kept given channel
  handed_whole {given} {channel} part =
      let h : HandedOut cells count k (take count lo) (take count hi) (take count kept) given channel = rw (length-take-le count lo l) at part in
      record {
        all = h.all;
        ruled = ruled_same (same_part cells count lo hi) (same_kept count kept) k (λ i m e. refl) h.ruled;
        upto = h.upto;
        none = λ i m e. h.none i m (same_kept count kept i m ∙ e);
      }
