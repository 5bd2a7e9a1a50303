-- Entries as they are written, read again as a plan of the line: it keeps what was kept, on the way that exists, with the channels that were given.
-- Assumes nothing.
use Rattle.std.specs.Prelude.{◌≡◌, Bool, true, List, ℕ, ◌/◌, ◌%◌, ◌<◌, eqb}
use Rattle.std.proofs.Math.Path.{sym, ap, ap₂}
use Rattle.std.proofs.Common.{◌∙◌, arith}
use Rattle.std.proofs.Math.Bool.{not}
use Rattle.base_sums.specs.At.{flag, NumbersUpto}
use Rattle.base_sums.specs.Sums.{when, bit, Σ-ext}
use Rattle.paper_book.specs.Book.{Book}
use Rattle.paper_book.specs.Columns.{at, Holds}
use Rattle.paper_rules.specs.Ways.{way_from, line_way}
use Rattle.paper_rules.specs.Plans.{kept, way, channel, earnings, number_kept}
use Rattle.law_line.specs.Ways.{way_from_lem}
use Rattle.law_line.specs.Laid.{Laid}
use Rattle.law_line.specs.Entries.{kept_entered, way_entered, channel_entered}
use Rattle.plan_line.specs.Steps.{way_in, Entered, sum_of, number_of}

module _
    {book : Book} {count : ℕ} {limits a b profits : List ℕ} {keeps : List Bool} {channels entries : List ℕ}
    (holds : Holds book count limits a b profits) (small : NumbersUpto 96 count channels) (written : Entered count a b keeps channels entries)
  where
    pub keeps_are : (i : ℕ) → i < count → flag keeps i ≡ kept (at entries) i
    unfolding kept way_in
    keeps_are i l = sym (ap (λ (n : ℕ). not (eqb n 0)) (written.entry.is i l) ∙ kept_entered (flag keeps) (way_in a b) (at channels) i (way_from_lem (at a i) (at b i)))

    way_is : (i : ℕ) → i < count → way_in a b i ≡ line_way book i
    unfolding way_in line_way
    way_is i l = ap₂ way_from (holds.a_is i l) (holds.b_is i l)

    pub goes_its_way : Laid book (at entries)
    unfolding way
    goes_its_way = record {
      goes = λ i h k.
          let l : i < count = omega (arith, holds.counted) in
          ap (λ (n : ℕ). n / 256) (written.entry.is i l)
          ∙ way_entered (flag keeps) (way_in a b) (at channels) i (keeps_are i l ∙ k) (omega (arith, small.upto i l))
          ∙ way_is i l;
    }

    pub channels_are : (i : ℕ) → i < count → flag keeps i ≡ true → at channels i ≡ channel (at entries) i
    unfolding channel
    channels_are i l e = sym (ap (λ (n : ℕ). n % 256) (written.entry.is i l) ∙ channel_entered (flag keeps) (way_in a b) (at channels) i e (omega (arith, small.upto i l)))

    -- ---- the sums over what was kept are those over the entries

    pub sum_is : sum_of count keeps profits ≡ earnings book (at entries)
    unfolding earnings
    sum_is = Σ-ext count _ _ (λ i l. ap₂ when (keeps_are i l) (holds.profit_is i l)) ∙ rw holds.counted

    pub number_is : number_of count keeps ≡ number_kept book (at entries)
    unfolding number_kept
    number_is = Σ-ext count _ _ (λ i l. ap bit (keeps_are i l)) ∙ rw holds.counted
