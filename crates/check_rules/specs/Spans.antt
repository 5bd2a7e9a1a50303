-- One span at a time: those that cross it have different channels and are at most its limit. The two are decided apart, the channels by specs/Sweep and
-- the loads by specs/Loads, and are said of a plan laid out in columns; `CanSweep` says what the columns are. Assumes nothing.
use Rattle.std.specs.Prelude.{◌≡◌, Bool, true, false, List, ℕ, ◌≤◌, ◌<◌, ltb}
use Rattle.std.proofs.Common.{sym, ◌∙◌, arith}
use Rattle.base_sums.specs.At.{flag, NumbersBelow}
use Rattle.base_sums.specs.Between.{is_between}
use Rattle.base_sums.specs.Each.{of_yes}
use Rattle.base_sums.specs.Sums.{Σ, bit}
use Rattle.paper_book.specs.Columns.{at}

-- the answer is yes exactly when P holds
pub record Decides (answer : Bool) (P : Type 0) : Type 0 where
  pub sure : answer ≡ true → P
  pub whole : P → answer ≡ true

-- request i of a plan laid out in columns crosses span s
abbrev pub on_span : List ℕ → List ℕ → ℕ → ℕ → Bool
on_span lo hi s i = is_between (at lo i) (at hi i) s

-- no earlier one that crosses has the channel of request i
abbrev pub Alone : (ℕ → Bool) → (ℕ → ℕ) → ℕ → Type 0
Alone crosses channel i = (j : ℕ) → j < i → crosses i ≡ true → crosses j ≡ true → channel i ≡ channel j → ⊥

-- of the first `count` those that cross have different channels, and are at most `limit`
pub record FairOn (count : ℕ) (crosses : ℕ → Bool) (channel : ℕ → ℕ) (limit : ℕ) : Type 0 where
  pub differ : (i : ℕ) → i < count → Alone crosses channel i
  pub within : Σ count (λ i. bit (crosses i)) ≤ limit

-- so on each span
pub record FairSpans (spans : ℕ) (limits : List ℕ) (count : ℕ) (lo hi channels : List ℕ) : Type 0 where
  pub on : (s : ℕ) → s < spans → FairOn count (on_span lo hi s) (at channels) (at limits s)

-- the channels' half of it, and the loads'
pub record ApartSpans (spans count : ℕ) (lo hi channels : List ℕ) : Type 0 where
  pub on : (s : ℕ) → s < spans → (i : ℕ) → i < count → Alone (on_span lo hi s) (at channels) i

pub record WithinSpans (spans : ℕ) (limits : List ℕ) (count : ℕ) (lo hi : List ℕ) : Type 0 where
  pub on : (s : ℕ) → s < spans → Σ count (λ i. bit (on_span lo hi s i)) ≤ at limits s

module _ {spans count : ℕ} {limits lo hi channels : List ℕ} where
  -- a span above its limit decides; else the channels do
  pub limits_decide : {within : Bool} → Decides within (WithinSpans spans limits count lo hi) → within ≡ false → Decides false (FairSpans spans limits count lo hi channels)
  limits_decide d above = record { sure = λ e. absurd (of_yes e); whole = λ fair. sym above ∙ d.whole (record { on = λ s l. (fair.on s l).within }) }

  pub channels_decide :
      {within answer : Bool} → Decides within (WithinSpans spans limits count lo hi) → within ≡ true → Decides answer (ApartSpans spans count lo hi channels)
      → Decides answer (FairSpans spans limits count lo hi channels)
  channels_decide w under d = record {
    sure = λ e. record { on = λ s l. record { differ = (d.sure e).on s l; within = (w.sure under).on s l } };
    whole = λ fair. d.whole (record { on = λ s l. (fair.on s l).differ });
  }

-- at most 256 requests, each from a node up to another below 64
pub record LaidUpward (count : ℕ) (lo hi : List ℕ) : Type 0 where
  pub upward : (i : ℕ) → i < count → at lo i ≤ at hi i
  pub in_line : NumbersBelow 64 count hi

-- so their first nodes are below 64, and below any bound from there on
pub begin_below : {count : ℕ} {lo hi : List ℕ} (bound : ℕ) → 64 ≤ bound → LaidUpward count lo hi → NumbersBelow bound count lo
begin_below bound upto can = record { few = can.in_line.few; below = λ i l. omega (arith, can.upward i l, can.in_line.below i l) }

-- and a flag for those that cross a span at all, and channels below 256, as an entry's are
pub record CanSweep (count : ℕ) (lo hi : List ℕ) (crossing : List Bool) (channels : List ℕ) : Type 0 where
  pub laid : LaidUpward count lo hi
  pub real : (i : ℕ) → i < count → flag crossing i ≡ ltb (at lo i) (at hi i)
  pub held : NumbersBelow 256 count channels
