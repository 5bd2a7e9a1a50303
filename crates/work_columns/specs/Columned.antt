-- What `columns` promises: place by place, below the count, the columns have the requests' fields, and they hold nothing past it. Each turn fills one
-- place of each. Assumes nothing.
use Rattle.std.specs.Prelude.{refl, List, ℕ, ◌+◌, ◌≤◌, ◌<◌, length, get_or, set}
use Rattle.std.proofs.Common.{arith}
use Rattle.base_sums.specs.Filled.{Filled, filled_none, filled_more}
use Rattle.base_sums.specs.Vacant.{Vacant, vacant_more}
use Rattle.read_record.specs.declared.Request.{Request}
use Rattle.read_book.specs.Says.{no_request}
use Rattle.work_columns.specs.declared.RequestColumns.{RequestColumns}

-- request i of a list
abbrev pub request : List Request → ℕ → Request
request requests i = get_or requests i no_request

pub record Columned (requests : List Request) (count : ℕ) (made : RequestColumns) : Type 0 where
  pub a_is : Filled (λ i. (request requests i).a) count made.a
  pub b_is : Filled (λ i. (request requests i).b) count made.b
  pub profit_is : Filled (λ i. (request requests i).profit) count made.profit
  pub a_end : Vacant 0 count 256 made.a
  pub b_end : Vacant 0 count 256 made.b
  pub profit_end : Vacant 0 count 256 made.profit

-- a list has `count` requests, and the columns have room for them
pub record CanColumn (requests : List Request) (count : ℕ) : Type 0 where
  pub few : count ≤ 256
  pub there : count ≤ length requests

module _ (requests : List Request) where
  -- from a list in which nothing stands yet
  pub columned_none : {new : List ℕ} → Vacant 0 0 256 new → Columned requests 0 (record { a = new; b = new; profit = new })
  columned_none {new} empty = record {
    a_is = filled_none _ new;
    b_is = filled_none _ new;
    profit_is = filled_none _ new;
    a_end = empty;
    b_end = empty;
    profit_end = empty;
  }

  pub columned_more :
      {i : ℕ} {a b profit : List ℕ} → Columned requests i (record { a = a; b = b; profit = profit }) → i < 256
      → Columned requests (i + 1) (record { a = set a i (request requests i).a; b = set b i (request requests i).b; profit = set profit i (request requests i).profit })
  columned_more was l = record {
    a_is = filled_more _ was.a_is (omega (arith, was.a_end.long)) refl;
    b_is = filled_more _ was.b_is (omega (arith, was.b_end.long)) refl;
    profit_is = filled_more _ was.profit_is (omega (arith, was.profit_end.long)) refl;
    a_end = vacant_more was.a_end _;
    b_end = vacant_more was.b_end _;
    profit_end = vacant_more was.profit_end _;
  }
