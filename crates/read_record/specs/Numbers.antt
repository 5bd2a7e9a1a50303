-- The rows of document 01's table ("Refusals by number"): each has its number, and no two have one. Assumes nothing.
use Rattle.std.specs.Prelude.{◌≡◌, refl, cond, eqb, ℕ}
use Rattle.std.proofs.Math.Path.{sym, ap}
use Rattle.std.proofs.Common.{◌∙◌}
use Rattle.read_record.specs.declared.Row.{Row}
use Rattle.read_record.specs.declared.Row.TheVariants.{ByteCount, Network, Nodes, Channels, Span, Mark, Limit, TooMany, Request, Ends, Profit, Short, Price, Ring, NoChannel}

abbrev pub number_of : Row → ℕ
number_of ByteCount = 1
number_of Network = 2
number_of Nodes = 3
number_of Channels = 4
number_of Span = 5
number_of Mark = 6
number_of Limit = 7
number_of TooMany = 8
number_of Request = 9
number_of Ends = 10
number_of Profit = 11
number_of Short = 12
number_of Price = 13
number_of Ring = 14
number_of NoChannel = 15

-- the row of a number
row_of : ℕ → Row
row_of n =
    cond (eqb n 1) ByteCount
    (cond (eqb n 2) Network
    (cond (eqb n 3) Nodes
    (cond (eqb n 4) Channels
    (cond (eqb n 5) Span
    (cond (eqb n 6) Mark
    (cond (eqb n 7) Limit
    (cond (eqb n 8) TooMany
    (cond (eqb n 9) Request
    (cond (eqb n 10) Ends
    (cond (eqb n 11) Profit
    (cond (eqb n 12) Short
    (cond (eqb n 13) Price
    (cond (eqb n 14) Ring NoChannel)))))))))))))

row_back : (row : Row) → row_of (number_of row) ≡ row
unfolding row_of
row_back ByteCount = refl
row_back Network = refl
row_back Nodes = refl
row_back Channels = refl
row_back Span = refl
row_back Mark = refl
row_back Limit = refl
row_back TooMany = refl
row_back Request = refl
row_back Ends = refl
row_back Profit = refl
row_back Short = refl
row_back Price = refl
row_back Ring = refl
row_back NoChannel = refl

pub same_row : (row other : Row) → number_of row ≡ number_of other → row ≡ other
same_row row other e = sym (row_back row) ∙ (ap row_of e ∙ row_back other)
