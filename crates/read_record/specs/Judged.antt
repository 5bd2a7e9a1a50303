-- The tests of one record, from its fields and from what they must agree with: a line for each clause of its rows in document 01's table, lowest
-- row first. Assumes nothing.
use Rattle.std.specs.Prelude.{◌≡◌, Result, Ok, Err, Bool, true, false, not, List, [], ◌∷◌, ℕ, ◌<◌, ◌≤◌, ltb, eqb}
use Rattle.std.proofs.Common.{ap, inl, inr, ⊎_elim, arith, lt-ltb, le-ltb, eq-eqb, ne_eqb}
use Rattle.base_sums.specs.Each.{same_or_not, not_above}
use Rattle.paper_book.specs.Refusals.{known, fewest, count_wrong}
use Rattle.paper_book.specs.Means.{not_so}
use Rattle.paper_book.specs.InWords.{CountWrong, count_wrong_lem}
use Rattle.read_record.specs.declared.Network.{Network}
use Rattle.read_record.specs.declared.shape.Shape.{Shape}
use Rattle.read_record.specs.declared.Span.{Span}
use Rattle.read_record.specs.declared.Request.{Request}
use Rattle.read_record.specs.declared.Row.{Row}
use Rattle.read_record.specs.declared.Row.TheVariants as row
use Rattle.read_record.specs.Shapes.{shape_of}
use Rattle.read_record.specs.Tests.{Test, ◌⇒◌, judged, found, passed, none}

-- a right byte count is that of one record or more
pub one_record : (bytes : ℕ) → count_wrong bytes ≡ false → 16 ≤ bytes
one_record bytes e = not_above (λ h. right (few h))
  where
    right : CountWrong bytes → ⊥
    right = (not_so count_wrong_lem).0 e

    few : bytes < 16 → CountWrong bytes
    few h = ⊎_elim (λ z. inl z) (λ n. inr (inl (λ m. n (omega arith)))) (same_or_not bytes 0)

-- the network, whose byte count was right
abbrev pub network_tests : (kind shape nodes channels : ℕ) → Bool → List Test
network_tests kind shape nodes channels rest =
    (not (eqb kind 1) ⇒ row.Network)
    ∷ (not (known shape) ⇒ row.Network)
    ∷ (not rest ⇒ row.Network)
    ∷ (ltb nodes (fewest shape) ⇒ row.Nodes)
    ∷ (ltb 64 nodes ⇒ row.Nodes)
    ∷ (eqb channels 0 ⇒ row.Channels)
    ∷ (ltb 96 channels ⇒ row.Channels)
    ∷ []

-- the network with these fields, or the row that they break
abbrev pub NetworkJudged : (kind shape nodes channels : ℕ) → Bool → Result Network Row → Type 0
NetworkJudged kind shape nodes channels rest (Ok network) =
    (judged (network_tests kind shape nodes channels rest) ≡ Ok tt) × (network ≡ record { shape = shape_of shape; nodes = nodes; channels = channels })
NetworkJudged kind shape nodes channels rest (Err row) = judged (network_tests kind shape nodes channels rest) ≡ Err row

-- the span numbered `due` of a network of so many channels
abbrev pub span_tests : (due channels kind mark : ℕ) → Span → Bool → List Test
span_tests due channels kind mark span rest =
    (not (eqb kind 2) ⇒ row.Span)
    ∷ (not (eqb span.number due) ⇒ row.Span)
    ∷ (not rest ⇒ row.Span)
    ∷ (not (eqb mark 1) ⇒ row.Mark)
    ∷ (ltb channels span.limit ⇒ row.Limit)
    ∷ []

-- the request numbered `due` of a network of so many nodes
abbrev pub request_tests : (due nodes kind mark : ℕ) → Request → Bool → List Test
request_tests due nodes kind mark q rest =
    (ltb 255 due ⇒ row.TooMany)
    ∷ (not (eqb kind 3) ⇒ row.Request)
    ∷ (not (eqb mark 0) ⇒ row.Request)
    ∷ (not (eqb q.number due) ⇒ row.Request)
    ∷ (not rest ⇒ row.Request)
    ∷ (not (ltb q.a nodes) ⇒ row.Ends)
    ∷ (not (ltb q.b nodes) ⇒ row.Ends)
    ∷ (eqb q.a q.b ⇒ row.Ends)
    ∷ (eqb q.profit 0 ⇒ row.Profit)
    ∷ (ltb 1000000 q.profit ⇒ row.Profit)
    ∷ []

-- ---- from what the code's tests say to the flags above: what `search` is handed where a judge returns

pub flag_same : (a b : ℕ) → a ≡ b → not (eqb a b) ≡ false
flag_same a b h = rw (eq-eqb a b h)

pub flag_other : (a b : ℕ) → (a ≡ b → ⊥) → not (eqb a b) ≡ true
flag_other a b h = rw (ne_eqb a b h)

pub flag_less : (a b : ℕ) → a < b → not (ltb a b) ≡ false
flag_less a b h = rw (lt-ltb a b h)

pub flag_no_less : (a b : ℕ) → b ≤ a → not (ltb a b) ≡ true
flag_no_less a b h = rw (le-ltb a b h)

-- the same of what a callee answered
pub of_fewest : (shape n m : ℕ) (t : Bool) → m ≡ fewest shape → ltb n m ≡ t → ltb n (fewest shape) ≡ t
of_fewest shape n m t e h = rw (← e) h

-- networks of one shape and the same numbers are the same
pub network_is : {shape other : Shape} {nodes channels : ℕ} → shape ≡ other → ◌≡◌ {A = Network} (record { shape = shape; nodes = nodes; channels = channels }) (record { shape = other; nodes = nodes; channels = channels })
network_is {nodes} {channels} e = ap (λ s. record { shape = s; nodes = nodes; channels = channels }) e

pub ruleset tests = (found, passed, none, flag_same, flag_other, flag_less, flag_no_less, lt-ltb, le-ltb, eq-eqb, ne_eqb, of_fewest)
