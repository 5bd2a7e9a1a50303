-- The two ends of a search from b for a. Either a is the nearest open node, nearer than `most`: then it is ranked last, and the arcs back to b
-- are tight once every node is deepened to a's label. Or no open node is nearer than `most`. Assumes nothing.
use Rattle.std.specs.Prelude.{◌≡◌, ℕ, ◌≤◌, ◌<◌}
use Rattle.std.proofs.Common.{ap, ⊎_elim, arith}
use Rattle.base_sums.specs.Each.{same_or_not}
use Rattle.law_flow.specs.Balanced.{Proper, Deep}
use Rattle.law_flow.specs.Searching.{Ground, DeepAt, Searching}
use Rattle.law_flow.specs.Walking.{Trail}
use Rattle.law_flow.specs.Raise.{raised, raised_deep, raised_open}

-- a was reached: what the walk back needs
pub record Reached (g : Ground) (a b most : ℕ) (d rank by from : ℕ → ℕ) : Type 0 where
  pub root : d b ≡ 0
  pub shorter : d a < most
  pub deep : Deep g.row g.t g.x g.s (raised (d a) g.N d)
  pub trail : Trail g.row g.t g.x g.s (raised (d a) g.N d) b rank by from a

-- a was not reached within `most`
pub record Unreached (g : Ground) (a b most : ℕ) (d : ℕ → ℕ) : Type 0 where
  pub root : d b ≡ 0
  pub far : most ≤ d a
  pub deep : Deep g.row g.t g.x g.s (raised most g.N d)

module _ {g : Ground} {a b most clock : ℕ} {d rank by from : ℕ → ℕ}
    (deep : DeepAt g) (proper : Proper g.row g.t) (searching : Searching g b most d rank by from clock) (node : a ≤ g.row.cells) (still : rank a ≡ 0)
  where
    pub unreached : ((w : ℕ) → w ≤ g.row.cells → rank w ≡ 0 → most ≤ d w) → Unreached g a b most d
    unreached stop = record { root = searching.labels.root; far = stop a node still; deep = raised_deep deep proper searching stop }

    -- a is ranked last; the others keep their ranks
    pub reached : {rank' : ℕ → ℕ} → d a < most → ((w : ℕ) → w ≤ g.row.cells → rank w ≡ 0 → d a ≤ d w) → rank' a ≡ clock → ((w : ℕ) → w ≤ g.row.cells → (w ≡ a → ⊥) → rank' w ≡ rank w) → Reached g a b most d rank' by from
    reached {rank'} shorter nearest last others =
        record {
          root = searching.labels.root;
          shorter = shorter;
          deep = raised_deep deep proper searching nearest;
          trail = record {
            ranked = omega (arith, searching.labels.ticks);
            step = λ w l r h n. record {
              arc = raised_open deep searching l (near w l r).0 n (near w l r).1;
              from_in = searching.labels.from_in w l (near w l r).0 n;
              from_ranked = omega (arith, earlier w l r n);
              falls = omega (arith, earlier w l r n);
            };
          };
        }
      where
        -- a ranked node is nearer than `most` and no farther than a
        near : (w : ℕ) → w ≤ g.row.cells → 0 < rank' w → (d w < most) × (d w ≤ d a)
        near w l r = ⊎_elim (λ (q : w ≡ a). (omega (arith, ap d q), omega (arith, ap d q))) (λ n. let p : 0 < rank w = omega (arith, others w l n) in (searching.labels.below w l p, searching.labels.near w a l node p still)) (same_or_not w a)

        -- the node before it on the way was ranked before it, and is not a
        earlier : (w : ℕ) → w ≤ g.row.cells → 0 < rank' w → (w ≡ b → ⊥) → (0 < rank' (from w)) × (rank' (from w) < rank' w)
        earlier w l r n =
            let settled : 0 < rank (from w) = searching.labels.from_settled w l (near w l r).0 n in
            let inside : from w ≤ g.row.cells = searching.labels.from_in w l (near w l r).0 n in
            let kept : rank' (from w) ≡ rank (from w) = others (from w) inside (λ (q : from w ≡ a). omega (arith, ap rank q)) in
            ⊎_elim
            (λ (q : w ≡ a). (omega arith, omega (arith, ap rank' q, searching.labels.ranks (from w) inside)))
            (λ m. let same : rank' w ≡ rank w = others w l m in (omega arith, omega (arith, searching.labels.from_earlier w l n (omega arith))))
            (same_or_not w a)
