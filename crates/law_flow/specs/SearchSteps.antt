-- Each step of the search keeps what `Searching` says. A settled node is as near as any that is not, and no arc is shorter than 0, so a
-- label lowered from the node that spreads belongs to no settled node, and what the settled ones rest on stays. Assumes nothing.
use Rattle.std.specs.Prelude.{true, false, ◌≡◌, refl, ℕ, zero, suc, ◌+◌, ◌≤◌, ◌<◌}
use Rattle.std.proofs.Common.{⊎_elim, sym, ap, subst, arith}
use Rattle.base_sums.specs.Each.{less_or_not, same_or_not}
use Rattle.law_row.specs.Meets.{first_in}
use Rattle.law_flow.specs.Balanced.{Proper}
use Rattle.law_flow.specs.Searching.{Ground, DeepAt, Came, up, down, along, back, CellHolds, AlongHolds, BackHolds, Spread, Labels, Searching, Spreading}

-- what holds at v and wherever else, holds
split : {P : ℕ → Type 0} (v : ℕ) → P v → ((w : ℕ) → (w ≡ v → ⊥) → P w) → (w : ℕ) → P w
split {P} v here there w = ⊎_elim (λ q. subst P (sym q) here) (there w) (same_or_not w v)

-- ---- the search starts

pub search_start : {g : Ground} {b most : ℕ} {d rank by from : ℕ → ℕ} → d b ≡ 0 →
    ((v : ℕ) → v ≤ g.row.cells → (v ≡ b → ⊥) → d v ≡ most) → ((v : ℕ) → v ≤ g.row.cells → rank v ≡ 0) → Searching g b most d rank by from 1
search_start {g} {b} {rank = rank} root far none = record {
  labels = record {
    root = root;
    upto = split b (λ i. omega arith) (λ v n i. omega (arith, far v i n));
    ticks = omega arith;
    ranks = λ v i. omega (arith, none v i);
    below = λ v i p. absurd (unranked v i p);
    near = λ u w i j p z. absurd (unranked u i p);
    came = λ v i h n. absurd (omega (arith, far v i n));
    from_in = λ v i h n. absurd (omega (arith, far v i n));
    from_settled = λ v i h n. absurd (omega (arith, far v i n));
    from_earlier = λ v i n p. absurd (unranked v i p);
  };
  spread = λ u i p. absurd (unranked u i p);
}
  where
    unranked : (v : ℕ) → v ≤ g.row.cells → 0 < rank v → ⊥
    unranked v i p = omega (arith, none v i)

-- ---- a node is settled

pub settle : {g : Ground} {b most : ℕ} {d rank rank' by from : ℕ → ℕ} {clock u : ℕ} → Searching g b most d rank by from clock →
    u ≤ g.row.cells → rank u ≡ 0 → d u < most → ((w : ℕ) → w ≤ g.row.cells → rank w ≡ 0 → d u ≤ d w) →
    rank' u ≡ clock → ((w : ℕ) → w ≤ g.row.cells → (w ≡ u → ⊥) → rank' w ≡ rank w) → Spreading g b most d rank' by from (suc clock) u (λ d'. Unit {0})
settle {g} {b} {most} {d} {rank} {rank'} {by} {from} {clock} {u} s inside fresh less nearest now same = record {
  labels = record {
    root = l.root;
    upto = l.upto;
    ticks = omega arith;
    ranks = split u (λ i. omega arith) (λ w n i. omega (arith, same w i n, l.ranks w i));
    below = split u (λ i p. less) (λ w n i p. l.below w i (was w i n p));
    near = split u (λ w i j p z. nearest w j (open_before w j z)) (λ a n w i j p z. l.near a w i j (was a i n p) (open_before w j z));
    came = l.came;
    from_in = l.from_in;
    from_settled = λ v i h n. omega (arith, kept v i h n, l.from_settled v i h n);
    from_earlier =
        split u (λ i n p. omega (arith, kept u i less n, l.ranks (from u) (l.from_in u i less n)))
        (λ v m i n p. omega (arith, kept v i (l.below v i (was v i m p)) n, l.from_earlier v i n (was v i m p), same v i m));
  };
  node = inside;
  settled = omega (arith, l.ticks);
  last = split u (λ i p. omega arith) (λ w n i p. l.near w u i inside (was w i n p) fresh);
  others = λ w i p n. s.spread w i (was w i n p);
  part = tt;
}
  where
    l : Labels g b most d rank by from clock
    l = s.labels

    was : (w : ℕ) → w ≤ g.row.cells → (w ≡ u → ⊥) → 0 < rank' w → 0 < rank w
    was w i n p = omega (arith, same w i n)

    open_before : (w : ℕ) → w ≤ g.row.cells → rank' w ≡ 0 → rank w ≡ 0
    open_before = split u (λ i z. fresh) (λ w n i z. omega (arith, same w i n))

    -- a label came from a node settled before, so not from u
    kept : (v : ℕ) → v ≤ g.row.cells → d v < most → (v ≡ b → ⊥) → rank' (from v) ≡ rank (from v)
    kept v i h n = same (from v) (l.from_in v i h n) (λ q. omega (arith, ap rank q, l.from_settled v i h n))

-- ---- labels fall

-- no arc is shorter than 0
pub length_nonneg : {g : Ground} {d : ℕ → ℕ} {e u v : ℕ} → DeepAt g → Came g d e u v → d u ≤ d v
length_nonneg {g} {d} {e} {u} {v} deep (up _ q l is) = omega (arith, deep.rises u (omega arith), ap g.N q)
length_nonneg {g} {d} {e} {u} {v} deep (down _ q l room is) = omega (arith, deep.level v l room, ap g.N q)
length_nonneg {g} {d} {e} {u} {v} deep (along l out p q is) = omega (arith, deep.dropped e l out, ap g.N p, ap g.N q)
length_nonneg {g} {d} {e} {u} {v} deep (back l kept p q is) = omega (arith, deep.paid e l kept, ap g.N p, ap g.N q)

-- no arc ends where it starts
two_nodes : {g : Ground} {d : ℕ → ℕ} {e u v : ℕ} → Proper g.row g.t → Came g d e u v → u ≡ v → ⊥
two_nodes proper (up _ q l is) same = omega arith
two_nodes proper (down _ q l room is) same = omega arith
two_nodes {e = e} proper (along l out p q is) same = omega (arith, proper.some_cell e l)
two_nodes {e = e} proper (back l kept p q is) same = omega (arith, proper.some_cell e l)

-- where both ends keep their labels, so does the arc
came_keeps : {g : Ground} {d d' : ℕ → ℕ} {e u v : ℕ} → d' u ≡ d u → d' v ≡ d v → Came g d e u v → Came g d' e u v
came_keeps du dv (up p q l is) = up p q l (omega arith)
came_keeps du dv (down p q l room is) = down p q l room (omega arith)
came_keeps du dv (along l out p q is) = along l out p q (omega arith)
came_keeps du dv (back l kept p q is) = back l kept p q (omega arith)

pub spread_falls : {g : Ground} {d d' : ℕ → ℕ} {u lit dim : ℕ} → Proper g.row g.t → ((w : ℕ) → w ≤ g.row.cells → d' w ≤ d w) → d' u ≡ d u →
    Spread g d u lit dim → Spread g d' u lit dim
spread_falls {g} {u = u} proper falls same s = record {
  up = λ l. omega (arith, s.up l, falls (suc u) l);
  down = λ v q l room. omega (arith, s.down v q l room, falls v (omega arith));
  along = λ i m l out q. omega (arith, s.along i m l out q, falls (g.row.hi i) (proper.in_row i l));
  back = λ i m l kept q. omega (arith, s.back i m l kept q, falls (g.row.lo i) (first_in proper i l));
}

-- where one label is lowered and the others stay, none rises
pub lowered : {cells v : ℕ} {d d' : ℕ → ℕ} → d' v < d v → ((w : ℕ) → w ≤ cells → (w ≡ v → ⊥) → d' w ≡ d w) → (w : ℕ) → w ≤ cells → d' w ≤ d w
lowered {v = v} less same = split v (λ i. omega arith) (λ w n i. omega (arith, same w i n))

-- back along the ways of the labels from a settled node, ranks fall until b: so b is a node of the row
root_in : {g : Ground} {b most : ℕ} {d rank by from : ℕ → ℕ} {clock : ℕ} → Labels g b most d rank by from clock → (n v : ℕ) → rank v ≤ n → v ≤ g.row.cells → 0 < rank v → b ≤ g.row.cells
root_in l zero v m i p = absurd (omega arith)
root_in {b = b} {from = from} l (suc n) v m i p =
    let h = l.below v i p in
    ⊎_elim (λ q. omega arith) (λ o. root_in l n (from v) (omega (arith, l.from_earlier v i o p)) (l.from_in v i h o) (l.from_settled v i h o)) (same_or_not v b)

-- the label of v is lowered by arc e from u, the node that spreads
pub relaxed : {g : Ground} {b most : ℕ} {d d' rank by by' from from' : ℕ → ℕ} {clock e u v : ℕ} {Part Part' : (ℕ → ℕ) → Type 0} → DeepAt g → Proper g.row g.t →
    Spreading g b most d rank by from clock u Part → Came g d' e u v → d' v < d v → ((w : ℕ) → w ≤ g.row.cells → (w ≡ v → ⊥) → d' w ≡ d w) →
    by' v ≡ e → from' v ≡ u → ((w : ℕ) → w ≤ g.row.cells → (w ≡ v → ⊥) → by' w ≡ by w) → ((w : ℕ) → w ≤ g.row.cells → (w ≡ v → ⊥) → from' w ≡ from w) →
    Part' d' → Spreading g b most d' rank by' from' clock u Part'
relaxed {g} {b} {most} {d} {d'} {rank} {by} {by'} {from} {from'} {clock} {e} {u} {v} deep proper s arc less same by-v from-v by-same from-same part = record {
  labels = record {
    root = omega (arith, same b (root_in l (rank u) u (omega arith) s.node s.settled) (λ q. omega (arith, l.root, ap d q)), l.root);
    upto = λ w i. omega (arith, lowered less same w i, l.upto w i);
    ticks = l.ticks;
    ranks = l.ranks;
    below = λ w i p. omega (arith, held w i p, l.below w i p);
    near = λ a w i j p z. omega (arith, held a i p, s.last a i p, near_u w j z);
    came = split v (λ i h n. rw (by-v, from-v) arc) (λ w m i h n. rw (by-same w i m, from-same w i m) (still w i m (was w i m h) n));
    from_in = split v (λ i h n. rw from-v s.node) (λ w m i h n. rw (from-same w i m) (l.from_in w i (was w i m h) n));
    from_settled = split v (λ i h n. rw from-v s.settled) (λ w m i h n. rw (from-same w i m) (l.from_settled w i (was w i m h) n));
    from_earlier = λ w i n p. rw (from-same w i (other w i p)) (l.from_earlier w i n p);
  };
  node = s.node;
  settled = s.settled;
  last = λ w i p. omega (arith, held w i p, u_same, s.last w i p);
  others = λ w i p n. spread_falls proper (lowered less same) (held w i p) (s.others w i p n);
  part = part;
}
  where
    l : Labels g b most d rank by from clock
    l = s.labels

    -- u keeps its label, and v is no nearer than u
    u_same : d' u ≡ d u
    u_same = same u s.node (two_nodes proper arc)

    farther : d u ≤ d' v
    farther = omega (arith, length_nonneg deep arc, u_same)

    -- so v is not settled, and what is settled keeps its label
    other : (w : ℕ) → w ≤ g.row.cells → 0 < rank w → w ≡ v → ⊥
    other w i p q = omega (arith, s.last w i p, ap d q, farther)

    held : (w : ℕ) → w ≤ g.row.cells → 0 < rank w → d' w ≡ d w
    held w i p = same w i (other w i p)

    was : (w : ℕ) → w ≤ g.row.cells → (w ≡ v → ⊥) → d' w < most → d w < most
    was w i n h = omega (arith, same w i n)

    -- another label came from a settled node
    still : (w : ℕ) → w ≤ g.row.cells → (w ≡ v → ⊥) → d w < most → (w ≡ b → ⊥) → Came g d' (by w) (from w) w
    still w i m h n = came_keeps (held (from w) (l.from_in w i h n) (l.from_settled w i h n)) (same w i m) (l.came w i h n)

    near_u : (w : ℕ) → w ≤ g.row.cells → rank w ≡ 0 → d u ≤ d' w
    near_u = split v (λ i z. farther) (λ w n i z. omega (arith, same w i n, l.near u w s.node i s.settled z))

-- no label changes: u has got further
pub passed : {g : Ground} {b most : ℕ} {d rank by from : ℕ → ℕ} {clock u : ℕ} {Part Part' : (ℕ → ℕ) → Type 0} →
    Spreading g b most d rank by from clock u Part → Part' d → Spreading g b most d rank by from clock u Part'
passed s part = record { labels = s.labels; node = s.node; settled = s.settled; last = s.last; others = s.others; part = part }

pub spread_done : {g : Ground} {b most : ℕ} {d rank by from : ℕ → ℕ} {clock u : ℕ} →
    Spreading g b most d rank by from clock u (λ d'. Spread g d' u 0 0) → Searching g b most d rank by from clock
spread_done {u = u} s = record { labels = s.labels; spread = split u (λ i p. s.part) (λ w n i p. s.others w i p n) }

-- ---- one arc out of u

-- an arc of length len, where the label of u is a: a label of a + len at its end came along it
module _ {g : Ground} {d : ℕ → ℕ} {u v a : ℕ} (len : ℕ) where
  pub up_arc : v ≡ suc u → v ≤ g.row.cells → len + g.N u ≡ g.N v → d u ≡ a → d v ≡ a + len → Came g d 256 u v
  up_arc q l long at far = up refl q l (omega arith)

  pub down_arc : u ≡ suc v → v < g.row.cells → 0 < g.s v → len + g.N u ≡ g.N v → d u ≡ a → d v ≡ a + len → Came g d 257 u v
  down_arc q l room long at far = down refl q l room (omega arith)

  pub along_arc : {e : ℕ} → e < g.t → g.x e ≡ false → u ≡ g.row.lo e → v ≡ g.row.hi e → len + (g.N u + g.row.profit e) ≡ g.N v →
      d u ≡ a → d v ≡ a + len → Came g d e u v
  along_arc l out p q long at far = along l out p q (omega arith)

  pub back_arc : {e : ℕ} → e < g.t → g.x e ≡ true → u ≡ g.row.hi e → v ≡ g.row.lo e → len + g.N u ≡ g.N v + g.row.profit e →
      d u ≡ a → d v ≡ a + len → Came g d e u v
  back_arc l kept p q long at far = back l kept p q (omega arith)

-- an arc of length len to a label of at most that of u and len needs nothing
module _ (g : Ground) (d : ℕ → ℕ) (u len : ℕ) where
  pub cell_idle : (v : ℕ) → len + g.N u ≡ g.N v → d v ≤ d u + len → CellHolds g d u v
  cell_idle v long near = omega arith

-- ---- how far u has got: up, down, then the candidates from the last one on

-- up is done
pub record Risen (g : Ground) (d : ℕ → ℕ) (u : ℕ) : Type 0 where
  pub up : u < g.row.cells → CellHolds g d u (suc u)

pub risen : {g : Ground} {d : ℕ → ℕ} {u v : ℕ} → v ≡ suc u → (v ≤ g.row.cells → CellHolds g d u v) → Risen g d u
risen q holds = record { up = rw q at holds }

-- what is done stays done where u lowers the label of v by arc e
module _ {g : Ground} {d d' : ℕ → ℕ} {e u v : ℕ} (proper : Proper g.row g.t) (inside : u ≤ g.row.cells) (arc : Came g d' e u v) (less : d' v < d v)
    (same : (w : ℕ) → w ≤ g.row.cells → (w ≡ v → ⊥) → d' w ≡ d w) where
  u_keeps : d' u ≡ d u
  u_keeps = same u inside (two_nodes proper arc)

  pub risen_relaxed : Risen g d u → Risen g d' u
  risen_relaxed r = record { up = λ l. omega (arith, r.up l, lowered less same (suc u) l, u_keeps) }

  pub spread_relaxed : {lit dim : ℕ} → Spread g d u lit dim → Spread g d' u lit dim
  spread_relaxed s = spread_falls proper (lowered less same) u_keeps s

-- down is done too, and no candidate yet: from the first node there is no way down
pub bottom_done : {g : Ground} {d : ℕ → ℕ} → Risen g d 0 → Spread g d 0 g.t g.t
bottom_done r = record { up = r.up; down = λ v q. absurd (omega arith); along = λ i m l. absurd (omega arith); back = λ i m l. absurd (omega arith) }

pub cells_done : {g : Ground} {d : ℕ → ℕ} {u v : ℕ} → Risen g d u → u ≡ suc v → (0 < g.s v → CellHolds g d u v) → Spread g d u g.t g.t
cells_done {g} {d} {u} {v} r q holds = record { up = r.up; down = falls; along = λ i m l. absurd (omega arith); back = λ i m l. absurd (omega arith) }
  where
    falls : (w : ℕ) → suc w ≡ u → w < g.row.cells → 0 < g.s w → CellHolds g d u w
    falls w p l = let e : w ≡ v = omega arith in rw e holds

-- where the candidates before lit that start at u are done, those from lit' on are
along_from : {g : Ground} {d : ℕ → ℕ} {u lit lit' dim : ℕ} → Spread g d u lit dim →
    ((i : ℕ) → lit' ≤ i → i < lit → i < g.t → g.x i ≡ false → g.row.lo i ≡ u → AlongHolds g d u i) → Spread g d u lit' dim
along_from {lit = lit} s more = record { up = s.up; down = s.down; along = λ i m. ⊎_elim (more i m) (s.along i) (less_or_not i lit); back = s.back }

back_from : {g : Ground} {d : ℕ → ℕ} {u lit dim dim' : ℕ} → Spread g d u lit dim →
    ((i : ℕ) → dim' ≤ i → i < dim → i < g.t → g.x i ≡ true → g.row.hi i ≡ u → BackHolds g d u i) → Spread g d u lit dim'
back_from {dim = dim} s more = record { up = s.up; down = s.down; along = s.along; back = λ i m. ⊎_elim (more i m) (s.back i) (less_or_not i dim) }

-- one candidate
pub chain_step_along : {g : Ground} {d : ℕ → ℕ} {u i dim : ℕ} → Spread g d u (suc i) dim → (i < g.t → g.x i ≡ false → g.row.lo i ≡ u → AlongHolds g d u i) →
    Spread g d u i dim
chain_step_along {i = i} s holds = along_from s (λ j m l. let e : j ≡ i = omega arith in rw e holds)

pub chain_step_back : {g : Ground} {d : ℕ → ℕ} {u lit i : ℕ} → Spread g d u lit (suc i) → (i < g.t → g.x i ≡ true → g.row.hi i ≡ u → BackHolds g d u i) →
    Spread g d u lit i
chain_step_back {i = i} s holds = back_from s (λ j m l. let e : j ≡ i = omega arith in rw e holds)

-- over a gap in which no dropped candidate starts, or no kept one ends, at u
pub chain_skip_along : {g : Ground} {d : ℕ → ℕ} {u lit lit' dim : ℕ} → Spread g d u lit dim →
    ((i : ℕ) → lit' ≤ i → i < lit → i < g.t → g.x i ≡ false → g.row.lo i ≡ u → ⊥) → Spread g d u lit' dim
chain_skip_along s none = along_from s (λ i m l n out q. absurd (none i m l n out q))

pub chain_skip_back : {g : Ground} {d : ℕ → ℕ} {u lit dim dim' : ℕ} → Spread g d u lit dim →
    ((i : ℕ) → dim' ≤ i → i < dim → i < g.t → g.x i ≡ true → g.row.hi i ≡ u → ⊥) → Spread g d u lit dim'
chain_skip_back s none = back_from s (λ i m l n kept q. absurd (none i m l n kept q))
