-- Text put into a lent buffer at a place: the buffer up to the text's end is what it held before the place and then the text, and from there
-- on it is as it was. Texts put one after the other are one text put. Assumes nothing.
use Rattle.std.specs.Prelude.{List, [], ◌∷◌, ◌++◌, ◌≡◌, refl, ℕ, suc, ◌+◌, ◌≤◌, ◌<◌, length, take, drop, get_or, set}
use Rattle.std.proofs.Common.{append_assoc, append-nil, ◌∙◌, add-zero, add-one, arith, length-append, length-set, take_all, take-suc, take-suc-set, drop-set-lt, drop-drop}

pub record Put (before after : List ℕ) (at : ℕ) (text : List ℕ) (next : ℕ) : Type 0 where
  pub ends : next ≡ at + length text
  pub upto : take next after ≡ take at before ++ text
  pub beyond : drop next after ≡ drop next before
  pub as_long : length after ≡ length before

-- at the front of the buffer the text is the buffer's first bytes
pub put_front : {before after : List ℕ} {text : List ℕ} {next : ℕ} → Put before after 0 text next → take next after ≡ text
put_front p = p.upto

-- nothing put
pub put_none : (before : List ℕ) (at : ℕ) → Put before before at [] (at + 0)
put_none before at = record { ends = omega arith; upto = rw (add-zero, append-nil); beyond = refl; as_long = refl }

-- one byte
pub put_one : (before : List ℕ) (at b : ℕ) → at < length before → Put before (set before at b) at (b ∷ []) (at + 1)
put_one before at b h =
    record {
      ends = omega arith;
      upto = rw (add-one, take-suc-set before at b h);
      beyond = drop-set-lt (at + 1) before at b (omega arith);
      as_long = length-set before at b;
    }

-- one text after the other
pub put_on :
    {a b c : List ℕ} {at mid next : ℕ} {s t : List ℕ}
    → Put a b at s mid → Put b c mid t next → Put a c at (s ++ t) next
put_on {a} {b} {c} {at} {mid} {next} {s} {t} p q =
    record {
      ends = omega (arith, length-append s t);
      upto = q.upto ∙ rw (p.upto, append_assoc);
      beyond = q.beyond ∙ further;
      as_long = q.as_long ∙ p.as_long;
    }
  where
    further : drop next b ≡ drop next a
    further = let e : next ≡ mid + length t = q.ends in rw (e, ← drop-drop (length t) mid b, ← drop-drop (length t) mid a, p.beyond)

-- the same where the second text has two parts
pub put_both :
    {a b c : List ℕ} {at mid next : ℕ} {s : List ℕ} (t u : List ℕ)
    → Put a b at s mid → Put b c mid (t ++ u) next → Put a c at (s ++ t ++ u) next
put_both t u p q = rw append_assoc (put_on p q)

-- ---- a word, byte by byte

pub put_next :
    {before now : List ℕ} (at : ℕ) (word : List ℕ) (i : ℕ)
    → i < length word → at + i < length now → Put before now at (take i word) (at + i)
    → Put before (set now (at + i) (get_or word i 0)) at (take (i + 1) word) (at + (i + 1))
put_next {now} at word i h room p =
    let next : at + (i + 1) ≡ at + i + 1 = omega arith in
    let one : i + 1 ≡ suc i = add-one i in
    rw (next, one, take-suc word i 0 h) (put_on p (put_one now (at + i) (get_or word i 0) room))

pub put_whole :
    {before now : List ℕ} {at : ℕ} (word : List ℕ) (i : ℕ)
    → length word ≤ i → Put before now at (take i word) (at + i) → Put before now at word (at + i)
put_whole word i h p = rw (take_all i word h) at p
