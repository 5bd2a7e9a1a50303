-- What a C caller sees of two plans that the boundary's promise allows for one book. The price list of a ring is one list; on a line the prices may differ, and
-- the bytes after them do not; the earnings and the cut are one. Where the plans keep the same requests, the answers are the same number and the entry lists the same bytes. Assumes nothing.
use Rattle.std.specs.Prelude.{List, ◌≡◌, ℕ, ◌+◌, ◌-◌, ◌*◌, ◌^◌, ◌/◌, ◌%◌, ◌≤◌, ◌<◌}
use Rattle.std.proofs.Common.{⊎_elim, sym, ◌∙◌, arith, ext_get_or}
use Rattle.base_sums.specs.Each.{less_or_not}
use Rattle.paper_book.specs.Bytes.{byte}
use Rattle.paper_book.specs.Book.{Book, spans, count}
use Rattle.paper_book.specs.Sound.{Sound}
use Rattle.paper_rules.specs.Plans.{kept}
use Rattle.desk.specs.Promise.{Handed}
use Rattle.desk.specs.Unpacking.{handed_told}
use Rattle.demands.specs.Equal.{cut_equal, earned_equal, number_equal, entries_equal}

module _ {book : Book} {entries prices entries₁ prices₁ entries₂ prices₂ : List ℕ} {answer₁ answer₂ : ℕ}
    (p : Handed book answer₁ entries prices entries₁ prices₁) (q : Handed book answer₂ entries prices entries₂ prices₂)
  where
    -- the bytes after the entries keep what they held
    pub desk_later_equal : (t : ℕ) → 2 * count book ≤ t → byte entries₁ t ≡ byte entries₂ t
    desk_later_equal t l = p.written.later t l ∙ sym (q.written.later t l)

    -- so does the price list of a ring, and on a line what stands after the prices
    pub desk_ring_prices_equal : book.shape ≡ 2 → prices₁ ≡ prices₂
    desk_ring_prices_equal ring = p.ring_prices ring ∙ sym (q.ring_prices ring)

    pub desk_prices_later_equal : book.shape ≡ 1 → (t : ℕ) → 4 * spans book ≤ t → byte prices₁ t ≡ byte prices₂ t
    desk_prices_later_equal line t l = (p.line_prices line).later t l ∙ sym ((q.line_prices line).later t l)

    -- the earnings and the cut, as the caller reads them from the answer's bits
    pub desk_earned_equal : Sound book → answer₁ / 2 ^ 32 ≡ answer₂ / 2 ^ 32
    desk_earned_equal sound = (handed_told sound p).1 ∙ earned_equal sound p.planned q.planned ∙ sym (handed_told sound q).1

    pub desk_cut_equal : Sound book → answer₁ % 2 ^ 16 ≡ answer₂ % 2 ^ 16
    desk_cut_equal sound = (handed_told sound p).3 ∙ cut_equal sound p.planned q.planned ∙ sym (handed_told sound q).3

    -- where they keep the same requests
    module _ (sound : Sound book) (same : (i : ℕ) → i < count book → kept p.plan i ≡ kept q.plan i) where
      pub desk_answer_equal : answer₁ ≡ answer₂
      desk_answer_equal =
          let earned : p.earned ≡ q.earned = earned_equal sound p.planned q.planned in
          let number : p.number ≡ q.number = number_equal sound p.planned q.planned same in
          let cut : p.cut ≡ q.cut = cut_equal sound p.planned q.planned in
          p.says ∙ rw (earned, number, cut) (sym q.says)

      -- each byte of entry i, k before it and j after it
      pub desk_bytes_equal : (i k j : ℕ) → i < count book → k + 1 + j ≡ 2 → byte entries₁ (2 * i + k) ≡ byte entries₂ (2 * i + k)
      desk_bytes_equal i k j l two =
          let e : p.plan i ≡ q.plan i = entries_equal sound p.planned q.planned same i l in
          p.written.bytes i k j l two ∙ rw e (sym (q.written.bytes i k j l two))

      -- so the entry lists are one list
      pub desk_entry_lists_equal : entries₁ ≡ entries₂
      desk_entry_lists_equal =
          ext_get_or 0 entries₁ entries₂ (p.written.length_same ∙ sym q.written.length_same)
          (λ t l. ⊎_elim (λ b. at_byte t (t / 2) (t % 2) (omega arith) (omega arith) (omega arith)) (desk_later_equal t) (less_or_not t (2 * count book)))
        where
          at_byte : (t i k : ℕ) → i < count book → k < 2 → t ≡ 2 * i + k → byte entries₁ t ≡ byte entries₂ t
          at_byte t i k l small is = rw is (desk_bytes_equal i k (1 - k) l (omega arith))
