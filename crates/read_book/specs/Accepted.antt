-- What the reader's promise gives its callers: a refusal is the reading's, and so is an accepted book, whose limits and requests stand in the lists.
-- And it leaves nothing open: what the reading says fixes the answer and all that stands beside it. Assumes nothing.
use Rattle.std.specs.Prelude.{◌≡◌, refl, Result, Ok, Err, List, ℕ, ◌≤◌, ◌<◌, length, get_or, take}
use Rattle.std.proofs.Math.Path.{sym, ap}
use Rattle.std.proofs.Common.{ap₂, ◌∙◌, arith, get_or-take, length-take-le}
use Rattle.std.proofs.lemmas.List.{length-map}
use Rattle.std.proofs.Math.ListN.{get_or-map}
use Rattle.base_sums.specs.At.{at}
use Rattle.base_sums.specs.Vacant.{vacant_same}
use Rattle.paper_book.specs.Book as B
use Rattle.paper_book.specs.Book.{Book, spans, limit}
use Rattle.paper_book.specs.Reading.{done, refused, reading, refused_not_done}
use Rattle.read_record.specs.declared.Network.{Network}
use Rattle.read_record.specs.declared.Refusal.{Refusal}
use Rattle.read_record.specs.declared.Row.{Row}
use Rattle.read_record.specs.Numbers.{number_of, same_row}
use Rattle.read_record.specs.Shapes.{code_of, same_shape}
use Rattle.read_record.specs.declared.Request.{Request}
use Rattle.read_book.specs.declared.Taken.{Taken}
use Rattle.read_book.specs.Says.{Reads, Whole, plain, no_request, book_from, outcome_of}

module _ {f : List ℕ} {read : Result Taken Refusal} (reads : Reads f read) where
  pub refused_read : {refusal : Refusal} → read ≡ Err refusal → reading f ≡ refused (number_of refusal.row) refusal.place
  unfolding outcome_of
  refused_read e = sym (rw e at reads.says)

  pub accepted_read : {taken : Taken} → read ≡ Ok taken → reading f ≡ done (book_from taken.network taken.limits taken.count taken.requests)
  unfolding outcome_of
  accepted_read e = sym (rw e at reads.says)

-- ---- the book that the parts say

module _ (net : Network) (limits : List ℕ) (count : ℕ) (requests : List Request) where
  pub made_count : count ≤ length requests → count ≡ B.count (book_from net limits count requests)
  unfolding book_from B.count
  made_count l = simp (length-map, length-take-le)

  pub made_limit : (s : ℕ) → s < spans (book_from net limits count requests) → at limits s ≡ limit (book_from net limits count requests) s
  unfolding book_from spans limit
  made_limit s h = sym (get_or-take _ limits s 0 h)

  pub made_request : (i : ℕ) → i < count → plain (get_or requests i no_request) ≡ B.request (book_from net limits count requests) i
  unfolding book_from
  made_request i h = sym (get_or-map plain (take count requests) i _ ∙ ap plain (get_or-take count requests i _ h))

-- ---- what is taken is fixed

same_taken : {taken other : Taken} → taken.network ≡ other.network → taken.limits ≡ other.limits → taken.count ≡ other.count → taken.requests ≡ other.requests → taken ≡ other
same_taken {taken} {other} network limits count requests =
    let all : ◌≡◌ {A = Taken} (record { network = taken.network; limits = taken.limits; count = taken.count; requests = taken.requests }) other = rw (network, limits, count, requests) in
    all

module _ {f : List ℕ} {read read' : Result Taken Refusal} (p : Reads f read) (q : Reads f read') where
  -- two refusals: the reading has their number and place
  module _ (refusal refusal' : Refusal) (e : read ≡ Err refusal) (e' : read' ≡ Err refusal') where
    same_refusal : refusal ≡ refusal'
    same_refusal =
        let said = sym (refused_read p e) ∙ refused_read q e' in
        let number : number_of refusal.row ≡ number_of refusal'.row = cc in
        let place : refusal.place ≡ refusal'.place = cc in
        ap₂ (λ (row : Row) (place : ℕ). record { row = row; place = place }) (same_row _ _ number) place

  -- two accepted books: they are the reading's, request by request and limit by limit; the numbers are the requests' own, and nothing stands past either
  module _ (taken other : Taken) (e : read ≡ Ok taken) (e' : read' ≡ Ok other) where
    whole : Whole taken
    whole = p.whole taken e

    whole' : Whole other
    whole' = q.whole other e'

    same_book : book_from taken.network taken.limits taken.count taken.requests ≡ book_from other.network other.limits other.count other.requests
    same_book = cc (sym (accepted_read p e) ∙ accepted_read q e')

    same_net : taken.network ≡ other.network
    unfolding book_from
    same_net =
        let shape = same_shape taken.network.shape other.network.shape (ap (λ (b : Book). b.shape) same_book) in
        let nodes = ap (λ (b : Book). b.nodes) same_book in
        let channels = ap (λ (b : Book). b.channels) same_book in
        let all : ◌≡◌ {A = Network} (record { shape = taken.network.shape; nodes = taken.network.nodes; channels = taken.network.channels }) other.network = rw (shape, nodes, channels) in
        all

    same_count : taken.count ≡ other.count
    same_count =
        made_count taken.network _ _ _ (omega (arith, whole.counted, whole.no_more_requests.long))
        ∙ (ap B.count same_book ∙ sym (made_count other.network _ _ _ (omega (arith, whole'.counted, whole'.no_more_requests.long))))

    same_limits : taken.limits ≡ other.limits
    unfolding book_from spans
    same_limits = vacant_same whole.no_more_limits (rw same_net whole'.no_more_limits) below
      where
        below : (s : ℕ) → s < B.spans_of (code_of taken.network.shape) taken.network.nodes → at taken.limits s ≡ at other.limits s
        below s h =
            made_limit taken.network taken.limits taken.count taken.requests s h
            ∙ (ap (λ (b : Book). limit b s) same_book ∙ sym (made_limit other.network other.limits other.count other.requests s (rw same_net at h)))

    same_requests : taken.requests ≡ other.requests
    same_requests = vacant_same whole.no_more_requests (rw same_count whole'.no_more_requests) below
      where
        below : (i : ℕ) → i < taken.count → get_or taken.requests i no_request ≡ get_or other.requests i no_request
        below i h =
            let l : i < other.count = omega (arith, same_count) in
            ap₂ (λ (n : ℕ) (r : B.Request). record { number = n; a = r.a; b = r.b; profit = r.profit })
            (whole.numbered i h ∙ sym (whole'.numbered i l))
            (made_request taken.network _ _ _ i h ∙ (ap (λ (b : Book). B.request b i) same_book ∙ sym (made_request other.network _ _ _ i l)))

    accepted_once : taken ≡ other
    accepted_once = same_taken same_net same_limits same_count same_requests

  pub taken_once : read ≡ read'
  taken_once = go read read' refl refl
    where
      go : (r r' : Result Taken Refusal) → read ≡ r → read' ≡ r' → read ≡ read'
      go (Ok taken) (Ok other) e e' = e ∙ (ap Ok (accepted_once taken other e e') ∙ sym e')
      go (Ok taken) (Err refusal') e e' = absurd (refused_not_done (sym (refused_read q e') ∙ accepted_read p e))
      go (Err refusal) (Ok other) e e' = absurd (refused_not_done (sym (refused_read p e) ∙ accepted_read q e'))
      go (Err refusal) (Err refusal') e e' = e ∙ (ap Err (same_refusal refusal refusal' e e') ∙ sym e')
