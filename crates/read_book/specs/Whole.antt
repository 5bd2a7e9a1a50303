-- The book as it was read is the one that the file says: the lists hold what the records say, entry by entry. With the ways out of reading this
-- gives the reader's promise. Assumes nothing.
use Rattle.std.proofs.Math.Path.{◌≡◌, sym, ap, subst}
use Rattle.std.proofs.Common.{ap₂, ◌∙◌, arith, get_or-take, ext_get_or, length-take-le}
use mathlib.Core.List.{List, map, map-id}
use Rattle.std.specs.Prelude.{Result, Ok, Err, ℕ, ◌+◌, ◌-◌, ◌*◌, ◌≤◌, ◌<◌, length, get_or, take, drop}
use Rattle.std.proofs.lemmas.List.{length-map}
use Rattle.std.proofs.Math.ListN.{get_or-map}
use Rattle.base_sums.specs.Table.{table, length_table, table_at}
use Rattle.paper_book.specs.Book as B
use Rattle.paper_book.specs.Refusals.{start, records, shape_in, nodes_in, channels_in, spans_in, limit_in}
use Rattle.paper_book.specs.Reading.{done, refused, request_of, book_of, reading}
use Rattle.read_record.specs.declared.Network.{Network}
use Rattle.read_record.specs.declared.Refusal.{Refusal}
use Rattle.read_record.specs.Numbers.{number_of}
use Rattle.read_record.specs.declared.Request.{Request}
use Rattle.read_record.specs.declared.Record.{Record}
use Rattle.read_record.specs.declared.Record.TheVariants as kind
use Rattle.read_record.specs.Shapes.{code_of, shape_of}
use Rattle.read_record.specs.Parts.{a_part, b_part, profit_part, records_part, part_is}
use Rattle.read_record.specs.Records.{network_in, network_record_at}
use Rattle.read_book.specs.declared.Taken.{Taken}
use Rattle.read_book.specs.declared.requests.Orders.{Orders}
use Rattle.read_book.specs.Says.{Reads, Whole, no_request, plain, book_from, outcome_of}
use Rattle.read_book.specs.Series.{AllMeant}
use Rattle.read_book.specs.Spans.{SpansRead, span_series}
use Rattle.read_book.specs.Orders.{OrdersRead, OrdersTaken, request_read, request_series}
use Rattle.read_book.specs.WaysOut.{Headed, headed, got_network, part_there, after_spans, spans_refused, requests_refused, all_clean}

-- ---- the lists

-- a list's first n entries, each known by what it means
made_table :
    {A B : Type 0} (means : A → B) (empty : A) (wants : ℕ → B) (l : List A) (n : ℕ)
    → n ≤ length l → ((i : ℕ) → i < n → means (get_or l i empty) ≡ wants i) → map means (take n l) ≡ table n wants
made_table means empty wants l n h p =
    ext_get_or (means empty) _ _ (long ∙ sym (length_table n wants)) (λ i k. each i (omega (arith, long)))
  where
    long : length (map means (take n l)) ≡ n
    long = length-map (take n l) means ∙ length-take-le n l h

    each : (i : ℕ) → i < n → get_or (map means (take n l)) i (means empty) ≡ get_or (table n wants) i (means empty)
    each i k =
        get_or-map means (take n l) i empty
        ∙ (ap means (get_or-take n l i empty k) ∙ (p i k ∙ sym (table_at n wants i (means empty) k)))

limits_are :
    (f limits : List ℕ)
    → spans_in f ≤ length limits
    → AllMeant (span_series f (channels_in f)) limits (spans_in f)
    → take (spans_in f) limits ≡ table (spans_in f) (λ s. limit_in f (1 + s))
limits_are f limits h p = sym (map-id (take (spans_in f) limits)) ∙ made_table (λ limit. limit) 0 (λ s. limit_in f (1 + s)) limits (spans_in f) h p.is

request_part : (f : List ℕ) (b i : ℕ) → plain (request_read (drop (start b) f) i) ≡ request_of f (b + i)
unfolding request_of
request_part f b i = rw (a_part f b i, b_part f b i, profit_part f b i)

requests_are :
    (f : List ℕ) (b n : ℕ) (requests : List Request)
    → n ≤ length requests
    → AllMeant (request_series (drop (start b) f) b (nodes_in f)) requests n
    → map plain (take n requests) ≡ table n (λ i. request_of f (b + i))
requests_are f b n requests h p =
    made_table plain no_request (λ i. request_of f (b + i)) requests n h (λ i k. ap plain (p.is i k) ∙ request_part f b i)

book_is :
    (f limits : List ℕ) (requests : List Request)
    → code_of (shape_of (shape_in f)) ≡ shape_in f
    → spans_in f ≤ length limits
    → AllMeant (span_series f (channels_in f)) limits (spans_in f)
    → records (after_spans f) ≤ length requests
    → AllMeant (request_series (after_spans f) (1 + spans_in f) (nodes_in f)) requests (records (after_spans f))
    → book_from (network_in f) limits (records (after_spans f)) requests ≡ book_of f
unfolding book_from book_of spans_in
book_is f limits requests shaped hl pl hr pr =
    rw shaped
    (ap₂ (λ (ls : List ℕ) (qs : List B.Request). record { shape = shape_in f; nodes = nodes_in f; channels = channels_in f; limits = ls; requests = qs })
    (limits_are f limits hl pl)
    (requests_are f (1 + spans_in f) (records (after_spans f)) requests hr pr ∙ ap (λ (n : ℕ). table n (λ i. request_of f (1 + spans_in f + i))) (records_part f (1 + spans_in f))))

-- ---- the ways out

-- a refusal
pub not_read : (f : List ℕ) (refusal : Refusal) → reading f ≡ refused (number_of refusal.row) refusal.place → Reads f (Err refusal)
unfolding outcome_of
not_read f refusal r = record { says = sym r; whole = λ taken e. absurd (no_book e) }
  where
    no_book : {taken : Taken} → ◌≡◌ {A = Result Taken Refusal} (Err refusal) (Ok taken) → ⊥
    no_book e = let z : ◌≡◌ {A = ℕ} 0 1 = cc in absurd (omega arith)

-- the network was got, and has n spans
pub record Begun (f : List ℕ) (network : Network) (n : ℕ) : Type 0 where
  pub head : Headed f
  pub is : network ≡ network_in f
  pub n_is : n ≡ spans_in f

pub begun :
    (f : List ℕ) (r : Result Record Refusal) (got : Record) (network : Network) (n : ℕ)
    → r ≡ network_record_at f → r ≡ Ok got → got ≡ kind.Network network → n ≡ B.spans_of (code_of network.shape) network.nodes → Begun f network n
unfolding spans_in
begun f r got network n at e k n-of = record { head = headed f got (sym at ∙ e); is = is; n_is = n-of ∙ (ap (λ (t : Network). B.spans_of (code_of t.shape) t.nodes) is ∙ ap (λ (s : ℕ). B.spans_of s (nodes_in f)) (headed f got (sym at ∙ e)).shaped) }
  where
    is : network ≡ network_in f
    is = cc (got_network f got (sym at ∙ e))

module _ (f : List ℕ) (network : Network) (n : ℕ) (so_far : Begun f network n) (limits : Result (List ℕ) Refusal) (read : SpansRead f network.channels n limits) where
  open so_far use {head, is, n_is}

  -- the spans, read for the network that the file has
  spans_read : SpansRead f (channels_in f) (spans_in f) limits
  spans_read = subst (λ (m : ℕ). SpansRead f (channels_in f) m limits) n_is (subst (λ (net : Network). SpansRead f net.channels n limits) is read)

  pub refused_in_spans : (refusal : Refusal) → limits ≡ Err refusal → reading f ≡ refused (number_of refusal.row) refusal.place
  refused_in_spans refusal e = spans_refused f head refusal (rw e at spans_read)

  module _ (list : List ℕ) (e : limits ≡ Ok list) where
    spans_got : SpansRead f (channels_in f) (spans_in f) (Ok list)
    spans_got = rw e at spans_read

    pub part_starts : 16 * (1 + n) ≤ length f
    unfolding start
    part_starts = omega (arith, part_there f head spans_got.got)

    module _ (orders : Result Orders Refusal) (o : OrdersRead (take (length f - 16 * (1 + n)) (drop (16 * (1 + n)) f)) (1 + n) network.nodes orders) where
      -- the requests, read in the part that follows the spans, for the network that the file has
      requests_read : OrdersRead (after_spans f) (1 + spans_in f) (nodes_in f) orders
      unfolding start
      requests_read =
          subst (λ (m : ℕ). OrdersRead (drop (start (1 + m)) f) (1 + m) (nodes_in f) orders) n_is
          (subst (λ (t : Network). OrdersRead (drop (start (1 + n)) f) (1 + n) t.nodes orders) is
          (subst (λ (p : List ℕ). OrdersRead p (1 + n) network.nodes orders) (part_is f (16 * (1 + n))) o))

      pub refused_in_requests : (refusal : Refusal) → orders ≡ Err refusal → reading f ≡ refused (number_of refusal.row) refusal.place
      refused_in_requests refusal r = requests_refused f head spans_got.got refusal (rw r at requests_read)

      pub book_read : (taken : Orders) → orders ≡ Ok taken → Reads f (Ok (record { network = network; limits = list; count = taken.count; requests = taken.requests }))
      unfolding outcome_of spans_in
      book_read taken a =
          record {
            says =
                rw (is, all)
                (ap done
                (book_is f list taken.requests head.shaped (omega (arith, head.most, spans_got.no_more.long)) spans_got.filled (omega (arith, all, got.within, got.in_list.no_more.long)) got.in_list.filled)
                ∙ sym (all_clean f head spans_got.got got.in_list.got));
            whole = λ made same. subst Whole (only same) whole;
          }
        where
          got : OrdersTaken (after_spans f) (1 + spans_in f) (nodes_in f) taken
          got = rw a at requests_read

          all : taken.count ≡ records (after_spans f)
          all = got.all

          whole : Whole (record { network = network; limits = list; count = taken.count; requests = taken.requests })
          whole = record {
            counted = got.within;
            numbered = λ i h. ap (λ (q : Request). q.number) (got.in_list.filled.is i (omega (arith, all)));
            no_more_requests = rw all got.in_list.no_more;
            no_more_limits = rw (is, head.shaped) spans_got.no_more;
          }

          only : {made : Taken} → ◌≡◌ {A = Result Taken Refusal} (Ok (record { network = network; limits = list; count = taken.count; requests = taken.requests })) (Ok made) → record { network = network; limits = list; count = taken.count; requests = taken.requests } ≡ made
          only same = cc
