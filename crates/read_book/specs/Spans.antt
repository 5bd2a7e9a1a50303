-- The span records in turn: span s stands in record 1 + s, and the list takes its limit. Assumes nothing.
use Rattle.std.specs.Prelude.{◌≡◌, Result, Ok, List, ℕ, ◌+◌, ◌-◌, ◌<◌, set}
use Rattle.std.proofs.Common.{sym, ap, ◌∙◌, arith}
use Rattle.paper_book.specs.Refusals.{limit_in}
use Rattle.read_record.specs.declared.Refusal.{Refusal}
use Rattle.read_record.specs.declared.Span.{Span}
use Rattle.read_record.specs.declared.Record.{Record}
use Rattle.read_record.specs.declared.Record.TheVariants as kind
use Rattle.read_record.specs.Records.{span_in, tests_of_span, span_record_at, answer_got}
use Rattle.read_record.specs.Tests.{judged}
use Rattle.read_book.specs.Series.{Series, SoFar, InList, is_got, so_far_more}

abbrev pub span_series : List ℕ → ℕ → Series ℕ
span_series f channels =
    record { says = λ s. span_record_at f (1 + s) channels; room = 64; empty = 0; wants = λ s. limit_in f (1 + s) }

abbrev pub SpansRead : List ℕ → (channels spans : ℕ) → Result (List ℕ) Refusal → Type 0
SpansRead f channels spans read = InList (span_series f channels) spans read

-- the span due at record r is span r − 1
pub span_due_lem : (f : List ℕ) (channels r : ℕ) → 0 < r → span_record_at f r channels ≡ (span_series f channels).says (r - 1)
span_due_lem f channels r h = let span : r ≡ 1 + (r - 1) = omega arith in ap (λ (n : ℕ). span_record_at f n channels) span

-- what is got where a span is due is that span
module _ (f : List ℕ) (channels s : ℕ) (reading : Result Record Refusal) (got : Record) (is : reading ≡ span_record_at f (1 + s) channels) (e : reading ≡ Ok got) where
  pub got_span : got ≡ kind.Span (span_in f (1 + s))
  unfolding span_record_at
  got_span = (answer_got (judged (tests_of_span f (1 + s) channels)) (1 + s) _ got (sym is ∙ e)).1

  pub span_more :
      (limits : List ℕ) (span : Span)
      → SoFar (span_series f channels) limits s
      → s < 64
      → got ≡ kind.Span span
      → SoFar (span_series f channels) (set limits s span.limit) (s + 1)
  span_more limits span p l k =
      so_far_more (span_series f channels) limits s span.limit p l (ap is_got (sym is ∙ e)) limit_is
    where
      limit_is : span.limit ≡ limit_in f (1 + s)
      limit_is = cc (got_span)
