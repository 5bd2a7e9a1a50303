-- `read_runs::accepted` meets its contract: the reader's answer is the reading's. Assumes nothing.
use Rattle.std.proofs.Common.{◌≡◌, refl, ap, ◌∙◌, Result, Ok, Err}
use Rattle.std.specs.Result.{is_ok}
use Rattle.read_record.specs.declared.Refusal.{Refusal}
use Rattle.read_book.specs.declared.Taken.{Taken}
use Rattle.read_book.specs.Says.{outcome_of}
use Rattle.read_runs.specs.Told.{is_done}
use Rattle.read_runs.proofs.accepted.Goals as goal

read_is_ok : (r : Result Taken Refusal) → is_ok r ≡ is_done (outcome_of r)
unfolding is_done outcome_of
read_is_ok (Ok taken) = refl
read_is_ok (Err refusal) = refl

pub returns : goal.returns
returns c = c.is_ok.ensures.value ∙ (read_is_ok c.read_book.result ∙ ap is_done c.read_book.ensures.says)
