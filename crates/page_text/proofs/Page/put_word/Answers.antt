-- `page_text::Page::put_word` meets its contract: the part of the buffer that is written becomes the word, and what stands before and after it stays. Assumes nothing.
use native.Mathlib.Omega.{arith}
use lib.ListN.{length}
use Rattle.std.proofs.Common.{◌+◌, ◌-◌}
use Rattle.std.proofs.lemmas.Slice.{take-put_mid, drop-put_mid}
use borrow.Rule.Slice.PartMut.{same_len_mid}
use Rattle.page_text.proofs.Page.put_word.Goals as goal

pub returns-clause-put : goal.returns-clause-put
returns-clause-put c =
    let self = c.args.self.now in
    let k = self.at + length c.args.word.now - self.at in
    let written = c.copy_from_slice.ensures.after in
    let as_long = c.copy_from_slice.ensures.len in
    rw written
    (record {
      ends = omega arith;
      upto = take-put_mid self.at k self.out.now c.args.word.now _ (omega arith) (omega arith);
      beyond = drop-put_mid self.at k self.out.now c.args.word.now _ (omega arith) (omega arith) (omega arith);
      as_long = same_len_mid self.at k self.out.now c.args.word.now (rw written at as_long);
    })
