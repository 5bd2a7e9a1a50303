-- The order of two ℤ, as the code tests it (`le_z`), in the parts of `Parts`.
-- The test is the test of ℕ on the parts taken crosswise, a − b before c − d as a + d before c + b; the rest follows from the tests of ℕ.
-- Assumes nothing.
use Rattle.std.specs.Prelude.{◌≡◌, refl, Bool, true, false, ℕ, suc, ◌+◌, ◌≤◌, ◌<◌, leb, ℤ, pos, negsuc}
use Rattle.std.proofs.Common.{sym, ◌∙◌, arith, leb-true, leb-false, le-leb}
use Rattle.std.proofs.lemmas.Bool.{lt-leb}
use Rattle.std.specs.Int.Signed.{le_z}
use Rattle.base_signed.specs.Parts.{up, dn}

-- two tests of ℕ that pass together and fail together
same_leb : (p q r s : ℕ) → (p ≤ q → r ≤ s) → (q < p → s < r) → leb p q ≡ leb r s
same_leb p q r s pass fail = go (leb p q) refl
  where
    go : (t : Bool) → leb p q ≡ t → t ≡ leb r s
    go true e = sym (le-leb r s (pass (leb-true p q e)))
    go false e = sym (lt-leb r s (fail (leb-false p q e)))

pub le_is : (a b : ℤ) → le_z a b ≡ leb (up a + dn b) (up b + dn a)
le_is (pos a) (pos b) = same_leb a b (a + 0) (b + 0) (omega arith) (omega arith)
le_is (pos a) (negsuc b) = sym (lt-leb (a + suc b) (0 + 0) (omega arith))
le_is (negsuc a) (pos b) = sym (le-leb (0 + 0) (b + suc a) (omega arith))
le_is (negsuc a) (negsuc b) = same_leb b a (0 + suc b) (0 + suc a) (omega arith) (omega arith)

-- ---- from a test's outcome to the fact
pub le_z_true : (a b : ℤ) → le_z a b ≡ true → up a + dn b ≤ up b + dn a
le_z_true a b e = leb-true (up a + dn b) (up b + dn a) (sym (le_is a b) ∙ e)

pub le_z_false : (a b : ℤ) → le_z a b ≡ false → up b + dn a < up a + dn b
le_z_false a b e = leb-false (up a + dn b) (up b + dn a) (sym (le_is a b) ∙ e)
