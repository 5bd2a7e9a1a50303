-- A list of records that a function has by value, lent: an array in a local's memory is the elements that a shared slice borrows, and once the borrow
-- is over the memory is the local's again. For elements of any type that has one machine value and can be shared, while tokens of the borrow's lifetime are at hand (they come
-- back). Assumes nothing.
use Rattle.std.specs.Prelude.{◌≡◌, ℕ, List, [], ◌∷◌, length}
use Rattle.std.proofs.Math.Path.{refl}
use Rattle.std.proofs.Common.{sym}
use seplogic.Ra.Ura.{Ura}
use base.Fraction.{full_share}
use mir.Syntax.{Ty, named, ty_array}
use mir.Raw.{raw as raw_ty}
use mir.Val.{Val}
use base.Logic.{ent, sep, via, never_e}
use base.Fml.{Lft, Incl, Fml, fsep, fat, froom, fdead, flent}
use ghost.Rules.{Toks, span}
use types.Logic.{Logic, sem, lfts}
use types.Kit.{‵, ◌⊛◌, raw, split, ◌$◌, ◌∵◌, !, qed, by, move, drop, use1, rewrite, fsplit, fjoin, fpick, fpack, updating, now as at_once}
use types.Tokens.{lent_back}
use types.Share.{arr_parts}
use Rattle.std.specs.Borrow.{RattleType, Array}
use denote.Memory.{lone, cell_at, shares, shared_of, part_at, part_of}
use denote.Shares.{SharesAsFrom}
use denote.ArrayMemory.{Single, Array-apart, Array-whole}
use denote.Slice.{Room}
use denote.Lend.{LentShrs, lends_shr_slice}

module _ (R : RattleType) (n : ℕ) where
  -- the type of the local
  abbrev pub array_ty : Ty
  array_ty = ty_array (lone R.mir) n

  -- what is lent
  abbrev pub Lent : List R.Denot → ℕ → Fml
  Lent ys b = (arr_parts (shares R) (length ys)).part full_share ys b 0

  module _ {M : Type 1} {𝓤 : Ura M} (𝓛 : Logic 𝓤) (one : Single R.mir) (κ : Lft) (ys : List R.Denot) (b : ℕ) (e : length ys ≡ n) where
    open 𝓛 use {H, A}

    pub lends_array : (v : Val) → Room R (length ys) → (l : Lft) → SharesAsFrom 𝓛 full_share R (shared_of R) l → (ts : Toks) → Incl (span ts) l → Incl (span ts) κ
        → ent 𝓤 (sep 𝓤 (sep 𝓤 (sem 𝓛 (fat full_share array_ty b 0 v)) (sem 𝓛 ((Array R n).own_val ys (v ∷ [])))) (lfts 𝓛 ts)) (H.⇛ (sep 𝓤 (LentShrs 𝓛 R (named 0) κ full_share ys b 0) (lfts 𝓛 ts)))
    unfolding part_of
    lends_array v g l s ts inc sp =
        qed 𝓛 ((‵ (fat full_share array_ty b 0 v) ⊛ ‵ ((Array R n).own_val ys (v ∷ []))) ∷ raw (lfts 𝓛 ts) ∷ []) ∵ split ! $ use1 𝓛 (‵ (fat full_share (raw_ty array_ty) b 0 v)) (𝓛.laws.at_raw full_share array_ty b 0 v) $ fjoin ! $
        fpack ! (List Val) (λ us. fsep (cell_at full_share (Array R n).mir us b 0) ((Array R n).own_val ys us)) (v ∷ []) $
        use1 𝓛 (‵ ((arr_parts (shares R) n).part full_share ys b 0)) (Array-apart 𝓛 R full_share one n ys b 0) $
        rewrite ! 0 (λ (m : ℕ). ‵ ((arr_parts (shares R) m).part full_share ys b 0)) (sym e) refl $ by ! (lends_shr_slice 𝓛 R (named 0) κ full_share ys b 0 g l s ts inc sp)

    -- whatever the machine has in the local, it is room for it
    cell_room : (us : List Val) → ent 𝓤 (sem 𝓛 (cell_at full_share (Array R n).mir us b 0)) (sem 𝓛 (froom array_ty b 0))
    cell_room [] = never_e 𝓤 _
    cell_room (u ∷ []) = via 𝓤 (H.at full_share array_ty b 0 u) (𝓛.laws.raw_at full_share array_ty b 0 u) (𝓛.laws.at_room array_ty b 0 u)
    cell_room (u ∷ w ∷ us) = never_e 𝓤 _

    pub array_back : ent 𝓤 (sep 𝓤 (A.dead κ) (A.lent κ (Lent ys b))) (H.⇛ (sem 𝓛 (froom array_ty b 0)))
    unfolding part_of
    array_back =
        qed 𝓛 (‵ (fdead κ) ∷ ‵ (flent κ (Lent ys b)) ∷ []) ∵ updating ! $ lent_back ! tt $ rewrite ! 0 (λ (m : ℕ). ‵ ((arr_parts (shares R) m).part full_share ys b 0)) e refl $
        use1 𝓛 (‵ (part_at (Array R n) full_share ys b 0)) (Array-whole 𝓛 R full_share n ys b 0) $ fpick ! (λ us. fsplit ! $ move ! (1 ∷ []) $ drop ! $ at_once ! $ by ! (cell_room us))
