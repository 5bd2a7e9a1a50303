-- Text as a list of bytes: what the programs print is ASCII, where a character's byte is its code. Assumes nothing.
use Rattle.std.specs.Prelude.{List, [], ◌∷◌, ℕ}
use Prim.Native.Char.{code}
use Prim.Native.String as S

-- the bytes of a word
abbrev pub word : S.String → List ℕ
word S.[] = []
word (S.◌∷◌ c s) = code c ∷ word s
