-- A fact of every element of a list. Assumes nothing.
use Prim.Native.Nat.{ℕ, ◌<◌}
use mathlib.Core.List.{List, [], ◌∷◌, map}
use lib.ListN.{get_or}

infixr 5 ◌also◌
-- the fact holds for each element, in the list's order
pub data Every {A : Type 0} (P : A → Type 0) : List A → Type 0 where
  none : Every P []
  ◌also◌ : {x : A} {xs : List A} → P x → Every P xs → Every P (x ∷ xs)

-- what f makes of elements with one fact has another
pub every_map : {A B : Type 0} {P : A → Type 0} {Q : B → Type 0} (f : A → B) → ((x : A) → P x → Q (f x)) → {xs : List A} → Every P xs → Every Q (map f xs)
every_map f makes none = none
every_map f makes (p also ps) = makes _ p also every_map f makes ps

-- every element is a byte: what the type `&[u8]` of src/ holds already
abbrev pub Bytes : List ℕ → Type 0
Bytes list = (i : ℕ) → get_or list i 0 < 256
