-- Laws of tables: a test computed at every code is a rule at each, and what a look-up finds. Assumes nothing.
use Prim.Native.Nat.{ℕ, zero, suc, ◌+◌, ◌<◌}
use mathlib.Core.Path.{◌≡◌, refl, ap, sym, ◌∙◌}
use mathlib.Core.Bool.{Bool, true, false, ◌&&◌, and-eq-true_iff, false≢true}
use mathlib.Core.List.{List, [], ◌∷◌}
use native.Mathlib.Nat.{add-zero, add-suc, suc-add, not-suc-le-zero, le_of_suc-le-suc}
use native.Mathlib.Decide.{ℕ_discrete}
use native.Mathlib.Omega.{arith}
use borrow.Author.Tests.{eq-eqb, ne_eqb, eqb-true}
use lib.Dec.{eqb}
use lib.ListN.{length, get_or}
use Rattle.image.specs.Codes.{lookup_from}
use Rattle.std.specs.Prelude.{Option, Some, None}

-- ---- a test at each number below n
abbrev pub everywhere : (ℕ → Bool) → ℕ → Bool
everywhere test zero = true
everywhere test (suc n) = test n && everywhere test n

pub at_each : (test : ℕ → Bool) (n : ℕ) → everywhere test n ≡ true → (c : ℕ) → c < n → test c ≡ true
at_each test zero holds c below = absurd (not-suc-le-zero below)
at_each test (suc n) holds c below =
    let both = (and-eq-true_iff (test n) (everywhere test n)).0 holds in
    elim (ℕ_discrete c n) [
      | yes same ↦ ap test same ∙ both.0
      | no other ↦ at_each test n both.1 c (omega arith)
    ]

-- ---- a code as a test
pub never_lacking : {c : ℕ} → ¬ (Some c ≡ None)
never_lacking {c} e = let z : ◌≡◌ {A = ℕ} 0 1 = cc in omega arith

abbrev pub is_code : Option ℕ → ℕ → Bool
is_code (Some code) c = eqb code c
is_code None c = false

pub is_code_lem : (code : Option ℕ) (c : ℕ) → is_code code c ≡ true → code ≡ Some c
is_code_lem (Some code) c holds = ap Some (eqb-true code c holds)
is_code_lem None c holds = absurd (false≢true holds)

-- ---- what a look-up finds, counted from i
pub data View (i : ℕ) (table : List ℕ) (value : ℕ) : Type 0 where
  hit : (c : ℕ) → c < length table → get_or table c 0 ≡ value → ((d : ℕ) → d < c → ¬ (get_or table d 0 ≡ value)) → lookup_from i table value ≡ Some (i + c)
      → View i table value
  miss : ((c : ℕ) → c < length table → ¬ (get_or table c 0 ≡ value)) → lookup_from i table value ≡ None → View i table value

next : (i x : ℕ) (xs : List ℕ) (value : ℕ) → ¬ (x ≡ value) → lookup_from i (x ∷ xs) value ≡ lookup_from (suc i) xs value
next i x xs value other = rw (ne_eqb x value other)

later : (i x : ℕ) (xs : List ℕ) (value : ℕ) → ¬ (x ≡ value) → View (suc i) xs value → View i (x ∷ xs) value
later i x xs value other (hit c inside same before found) =
    hit (suc c) (omega arith) same earlier (next i x xs value other ∙ found ∙ ap Some (suc-add i c ∙ sym (add-suc i c)))
  where
    earlier : (d : ℕ) → d < suc c → ¬ (get_or (x ∷ xs) d 0 ≡ value)
    earlier zero q = other
    earlier (suc d) q = before d (le_of_suc-le-suc q)
later i x xs value other (miss none found) = miss every (next i x xs value other ∙ found)
  where
    every : (c : ℕ) → c < length (x ∷ xs) → ¬ (get_or (x ∷ xs) c 0 ≡ value)
    every zero q = other
    every (suc c) q = none c (le_of_suc-le-suc q)

pub view : (i : ℕ) (table : List ℕ) (value : ℕ) → View i table value
view i [] value = miss (λ c q. absurd (not-suc-le-zero q)) refl
view i (x ∷ xs) value =
    elim (ℕ_discrete x value) [
      | yes same ↦ hit 0 (omega arith) same (λ d q. absurd (not-suc-le-zero q)) (rw (eq-eqb x value same, add-zero))
      | no other ↦ later i x xs value other (view (suc i) xs value)
    ]
