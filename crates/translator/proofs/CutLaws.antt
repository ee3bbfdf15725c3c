-- A cut's timeout and its timeout exit: "All but the last have 4000 and go to the following cell by timeout; the last has the rest." Assumes nothing.
use Prim.Native.Nat.{ℕ, ◌+◌, ◌-◌, ◌*◌, ◌≤◌}
use mathlib.Core.Path.{◌≡◌, ap, sym, ◌∙◌}
use mathlib.Core.Bool.{Bool, cond}
use mathlib.Core.List.{List}
use borrow.Author.Tests.{eq-eqb, ne_eqb}
use lib.Dec.{eqb}
use native.Mathlib.Decide.{ℕ_discrete}
use native.Mathlib.Omega.{arith}
use Rattle.machine.specs.declared.Node.{Node}
use Rattle.steps.specs.Steps.{step_at}
use Rattle.sheets.specs.Sheets.{node_at}
use Rattle.translator.specs.Cuts.{before}
use Rattle.translator.specs.Translation.{cells_of, first_cell, last_cut, cut_at}

module _ (sheet : List ℕ) (i j : ℕ) where
  -- "the last has the rest"
  pub last_timeout : j + 1 ≡ cells_of sheet i → (cut_at sheet i j).timeout ≡ (step_at sheet i).timeout - 4000 * j
  unfolding cut_at last_cut node_at
  last_timeout e = rw (eq-eqb _ _ e)

  -- and the step's own timeout jump: "Jumps lead to a step's first cell."
  pub last_to : j + 1 ≡ cells_of sheet i → (cut_at sheet i j).timeoutto ≡ first_cell sheet (node_at sheet i).timeoutto
  unfolding cut_at last_cut
  last_to e = rw (eq-eqb _ _ e)

  -- "All but the last have 4000"
  pub inner_timeout : (j + 1 ≡ cells_of sheet i → ⊥) → (cut_at sheet i j).timeout ≡ 4000
  unfolding cut_at last_cut
  inner_timeout e = rw (ne_eqb _ _ e)

  -- "and go to the following cell by timeout"
  pub inner_to : (j + 1 ≡ cells_of sheet i → ⊥) → (cut_at sheet i j).timeoutto ≡ first_cell sheet i + j + 1
  unfolding cut_at last_cut
  inner_to e = rw (ne_eqb _ _ e)

-- every cell of a step, from its last
pub cut_from : (sheet : List ℕ) (i j cells following : ℕ) (last cell : Node) → cells ≡ cells_of sheet i → 1 ≤ cells → last ≡ cut_at sheet i (cells - 1)
    → following ≡ first_cell sheet i + j + 1 → cell ≡ cond (eqb (j + 1) cells) last (before last following) → cell ≡ cut_at sheet i j
unfolding cut_at
cut_from sheet i j cells following last cell all some is next made =
    elim (ℕ_discrete (j + 1) cells) [
      | yes e ↦
          let here : cells - 1 ≡ j = omega arith in
          made
          ∙ ap (λ (b : Bool). cond b last (before last following)) (eq-eqb (j + 1) cells e)
          ∙ is
          ∙ ap (cut_at sheet i) here
      | no e ↦
          let inner : j + 1 ≡ cells_of sheet i → ⊥ = λ h. e (h ∙ sym all) in
          made
          ∙ ap (λ (b : Bool). cond b last (before last following)) (ne_eqb (j + 1) cells e)
          ∙ λ k. record {
            outputs = (is k).outputs;
            mask = (is k).mask;
            faultto = (is k).faultto;
            channel = (is k).channel;
            level = (is k).level;
            sequenceto = (is k).sequenceto;
            timeout = sym (inner_timeout sheet i j inner) k;
            timeoutto = (next ∙ sym (inner_to sheet i j inner)) k;
            step = (is k).step;
          }
    ]
