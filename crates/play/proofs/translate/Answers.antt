-- `play::translate` meets its contract: a translated table lies within its buffer. Assumes nothing.
use Rattle.std.proofs.Common.{ℕ, ◌*◌, ◌≤◌, ◌≡◌, List, length, arith, ap, sym, subst}
use Rattle.std.proofs.Math.ListN.{length-take}
use Rattle.records.specs.Verdicts.{accepted}
use Rattle.translator.specs.Answers.{Translation}
use Rattle.translator.specs.Translation.{translation}
use Rattle.translator.proofs.VerdictLaws.{verdict_accepted, accepted_cells}
use Rattle.play.proofs.translate.Goals as goal

-- twelve bytes of each cell lie within the buffer
room_for : (sheet buffer : List ℕ) → (translation sheet buffer).verdict.number ≡ 0 → 12 * (translation sheet buffer).cells ≤ length buffer
unfolding translation
room_for sheet buffer good =
    subst (λ (n : ℕ). 12 * n ≤ length buffer) (sym (accepted_cells sheet buffer good)) ((verdict_accepted sheet (length buffer)).0 good).roomy

within : (sheet buffer : List ℕ) (cells : ℕ) → ◌≡◌ {A = Translation} (record { verdict = accepted; cells = cells }) (translation sheet buffer) → 12 * cells ≤ length buffer
within sheet buffer cells is =
    subst (λ (n : ℕ). 12 * n ≤ length buffer) (ap (λ (t : Translation). t.cells) (sym is)) (room_for sheet buffer (ap (λ (t : Translation). t.verdict.number) (sym is)))

pub returns : goal.returns
returns c =
    let fits = within c.args.sheet.now c.args.table.now c.in_ok-cells.cells c.in_ok-cells.ensures.value in
    (omega (arith, fits, c.translate.auto), simp length-take (omega (arith, fits, c.translate.auto)))
