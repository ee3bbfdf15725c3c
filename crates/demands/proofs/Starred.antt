-- The starred values of the paper, together as one table with a single claim, each row as the definitions compute it. Assumes nothing.
use Prim.Native.Nat.{ℕ}
use mathlib.Core.Path.{◌≡◌}
use mathlib.Core.List.{List}
use Rattle.steps.specs.Steps.{step_at}
use Rattle.translator.specs.Translation.{cells_for, cut_at}
use Rattle.translator.proofs.CellCounts.{cells_4000, cells_4001, cut_4001}
use Rattle.image_laws.proofs.Starred.{OutputValues, output_values}
use Rattle.detector_laws.proofs.Starred.{DetectorValues, detector_values}

pub record StarredValues : Type 0 where
  -- "Over 200, hysteresis 10 ... Over 5, hysteresis 31 ... Under 250, hysteresis 31 ... Filter 0 ... 10 µs ... Pulse 10 µs"
  pub detectors : DetectorValues
  -- "Output byte 0x10 and 0x11 read alike, normal 0x10; 0x1C refused 3; 0x40 refused 3; 0x80 refused 2; 0xC0 refused 2": in every group, at every address
  pub outputs : (k address : ℕ) → OutputValues k address
  -- "Timeout 4000 takes one cell"
  pub one_cell : cells_for 4000 ≡ 1
  -- "4001 two, the second with 1"
  pub two_cells : cells_for 4001 ≡ 2
  pub second_cell : (sheet : List ℕ) (i : ℕ) → (step_at sheet i).timeout ≡ 4001 → (cut_at sheet i 1).timeout ≡ 1

-- All of them hold.
pub starred_values : StarredValues
starred_values =
    record {
      detectors = detector_values;
      outputs = output_values;
      one_cell = cells_4000;
      two_cells = cells_4001;
      second_cell = cut_4001;
    }
