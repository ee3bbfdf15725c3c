-- An accepted cell and an accepted table: the paper's conditions as facts, which hold exactly when the verdict's number is 0. Assumes nothing.
use Prim.Native.Nat.{ℕ, ◌≤◌, ◌<◌}
use mathlib.Core.Path.{◌≡◌, ap, sym, ◌∙◌}
use mathlib.Core.Bool.{true, not}
use mathlib.Core.List.{List}
use mathlib.Core.Logic.{◌↔◌}
use native.Mathlib.Omega.{arith}
use lib.Dec.{eqb}
use lib.ListN.{length}
use Rattle.records.specs.Verdicts.{refused_unless, or_else, first_refusal}
use Rattle.records.specs.Lists.{each}
use Rattle.records.specs.declared.Verdict.{Verdict}
use Rattle.records.proofs.VerdictLaws.{first_cons, or_else_zero, or_else_pass}
use Rattle.records.proofs.Every.{none, ◌also◌}
use Rattle.records.proofs.TestLaws.{Whole, whole_test, lt_test, le_test, eq_test, absent_test, unless_passed, unless_passes, all_zero, all_pass, NamesLowest, names_lowest, two_tests}
use Rattle.machine.specs.declared.Node.{Node}
use Rattle.machine.proofs.FieldLaws.{outputs_range, mask_range, channel_range, level_range, level_allowed_lem}
use Rattle.machine.proofs.StandLaws.{Leads, AbsentExits}
use Rattle.tables.specs.Tables.{cell_at, next_fault, cell_fault, cell_count, is_table, fields_verdict, cell_tests, cell_verdict, table_verdict}

-- "next below the number of cells, and 0 where the exit is absent"
pub next_accepted : (cells field next offset : ℕ)
    → ((next_fault cells (not (eqb field 0)) next offset).number ≡ 0) ↔ ((next < cells) × (field ≡ 0 → next ≡ 0))
unfolding next_fault
next_accepted cells field next offset = two_tests (lt_test next cells) (absent_test field next) _ _ offset (λ z. omega arith) (λ z. omega arith)

-- "Step at most 62, timeout at most 4000, next below the number of cells, and 0 where the exit is absent; the rest as in a sheet"
pub record AcceptedCell (cells : ℕ) (cell : Node) : Type 0 where
  pub outputs : cell.outputs < 1024
  pub mask : cell.mask < 1024
  pub channel : cell.channel ≤ 10
  pub level : cell.level ≤ 1
  pub nolevel : cell.channel ≡ 0 → cell.level ≡ 0
  pub timeout : cell.timeout ≤ 4000
  pub step : cell.step ≤ 62
  pub leads : Leads cells cell
  pub absent : AbsentExits cell

-- a cell's fields pass exactly when they are as the paper says
pub cell_accepted : (cells : ℕ) (cell : Node) → ((cell_fault cells cell).number ≡ 0) ↔ AcceptedCell cells cell
unfolding cell_fault
cell_accepted cells cell = (
  λ e.
      elim (all_pass _ e) [
        | outputs also mask also fault also channel also level also nolevel also sequence also timeout also to also step also none ↦
            let next-fault : (cell.faultto < cells) × (cell.mask ≡ 0 → cell.faultto ≡ 0) = (next_accepted cells _ _ _).0 fault in
            let next-sequence : (cell.sequenceto < cells) × (cell.channel ≡ 0 → cell.sequenceto ≡ 0) = (next_accepted cells _ _ _).0 sequence in
            let next-timeout : (cell.timeoutto < cells) × (cell.timeout ≡ 0 → cell.timeoutto ≡ 0) = (next_accepted cells _ _ _).0 to in
            record {
              outputs = unless_passed (outputs_range _) _ _ (omega arith) outputs;
              mask = unless_passed (mask_range _) _ _ (omega arith) mask;
              channel = unless_passed (channel_range _) _ _ (omega arith) channel;
              level = unless_passed (level_range _) _ _ (omega arith) level;
              nolevel = unless_passed (level_allowed_lem _ _) _ _ (omega arith) nolevel;
              timeout = unless_passed (le_test _ _) _ _ (omega arith) timeout;
              step = unless_passed (le_test _ _) _ _ (omega arith) step;
              leads = record { fault = next-fault.0; sequence = next-sequence.0; timeout = next-timeout.0 };
              absent = record { fault = next-fault.1; sequence = next-sequence.1; timeout = next-timeout.1 };
            }
      ],
  λ h.
      all_zero _ (
      unless_passes (outputs_range _) _ _ h.outputs also
      unless_passes (mask_range _) _ _ h.mask also
      (next_accepted cells _ _ _).1 (h.leads.fault, h.absent.fault) also
      unless_passes (channel_range _) _ _ h.channel also
      unless_passes (level_range _) _ _ h.level also
      unless_passes (level_allowed_lem _ _) _ _ h.nolevel also
      (next_accepted cells _ _ _).1 (h.leads.sequence, h.absent.sequence) also
      unless_passes (le_test _ _) _ _ h.timeout also
      (next_accepted cells _ _ _).1 (h.leads.timeout, h.absent.timeout) also
      unless_passes (le_test _ _) _ _ h.step also
      none),
)

-- ---- a table

-- "A table has 1 to 63 cells of 12 bytes"
abbrev pub TableLength : List ℕ → Type 0
TableLength table = Whole 12 (length table)

-- the paper's conditions on a table
pub record AcceptedTable (table : List ℕ) : Type 0 where
  pub size : TableLength table
  pub cells : (k : ℕ) → k < cell_count table → AcceptedCell (cell_count table) (cell_at table k)

module _ (table : List ℕ) where
  -- the length
  pub length_accepted : (is_table table ≡ true) ↔ TableLength table
  unfolding is_table
  length_accepted = whole_test 12 (length table)

  cell_means : (k : ℕ) → (eqb (cell_fault (cell_count table) (cell_at table k)).number 0 ≡ true) ↔ AcceptedCell (cell_count table) (cell_at table k)
  cell_means k = (λ e. (cell_accepted _ _).0 ((eq_test _ _).0 e), λ a. (eq_test _ _).1 ((cell_accepted _ _).1 a))

  -- one cell's fields
  fields_accepted : (k : ℕ) → ((fields_verdict table k).number ≡ 0) ↔ AcceptedCell (cell_count table) (cell_at table k)
  unfolding fields_verdict
  fields_accepted k = (unless_passed (cell_means k) _ _ (omega arith), unless_passes (cell_means k) _ _)

  -- one cell's verdict
  pub verdict_accepted : (k : ℕ)
      → ((cell_verdict table k).number ≡ 0) ↔ (TableLength table × (k < cell_count table) × AcceptedCell (cell_count table) (cell_at table k))
  unfolding cell_verdict cell_tests
  verdict_accepted k = (
    λ e.
        elim (all_pass _ e) [
          | size also below also fields also none ↦
              (unless_passed length_accepted _ _ (omega arith) size, unless_passed (lt_test _ _) _ _ (omega arith) below, (fields_accepted k).0 fields)
        ],
    λ h.
        all_zero _ (
        unless_passes length_accepted _ _ h.0 also
        unless_passes (lt_test _ _) _ _ h.1 also
        (fields_accepted k).1 h.2 also
        none),
  )

  -- "4 | a field ... out of its range | ... cell"
  pub cells_test : NamesLowest (first_refusal (each (fields_verdict table) 0 (cell_count table))) 4 (cell_count table)
      (λ k. AcceptedCell (cell_count table) (cell_at table k))
  unfolding fields_verdict
  cells_test = names_lowest _ _ _ (omega arith) _ cell_means

  -- the length first, and then the cells
  pub verdict_parts : table_verdict table ≡ or_else (refused_unless (is_table table) 1 0) (first_refusal (each (fields_verdict table) 0 (cell_count table)))
  unfolding table_verdict
  verdict_parts = first_cons _ _

  -- a table is accepted exactly when the paper's conditions hold
  pub table_accepted : ((table_verdict table).number ≡ 0) ↔ AcceptedTable table
  table_accepted = (
    λ e.
        let both = or_else_zero _ _ (ap (λ (v : Verdict). v.number) (sym verdict_parts) ∙ e) in
        record { size = unless_passed length_accepted _ _ (omega arith) both.0; cells = cells_test.accepts.0 both.1 },
    λ a.
        ap (λ (v : Verdict). v.number) (verdict_parts ∙ or_else_pass _ _ (unless_passes length_accepted _ _ a.size))
        ∙ cells_test.accepts.1 a.cells,
  )

-- ---- what follows from acceptance

-- at least one cell
pub count_least : (table : List ℕ) → AcceptedTable table → 1 ≤ cell_count table
unfolding cell_count
count_least table a = omega arith
