-- A sheet: steps of sixteen bytes, their fields and their tags, and the sheet's verdict. Assumes nothing.
use Rattle.std.specs.Prelude.{ℕ, ◌%◌, Bool, cond, not, ◌&&◌, ◌||◌, List, [], ◌∷◌, ltb, leb, eqb, length}
use Rattle.records.specs.Lists.{each}
use Rattle.records.specs.Tags.{repeats, look_up}
use Rattle.records.specs.Numbers.{wrong_length, out_of_range, repeated_tag, unknown_tag}
use Rattle.records.specs.Verdicts.{refused_unless, first_refusal}
use Rattle.records.specs.declared.Verdict.{Verdict}
use Rattle.machine.specs.declared.Node.{Node}
use Rattle.steps.specs.Steps.{step_at, step_count, step_fault}

-- ---- length and fields

-- "A sheet has 1 to 63 steps of 16 bytes"
unfoldable pub is_sheet : List ℕ → Bool
is_sheet sheet = leb 16 (length sheet) && leb (length sheet) 1008 && eqb (length sheet % 16) 0

unfoldable pub fields_verdict : List ℕ → Verdict
fields_verdict sheet = first_refusal (each (λ k. refused_unless (eqb (step_fault (step_at sheet k)).number 0) out_of_range k) 0 (step_count sheet))

-- ---- tags

-- "5 | a tag used by an earlier step | the later step"
unfoldable pub repeats_verdict : List ℕ → Verdict
repeats_verdict sheet = first_refusal (each (λ j. refused_unless (not (repeats 16 sheet j)) repeated_tag j) 0 (step_count sheet))

-- a jump is absent, or leads to the tag of some step
unfoldable pub known : List ℕ → ℕ → Bool
known sheet jump = eqb jump 0 || ltb (look_up 16 sheet (step_count sheet) jump) (step_count sheet)

unfoldable pub jumps_known : List ℕ → ℕ → Bool
jumps_known sheet k =
    known sheet (step_at sheet k).faultjump && known sheet (step_at sheet k).sequencejump && known sheet (step_at sheet k).timeoutjump

-- "6 | a jump to a tag that no step has | step"
unfoldable pub unknown_verdict : List ℕ → Verdict
unknown_verdict sheet = first_refusal (each (λ k. refused_unless (jumps_known sheet k) unknown_tag k) 0 (step_count sheet))

-- ---- the sheet: "Tests: length; fields of every step; repeated tags; unknown tags"; "The lowest step is named."
unfoldable pub sheet_tests : List ℕ → List Verdict
sheet_tests sheet =
    refused_unless (is_sheet sheet) wrong_length 0 ∷ fields_verdict sheet ∷ repeats_verdict sheet ∷ unknown_verdict sheet ∷ []

unfoldable pub sheet_verdict : List ℕ → Verdict
sheet_verdict sheet = first_refusal (sheet_tests sheet)

-- ---- a step as a node: its jumps looked up to step numbers, 0 where a jump is absent
unfoldable pub target : List ℕ → ℕ → ℕ
target sheet jump = cond (eqb jump 0) 0 (look_up 16 sheet (step_count sheet) jump)

unfoldable pub node_at : List ℕ → ℕ → Node
node_at sheet k =
    record {
      outputs = (step_at sheet k).outputs;
      mask = (step_at sheet k).mask;
      faultto = target sheet (step_at sheet k).faultjump;
      channel = (step_at sheet k).channel;
      level = (step_at sheet k).level;
      sequenceto = target sheet (step_at sheet k).sequencejump;
      timeout = (step_at sheet k).timeout;
      timeoutto = target sheet (step_at sheet k).timeoutjump;
      step = k;
    }
