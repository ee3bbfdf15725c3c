-- A step: its sixteen bytes, and the ranges of its fields. Assumes nothing.
use Rattle.std.specs.Prelude.{ℕ, ◌+◌, ◌*◌, ◌/◌, min, Bool, not, ◌||◌, List, [], ◌∷◌, leb, eqb, length, get_or}
use Rattle.records.specs.Words.{word_at}
use Rattle.records.specs.Verdicts.{refused_unless, first_refusal}
use Rattle.records.specs.declared.Verdict.{Verdict}
use Rattle.machine.specs.Fields.{outputs_in_range, mask_in_range, channel_in_range, level_in_range, level_allowed, range_fault, jump_without_exit, exit_without_jump, level_without_channel}
use Rattle.steps.specs.declared.Step.{Step}

-- ---- bytes

-- "tag (2), outputs (2), monitor mask (2), fault jump (2), sequence channel (1), level (1), sequence jump (2), timeout (2), timeout jump (2)"
unfoldable pub step_at : List ℕ → ℕ → Step
step_at sheet k =
    record {
      tag = word_at sheet (16 * k);
      outputs = word_at sheet (16 * k + 2);
      mask = word_at sheet (16 * k + 4);
      faultjump = word_at sheet (16 * k + 6);
      channel = get_or sheet (16 * k + 8) 0;
      level = get_or sheet (16 * k + 9) 0;
      sequencejump = word_at sheet (16 * k + 10);
      timeout = word_at sheet (16 * k + 12);
      timeoutjump = word_at sheet (16 * k + 14);
    }

-- "A sheet has 1 to 63 steps of 16 bytes": the number of steps, 63 at most
unfoldable pub step_count : List ℕ → ℕ
step_count sheet = min (length sheet / 16) 63

-- ---- fields

-- "A jump holds a tag and is 0 exactly when its exit is absent (mask 0, channel 0, timeout 0)"
unfoldable pub jump_fault : Bool → ℕ → ℕ → Verdict
jump_fault present jump offset =
    first_refusal
    (refused_unless (present || eqb jump 0) jump_without_exit offset ∷ refused_unless (not present || not (eqb jump 0)) exit_without_jump offset ∷ [])

-- the fields in the order of their offsets: "Tag at least 1; outputs and mask below 1024; channel 0 for none or 1 to 10; level 0 or 1; timeout 0 to 40,000 ticks"
unfoldable pub step_fault : Step → Verdict
step_fault step =
    first_refusal
    (refused_unless (leb 1 step.tag) range_fault 0
    ∷ refused_unless (outputs_in_range step.outputs) range_fault 2
    ∷ refused_unless (mask_in_range step.mask) range_fault 4
    ∷ jump_fault (not (eqb step.mask 0)) step.faultjump 6
    ∷ refused_unless (channel_in_range step.channel) range_fault 8
    ∷ refused_unless (level_in_range step.level) range_fault 9
    ∷ refused_unless (level_allowed step.channel step.level) level_without_channel 9
    ∷ jump_fault (not (eqb step.channel 0)) step.sequencejump 10
    ∷ refused_unless (leb step.timeout 40000) range_fault 12
    ∷ jump_fault (not (eqb step.timeout 0)) step.timeoutjump 14
    ∷ [])
