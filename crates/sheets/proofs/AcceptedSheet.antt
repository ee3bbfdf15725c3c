-- An accepted sheet: the paper's conditions as facts, which hold exactly when the verdict's number is 0. Assumes nothing.
use Prim.Native.Nat.{ℕ, ◌*◌, ◌/◌, ◌≤◌, ◌<◌}
use mathlib.Core.Path.{◌≡◌, refl, ap, sym, subst, ◌∙◌}
use mathlib.Core.Bool.{Bool, true, false, not, ◌||◌, and-eq-true_iff}
use mathlib.Core.List.{List}
use mathlib.Core.Logic.{◌↔◌}
use native.Mathlib.Decide.{ℕ_discrete, dec_lt}
use native.Mathlib.Omega.{arith}
use borrow.Author.Tests.{eq-eqb, ne_eqb, ltb-true, lt-ltb, not-true}
use lib.Dec.{ltb, eqb}
use lib.ListN.{length}
use Rattle.records.specs.Tags.{tag_at, repeats, look_up}
use Rattle.records.proofs.Every.{none, ◌also◌}
use Rattle.records.proofs.TestLaws.{le_test, eq_test, absent_test, present_test, Whole, whole_test, unless_passed, unless_passes, all_zero, all_pass, two_tests, NamesLowest, names_lowest}
use Rattle.records.proofs.TagLaws.{repeats_some, fresh, look_up_has_lem, look_up_first, look_up_tag_at}
use Rattle.machine.proofs.FieldLaws.{outputs_range, mask_range, channel_range, level_range, level_allowed_lem}
use Rattle.machine.proofs.StandLaws.{Leads, AbsentExits}
use Rattle.steps.specs.Steps.{step_at, step_count, jump_fault, step_fault}
use Rattle.sheets.specs.Sheets.{is_sheet, fields_verdict, repeats_verdict, known, jumps_known, unknown_verdict, sheet_tests, sheet_verdict, target, node_at}
use Rattle.steps.specs.declared.Step.{Step}

-- ---- a step's fields

-- "A jump holds a tag and is 0 exactly when its exit is absent (mask 0, channel 0, timeout 0)"
pub jump_accepted : (field jump offset : ℕ) → ((jump_fault (not (eqb field 0)) jump offset).number ≡ 0) ↔ ((field ≡ 0) ↔ (jump ≡ 0))
unfolding jump_fault
jump_accepted field jump offset = two_tests (absent_test field jump) (present_test field jump) _ _ offset (λ z. omega arith) (λ z. omega arith)

-- "Tag at least 1; outputs and mask below 1024; channel 0 for none or 1 to 10; level 0 or 1; timeout 0 to 40,000 ticks. A jump ... is 0 exactly when its exit is absent ...; with channel 0 the level is 0."
pub record AcceptedStep (step : Step) : Type 0 where
  pub tag : 1 ≤ step.tag
  pub outputs : step.outputs < 1024
  pub mask : step.mask < 1024
  pub faultjump : (step.mask ≡ 0) ↔ (step.faultjump ≡ 0)
  pub channel : step.channel ≤ 10
  pub level : step.level ≤ 1
  pub nolevel : step.channel ≡ 0 → step.level ≡ 0
  pub sequencejump : (step.channel ≡ 0) ↔ (step.sequencejump ≡ 0)
  pub timeout : step.timeout ≤ 40000
  pub timeoutjump : (step.timeout ≡ 0) ↔ (step.timeoutjump ≡ 0)

-- a step's fields pass exactly when they are as the paper says
pub step_accepted : (step : Step) → ((step_fault step).number ≡ 0) ↔ AcceptedStep step
unfolding step_fault
step_accepted step = (
  λ e.
      elim (all_pass _ e) [
        | tag also outputs also mask also faultjump also channel also level also nolevel also sequencejump also timeout also timeoutjump also none ↦
            record {
              tag = unless_passed (le_test _ _) _ _ (omega arith) tag;
              outputs = unless_passed (outputs_range _) _ _ (omega arith) outputs;
              mask = unless_passed (mask_range _) _ _ (omega arith) mask;
              faultjump = (jump_accepted _ _ _).0 faultjump;
              channel = unless_passed (channel_range _) _ _ (omega arith) channel;
              level = unless_passed (level_range _) _ _ (omega arith) level;
              nolevel = unless_passed (level_allowed_lem _ _) _ _ (omega arith) nolevel;
              sequencejump = (jump_accepted _ _ _).0 sequencejump;
              timeout = unless_passed (le_test _ _) _ _ (omega arith) timeout;
              timeoutjump = (jump_accepted _ _ _).0 timeoutjump;
            }
      ],
  λ h.
      all_zero _ (
      unless_passes (le_test _ _) _ _ h.tag also
      unless_passes (outputs_range _) _ _ h.outputs also
      unless_passes (mask_range _) _ _ h.mask also
      (jump_accepted _ _ _).1 h.faultjump also
      unless_passes (channel_range _) _ _ h.channel also
      unless_passes (level_range _) _ _ h.level also
      unless_passes (level_allowed_lem _ _) _ _ h.nolevel also
      (jump_accepted _ _ _).1 h.sequencejump also
      unless_passes (le_test _ _) _ _ h.timeout also
      (jump_accepted _ _ _).1 h.timeoutjump also
      none),
)

-- ---- a sheet

-- "A sheet has 1 to 63 steps of 16 bytes"
abbrev pub SheetLength : List ℕ → Type 0
SheetLength sheet = Whole 16 (length sheet)

-- no earlier step has the tag of step j
abbrev pub Fresh : List ℕ → ℕ → Type 0
Fresh sheet j = (i : ℕ) → i < j → (step_at sheet i).tag ≡ (step_at sheet j).tag → ⊥

-- a jump that is not 0 holds the tag of a step
abbrev pub Known : List ℕ → ℕ → Type 0
Known sheet jump = (jump ≡ 0 → ⊥) → (i : ℕ) × (i < step_count sheet) × ((step_at sheet i).tag ≡ jump)

-- each of a step's jumps does
pub record KnownJumps (sheet : List ℕ) (step : Step) : Type 0 where
  pub fault : Known sheet step.faultjump
  pub sequence : Known sheet step.sequencejump
  pub timeout : Known sheet step.timeoutjump

-- the paper's conditions on a sheet
pub record AcceptedSheet (sheet : List ℕ) : Type 0 where
  pub size : SheetLength sheet
  pub steps : (k : ℕ) → k < step_count sheet → AcceptedStep (step_at sheet k)
  pub tags : (j : ℕ) → j < step_count sheet → Fresh sheet j
  pub jumps : (k : ℕ) → k < step_count sheet → KnownJumps sheet (step_at sheet k)

-- ---- each of the four tests

module _ (sheet : List ℕ) where
  -- the length
  pub length_accepted : (is_sheet sheet ≡ true) ↔ SheetLength sheet
  unfolding is_sheet
  length_accepted = whole_test 16 (length sheet)

  -- the fields of a step
  fields_mean : (k : ℕ) → (eqb (step_fault (step_at sheet k)).number 0 ≡ true) ↔ AcceptedStep (step_at sheet k)
  fields_mean k = (λ e. (step_accepted _).0 ((eq_test _ _).0 e), λ a. (eq_test _ _).1 ((step_accepted _).1 a))

  tag_at_lem : (k : ℕ) → tag_at 16 sheet k ≡ (step_at sheet k).tag
  unfolding tag_at step_at
  tag_at_lem k = refl

  -- the tag of a step
  tag_means : (j : ℕ) → (not (repeats 16 sheet j) ≡ true) ↔ Fresh sheet j
  unfolding tag_at step_at
  tag_means j = fresh 16 sheet j

  -- a jump
  known_means : (jump : ℕ) → (known sheet jump ≡ true) ↔ Known sheet jump
  unfolding known
  known_means jump =
      (λ e some. there some e, λ k. elim (ℕ_discrete jump 0) [ yes z ↦ rw (eq-eqb jump 0 z) | no z ↦ rw (ne_eqb jump 0 z) (found (k z)) ])
    where
      there : (jump ≡ 0 → ⊥) → eqb jump 0 || ltb (look_up 16 sheet (step_count sheet) jump) (step_count sheet) ≡ true
          → (i : ℕ) × (i < step_count sheet) × ((step_at sheet i).tag ≡ jump)
      there some e =
          let below : look_up 16 sheet (step_count sheet) jump < step_count sheet = ltb-true _ _ (rw (ne_eqb jump 0 some) at e) in
          (look_up 16 sheet (step_count sheet) jump, below, sym (tag_at_lem _) ∙ look_up_has_lem 16 sheet (step_count sheet) jump below)

      found : ((i : ℕ) × (i < step_count sheet) × ((step_at sheet i).tag ≡ jump)) → ltb (look_up 16 sheet (step_count sheet) jump) (step_count sheet) ≡ true
      found s =
          elim (dec_lt (look_up 16 sheet (step_count sheet) jump) (step_count sheet)) [
            | yes p ↦ lt-ltb _ _ p
            | no p ↦ absurd (look_up_first 16 sheet (step_count sheet) jump s.0 (omega (arith, s.1)) (tag_at_lem s.0 ∙ s.2))
          ]

  -- the jumps of a step
  jumps_mean : (k : ℕ) → (jumps_known sheet k ≡ true) ↔ KnownJumps sheet (step_at sheet k)
  unfolding jumps_known
  jumps_mean k = (
    λ e.
        let outer = (and-eq-true_iff _ _).0 e in
        let inner = (and-eq-true_iff _ _).0 outer.0 in
        record { fault = (known_means _).0 inner.0; sequence = (known_means _).0 inner.1; timeout = (known_means _).0 outer.1 },
    λ h.
        (and-eq-true_iff _ _).1
        ((and-eq-true_iff _ _).1 ((known_means _).1 h.fault, (known_means _).1 h.sequence), (known_means _).1 h.timeout),
  )

  -- "4 | a field ... out of its range | step"
  pub fields_test : NamesLowest (fields_verdict sheet) 4 (step_count sheet) (λ k. AcceptedStep (step_at sheet k))
  unfolding fields_verdict
  fields_test = names_lowest _ _ _ (omega arith) _ fields_mean

  -- "5 | a tag used by an earlier step | the later step"
  pub repeats_test : NamesLowest (repeats_verdict sheet) 5 (step_count sheet) (Fresh sheet)
  unfolding repeats_verdict
  repeats_test = names_lowest _ _ _ (omega arith) _ tag_means

  -- "6 | a jump to a tag that no step has | step"
  pub unknown_test : NamesLowest (unknown_verdict sheet) 6 (step_count sheet) (λ k. KnownJumps sheet (step_at sheet k))
  unfolding unknown_verdict
  unknown_test = names_lowest _ _ _ (omega arith) _ jumps_mean

  -- a step that is not fresh has the tag of an earlier one
  pub not_fresh : (j : ℕ) → (Fresh sheet j → ⊥) → (i : ℕ) × (i < j) × ((step_at sheet i).tag ≡ (step_at sheet j).tag)
  unfolding tag_at step_at
  not_fresh j used = found (repeats 16 sheet j) refl
    where
      found : (t : Bool) → repeats 16 sheet j ≡ t → (i : ℕ) × (i < j) × (tag_at 16 sheet i ≡ tag_at 16 sheet j)
      found true e = repeats_some 16 sheet j e
      found false e = absurd (used ((tag_means j).0 (rw e)))

  -- ---- the sheet

  -- a sheet is accepted exactly when the paper's conditions hold
  pub sheet_accepted : ((sheet_verdict sheet).number ≡ 0) ↔ AcceptedSheet sheet
  unfolding sheet_verdict sheet_tests
  sheet_accepted = (
    λ e.
        elim (all_pass _ e) [
          | size also steps also tags also jumps also none ↦
              record {
                size = unless_passed length_accepted _ _ (omega arith) size;
                steps = fields_test.accepts.0 steps;
                tags = repeats_test.accepts.0 tags;
                jumps = unknown_test.accepts.0 jumps;
              }
        ],
    λ a.
        all_zero _ (
        unless_passes length_accepted _ _ a.size also
        fields_test.accepts.1 a.steps also
        repeats_test.accepts.1 a.tags also
        unknown_test.accepts.1 a.jumps also
        none),
  )

-- ---- what follows from acceptance

-- at most 63 steps are counted, whatever the length
pub count_most : (sheet : List ℕ) → step_count sheet ≤ 63
unfolding step_count
count_most sheet = omega arith

-- the target of an absent jump is 0
pub target_absent : (sheet : List ℕ) (jump : ℕ) → jump ≡ 0 → target sheet jump ≡ 0
unfolding target
target_absent sheet jump z = rw (eq-eqb jump 0 z)

module _ (sheet : List ℕ) (a : AcceptedSheet sheet) where
  -- the number of steps is the length by sixteen
  pub count_quotient : step_count sheet ≡ length sheet / 16
  unfolding step_count
  count_quotient = omega (arith, a.size.most)

  -- sixteen bytes a step
  pub count_length : 16 * step_count sheet ≡ length sheet
  unfolding step_count
  count_length = omega arith

  -- at least one step
  pub count_least : 1 ≤ step_count sheet
  unfolding step_count
  count_least = omega arith

  -- without repeats, look-up undoes the tag
  pub look_up_step : (k : ℕ) → k < step_count sheet → look_up 16 sheet (step_count sheet) (step_at sheet k).tag ≡ k
  look_up_step k h =
      ap (look_up 16 sheet (step_count sheet)) (sym (tag_at_lem sheet k))
      ∙ look_up_tag_at 16 sheet (step_count sheet) (λ j q. not-true _ ((tag_means sheet j).1 (a.tags j q))) k h

  -- a jump that is there leads to the one step with its tag
  pub target_step : (k : ℕ) → k < step_count sheet → target sheet (step_at sheet k).tag ≡ k
  unfolding target
  target_step k h =
      rw (ne_eqb (step_at sheet k).tag 0 (λ z. omega (arith, (a.steps k h).tag))) (look_up_step k h)

  -- the step that a jump leads to has its tag
  pub target_tag : (jump : ℕ) → Known sheet jump → (jump ≡ 0 → ⊥) → (step_at sheet (target sheet jump)).tag ≡ jump
  target_tag jump k some =
      let found = k some in
      ap (λ (t : ℕ). (step_at sheet (target sheet t)).tag) (sym found.2)
      ∙ ap (λ (i : ℕ). (step_at sheet i).tag) (target_step found.0 found.1)
      ∙ found.2

  -- every jump, there or not, leads to a step of the sheet
  pub target_within : (jump : ℕ) → Known sheet jump → target sheet jump < step_count sheet
  target_within jump k =
      elim (ℕ_discrete jump 0) [
        | yes z ↦ subst (λ (t : ℕ). t < step_count sheet) (sym (target_absent sheet jump z)) count_least
        | no z ↦ (let some = k z in subst (λ (t : ℕ). t < step_count sheet) (sym (ap (target sheet) (sym some.2) ∙ target_step some.0 some.1)) some.1)
      ]

  -- so does every exit of a step's node
  pub node_leads : (k : ℕ) → k < step_count sheet → Leads (step_count sheet) (node_at sheet k)
  unfolding node_at
  node_leads k h =
      record {
        fault = target_within _ (a.jumps k h).fault;
        sequence = target_within _ (a.jumps k h).sequence;
        timeout = target_within _ (a.jumps k h).timeout;
      }

  -- a step's node leads to step 0 by an exit that is absent
  pub node_absent : (k : ℕ) → k < step_count sheet → AbsentExits (node_at sheet k)
  unfolding node_at
  node_absent k h =
      record {
        fault = λ z. target_absent sheet _ ((a.steps k h).faultjump.0 z);
        sequence = λ z. target_absent sheet _ ((a.steps k h).sequencejump.0 z);
        timeout = λ z. target_absent sheet _ ((a.steps k h).timeoutjump.0 z);
      }
