-- What accepted settings say of the logic part of each group. Assumes nothing.
use Prim.Native.Nat.{ℕ, zero, suc, ◌+◌, ◌*◌, ◌/◌, ◌%◌, ◌≤◌, ◌<◌}
use mathlib.Core.Path.{◌≡◌, refl, sym, ◌∙◌}
use mathlib.Core.Bool.{Bool, true, false, not, ◌||◌, true≢false}
use mathlib.Core.List.{List}
use native.Mathlib.Omega.{arith}
use native.Mathlib.Nat.{suc-ne-zero}
use borrow.Author.Tests.{eqb-true, not-false, lt-leb, le-leb}
use lib.Dec.{eqb, lit<, lit≤}
use lib.ListN.{length, get_or}
use Rattle.records.specs.Verdicts.{refused_unless}
use Rattle.image.specs.Codes.{code_number, pulses}
use Rattle.image.specs.Reading.{group_at, no_logic}
use Rattle.writing.specs.Writing.{setting_byte, settings_verdict, code_verdict, group_bytes, logic_byte, pin_logic_byte, has_logic}
use Rattle.image.specs.declared.Logic.{Logic}
use Rattle.image.specs.declared.Settings.{Settings}
use Rattle.channels.specs.Channel.{ticks}
use Rattle.records.proofs.VerdictLaws.{accepted_tests}

-- a value stands in a table
pub record Listed (table : List ℕ) (value : ℕ) : Type 0 where
  pub code : ℕ
  pub known : code < length table
  pub means : get_or table code 0 ≡ value

-- the logic part of group k of accepted settings: none on VP and VH, a pulse of the table on VX
pub record AcceptedLogic (k : ℕ) (logic : Logic) : Type 0 where
  pub vp_vh_none : k < 5 → logic ≡ no_logic
  pub vx_pulse : 5 ≤ k → Listed pulses logic.pulse

-- ---- from the verdict to byte 6 of group k
number_zero : (number place : ℕ) → (refused_unless (eqb number 0) number place).number ≡ 0 → number ≡ 0
number_zero number place h = go (eqb number 0) refl
  where
    go : (b : Bool) → eqb number 0 ≡ b → number ≡ 0
    go true e = eqb-true number 0 e
    go false e = rw e at h

byte_accepted : (settings : Settings) → (settings_verdict settings).number ≡ 0 → (address : ℕ) → address < 80
    → code_number (setting_byte settings address) ≡ 0
unfolding settings_verdict
byte_accepted settings h address below =
    number_zero (code_number (setting_byte settings address)) address
    (accepted_tests (λ a. code_verdict (setting_byte settings a) a) 80 h address below)

logic_byte_lem : (settings : Settings) → (settings_verdict settings).number ≡ 0 → (k : ℕ) → k < 10
    → code_number (logic_byte k (group_at settings k).logic) ≡ 0
unfolding setting_byte group_bytes
logic_byte_lem settings h k below =
    let group : (8 * k + 6) / 8 ≡ k = omega arith in
    let byte : (8 * k + 6) % 8 ≡ 6 = omega arith in
    rw (group, byte) at (byte_accepted settings h (8 * k + 6) (omega arith))

-- ---- from byte 6 to the logic part
neither : (a b : Bool) → (a || b) ≡ false → (a ≡ false) × (b ≡ false)
neither true b h = absurd (true≢false h)
neither false b h = (refl, h)

no_logic_lem : (logic : Logic) → has_logic logic ≡ false → logic ≡ no_logic
unfolding has_logic
no_logic_lem logic h =
    let last = neither (logic.invert || logic.edge || not (eqb logic.pulse 0)) (not (eqb logic.delay 0)) h in
    let third = neither (logic.invert || logic.edge) (not (eqb logic.pulse 0)) last.0 in
    let first = neither logic.invert logic.edge third.0 in
    let pulse : logic.pulse ≡ 0 = eqb-true logic.pulse 0 (not-false _ third.1) in
    let delay : logic.delay ≡ 0 = eqb-true logic.delay 0 (not-false _ last.1) in
    λ i. record { invert = first.0 i; edge = first.1 i; pulse = pulse i; delay = delay i }

quiet_logic : (k : ℕ) (logic : Logic) → k < 5 → code_number (logic_byte k logic) ≡ 0 → logic ≡ no_logic
unfolding logic_byte
quiet_logic k logic below h = no_logic_lem logic (go (has_logic logic) refl)
  where
    go : (b : Bool) → has_logic logic ≡ b → has_logic logic ≡ false
    go true e = absurd (suc-ne-zero 3 (rw (lt-leb 5 k below, e) at h))
    go false e = e

unlisted : (k : ℕ) (logic : Logic) → 5 ≤ k → eqb 10 logic.pulse ≡ false → eqb 100 logic.pulse ≡ false
    → eqb 1000 logic.pulse ≡ false → eqb 10000 logic.pulse ≡ false → code_number (logic_byte k logic) ≡ 4
unfolding logic_byte pin_logic_byte
unlisted k logic vx a b c d = rw (le-leb 5 k vx, a, b, c, d)

pin_logic : (k : ℕ) (logic : Logic) → 5 ≤ k → code_number (logic_byte k logic) ≡ 0 → Listed pulses logic.pulse
pin_logic k logic vx h =
    go (eqb 10 logic.pulse) (eqb 100 logic.pulse) (eqb 1000 logic.pulse) (eqb 10000 logic.pulse) refl refl refl refl
  where
    go : (a b c d : Bool) → eqb 10 logic.pulse ≡ a → eqb 100 logic.pulse ≡ b → eqb 1000 logic.pulse ≡ c → eqb 10000 logic.pulse ≡ d
        → Listed pulses logic.pulse
    go true b c d p q r s = record { code = 0; known = lit< tt; means = eqb-true _ _ p }
    go false true c d p q r s = record { code = 1; known = lit< tt; means = eqb-true _ _ q }
    go false false true d p q r s = record { code = 2; known = lit< tt; means = eqb-true _ _ r }
    go false false false true p q r s = record { code = 3; known = lit< tt; means = eqb-true _ _ s }
    go false false false false p q r s = absurd (suc-ne-zero 3 (sym (unlisted k logic vx p q r s) ∙ h))

-- every group of accepted settings
pub accepted_logic : (settings : Settings) → (settings_verdict settings).number ≡ 0 → (k : ℕ) → k < 10 → AcceptedLogic k (group_at settings k).logic
accepted_logic settings h k below =
    let byte = logic_byte_lem settings h k below in
    record {
      vp_vh_none = λ lower. quiet_logic k (group_at settings k).logic lower byte;
      vx_pulse = λ vx. pin_logic k (group_at settings k).logic vx byte;
    }

-- ---- what the detectors take from it
pulse_low : (code : ℕ) → code < 4 → 10 ≤ get_or pulses code 0
pulse_low zero h = lit≤ tt
pulse_low (suc zero) h = lit≤ tt
pulse_low (suc (suc zero)) h = lit≤ tt
pulse_low (suc (suc (suc zero))) h = lit≤ tt
pulse_low (suc (suc (suc (suc code)))) h = let none : ⊥ = omega arith in absurd none

-- a pulse of the table lasts two ticks or more
pub pulse_lasts : (pulse : ℕ) → Listed pulses pulse → 2 ≤ ticks pulse
unfolding ticks
pulse_lasts pulse listed = omega (arith, pulse_low listed.code listed.known, listed.means)
