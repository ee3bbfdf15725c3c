-- A tick keeps the state accepted, and so does a run from the start; VP and VH never move a logic field. Assumes nothing.
use Prim.Native.Nat.{ℕ, zero, suc, ◌<◌}
use mathlib.Core.Path.{◌≡◌, ap, sym, subst}
use mathlib.Core.Bool.{false}
use mathlib.Core.List.{List}
use native.Mathlib.Omega.{arith}
use borrow.Author.Tests.{lt-leb}
use Rattle.records.specs.Verdicts.{accepted}
use Rattle.image.specs.Reading.{group_at}
use Rattle.writing.specs.Writing.{settings_verdict}
use Rattle.image.specs.declared.Input.{Input}
use Rattle.image.specs.declared.Settings.{Settings}
use Rattle.channels.specs.Frame.{frame_at, level_at, sample_at}
use Rattle.detectors.specs.Bank.{channel_at, bank_after, start_bank, bank_verdict}
use Rattle.detectors.specs.Tick.{bank_at}
use Rattle.detectors.specs.declared.Bank.{Bank}
use Rattle.records.proofs.VerdictLaws.{number_of}
use Rattle.detector_laws.proofs.AcceptedSettings.{accepted_logic}
use Rattle.detector_laws.proofs.ChannelRange.{Quiet, InRange, range_kept, range_start}
use Rattle.detector_laws.proofs.BankRange.{channel_after_lem, channel_start, channels_accepted, accepted_channels}

-- VP and VH have no level
low_level : (input : Input) (frame : List ℕ) (k : ℕ) → k < 5 → (sample_at input frame k).level ≡ false
unfolding sample_at level_at
low_level input frame k below = rw (lt-leb 5 k below)

-- under accepted settings, a tick on any frame takes an accepted bank to an accepted bank
pub state_kept : (settings : Settings) (frame : List ℕ) (bank : Bank) → (settings_verdict settings).number ≡ 0 → bank_verdict settings bank ≡ accepted
    → bank_verdict settings (bank_after settings frame bank) ≡ accepted
state_kept settings frame bank good held = channels_accepted settings (bank_after settings frame bank) after
  where
    after : (k : ℕ) → k < 10 → InRange k (group_at settings k) (channel_at (bank_after settings frame bank) k)
    after k below =
        subst (InRange k (group_at settings k)) (sym (channel_after_lem settings frame bank k below))
        (range_kept k (group_at settings k) (sample_at (group_at settings k).input frame k) (channel_at bank k) (accepted_logic settings good k below)
        (low_level (group_at settings k).input frame k)
        (accepted_channels settings bank (ap number_of held) k below))

-- the start is accepted under all accepted settings
pub start_accepted : (settings : Settings) → (settings_verdict settings).number ≡ 0 → bank_verdict settings start_bank ≡ accepted
start_accepted settings good = channels_accepted settings start_bank start
  where
    start : (k : ℕ) → k < 10 → InRange k (group_at settings k) (channel_at start_bank k)
    start k below =
        subst (InRange k (group_at settings k)) (sym (channel_start k below))
        (range_start k (group_at settings k) (accepted_logic settings good k below))

-- the bank after any number of frames is accepted where the first one was
pub run_kept : (settings : Settings) (frames : List ℕ) (bank : Bank) → (settings_verdict settings).number ≡ 0 → bank_verdict settings bank ≡ accepted
    → (n : ℕ) → bank_verdict settings (bank_at settings frames bank n) ≡ accepted
unfolding bank_at
run_kept settings frames bank good held zero = held
run_kept settings frames bank good held (suc n) = state_kept settings (frame_at frames n) _ good (run_kept settings frames bank good held n)

-- a run from the start, of any frames, only meets accepted banks
pub run_accepted : (settings : Settings) (frames : List ℕ) (n : ℕ) → (settings_verdict settings).number ≡ 0
    → bank_verdict settings (bank_at settings frames start_bank n) ≡ accepted
run_accepted settings frames n good = run_kept settings frames start_bank good (start_accepted settings good) n

-- on VP and VH every logic field of a run from the start is false and zero
pub logic_quiet : (settings : Settings) (frames : List ℕ) (n k : ℕ) → (settings_verdict settings).number ≡ 0 → k < 5
    → Quiet (channel_at (bank_at settings frames start_bank n) k)
logic_quiet settings frames n k good below =
    let bank = bank_at settings frames start_bank n in
    (accepted_channels settings bank (ap number_of (run_accepted settings frames n good)) k (omega arith)).still below
