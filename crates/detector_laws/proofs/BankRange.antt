-- Laws of the bank, channel by channel: what a frame makes of each, and which banks are accepted. Assumes nothing.
use Prim.Native.Nat.{ℕ, ◌<◌}
use mathlib.Core.Path.{◌≡◌, ap, ◌∙◌}
use mathlib.Core.List.{List}
use native.Mathlib.Nat.{zero-add, suc-ne-zero}
use Rattle.records.specs.Numbers.{unreachable}
use Rattle.records.specs.Verdicts.{accepted, refused_unless}
use Rattle.records.specs.declared.Verdict.{Verdict}
use Rattle.records.proofs.ListLaws.{each_at}
use Rattle.records.proofs.VerdictLaws.{first_accepted}
use Rattle.image.specs.Reading.{group_at}
use Rattle.image.specs.declared.Settings.{Settings}
use Rattle.channels.specs.Channel.{start_channel}
use Rattle.detectors.specs.Bank.{channel_at, next_channel, bank_after, start_bank, in_range, bank_verdict}
use Rattle.detectors.specs.declared.Bank.{Bank}
use Rattle.detector_laws.proofs.ChannelRange.{InRange, in_range_true, true_in_range}
use Rattle.records.proofs.VerdictLaws.{Lowest, unless_zero, unless_refused, tests_accepted, accepted_tests, lowest_shows}

-- ---- one channel of the bank
-- channel k of the bank after a frame
pub channel_after_lem : (settings : Settings) (frame : List ℕ) (bank : Bank) (k : ℕ) → k < 10
    → channel_at (bank_after settings frame bank) k ≡ next_channel settings frame bank k
unfolding bank_after
channel_after_lem settings frame bank k below =
    each_at (next_channel settings frame bank) 0 10 k start_channel below ∙ ap (next_channel settings frame bank) (zero-add k)

-- channel k of the start
pub channel_start : (k : ℕ) → k < 10 → channel_at start_bank k ≡ start_channel
unfolding start_bank
channel_start k below = each_at (λ k. start_channel) 0 10 k start_channel below

-- ---- the verdict
-- the test of channel k
abbrev pub channel_test : Settings → Bank → ℕ → Verdict
channel_test settings bank k = refused_unless (in_range k (group_at settings k) (channel_at bank k)) unreachable k

module _ (settings : Settings) (bank : Bank) where
  -- accepted exactly when every channel is in range
  pub channels_accepted : ((k : ℕ) → k < 10 → InRange k (group_at settings k) (channel_at bank k)) → bank_verdict settings bank ≡ accepted
  unfolding bank_verdict
  channels_accepted h =
      tests_accepted (channel_test settings bank) 10 (λ k below. rw (in_range_true k (group_at settings k) (channel_at bank k) (h k below)))

  -- and the other way
  pub accepted_channels : (bank_verdict settings bank).number ≡ 0 → (k : ℕ) → k < 10 → InRange k (group_at settings k) (channel_at bank k)
  unfolding bank_verdict
  accepted_channels h k below =
      true_in_range k (group_at settings k) (channel_at bank k)
      (unless_zero (in_range k (group_at settings k) (channel_at bank k)) unreachable k (suc-ne-zero 7)
      (accepted_tests (channel_test settings bank) 10 h k below))

  -- number 0 comes with place 0
  pub bank_zero : (bank_verdict settings bank).number ≡ 0 → bank_verdict settings bank ≡ accepted
  unfolding bank_verdict
  bank_zero h = first_accepted _ h

  -- "Number 8 at the lowest channel"
  pub lowest_channel : (k : ℕ) → Lowest (channel_test settings bank) 10 k → bank_verdict settings bank ≡ record { number = unreachable; place = k }
  unfolding bank_verdict
  lowest_channel k lowest =
      lowest_shows (channel_test settings bank) 10 k lowest
      ∙ unless_refused (in_range k (group_at settings k) (channel_at bank k)) unreachable k lowest.refuses
