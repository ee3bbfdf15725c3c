-- Ten channels over one frame. Assumes nothing.
use Rattle.std.specs.Prelude.{ℕ, Bool, cond, not, ◌&&◌, ◌||◌, List, ltb, leb, eqb, get_or}
use Rattle.records.specs.Words.{word_of}
use Rattle.records.specs.Lists.{each}
use Rattle.records.specs.Numbers.{unreachable}
use Rattle.records.specs.Verdicts.{refused_unless, first_refusal}
use Rattle.records.specs.declared.Verdict.{Verdict}
use Rattle.image.specs.Groups.{is_vx}
use Rattle.image.specs.Reading.{group_at}
use Rattle.image.specs.declared.Logic.{Logic}
use Rattle.image.specs.declared.Group.{Group}
use Rattle.image.specs.declared.Settings.{Settings}
use Rattle.channels.specs.Channel.{ticks, channel_after, fault_bit, warning_bit, start_channel}
use Rattle.channels.specs.Frame.{sample_at}
use Rattle.channels.specs.declared.Channel.{Channel}
use Rattle.detectors.specs.declared.Bank.{Bank}

abbrev pub channel_at : Bank → ℕ → Channel
channel_at bank k = get_or bank.channels k start_channel

-- ---- one tick

abbrev pub next_channel : Settings → List ℕ → Bank → ℕ → Channel
next_channel settings frame bank k =
    channel_after (group_at settings k) (sample_at (group_at settings k).input frame k) (channel_at bank k)

unfoldable pub bank_after : Settings → List ℕ → Bank → Bank
bank_after settings frame bank = record { channels = each (next_channel settings frame bank) 0 10 }

-- "fault and warning words (bit k for channel k)"
unfoldable pub faults_of : Settings → Bank → Bank → ℕ
faults_of settings before after = word_of (λ k. fault_bit (group_at settings k) (channel_at before k) (channel_at after k)) 10

unfoldable pub warnings_of : Settings → Bank → Bank → ℕ
warnings_of settings before after = word_of (λ k. warning_bit (group_at settings k) (channel_at before k) (channel_at after k)) 10

-- "All state starts false and zero."
unfoldable pub start_bank : Bank
start_bank = record { channels = each (λ k. start_channel) 0 10 }

-- ---- number 8: a state that the rules cannot reach by range

-- "left at or above pulse/5 on edge, or left not 0 on level"
unfoldable pub left_in_range : Logic → ℕ → Bool
left_in_range logic left = cond logic.edge (ltb left (ticks logic.pulse)) (eqb left 0)

-- "VP and VH channels hold zero and false in every logic field"
unfoldable pub quiet : Channel → Bool
quiet channel = not channel.logic.filtered && eqb channel.logic.count 0 && eqb channel.left 0

-- "a count above delay/5, or left ..."
unfoldable pub in_range : ℕ → Group → Channel → Bool
in_range k group channel =
    leb channel.analog.count (ticks group.delay)
    && leb channel.logic.count (ticks group.logic.delay)
    && left_in_range group.logic channel.left
    && (is_vx k || quiet channel)

-- "Number 8 at the lowest channel"
unfoldable pub bank_verdict : Settings → Bank → Verdict
bank_verdict settings bank = first_refusal (each (λ k. refused_unless (in_range k (group_at settings k) (channel_at bank k)) unreachable k) 0 10)
