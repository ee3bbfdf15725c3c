-- One channel over a run of frames, by itself. Assumes nothing.
use Rattle.std.specs.Prelude.{ℕ, zero, suc, ◌-◌, List}
use Rattle.image.specs.declared.Group.{Group}
use Rattle.channels.specs.Channel.{channel_after, fault_bit, warning_bit}
use Rattle.channels.specs.Frame.{frame_at, sample_at}
use Rattle.channels.specs.declared.Channel.{Channel}
use Rattle.channels.specs.declared.Ran.{Ran}

-- channel k after the first n frames
unfoldable pub channel_over : Group → List ℕ → ℕ → Channel → ℕ → Channel
channel_over group frames k channel zero = channel
channel_over group frames k channel (suc n) =
    channel_after group (sample_at group.input (frame_at frames n) k) (channel_over group frames k channel n)

-- with its two bits on the last of them
unfoldable pub ran_over : Group → List ℕ → ℕ → Channel → ℕ → Ran
ran_over group frames k channel n =
    let before = channel_over group frames k channel (n - 1) in
    let after = channel_over group frames k channel n in
    record { channel = after; fault = fault_bit group before after; warning = warning_bit group before after }
