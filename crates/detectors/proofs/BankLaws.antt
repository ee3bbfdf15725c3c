-- Laws of ten channels. Assumes nothing.
use Prim.Native.Nat.{ℕ}
use mathlib.Core.Path.{◌≡◌, ap, ap₂, ◌∙◌}
use mathlib.Core.Bool.{Bool}
use mathlib.Core.List.{List}
use lib.ListN.{length}
use mir.Val.{Val}
use denote.Laws.{Is as Owned}
use denote.Struct.Declared.{row}
use Rattle.records.specs.Numbers.{unreachable}
use Rattle.records.specs.Verdicts.{refused_unless}
use Rattle.records.specs.declared.Verdict.{Verdict}
use Rattle.image.specs.Reading.{group_at}
use Rattle.image.specs.declared.Group.{Group}
use Rattle.channels.specs.declared.Channel.{Channel}
use Rattle.image.specs.declared.Settings.{Settings}
use Rattle.detectors.specs.Bank.{channel_at, in_range}
use Rattle.detectors.specs.declared.Bank.{Bank}
use Rattle.detectors.specs.contracts.Bank.{the_type}

-- ---- what owning a bank tells of its array
pub ten_channels : (bank : Bank) (values : List Val) → Owned (row the_type) bank values → length bank.channels ≡ 10
ten_channels bank values owned = owned.1.1.0.1.0.1

-- ---- number 8: the test of channel k, and the same as the code makes it
abbrev pub channel_test : Settings → Bank → ℕ → Verdict
channel_test settings bank k = refused_unless (in_range k (group_at settings k) (channel_at bank k)) unreachable k

pub tested : (settings : Settings) (bank : Bank) (k : ℕ) {group : Group} {channel : Channel} {holds : Bool} → group ≡ group_at settings k → channel ≡ channel_at bank k
    → holds ≡ in_range k group channel
    → refused_unless holds unreachable k ≡ channel_test settings bank k
tested settings bank k group channel is = ap (λ (b : Bool). refused_unless b unreachable k) (is ∙ ap₂ (in_range k) group channel)
