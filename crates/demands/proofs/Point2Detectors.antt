-- The second point, faults and warnings: the detectors by the paper's rules, and the rule that a channel's two bits depend on its group and its pins alone.
-- `detected_over 1` is what `detectors::tick` answers, `detected_over 20` what `detectors::engine_tick` answers. Assumes nothing.
use Prim.Native.Nat.{ℕ, ◌*◌, ◌≤◌, ◌<◌}
use mathlib.Core.Path.{◌≡◌}
use mathlib.Core.List.{List}
use mathlib.Core.Logic.{◌↔◌}
use Rattle.records.specs.Numbers.{unreachable}
use Rattle.records.specs.Verdicts.{accepted}
use Rattle.image.specs.Reading.{group_at}
use Rattle.writing.specs.Writing.{settings_verdict}
use Rattle.image.specs.declared.Settings.{Settings}
use Rattle.detectors.specs.Bank.{start_bank, bank_after, bank_verdict, channel_at}
use Rattle.channels.specs.Frame.{frame_at}
use Rattle.detectors.specs.Tick.{bank_at, frames_verdict, refused_on, detected_over, ticked, engine_ticked}
use Rattle.detectors.specs.declared.Bank.{Bank}
use Rattle.detector_laws.proofs.Release.{ReleaseLevels}
use Rattle.detector_laws.proofs.Release as release
use Rattle.detector_laws.proofs.ChannelRange.{Quiet}
use Rattle.detector_laws.proofs.StateKept as state
use Rattle.detector_laws.proofs.ChannelRule.{Agree, SameBits}
use Rattle.detector_laws.proofs.ChannelRule as rule
use Rattle.detector_laws.proofs.EngineRule.{part_at, engine_bank_at}
use Rattle.detector_laws.proofs.EngineRule as engine_rule
use Rattle.detector_laws.proofs.Refusals.{Acceptable}
use Rattle.detector_laws.proofs.Refusals as refusals
use Rattle.detector_laws.proofs.Calls.{AcceptedRun, words_of}
use Rattle.detector_laws.proofs.Calls as calls

-- ---- release levels

-- The release levels lie in 0 to 255.
pub release_levels : (settings : Settings) (k : ℕ) → (group_at settings k).over.level < 256
    → ReleaseLevels (group_at settings k).over (group_at settings k).under
release_levels = release.release_levels

-- ---- states

-- The start is accepted under all accepted settings.
pub start_accepted : (settings : Settings) → (settings_verdict settings).number ≡ 0 → bank_verdict settings start_bank ≡ accepted
start_accepted = state.start_accepted

-- An accepted bank is accepted again after any frame, under the same settings.
pub state_kept : (settings : Settings) (frame : List ℕ) (bank : Bank) → (settings_verdict settings).number ≡ 0 → bank_verdict settings bank ≡ accepted
    → bank_verdict settings (bank_after settings frame bank) ≡ accepted
state_kept = state.state_kept

-- The bank that an accepted call answers is accepted again.
pub accepted_again : (n : ℕ) (settings : Settings) (bank : Bank) (frames : List ℕ) → (detected_over n settings bank frames).verdict.number ≡ 0
    → bank_verdict settings (detected_over n settings bank frames).bank ≡ accepted
accepted_again = calls.accepted_again

-- So a run from the start is never refused 8.
pub never_unreachable : (settings : Settings) (frames : List ℕ) (n : ℕ) → (settings_verdict settings).number ≡ 0 → (m : ℕ) (more : List ℕ)
    → ¬ ((detected_over m settings (bank_at settings frames start_bank n) more).verdict.number ≡ unreachable)
never_unreachable = calls.never_unreachable

-- On VP and VH every logic field stays zero and false.
pub logic_quiet : (settings : Settings) (frames : List ℕ) (n k : ℕ) → (settings_verdict settings).number ≡ 0 → k < 5
    → Quiet (channel_at (bank_at settings frames start_bank n) k)
logic_quiet = state.logic_quiet

-- ---- the channel rule

-- Two runs from the start that agree on a channel's group, own sample and level, and under function 2 on the sister's sample, have the same channel state.
pub same_channel : (k n : ℕ) (s t : Settings) (f g : List ℕ) → k < 10 → Agree k n s t f g → (i : ℕ) → i ≤ n
    → channel_at (bank_at s f start_bank i) k ≡ channel_at (bank_at t g start_bank i) k
same_channel = rule.same_channel

-- Where both runs are accepted, the two bits of the channel are the same in the answers of every tick.
pub same_bits : (k n : ℕ) (s t : Settings) (f g : List ℕ) → k < 10 → AcceptedRun n s f → AcceptedRun n t g → Agree k n s t f g → (i : ℕ) → i < n
    → SameBits k (words_of (ticked s (bank_at s f start_bank i) (frame_at f i))) (words_of (ticked t (bank_at t g start_bank i) (frame_at g i)))
same_bits = calls.ticks_same_bits

-- The same for engine ticks: the channel's state,
pub engine_same_channel : (k m : ℕ) (s t : Settings) (f g : List ℕ) → k < 10 → Agree k (20 * m) s t f g → (e : ℕ) → e ≤ m
    → channel_at (engine_bank_at s f start_bank e) k ≡ channel_at (engine_bank_at t g start_bank e) k
engine_same_channel = engine_rule.engine_same_channel

-- and its two bits in the answers of every engine tick.
pub engine_same_bits : (k m : ℕ) (s t : Settings) (f g : List ℕ) → k < 10 → AcceptedRun (20 * m) s f → AcceptedRun (20 * m) t g
    → Agree k (20 * m) s t f g → (e : ℕ) → e < m
    → SameBits k (words_of (engine_ticked s (engine_bank_at s f start_bank e) (part_at f e))) (words_of (engine_ticked t (engine_bank_at t g start_bank e) (part_at g e)))
engine_same_bits = calls.engine_ticks_same_bits

-- ---- which calls are accepted

-- A call on n frames is accepted exactly when the length, the settings, the bank and all n level bytes are.
pub accepted_exactly : (n : ℕ) (settings : Settings) (bank : Bank) (frames : List ℕ)
    → ((detected_over n settings bank frames).verdict.number ≡ 0) ↔ Acceptable n settings bank frames
accepted_exactly = refusals.accepted_exactly

-- A refused call gives back the bank that it received, and zero words: that is `refused_on`.
pub call_refused : (n : ℕ) (settings : Settings) (bank : Bank) (frames : List ℕ) → ¬ ((frames_verdict n settings bank frames).number ≡ 0)
    → detected_over n settings bank frames
    ≡ refused_on (frames_verdict n settings bank frames) bank
call_refused = refusals.refused_answer
