-- "A channel's two bits depend on its group and its pins only": two runs from the start that agree on these, accepted or not. Assumes nothing.
use Prim.Native.Nat.{ℕ, zero, suc, ◌-◌, ◌≤◌, ◌<◌}
use mathlib.Core.Path.{◌≡◌, refl, ap, sym, ◌∙◌}
use mathlib.Core.Bool.{Bool, cond}
use mathlib.Core.List.{List}
use native.Mathlib.Omega.{arith}
use lib.ListN.{get_or}
use Rattle.records.specs.Bits.{bits}
use Rattle.records.proofs.WordLaws.{word_of_bit}
use Rattle.image.specs.Reading.{group_at}
use Rattle.image.specs.declared.Input.{Input}
use Rattle.image.specs.declared.Input.TheVariants.{VpMid, VpLow, VpUltralow, VhLow, VhHigh, AnalogFault, LogicFault, LogicFaultAnalogWarning, NoFunction}
use Rattle.image.specs.declared.Group.{Group}
use Rattle.image.specs.declared.Settings.{Settings}
use Rattle.channels.specs.Channel.{channel_after, fault_bit, warning_bit}
use Rattle.channels.specs.Frame.{frame_at, measured, level_at, sample_at}
use Rattle.detectors.specs.Bank.{channel_at, faults_of, warnings_of, start_bank}
use Rattle.detectors.specs.Tick.{bank_at, words_at}
use Rattle.detectors.specs.declared.Words.{Words}
use Rattle.detector_laws.proofs.BankRange.{channel_after_lem}

-- ---- what the two runs must agree on: over n frames, "the group, the own sample and level, and with function 2 the sister's sample"
pub record Agree (k n : ℕ) (s t : Settings) (f g : List ℕ) : Type 0 where
  pub group : group_at s k ≡ group_at t k
  pub sample : (i : ℕ) → i < n → get_or (frame_at f i) k 0 ≡ get_or (frame_at g i) k 0
  pub level : (i : ℕ) → i < n → level_at (frame_at f i) k ≡ level_at (frame_at g i) k
  pub sister : (group_at s k).input ≡ LogicFaultAnalogWarning → (i : ℕ) → i < n → get_or (frame_at f i) (k - 5) 0 ≡ get_or (frame_at g i) (k - 5) 0

-- ---- what they have in common then
-- channel k's two bits of two ticks
pub record SameBits (k : ℕ) (v w : Words) : Type 0 where
  pub faults : bits v.faults k 1 ≡ bits w.faults k 1
  pub warnings : bits v.warnings k 1 ≡ bits w.warnings k 1

-- ---- the sample that a channel measures
same_value : (input : Input) (k : ℕ) (f g : List ℕ) → get_or f k 0 ≡ get_or g k 0 → (input ≡ LogicFaultAnalogWarning → get_or f (k - 5) 0 ≡ get_or g (k - 5) 0)
    → get_or f (measured input k) 0 ≡ get_or g (measured input k) 0
same_value VpMid k f g own sister = own
same_value VpLow k f g own sister = own
same_value VpUltralow k f g own sister = own
same_value VhLow k f g own sister = own
same_value VhHigh k f g own sister = own
same_value AnalogFault k f g own sister = own
same_value LogicFault k f g own sister = own
same_value LogicFaultAnalogWarning k f g own sister = sister refl
same_value NoFunction k f g own sister = own

same_sample : (input : Input) (k : ℕ) (f g : List ℕ) → get_or f k 0 ≡ get_or g k 0 → level_at f k ≡ level_at g k
    → (input ≡ LogicFaultAnalogWarning → get_or f (k - 5) 0 ≡ get_or g (k - 5) 0) → sample_at input f k ≡ sample_at input g k
unfolding sample_at
same_sample input k f g own level sister = λ i. record { value = same_value input k f g own sister i; level = level i }

sample_agrees : (k n : ℕ) (s t : Settings) (f g : List ℕ) → Agree k n s t f g → (i : ℕ) → i < n
    → sample_at (group_at s k).input (frame_at f i) k ≡ sample_at (group_at t k).input (frame_at g i) k
sample_agrees k n s t f g agree i h =
    same_sample (group_at s k).input k (frame_at f i) (frame_at g i) (agree.sample i h) (agree.level i h) (λ two. agree.sister two i h)
    ∙ ap (λ (group : Group). sample_at group.input (frame_at g i) k) agree.group

-- ---- the rule
-- over any number of ticks the channel's state is the same
pub same_channel : (k n : ℕ) (s t : Settings) (f g : List ℕ) → k < 10 → Agree k n s t f g → (i : ℕ) → i ≤ n
    → channel_at (bank_at s f start_bank i) k ≡ channel_at (bank_at t g start_bank i) k
unfolding bank_at
same_channel k n s t f g below agree zero h = refl
same_channel k n s t f g below agree (suc i) h =
    let earlier = same_channel k n s t f g below agree i (omega arith) in
    channel_after_lem s (frame_at f i) (bank_at s f start_bank i) k below
    ∙ (λ j. channel_after (agree.group j) (sample_agrees k n s t f g agree i h j) (earlier j))
    ∙ sym (channel_after_lem t (frame_at g i) (bank_at t g start_bank i) k below)

-- channel k's fault on tick i of a run from the start
unfoldable pub fault_at : Settings → List ℕ → ℕ → ℕ → Bool
fault_at settings frames i k =
    fault_bit (group_at settings k) (channel_at (bank_at settings frames start_bank i) k) (channel_at (bank_at settings frames start_bank (suc i)) k)

-- and its warning
unfoldable pub warning_at : Settings → List ℕ → ℕ → ℕ → Bool
warning_at settings frames i k =
    warning_bit (group_at settings k) (channel_at (bank_at settings frames start_bank i) k) (channel_at (bank_at settings frames start_bank (suc i)) k)

-- the fault is bit k of that tick's fault word
pub fault_is_bit : (settings : Settings) (frames : List ℕ) (i k : ℕ) → k < 10
    → bits (words_at settings frames start_bank i).faults k 1 ≡ cond (fault_at settings frames i k) 1 0
unfolding words_at faults_of fault_at
fault_is_bit settings frames i k below = word_of_bit (fault_at settings frames i) 10 k below

-- the warning is bit k of that tick's warning word
pub warning_is_bit : (settings : Settings) (frames : List ℕ) (i k : ℕ) → k < 10
    → bits (words_at settings frames start_bank i).warnings k 1 ≡ cond (warning_at settings frames i k) 1 0
unfolding words_at warnings_of warning_at
warning_is_bit settings frames i k below = word_of_bit (warning_at settings frames i) 10 k below

module _ (k n : ℕ) (s t : Settings) (f g : List ℕ) (below : k < 10) (agree : Agree k n s t f g) (i : ℕ) (h : i < n) where
  -- on every tick the channel's fault is the same
  pub same_fault : fault_at s f i k ≡ fault_at t g i k
  unfolding fault_at
  same_fault =
      λ j. fault_bit (agree.group j) (same_channel k n s t f g below agree i (omega arith) j) (same_channel k n s t f g below agree (suc i) h j)

  -- and so is its warning
  pub same_warning : warning_at s f i k ≡ warning_at t g i k
  unfolding warning_at
  same_warning =
      λ j. warning_bit (agree.group j) (same_channel k n s t f g below agree i (omega arith) j) (same_channel k n s t f g below agree (suc i) h j)

  -- bit k of the two ticks' fault words is the same, and so is that of their warning words
  pub same_bits : SameBits k (words_at s f start_bank i) (words_at t g start_bank i)
  same_bits =
      record {
        faults = fault_is_bit s f i k below ∙ ap (λ (b : Bool). cond b 1 0) same_fault ∙ sym (fault_is_bit t g i k below);
        warnings = warning_is_bit s f i k below ∙ ap (λ (b : Bool). cond b 1 0) same_warning ∙ sym (warning_is_bit t g i k below);
      }
