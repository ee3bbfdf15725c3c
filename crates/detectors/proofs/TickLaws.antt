-- Laws of ticks over a run of frames. Assumes nothing.
use Prim.Native.Nat.{ℕ, zero, suc, ◌+◌, ◌-◌, ◌*◌, ◌≤◌, ◌<◌}
use mathlib.Core.Path.{◌≡◌, refl, ap, ap₂, ◌∙◌}
use mathlib.Core.Bool.{Bool}
use mathlib.Core.List.{List, ◌++◌}
use native.Mathlib.Nat.{zero-add, not-suc-le-zero}
use native.Mathlib.Omega.{arith}
use lib.Dec.{ltb}
use lib.ListN.{length, get_or, drop}
use lib.Seq.{get_or-take, get_or-drop}
use Rattle.records.specs.Lists.{each}
use Rattle.records.specs.Numbers.{bad_word}
use Rattle.records.specs.Verdicts.{refused_unless}
use Rattle.records.specs.declared.Verdict.{Verdict}
use Rattle.records.specs.Words.{word_of}
use Rattle.records.proofs.ListLaws.{each_at, each_length, each_ext, fill_all}
use Rattle.records.proofs.WordLaws.{word_of_ext}
use Rattle.image.specs.Reading.{group_at}
use Rattle.image.specs.declared.Group.{Group}
use Rattle.image.specs.declared.Settings.{Settings}
use Rattle.channels.specs.Channel.{channel_after, fault_bit, warning_bit, start_channel}
use Rattle.channels.specs.Frame.{frame_at, sample_at}
use Rattle.detectors.specs.Bank.{channel_at, next_channel, bank_after, faults_of, warnings_of}
use Rattle.detectors.specs.Tick.{bank_at, words_at, trace, levels_in_range, no_words, words_over}
use Rattle.channels.specs.Run.{channel_over, ran_over}
use Rattle.detectors.specs.declared.Bank.{Bank}
use Rattle.detectors.specs.declared.Words.{Words}
use Rattle.channels.specs.declared.Channel.{Channel}
use Rattle.channels.specs.declared.Ran.{Ran}

-- ---- the level bytes
-- the test of frame i
abbrev pub levels_test : List ℕ → ℕ → Verdict
levels_test frames i = refused_unless (levels_in_range frames i) bad_word 0

-- the level byte of frame i, in the run
pub levels_read : (frames : List ℕ) (i : ℕ) → levels_in_range frames i ≡ ltb (get_or frames (11 * i + 10) 0) 32
unfolding levels_in_range frame_at
levels_read frames i =
    ap (λ (levels : ℕ). ltb levels 32) (get_or-take 11 (drop (11 * i) frames) 10 0 (omega arith) ∙ get_or-drop (11 * i) frames 10 0)

-- the same test as the code makes it, on the frame
pub levels_tested : (frames frame : List ℕ) (k : ℕ) {levels : ℕ} → frame ≡ frame_at frames k → levels ≡ get_or frame 10 0
    → refused_unless (ltb levels 32) bad_word 0 ≡ levels_test frames k
unfolding levels_in_range
levels_tested frames frame k is read = ap (λ (n : ℕ). refused_unless (ltb n 32) bad_word 0) (read ∙ ap (λ (l : List ℕ). get_or l 10 0) is)

-- ---- the bank: each channel goes by itself
module _ (settings : Settings) (frames : List ℕ) (bank : Bank) where
  -- channel k after n frames by itself
  abbrev pub alone : ℕ → ℕ → Channel
  alone k n = channel_over (group_at settings k) frames k (channel_at bank k) n

  pub bank_alone : (k n : ℕ) → k < 10 → channel_at (bank_at settings frames bank n) k ≡ alone k n
  unfolding bank_at bank_after channel_over
  bank_alone k zero h = refl
  bank_alone k (suc n) h =
      each_at (next_channel settings (frame_at frames n) (bank_at settings frames bank n)) 0 10 k start_channel h
      ∙ ap (next_channel settings (frame_at frames n) (bank_at settings frames bank n)) (zero-add k)
      ∙ ap (channel_after (group_at settings k) (sample_at (group_at settings k).input (frame_at frames n) k)) (bank_alone k n h)

  -- the bank after n frames, 1 or more
  pub bank_of_alone : (n : ℕ) → 1 ≤ n → bank_at settings frames bank n ≡ record { channels = each (λ k. alone k n) 0 10 }
  unfolding bank_at bank_after channel_over
  bank_of_alone zero h = absurd (not-suc-le-zero h)
  bank_of_alone (suc n) h =
      ap (λ (l : List Channel). record { channels = l })
      (each_ext (next_channel settings (frame_at frames n) (bank_at settings frames bank n)) (λ k. alone k (suc n)) 0 10
      (λ j p. ap (channel_after (group_at settings (0 + j)) (sample_at (group_at settings (0 + j)).input (frame_at frames n) (0 + j))) (bank_alone (0 + j) n (omega arith))))

  -- the words over n frames are those of the last
  pub words_last : (n : ℕ) → 1 ≤ n → words_over (trace settings frames bank n) ≡ words_at settings frames bank (n - 1)
  unfolding words_over trace
  words_last n h =
      ap (λ (m : ℕ). get_or (each (words_at settings frames bank) 0 n) (m - 1) no_words) (each_length (words_at settings frames bank) 0 n)
      ∙ each_at (words_at settings frames bank) 0 n (n - 1) no_words (omega arith)
      ∙ ap (words_at settings frames bank) (zero-add (n - 1))

  -- a word of one bit for each channel
  pub word_alone : (bit : Group → Channel → Channel → Bool) (n : ℕ) → 1 ≤ n
      → word_of (λ k. bit (group_at settings k) (channel_at (bank_at settings frames bank (n - 1)) k) (channel_at (bank_at settings frames bank (suc (n - 1))) k)) 10
      ≡ word_of (λ k. bit (group_at settings k) (alone k (n - 1)) (alone k n)) 10
  word_alone bit n h =
      let last : suc (n - 1) ≡ n = omega arith in
      word_of_ext _ (λ k. bit (group_at settings k) (alone k (n - 1)) (alone k n)) 10
      (λ k p. ap₂ (bit (group_at settings k)) (bank_alone k (n - 1) p) (bank_alone k (suc (n - 1)) p ∙ ap (alone k) last))

  -- every channel's run by itself gives the bank and the words
  abbrev pub ran_at : ℕ → ℕ → Ran
  ran_at n k = ran_over (group_at settings k) frames k (channel_at bank k) n

  module _ (n k : ℕ) (some : 1 ≤ n) (all : k ≡ 10) where
    pub bank_ran : (after : Bank) → length bank.channels ≡ 10 → after.channels ≡ each (λ j. (ran_at n j).channel) 0 k ++ drop k bank.channels
        → after ≡ bank_at settings frames bank n
    unfolding ran_over
    bank_ran after ten channels = rw (bank_of_alone n some, channels, all, fill_all (λ j. alone j n) bank.channels 10 ten)

    pub words_ran : (words : Words) → words.faults ≡ word_of (λ j. (ran_at n j).fault) k → words.warnings ≡ word_of (λ j. (ran_at n j).warning) k
        → words ≡ words_over (trace settings frames bank n)
    unfolding ran_over words_at faults_of warnings_of
    words_ran words fault warning =
        rw (words_last n some, word_alone fault_bit n some, word_alone warning_bit n some, fault, warning, all)
