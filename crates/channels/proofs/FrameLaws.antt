-- Laws of a frame, of a run of frames, and of a channel over one frame more. Assumes nothing.
use Prim.Native.Nat.{ℕ, ◌+◌, ◌-◌, ◌*◌, ◌≤◌, ◌<◌, min}
use mathlib.Core.Path.{◌≡◌, ap, ap₂, sym, ◌∙◌}
use mathlib.Core.List.{List}
use native.Mathlib.Numerals.{add-one}
use native.Mathlib.Omega.{arith}
use Rattle.std.proofs.lemmas.List.{take_min, drop_min}
use Rattle.std.proofs.Math.Nat.{min_comm}
use lib.ListN.{length, get_or, take, drop, length-take, length-drop, get_or-eq_default}
use lib.Seq.{drop-drop, take_all, get_or-take}
use Rattle.image.specs.declared.Group.{Group}
use Rattle.channels.specs.Channel.{channel_after}
use Rattle.channels.specs.Frame.{frame_at, sample_at}
use Rattle.channels.specs.Run.{channel_over}
use Rattle.channels.specs.declared.Channel.{Channel}
use Rattle.channels.specs.declared.Sample.{Sample}

-- ---- the bytes of frame i
module _ (frames : List ℕ) (i at : ℕ) where
  -- none past the eleventh
  pub past_frame : 11 ≤ at → 0 ≡ get_or (frame_at frames i) at 0
  unfolding frame_at
  past_frame h = sym (get_or-eq_default (take 11 (drop (11 * i) frames)) 0 (rw length-take (omega arith)))

  -- none past the end of the frames
  pub past_frames : length frames < 11 * i → 0 ≡ get_or (frame_at frames i) at 0
  unfolding frame_at
  past_frames h = sym (get_or-eq_default (take 11 (drop (11 * i) frames)) 0 (rw (length-take, length-drop) (omega arith)))

  -- else those of what is lent from its first on
  pub in_frame : at < 11 → get_or (take (length frames - 11 * i) (drop (11 * i) frames)) at 0 ≡ get_or (frame_at frames i) at 0
  unfolding frame_at
  in_frame h =
      ap (λ (l : List ℕ). get_or l at 0) (take_all (length frames - 11 * i) (drop (11 * i) frames) (rw length-drop (omega arith)))
      ∙ sym (get_or-take 11 (drop (11 * i) frames) at 0 h)

-- ---- what is left of the frames before frame i begins with its bytes, and has the next frames behind them
module _ (frames : List ℕ) (i : ℕ) {rest part : List ℕ} (left : rest ≡ drop (11 * i) frames) where
  pub first_frame : part ≡ take (min (length rest) 11) rest → part ≡ frame_at frames i
  unfolding frame_at
  first_frame is = is ∙ ap (λ (n : ℕ). take n rest) (min_comm (length rest) 11) ∙ take_min 11 rest ∙ ap (take 11) left

  pub frames_left : part ≡ drop (min (length rest) 11) rest → part ≡ drop (11 * (i + 1)) frames
  frames_left is =
      let more : 11 * i + 11 ≡ 11 * (i + 1) = omega arith in
      is
      ∙ ap (λ (n : ℕ). drop n rest) (min_comm (length rest) 11)
      ∙ drop_min 11 rest
      ∙ ap (drop 11) left
      ∙ drop-drop 11 (11 * i) frames
      ∙ ap (λ (n : ℕ). drop n frames) more

-- ---- one frame more, as a loop takes it
module _ (group : Group) (frames : List ℕ) (k : ℕ) (channel : Channel) where
  pub over_more : (i : ℕ) (sample : Sample) (before after : Channel)
      → sample ≡ sample_at group.input (frame_at frames i) k
      → before ≡ channel_over group frames k channel i
      → after ≡ channel_after group sample before
      → after ≡ channel_over group frames k channel (i + 1)
  unfolding channel_over
  over_more i sample before after pins reached step =
      step ∙ ap₂ (channel_after group) pins reached ∙ ap (channel_over group frames k channel) (sym (add-one i))
