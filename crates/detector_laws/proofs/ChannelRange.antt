-- Laws of one channel: what its range says, and that a tick keeps it. Assumes nothing.
use Prim.Native.Nat.{ℕ, ◌-◌, ◌≤◌, ◌<◌}
use mathlib.Core.Path.{◌≡◌, refl, ap, sym, ◌∙◌}
use mathlib.Core.Bool.{Bool, true, false, cond, not, ◌&&◌, ◌||◌, beq, xor, and-eq-true_iff, true≢false}
use native.Mathlib.Omega.{arith}
use native.Mathlib.Decide.{dec_lt}
use borrow.Author.Tests.{ltb-true, leb-true, leb-false, eqb-true, not-true, lt-ltb, le-leb, lt-leb}
use lib.Dec.{leb, eqb}
use Rattle.image.specs.Groups.{is_vx}
use Rattle.image.specs.Reading.{no_logic}
use Rattle.image.specs.declared.Logic.{Logic}
use Rattle.image.specs.declared.Group.{Group}
use Rattle.channels.specs.Channel.{ticks, filter_after, logic_after, pulse_now, left_after, channel_after, start_filter, start_channel}
use Rattle.detectors.specs.Bank.{left_in_range, quiet, in_range}
use Rattle.channels.specs.declared.Channel.{Channel}
use Rattle.channels.specs.declared.Filter.{Filter}
use Rattle.channels.specs.declared.Sample.{Sample}
use Rattle.detector_laws.proofs.AcceptedSettings.{AcceptedLogic, pulse_lasts}

-- ---- what the range says
-- nothing of the logic part has moved
pub record Quiet (channel : Channel) : Type 0 where
  pub logic : channel.logic ≡ start_filter
  pub left : channel.left ≡ 0

-- the four tests of channel k
pub record InRange (k : ℕ) (group : Group) (channel : Channel) : Type 0 where
  pub analog : channel.analog.count ≤ ticks group.delay
  pub logic : channel.logic.count ≤ ticks group.logic.delay
  pub left : left_in_range group.logic channel.left ≡ true
  pub still : k < 5 → Quiet channel

quiet_true : (channel : Channel) → Quiet channel → quiet channel ≡ true
unfolding quiet
quiet_true channel h = rw (h.logic, h.left)

true_quiet : (channel : Channel) → quiet channel ≡ true → Quiet channel
unfolding quiet
true_quiet channel h =
    let both = (and-eq-true_iff (not channel.logic.filtered && eqb channel.logic.count 0) (eqb channel.left 0)).0 h in
    let filter = (and-eq-true_iff (not channel.logic.filtered) (eqb channel.logic.count 0)).0 both.0 in
    let filtered : channel.logic.filtered ≡ false = not-true _ filter.0 in
    let count : channel.logic.count ≡ 0 = eqb-true _ _ filter.1 in
    record { logic = λ i. record { filtered = filtered i; count = count i }; left = eqb-true _ _ both.1 }

still_true : (k : ℕ) (channel : Channel) → (k < 5 → Quiet channel) → (is_vx k || quiet channel) ≡ true
still_true k channel h =
    elim (dec_lt k 5) [
      | yes below ↦ rw (lt-leb 5 k below, quiet_true channel (h below))
      | no above ↦ (let vx : 5 ≤ k = omega arith in rw (le-leb 5 k vx))
    ]

true_still : (k : ℕ) (channel : Channel) → (is_vx k || quiet channel) ≡ true → k < 5 → Quiet channel
true_still k channel h below = true_quiet channel (rw (lt-leb 5 k below) at h)

-- the tests pass exactly when they say so
pub in_range_true : (k : ℕ) (group : Group) (channel : Channel) → InRange k group channel → in_range k group channel ≡ true
unfolding in_range
in_range_true k group channel h =
    rw (le-leb _ _ h.analog, le-leb _ _ h.logic, h.left) (still_true k channel h.still)

-- and the other way
pub true_in_range : (k : ℕ) (group : Group) (channel : Channel) → in_range k group channel ≡ true → InRange k group channel
unfolding in_range
true_in_range k group channel h =
    let last = (and-eq-true_iff _ _).0 h in
    let third = (and-eq-true_iff _ _).0 last.0 in
    let first = (and-eq-true_iff _ _).0 third.0 in
    record {
      analog = leb-true _ _ first.0;
      logic = leb-true _ _ first.1;
      left = third.1;
      still = true_still k channel last.1;
    }

-- ---- a filter
-- whatever it held, a filter's count is in range after a sample
pub filter_in_range : (delay : ℕ) (raw : Bool) (filter : Filter) → (filter_after delay raw filter).count ≤ ticks delay
unfolding filter_after
filter_in_range delay raw filter = go (beq raw filter.filtered) (leb (ticks delay) filter.count) refl refl
  where
    go : (same reached : Bool) → beq raw filter.filtered ≡ same → leb (ticks delay) filter.count ≡ reached
        → (filter_after delay raw filter).count ≤ ticks delay
    go true reached p q = rw p (omega arith)
    go false true p q = rw (p, q) (omega arith)
    go false false p q = rw (p, q) (omega (arith, leb-false (ticks delay) filter.count q))

-- ---- a pulse
one_less : (rise : Bool) (pulse left : ℕ) → 2 ≤ pulse → left < pulse → cond rise pulse left - 1 < pulse
one_less true pulse left h below = omega arith
one_less false pulse left h below = omega arith

-- what is left stays in range, where a pulse on edge lasts
pub left_kept : (logic : Logic) (before after : Filter) (left : ℕ) → (logic.edge ≡ true → 2 ≤ ticks logic.pulse)
    → left_in_range logic left ≡ true → left_in_range logic (left_after logic before after left) ≡ true
unfolding left_in_range left_after pulse_now
left_kept logic before after left lasts h = go logic.edge refl
  where
    go : (edge : Bool) → logic.edge ≡ edge → left_in_range logic (left_after logic before after left) ≡ true
    go true e = rw e (lt-ltb _ _ (one_less (after.filtered && not before.filtered) (ticks logic.pulse) left (lasts e) (ltb-true _ _ (rw e at h))))
    go false e = rw e

-- nothing is left at the start
left_start : (logic : Logic) → (logic.edge ≡ true → 2 ≤ ticks logic.pulse) → left_in_range logic 0 ≡ true
unfolding left_in_range
left_start logic lasts = go logic.edge refl
  where
    go : (edge : Bool) → logic.edge ≡ edge → left_in_range logic 0 ≡ true
    go true e = rw e (lt-ltb 0 (ticks logic.pulse) (omega (arith, lasts e)))
    go false e = rw e

-- on accepted settings a pulse on edge lasts
edge_lasts : (k : ℕ) (logic : Logic) → AcceptedLogic k logic → logic.edge ≡ true → 2 ≤ ticks logic.pulse
edge_lasts k logic h edge =
    elim (dec_lt k 5) [
      | yes below ↦ absurd (true≢false (sym edge ∙ ap (λ (l : Logic). l.edge) (h.vp_vh_none below)))
      | no above ↦ pulse_lasts logic.pulse (h.vx_pulse (omega arith))
    ]

-- ---- the channel
-- VP and VH: with no logic part and a low level the uniform rule moves nothing of the logic
quiet_kept : (group : Group) (sample : Sample) (channel : Channel) → group.logic ≡ no_logic → sample.level ≡ false → Quiet channel
    → Quiet (channel_after group sample channel)
unfolding channel_after logic_after filter_after left_after xor
quiet_kept group sample channel none low h = record { logic = rw (none, low, h.logic); left = rw none }

-- a tick keeps the range
pub range_kept : (k : ℕ) (group : Group) (sample : Sample) (channel : Channel) → AcceptedLogic k group.logic → (k < 5 → sample.level ≡ false)
    → InRange k group channel → InRange k group (channel_after group sample channel)
unfolding channel_after logic_after
range_kept k group sample channel accepted low h =
    record {
      analog = filter_in_range _ _ _;
      logic = filter_in_range _ _ _;
      left = left_kept group.logic _ _ channel.left (edge_lasts k group.logic accepted) h.left;
      still = λ below. quiet_kept group sample channel (accepted.vp_vh_none below) (low below) (h.still below);
    }

-- the start is in range
pub range_start : (k : ℕ) (group : Group) → AcceptedLogic k group.logic → InRange k group start_channel
range_start k group accepted =
    record {
      analog = omega arith;
      logic = omega arith;
      left = left_start group.logic (edge_lasts k group.logic accepted);
      still = λ below. record { logic = refl; left = refl };
    }
