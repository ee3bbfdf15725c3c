-- `channels::sampling::Channel::run` meets its contract. The loop's invariant: `after` is the channel after i frames, and `before` after one less.
-- Assumes nothing.
use Prim.Native.Nat.{ℕ, ◌+◌, ◌-◌}
use mathlib.Core.List.{List}
use mathlib.Core.Path.{◌≡◌, refl, ap, ◌∙◌}
use native.Mathlib.Omega.{arith}
use Rattle.channels.specs.Frame.{sample_at}
use Rattle.channels.specs.Run.{channel_over, ran_over}
use Rattle.channels.proofs.FrameLaws.{first_frame, frames_left, over_more}
use Rattle.channels.proofs.Channel.run.Goals as goal

pub loop-init : goal.loop-init
unfolding channel_over
loop-init c = record { rest = refl; before = refl; after = refl }

pub loop-preserved : goal.loop-preserved
loop-preserved c =
    let a = c.args in
    let i = c.loop.counter in
    let so = c.loop.invariant in
    let size = c.min.ensures in
    let back : i ≡ i + 1 - 1 = omega arith in
    let cut = c.split_at.ensures in record {
      rest = frames_left _ i so.rest (rw size at cut.back);
      before = so.after ∙ ap (channel_over a.group a.frames.now a.k a.self) back;
      after = over_more a.group a.frames.now a.k a.self i _ _ _ (c.sample.ensures ∙ ap (λ (frame : List ℕ). sample_at a.group.input frame a.k) (first_frame _ i so.rest (rw size at cut.front))) so.after c.after-after.ensures;
    }

pub returns : goal.returns
unfolding ran_over
returns c =
    let end : c.loop.counter ≡ c.args.n = omega arith in
    rw (c.warning_bit.ensures, c.fault_bit.ensures, c.loop.invariant.before, c.loop.invariant.after, end)
