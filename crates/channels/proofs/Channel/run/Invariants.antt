-- `channels::sampling::Channel::run` meets its contract. The loop's invariant: `after` is the channel after i frames, and `before` after one less.
-- Assumes nothing.
use Prim.Native.Nat.{◌-◌, ◌*◌}
use mathlib.Core.Path.{◌≡◌}
use lib.ListN.{drop}
use Rattle.channels.specs.Run.{channel_over}
use Rattle.channels.proofs.Channel.run.Given as goal

abbrev pub invariant-loop : goal.invariant-loop
invariant-loop l = record {
  rest : l.rest ≡ drop (11 * l.counter) l.frames;
  before : l.before ≡ channel_over l.group l.frames l.k l.initial.before (l.counter - 1);
  after : l.after ≡ channel_over l.group l.frames l.k l.initial.before l.counter;
}
