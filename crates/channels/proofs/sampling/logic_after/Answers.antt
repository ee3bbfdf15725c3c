-- `channels::sampling::logic_after` meets its contract: the level is inverted, and filtered. Assumes nothing.
use mathlib.Core.Bool.{xor}
use Rattle.channels.specs.Channel.{logic_after}
use Rattle.channels.proofs.sampling.logic_after.Goals as goal

pub returns : goal.returns
unfolding logic_after xor
returns c = c.filter_after.ensures
