-- What the crate's own function `cut` promises; no promise to a caller of the crate cites it. Assumes nothing.
use Rattle.std.specs.Prelude.{ℕ}
use Rattle.machine.specs.declared.Node.{Node}

-- a cell before the last of its step, from the last: "All but the last have 4000 and go to the following cell by timeout"
abbrev pub before : Node → ℕ → Node
before last following =
    record {
      outputs = last.outputs;
      mask = last.mask;
      faultto = last.faultto;
      channel = last.channel;
      level = last.level;
      sequenceto = last.sequenceto;
      timeout = 4000;
      timeoutto = following;
      step = last.step;
    }
