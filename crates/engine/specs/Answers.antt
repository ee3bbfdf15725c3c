-- What the engine's calls answer. Assumes nothing.
use Rattle.std.specs.Prelude.{Result, Ok, Err}
use Rattle.records.specs.Answers.{verdict_of}
use Rattle.records.specs.declared.Number.{Number}
use Rattle.records.specs.declared.Refusal.{Refusal}
use Rattle.records.specs.declared.Verdict.{Verdict}
use Rattle.machine.specs.declared.Node.{Node}
use Rattle.machine.specs.declared.State.{State}
use Rattle.machine.specs.declared.Taken.{Taken}
use Rattle.engine.specs.declared.Shown.{Shown}
use Rattle.engine.specs.declared.Ticked.{Ticked}

-- where a tick leads; a refusal takes no exit, and stays
pub record Went : Type 0 where
  pub verdict : Verdict
  pub taken : Taken

-- what shows at a node
abbrev pub shows : Node → Shown
shows node = record { outputs = node.outputs; step = node.step }

-- a call's answer, with the state after it: what shows there; or the refusal, and zero "in every other field"
abbrev pub as_ticked : State → Result Shown (Refusal Number) → Ticked
as_ticked state (Ok shown) = record { verdict = verdict_of (Ok shown); state = state; outputs = shown.outputs; step = shown.step }
as_ticked state (Err refusal) = record { verdict = verdict_of {A = Shown} (Err refusal); state = state; outputs = 0; step = 0 }
