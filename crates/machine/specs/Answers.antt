-- What the calls of machine's users answer: kinds of fault, and standing at a node. Assumes nothing.
use Rattle.std.specs.Prelude.{ℕ, Result, Ok, Err}
use Rattle.records.specs.Answers.{verdict_of}
use Rattle.records.specs.declared.Number.{Number}
use Rattle.records.specs.declared.Refusal.{Refusal}
use Rattle.records.specs.declared.Verdict.{Verdict}
use Rattle.machine.specs.Fields.{range_fault, jump_without_exit, exit_without_jump, level_without_channel}
use Rattle.machine.specs.declared.Fault.{Fault}
use Rattle.machine.specs.declared.Fault.TheVariants.{Range, JumpWithoutExit, ExitWithoutJump, LevelWithoutChannel}
use Rattle.machine.specs.declared.Node.{Node}
use Rattle.machine.specs.declared.Stood.{Stood}

-- the number of each kind of fault
abbrev pub fault_number : Fault → ℕ
fault_number Range = range_fault
fault_number JumpWithoutExit = jump_without_exit
fault_number ExitWithoutJump = exit_without_jump
fault_number LevelWithoutChannel = level_without_channel

-- a node, and the verdict on standing at it
pub record Standing : Type 0 where
  pub verdict : Verdict
  pub node : Node

-- standing at a node: it is answered, or why nothing may stand there
abbrev pub as_standing : Node → Result Node (Refusal Number) → Standing
as_standing node (Ok stood) = record { verdict = verdict_of (Ok stood); node = stood }
as_standing node (Err refusal) = record { verdict = verdict_of {A = Node} (Err refusal); node = node }

-- the same of an answer that gives the node whatever the tests say
abbrev pub as_stood : Stood → Standing
as_stood stood = record { verdict = verdict_of stood.tested; node = stood.node }
