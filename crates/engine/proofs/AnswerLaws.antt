-- Laws of the engine's answers: the tests of the state, the word, the tick, and what shows, for either form. Assumes nothing.
use Prim.Native.Nat.{ℕ}
use mathlib.Core.Path.{◌≡◌, refl, ap, ap₂, sym, ◌∙◌}
use mathlib.Core.List.{List, [], ◌∷◌}
use native.Mathlib.Omega.{arith}
use lib.Dec.{ltb}
use Rattle.records.specs.Verdicts.{refused_unless, or_else, first_refusal}
use Rattle.records.specs.declared.Verdict.{Verdict}
use Rattle.records.proofs.VerdictLaws.{first_tested, first_last}
use Rattle.machine.specs.Fields.{word_in_range}
use Rattle.machine.specs.declared.Node.{Node}
use Rattle.machine.specs.Answers.{Standing}
use Rattle.machine.specs.declared.State.{State}
use Rattle.engine.specs.declared.Ticked.{Ticked}
use Rattle.engine.specs.Answers.{Went}
use Rattle.engine.specs.Engine.{Form, nodes_of, standing_at, state_tested, state_verdict, word_verdict, went_from, answered_at, ticked, shown_at}

-- the word is the last test
pub word_last : {r : Verdict} (tested : Verdict) (word : ℕ) → r ≡ or_else tested (refused_unless (ltb word 1024) 9 0)
    → r ≡ first_refusal (tested ∷ word_verdict word ∷ [])
unfolding word_verdict word_in_range
word_last tested word r = first_tested _ r refl (sym (first_last (ltb word 1024) 9 0 (λ z. omega arith)))

-- ---- a call from its parts: standing at the node, the state's tests, the tick, what shows
module _ (form : Form) (bytes : List ℕ) (state : State) {stood : Standing} {tested : Verdict}
    (s : stood ≡ standing_at form bytes state.at) (t : tested ≡ state_tested stood.verdict stood.node state) where
  tests : tested ≡ state_verdict form bytes state
  unfolding state_verdict
  tests = t ∙ ap (λ (x : Standing). state_tested x.verdict x.node state) s

  here : stood.node ≡ nodes_of form bytes state.at
  here = ap (λ (x : Standing). x.node) s

  pub shown_by : {r : Ticked} → r ≡ answered_at tested state stood.node → r ≡ shown_at form bytes state
  unfolding shown_at
  shown_by r = r ∙ ap₂ (λ (v : Verdict) (n : Node). answered_at v state n) tests here

  pub ticked_by : (word : ℕ) {went : Went} {node : Node} {r : Ticked} → went ≡ went_from tested stood.node state word
      → node ≡ nodes_of form bytes went.taken.state.at → r ≡ answered_at went.verdict went.taken.state node
      → r ≡ ticked form bytes state word
  unfolding ticked
  ticked_by word w n r =
      r
      ∙ ap (answered_at _ _) n
      ∙ ap (λ (x : Went). answered_at x.verdict x.taken.state (nodes_of form bytes x.taken.state.at))
      (w ∙ ap₂ (λ (v : Verdict) (x : Node). went_from v x state word) tests here)
