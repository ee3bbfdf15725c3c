-- Laws of a tick on any program of nodes: where it stands, it stands in range, and goes on so. Assumes nothing.
use Prim.Native.Nat.{ℕ, ◌+◌, ◌≤◌, ◌<◌, max}
use mathlib.Core.Path.{◌≡◌, refl, sym, subst, ◌∙◌}
use mathlib.Core.Bool.{Bool, true, false, true≢false}
use native.Mathlib.Decide.{ℕ_discrete, dec_lt}
use native.Mathlib.Omega.{arith}
use borrow.Author.Tests.{eq-eqb, ne_eqb, le-leb, lt-leb}
use Rattle.machine.specs.Machine.{shares, met, due, enter, stay, after, tick_on}
use Rattle.machine.specs.declared.Node.{Node}
use Rattle.machine.specs.declared.State.{State}
use Rattle.machine.proofs.ExitLaws.{exit_fault, exit_sequence, exit_timeout, exit_stay}

-- ---- a state by its parts

-- two states with equal parts are equal
pub state_path : {a b e f : ℕ} → a ≡ b → e ≡ f → ◌≡◌ {A = State} (record { at = a; elapsed = e }) (record { at = b; elapsed = f })
state_path p q i = record { at = p i; elapsed = q i }

-- ---- the state after a tick, from the tests

module _ (node : Node) (word : ℕ) (state : State) where
  -- "if w shares a bit with the mask, take the fault exit"
  pub after_fault : shares node word ≡ true → after node word state ≡ enter node.faultto
  unfolding after
  after_fault s = rw (exit_fault node state.elapsed word s)

  -- "else if the channel's bit ... equals the level, the sequence exit"
  pub after_sequence : shares node word ≡ false → met node word ≡ true → after node word state ≡ enter node.sequenceto
  unfolding after
  after_sequence s m = rw (exit_sequence node state.elapsed word s m)

  -- "else if the timeout is not 0 and elapsed + 1 reaches it, the timeout exit"
  pub after_timeout : shares node word ≡ false → met node word ≡ false → due node state.elapsed ≡ true
      → after node word state ≡ enter node.timeoutto
  unfolding after
  after_timeout s m d = rw (exit_timeout node state.elapsed word s m d)

  -- else it stays
  pub after_stay : shares node word ≡ false → met node word ≡ false → due node state.elapsed ≡ false
      → after node word state ≡ stay node state
  unfolding after
  after_stay s m d = rw (exit_stay node state.elapsed word s m d)

-- ---- due, and staying, in numbers

due_reached : (node : Node) (elapsed : ℕ) → 0 < node.timeout → node.timeout ≤ elapsed + 1 → due node elapsed ≡ true
unfolding due
due_reached node elapsed present reached = rw (ne_eqb node.timeout 0 (λ z. omega arith), le-leb node.timeout (elapsed + 1) reached)

due_not_yet : (node : Node) (elapsed : ℕ) → elapsed + 1 < node.timeout → due node elapsed ≡ false
unfolding due
due_not_yet node elapsed early = rw (ne_eqb node.timeout 0 (λ z. omega arith), lt-leb node.timeout (elapsed + 1) early)

due_absent : (node : Node) (elapsed : ℕ) → node.timeout ≡ 0 → due node elapsed ≡ false
unfolding due
due_absent node elapsed absent = rw (eq-eqb node.timeout 0 absent)

stay_rises : (node : Node) (state : State) → 0 < node.timeout → stay node state ≡ record { at = state.at; elapsed = state.elapsed + 1 }
unfolding stay
stay_rises node state present = rw (ne_eqb node.timeout 0 (λ z. omega arith))

stay_rests : (node : Node) (state : State) → node.timeout ≡ 0 → stay node state ≡ record { at = state.at; elapsed = 0 }
unfolding stay
stay_rests node state absent = rw (eq-eqb node.timeout 0 absent)

-- ---- a tick that takes neither the fault nor the sequence exit

module _ (node : Node) (word : ℕ) (state : State) (s : shares node word ≡ false) (m : met node word ≡ false) where
  -- "stays 0 without a timeout"
  pub quiet_rests : node.timeout ≡ 0 → after node word state ≡ record { at = state.at; elapsed = 0 }
  quiet_rests absent = after_stay node word state s m (due_absent node state.elapsed absent) ∙ stay_rests node state absent

  -- "elapsed rises by one"
  pub quiet_rises : state.elapsed + 1 < node.timeout → after node word state ≡ record { at = state.at; elapsed = state.elapsed + 1 }
  quiet_rises early = after_stay node word state s m (due_not_yet node state.elapsed early) ∙ stay_rises node state (omega arith)

  -- "the timeout is not 0 and elapsed + 1 reaches it"
  pub quiet_ends : 0 < node.timeout → node.timeout ≤ state.elapsed + 1 → after node word state ≡ enter node.timeoutto
  quiet_ends present reached = after_timeout node word state s m (due_reached node state.elapsed present reached)

-- ---- standing in range

-- a state stands in a program of so many nodes: its node is one of them, and elapsed is "below the larger of 1 and the timeout"
pub record Stands (nodes : ℕ → Node) (count : ℕ) (state : State) : Type 0 where
  pub within : state.at < count
  pub early : state.elapsed < max 1 (nodes state.at).timeout

-- each exit of a node leads to one of so many nodes
pub record Leads (count : ℕ) (node : Node) : Type 0 where
  pub fault : node.faultto < count
  pub sequence : node.sequenceto < count
  pub timeout : node.timeoutto < count

-- an exit that is absent "(mask 0, channel 0, timeout 0)" leads to node 0
pub record AbsentExits (node : Node) : Type 0 where
  pub fault : node.mask ≡ 0 → node.faultto ≡ 0
  pub sequence : node.channel ≡ 0 → node.sequenceto ≡ 0
  pub timeout : node.timeout ≡ 0 → node.timeoutto ≡ 0

module _ (nodes : ℕ → Node) (count : ℕ) where
  -- "Any exit sets elapsed to 0", so a state just entered stands where its node is there
  pub enter_stands : (to : ℕ) → to < count → Stands nodes count (enter to)
  enter_stands to h = record { within = h; early = omega arith }

  stay_stands : (state : State) → Stands nodes count state → due (nodes state.at) state.elapsed ≡ false
      → Stands nodes count (stay (nodes state.at) state)
  stay_stands state stands undue =
      elim (ℕ_discrete (nodes state.at).timeout 0) [
        | yes z ↦ subst (Stands nodes count) (sym (stay_rests (nodes state.at) state z)) (record { within = stands.within; early = omega arith })
        | no z ↦ subst (Stands nodes count) (sym (stay_rises (nodes state.at) state (omega arith)))
            (record { within = stands.within; early = rises (omega arith) })
      ]
    where
      rises : 0 < (nodes state.at).timeout → state.elapsed + 1 < max 1 (nodes state.at).timeout
      rises present =
          elim (dec_lt (state.elapsed + 1) (nodes state.at).timeout) [
            | yes p ↦ omega arith
            | no p ↦ absurd (true≢false (sym (due_reached (nodes state.at) state.elapsed present (omega arith)) ∙ undue))
          ]

  -- a tick goes from a state that stands to one that stands
  pub tick_stands : ((k : ℕ) → k < count → Leads count (nodes k)) → (word : ℕ) (state : State) → Stands nodes count state
      → Stands nodes count (tick_on nodes word state)
  unfolding tick_on
  tick_stands leads word state stands = split (shares node word) refl (met node word) refl (due node state.elapsed) refl
    where
      node : Node
      node = nodes state.at

      split : (s : Bool) → shares node word ≡ s → (m : Bool) → met node word ≡ m → (d : Bool) → due node state.elapsed ≡ d
          → Stands nodes count (after node word state)
      split true s m e d f = subst (Stands nodes count) (sym (after_fault node word state s)) (enter_stands _ (leads _ stands.within).fault)
      split false s true e d f =
          subst (Stands nodes count) (sym (after_sequence node word state s e)) (enter_stands _ (leads _ stands.within).sequence)
      split false s false e true f =
          subst (Stands nodes count) (sym (after_timeout node word state s e f)) (enter_stands _ (leads _ stands.within).timeout)
      split false s false e false f = subst (Stands nodes count) (sym (after_stay node word state s e f)) (stay_stands state stands f)
