-- Laws of the exits. Assumes nothing.
use Prim.Native.Nat.{ℕ}
use mathlib.Core.Path.{◌≡◌, refl, ap, ap₂, sym, ◌∙◌}
use mathlib.Core.Bool.{Bool, true, false, cond}
use Rattle.machine.specs.Machine.{shares, met, due, exit_of, taken, after, tick_at}
use Rattle.machine.specs.declared.Node.{Node}
use Rattle.machine.specs.declared.State.{State}
use Rattle.machine.specs.declared.Taken.{Taken}
use Rattle.machine.specs.declared.Exit.{Exit}
use Rattle.machine.specs.declared.Exit.TheVariants.{Stay, Fault, Sequence, Timeout}

-- ---- which exit the three tests lead to
module _ (node : Node) (elapsed word : ℕ) where
  pub exit_fault : shares node word ≡ true → exit_of node elapsed word ≡ Fault
  unfolding exit_of
  exit_fault s = rw s

  pub exit_sequence : shares node word ≡ false → met node word ≡ true → exit_of node elapsed word ≡ Sequence
  unfolding exit_of
  exit_sequence s m = rw (s, m)

  pub exit_timeout : shares node word ≡ false → met node word ≡ false → due node elapsed ≡ true → exit_of node elapsed word ≡ Timeout
  unfolding exit_of
  exit_timeout s m d = rw (s, m, d)

  pub exit_stay : shares node word ≡ false → met node word ≡ false → due node elapsed ≡ false → exit_of node elapsed word ≡ Stay
  unfolding exit_of
  exit_stay s m d = rw (s, m, d)

-- a tick that stays was not due
not_due : (s m d : Bool) → cond s Fault (cond m Sequence (cond d Timeout Stay)) ≡ Stay → d ≡ false
not_due s m false e = refl
not_due true m true e = cc
not_due false true true e = cc
not_due false false true e = cc

pub stay_not_due : (node : Node) (elapsed word : ℕ) → exit_of node elapsed word ≡ Stay → due node elapsed ≡ false
unfolding exit_of
stay_not_due node elapsed word e = not_due (shares node word) (met node word) (due node elapsed) e

-- a tick from the exit that was found, and the state that taking it gives
pub takes : (node : Node) (word : ℕ) (state : State) {found : Exit} (exit : Exit) {next : State}
    → found ≡ exit_of node state.elapsed word → found ≡ exit → next ≡ taken exit node state
    → ◌≡◌ {A = Taken} (record { exit = found; state = next }) (tick_at node word state)
unfolding tick_at after
takes node word state exit f e n =
    ap₂ (λ (x : Exit) (t : State). record { exit = x; state = t }) f (n ∙ ap (λ (x : Exit). taken x node state) (sym e ∙ f))
