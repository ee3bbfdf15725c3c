-- A state's bytes and the state undo each other. Assumes nothing.
use Prim.Native.Nat.{ℕ, ◌+◌, ◌*◌, ◌/◌, ◌%◌, ◌<◌}
use mathlib.Core.Path.{◌≡◌, refl, ap, sym, ◌∙◌}
use mathlib.Core.Bool.{and-eq-true_iff}
use mathlib.Core.List.{List, [], ◌∷◌}
use native.Mathlib.Omega.{arith}
use lib.ListN.{length, get_or}
use Rattle.records.specs.Lists.{each}
use Rattle.records.specs.Words.{word_at, low_byte, high_byte}
use Rattle.records.specs.Verdicts.{accepted, or_else, first_refusal}
use Rattle.records.proofs.Every.{Bytes, none, ◌also◌}
use Rattle.records.proofs.ListLaws.{each_elements}
use Rattle.records.proofs.VerdictLaws.{unless_zero}
use Rattle.records.proofs.TestLaws.{eq_test, unless_passed, all_pass}
use Rattle.machine.specs.declared.State.{State}
use Rattle.machine.proofs.StandLaws.{state_path}
use Rattle.states.specs.States.{state_from, state_bytes, zeros_stand, bytes_verdict}

-- reading the bytes of a state gives the state
pub read_back : (state : State) → state.elapsed < 65536 → state_from (state_bytes state) ≡ state
unfolding state_from state_bytes word_at low_byte high_byte
read_back state fits = state_path refl (omega arith)

-- a state's bytes pass their test
pub bytes_pass : (state : State) → bytes_verdict (state_bytes state) ≡ accepted
unfolding bytes_verdict state_bytes zeros_stand word_at first_refusal or_else
bytes_pass state = refl

-- bytes that pass are eight
pub eight : (bytes : List ℕ) → (bytes_verdict bytes).number ≡ 0 → length bytes ≡ 8
unfolding bytes_verdict
eight bytes e = elim (all_pass _ e) [ size also zeros also none ↦ unless_passed (eq_test _ _) _ _ (omega arith) size ]

-- and hold 0 where they must
pub zeros : (bytes : List ℕ) → (bytes_verdict bytes).number ≡ 0 → (get_or bytes 1 0 ≡ 0) × (word_at bytes 4 ≡ 0) × (word_at bytes 6 ≡ 0)
unfolding bytes_verdict zeros_stand
zeros bytes e =
    elim (all_pass _ e) [
      | size also stand also none ↦
          let outer = (and-eq-true_iff _ _).0 (unless_zero (zeros_stand bytes) 8 0 (λ z. omega arith) stand) in
          let inner = (and-eq-true_iff _ _).0 outer.0 in
          ((eq_test _ _).0 inner.0, (eq_test _ _).0 inner.1, (eq_test _ _).0 outer.1)
    ]

-- the bytes of the state that bytes hold are those bytes
pub write_back : (bytes : List ℕ) → Bytes bytes → (bytes_verdict bytes).number ≡ 0 → state_bytes (state_from bytes) ≡ bytes
unfolding state_from state_bytes word_at low_byte high_byte each
write_back bytes fits e =
    let stand = zeros bytes e in
    let held : 0 ≡ get_or bytes 1 0 = sym stand.0 in
    let low : (get_or bytes 2 0 + 256 * get_or bytes 3 0) % 256 ≡ get_or bytes 2 0 = omega (arith, fits 2) in
    let high : (get_or bytes 2 0 + 256 * get_or bytes 3 0) / 256 ≡ get_or bytes 3 0 = omega (arith, fits 2) in
    let fourth : 0 ≡ get_or bytes 4 0 = omega (arith, stand.1) in
    let fifth : 0 ≡ get_or bytes 5 0 = omega (arith, stand.1) in
    let sixth : 0 ≡ get_or bytes 6 0 = omega (arith, stand.2) in
    let seventh : 0 ≡ get_or bytes 7 0 = omega (arith, stand.2) in
    (λ i. get_or bytes 0 0 ∷ held i ∷ low i ∷ high i ∷ fourth i ∷ fifth i ∷ sixth i ∷ seventh i ∷ [])
    ∙ ap (each (λ k. get_or bytes k 0) 0) (sym (eight bytes e))
    ∙ each_elements bytes 0
