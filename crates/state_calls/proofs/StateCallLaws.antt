-- Laws of the calls on a state's bytes: the tests of the bytes, a refusal, and the next state written. Assumes nothing.
use Prim.Native.Nat.{ℕ, ◌/◌, ◌<◌}
use mathlib.Core.Path.{◌≡◌, refl, ap, ap₂, sym, subst, ◌∙◌}
use mathlib.Core.Bool.{Bool, true, false}
use mathlib.Core.List.{List, [], ◌∷◌}
use lib.Dec.{eqb}
use native.Mathlib.Decide.{ℕ_discrete}
use native.Mathlib.Omega.{arith}
use borrow.Author.Tests.{eq-eqb, ne_eqb}
use lib.ListN.{length, get_or}
use Rattle.std.specs.Prelude.{cond, Result, Ok, Err}
use Rattle.records.specs.Lists.{copied}
use Rattle.records.specs.Words.{high_byte}
use Rattle.records.specs.Verdicts.{accepted, refused_unless, first_refusal}
use Rattle.records.specs.declared.Number.{Number}
use Rattle.records.specs.declared.Refusal.{Refusal}
use Rattle.records.specs.declared.Verdict.{Verdict}
use Rattle.records.proofs.ListLaws.{copied_whole}
use Rattle.records.proofs.ReturnLaws.{number_some}
use Rattle.machine.specs.Machine.{start_state}
use Rattle.machine.specs.declared.State.{State}
use Rattle.states.specs.States.{state_from, state_bytes, bytes_verdict}
use Rattle.states.proofs.StateLaws.{read_back, eight}
use Rattle.engine.specs.Answers.{as_ticked}
use Rattle.engine.specs.Engine.{Form, refused_with, state_verdict, word_verdict, answered_at, went_from, ticked, shown_at}
use Rattle.engine.specs.declared.Shown.{Shown}
use Rattle.engine.specs.declared.Ticked.{Ticked}
use Rattle.state_calls.specs.StateCalls.{start_verdict, start_written, on_bytes, ticked_on, shown_on, state_after}

-- ---- the tests of the bytes

module _ (bytes : Verdict) (received : State) (answer : Ticked) where
  pub on_bytes_passed : bytes.number ≡ 0 → on_bytes bytes received answer ≡ answer
  unfolding on_bytes
  on_bytes_passed e = rw (eq-eqb bytes.number 0 e)

  pub on_bytes_refused : ¬ (bytes.number ≡ 0) → on_bytes bytes received answer ≡ refused_with bytes received
  unfolding on_bytes
  on_bytes_refused r = rw (ne_eqb bytes.number 0 r)

  -- where the call accepts, so did the test of the bytes
  pub bytes_passed : (on_bytes bytes received answer).verdict.number ≡ 0 → bytes.number ≡ 0
  bytes_passed e =
      elim (ℕ_discrete bytes.number 0) [
        | yes p ↦ p
        | no p ↦ absurd (p (sym (ap (λ (t : Ticked). t.verdict.number) (on_bytes_refused p)) ∙ e))
      ]

-- ---- the start

pub start_written_lem : (bytes : List ℕ) → copied (state_bytes start_state) bytes ≡ start_written bytes
unfolding copied state_bytes start_written start_verdict
start_written_lem bytes = chosen (eqb (length bytes) 8)
  where
    chosen : (right : Bool) → cond right (state_bytes start_state) bytes ≡ cond (eqb (refused_unless right 1 0).number 0) (state_bytes start_state) bytes
    chosen true = refl
    chosen false = refl

-- ---- a tick

-- a refusal gives back the state that it received
pub refusal_stays : (form : Form) (bytes : List ℕ) (state : State) (word : ℕ) (after : State) (refusal : Refusal Number)
    → as_ticked after (Err refusal) ≡ ticked form bytes state word → as_ticked state (Err refusal) ≡ ticked form bytes state word
unfolding ticked went_from answered_at
refusal_stays form bytes state word after refusal e =
    let tested : Verdict = first_refusal (state_verdict form bytes state ∷ word_verdict word ∷ []) in
    elim (ℕ_discrete tested.number 0) [
      | yes z ↦ absurd (number_some refusal.kind (ap (λ (t : Ticked). t.verdict.number) e ∙ rw (eq-eqb tested.number 0 z)))
      | no r ↦ (let same : as_ticked after (Err refusal) ≡ refused_with tested state = e ∙ rw (ne_eqb tested.number 0 r) in
          ap (λ (t : Ticked). refused_with t.verdict state) same ∙ rw (ne_eqb tested.number 0 r))
    ]

-- bytes that pass their test are eight
pub passed_eight : (bytes : List ℕ) → accepted ≡ bytes_verdict bytes → length bytes ≡ 8
passed_eight bytes passed = eight bytes (ap (λ (v : Verdict). v.number) (sym passed))

-- a tick from the state that the bytes hold, which pass their test
module _ (form : Form) (bytes state : List ℕ) (word : ℕ) (passed : accepted ≡ bytes_verdict state) {from : State} (f : from ≡ state_from state) where
  taken : ticked form bytes from word ≡ ticked_on form bytes state word
  unfolding ticked_on
  taken = ap (λ (s : State). ticked form bytes s word) f ∙ sym (on_bytes_passed _ _ _ (ap (λ (v : Verdict). v.number) (sym passed)))

  -- it is refused, and the bytes stay
  pub refused_on : {after : State} {refusal : Refusal Number} {answer : Result Shown (Refusal Number)} → answer ≡ Err refusal
      → as_ticked after (Err refusal) ≡ ticked form bytes from word → as_ticked (state_from state) answer ≡ ticked_on form bytes state word
  refused_on {after} {refusal} is e = ap₂ as_ticked (sym f) is ∙ refusal_stays form bytes from word after refusal e ∙ taken

  -- it is made, and the bytes hold the next state
  pub answered_on : {after : State} {shown : Shown} {part : List ℕ} → part ≡ state_bytes after → ((i : ℕ) → get_or part i 0 < 256)
      → as_ticked after (Ok shown) ≡ ticked form bytes from word → as_ticked (state_from part) (Ok shown) ≡ ticked_on form bytes state word
  unfolding state_bytes high_byte
  answered_on {after} {shown} is bytes_fit e =
      let high : after.elapsed / 256 < 256 = subst (λ (b : List ℕ). get_or b 3 0 < 256) is (bytes_fit 3) in
      let fits : after.elapsed < 65536 = omega arith in
      ap (λ (s : State). as_ticked s (Ok shown)) (ap state_from is ∙ read_back after fits) ∙ e ∙ taken

-- ---- a call by the paper's answer

-- a state has eight bytes
wide : (state : State) → length (state_bytes state) ≡ 8
unfolding state_bytes
wide state = refl

-- the state is written into the bytes where the call accepts
pub after_written : (state : List ℕ) (answer : Ticked) → (answer.verdict.number ≡ 0 → (bytes_verdict state).number ≡ 0)
    → cond (eqb answer.verdict.number 0) (copied (state_bytes answer.state) state) state ≡ state_after answer state
unfolding state_after
after_written state answer passed =
    elim (ℕ_discrete answer.verdict.number 0) [
      | yes p ↦ rw (eq-eqb answer.verdict.number 0 p) (copied_whole (state_bytes answer.state) state (eight state (passed p) ∙ sym (wide answer.state)))
      | no p ↦ rw (ne_eqb answer.verdict.number 0 p)
    ]

-- from its parts: the state that the bytes hold, the library's answer, the test of the bytes
module _ (form : Form) (bytes state : List ℕ) {from : State} {told : Ticked} {verdict : Verdict} {answer : Ticked}
    (f : from ≡ state_from state) (v : verdict ≡ bytes_verdict state) (a : answer ≡ on_bytes verdict from told) where
  pub shown_by : told ≡ shown_at form bytes from → answer ≡ shown_on form bytes state
  unfolding shown_on
  shown_by t =
      a
      ∙ ap₂ (λ (x : Verdict) (s : State). on_bytes x s told) v f
      ∙ ap (on_bytes (bytes_verdict state) (state_from state)) (t ∙ ap (shown_at form bytes) f)

  module _ (word : ℕ) (t : told ≡ ticked form bytes from word) where
    is : answer ≡ ticked_on form bytes state word
    unfolding ticked_on
    is =
        a
        ∙ ap₂ (λ (x : Verdict) (s : State). on_bytes x s told) v f
        ∙ ap (on_bytes (bytes_verdict state) (state_from state)) (t ∙ ap (λ (s : State). ticked form bytes s word) f)

    -- the answer, and the bytes afterwards
    pub ticked_by : {r : Ticked} {after : List ℕ} → r ≡ answer
        → after ≡ cond (eqb answer.verdict.number 0) (copied (state_bytes answer.state) state) state
        → (r ≡ ticked_on form bytes state word) × (after ≡ state_after (ticked_on form bytes state word) state)
    unfolding ticked_on
    ticked_by r w = (
      r ∙ is,
      w
          ∙ ap (λ (x : Ticked). cond (eqb x.verdict.number 0) (copied (state_bytes x.state) state) state) is
          ∙ after_written state _ (bytes_passed (bytes_verdict state) (state_from state) (ticked form bytes (state_from state) word)),
    )
