-- `words::copying::copy` meets its contract: each turn stores one more of the bytes. Assumes nothing.
use Prim.Native.Nat.{ℕ}
use mathlib.Core.Path.{◌≡◌, refl, ap, ◌∙◌}
use native.Mathlib.Omega.{arith}
use borrow.Author.Tests.{eq-eqb, ne_eqb}
use lib.ListN.{length, get_or, length-set}
use Rattle.records.specs.Lists.{each, copied}
use Rattle.records.proofs.ListLaws.{filled_more, filled_all, each_elements}
use Rattle.words.proofs.copying.copy.Goals as goal

pub returns-then-part-bytes : goal.returns-then-part-bytes
unfolding copied
returns-then-part-bytes c = rw (ne_eqb (length c.args.part.now) (length c.args.bytes.now) (λ e. c.if-part-bytes.true (omega (arith, e))))

pub loop-i-init : goal.loop-i-init
unfolding each
loop-i-init c = (omega arith, refl, refl)

pub bounds-part-i : goal.bounds-part-i
bounds-part-i c = omega (arith, c.loop-i.invariant.1, c.if-part-bytes.false)

pub loop-i-preserved : goal.loop-i-preserved
loop-i-preserved c = (
  omega arith,
  simp length-set c.loop-i.invariant.1,
  filled_more _ _ _ _ _ c.loop-i.invariant.2 (ap (λ (k : ℕ). get_or c.args.bytes.now k 0) (omega (arith, c.loop-i.invariant.0, c.loop-i-test.true))) (omega (arith, c.if-part-bytes.false)),
)

pub returns : goal.returns
unfolding copied
returns c =
    let same : length c.args.part.now ≡ length c.args.bytes.now = omega (arith, c.if-part-bytes.false) in
    let a = c.args in
    let bytes = a.bytes.now in
    filled_all _ _ _ _ (length bytes) c.loop-i.invariant.2 (omega (arith, c.loop-i-test.false, c.loop-i.invariant.0)) same
    ∙ each_elements bytes 0
    ∙ rw (eq-eqb (length a.part.now) (length bytes) same)
