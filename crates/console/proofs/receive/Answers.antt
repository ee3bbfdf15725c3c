-- What a read put behind what stood in the buffer is what the input lost next. Assumes nothing.
use Rattle.std.proofs.Common.{◌≡◌, ℕ, ◌+◌, ◌≤◌, List, ◌++◌, rules, length, take, sym, ap, ◌∙◌, subst, le_refl, drop_at, length-take-le}
use Rattle.std.proofs.lemmas.Slice.{take-put_mid_below}
use Rattle.std.specs.Io.KnownBytes.{Consumes}
use Rattle.std.proofs.KnownBytes.{Consumes-trans}
use borrow.Rule.Slice.PartMut.{put_mid, post_of}
use lib.Seq.{take-add, take-append-le}
use Rattle.console.proofs.receive.Goals as goal

-- the buffer's first bytes, after more of them were written behind the first `a`
taken_more : (a k n : ℕ) (xs ys : List ℕ) → a ≤ length xs → n ≤ length ys
    → take a xs ++ take n ys ≡ take (a + n) (put_mid a k xs ys)
taken_more a k n xs ys within fits =
    let all = put_mid a k xs ys in
    let behind = ys ++ post_of a k xs in
    ap (λ (l : List ℕ). l ++ take n ys) (sym (take-put_mid_below _ _ _ _ _ (le_refl _) within))
    ∙ ap (λ (l : List ℕ). take a all ++ l) (sym (ap (take n) (drop_at (take a xs) behind a (length-take-le a xs within)) ∙ take-append-le n ys _ fits))
    ∙ sym (take-add a n all)

pub loop-done-preserved : goal.loop-done-preserved
loop-done-preserved g c =
    let l = c.loop-done in
    record {
      kept = search rules;
      within = search rules;
      came =
          subst (Consumes _ _) (taken_more l.done _ c.in_ok-more.more l.buffer c.read.new.buf l.invariant.within c.in_ok-more.ensures.bound.0)
          (Consumes-trans _ _ _ _ _ l.invariant.came c.in_ok-more.ensures.bytes.0);
    }
