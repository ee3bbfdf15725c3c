-- What a write took is the line's next bytes. Assumes nothing.
use Rattle.std.proofs.Common.{◌≡◌, ℕ, ◌+◌, ◌-◌, ◌≤◌, List, ◌++◌, rules, arith, length, take, drop, sym, ap, ◌∙◌, subst}
use Rattle.std.proofs.lemmas.List.{drop-take}
use Rattle.std.specs.Io.KnownBytes.{Appends}
use Rattle.std.proofs.KnownBytes.{Appends-trans}
use lib.Seq.{take-add}
use Rattle.text.specs.Text.{written}
use Rattle.text.specs.declared.Line.{Line}
use Rattle.text.proofs.TextLaws.{line_bytes, written_take}
use Rattle.console.proofs.print.Goals as goal

-- the line's first bytes, after more of them were taken from behind the first `sent`
taken_more : (line : Line) → length line.bytes ≡ 256 → (sent count more : ℕ) → sent ≤ count → count ≡ length (written line)
    → take sent (written line) ++ take more (take (count - sent) (drop sent line.bytes)) ≡ take (sent + more) (written line)
taken_more line whole sent count more within counted =
    let past : sent + (count - sent) ≡ length (written line) = omega arith in
    ap (λ (l : List ℕ). take sent (written line) ++ take more l)
    (sym (drop-take sent (count - sent) line.bytes)
    ∙ ap (λ (n : ℕ). drop sent (take n line.bytes)) past
    ∙ ap (drop sent) (written_take line whole))
    ∙ sym (take-add sent more (written line))

pub loop-sent-preserved : goal.loop-sent-preserved
loop-sent-preserved g c =
    let l = c.loop-sent in
    let line = c.args.line in
    record {
      within = search rules;
      went =
          subst (Appends _ _) (taken_more line (line_bytes line _ c.well_formed.1.0) l.sent c.count-count.result c.in_ok-more.more l.invariant.within c.count-count.ensures.value)
          (Appends-trans _ _ _ _ _ l.invariant.went c.in_ok-more.ensures.bytes);
    }
