-- `reading::reader::read_groups` meets its contract: each turn reads one more group from its part. Assumes nothing.
use Prim.Native.Nat.{ℕ, ◌*◌}
use mathlib.Core.Path.{◌≡◌, refl, ap, ap₂, ◌∙◌}
use mathlib.Core.List.{List}
use native.Mathlib.Omega.{arith}
use lib.ListN.{take, drop, length-take, length-drop}
use Rattle.records.specs.Lists.{each}
use Rattle.records.proofs.ListLaws.{filled_more, filled_all}
use Rattle.image.specs.Groups.{part}
use Rattle.image.specs.Reading.{group_of, settings_of}
use Rattle.image.specs.declared.Group.{Group}
use Rattle.reading.proofs.ReadingLaws.{zero_ten}
use Rattle.reading.proofs.reader.read_groups.Goals as goal

pub loop-k-init : goal.loop-k-init
unfolding each
loop-k-init c = (omega arith, refl)

pub read_group-requires : goal.read_group-requires
read_group-requires c = simp (length-take, length-drop) (omega (arith, c.requires, c.loop-k-test.true))

-- a part of eight bytes from 8k on, however its ends are written
lent_group : (image : List ℕ) (k n m : ℕ) {group : Group} → group ≡ group_of k (take n (drop m image)) → n ≡ 8 → m ≡ 8 * k → group ≡ group_of k (part image k)
unfolding part
lent_group image k n m is eight from = is ∙ ap₂ (λ (i j : ℕ). group_of k (take i (drop j image))) eight from

pub loop-k-preserved : goal.loop-k-preserved
loop-k-preserved c =
    let ten = zero_ten _ c.default-zero.ensures in
    let group = lent_group c.args.image.now c.loop-k.k _ _ c.read_group.ensures (omega arith) (omega arith) in
    (omega arith, filled_more _ _ _ _ _ c.loop-k.invariant.1 group (omega arith))

pub returns : goal.returns
unfolding settings_of
returns c =
    ap (λ (l : List Group). record { groups = l })
    (filled_all _ _ _ _ 10 c.loop-k.invariant.1 (omega arith) (zero_ten _ c.default-zero.ensures))
