-- `detectors::advancing::bank_verdict` meets its contract. The loop's invariant: the channels that are left give the whole answer.
-- Assumes nothing.
use Prim.Native.Nat.{ℕ, ◌<◌, ◌≤◌}
use mathlib.Core.Bool.{Bool}
use mathlib.Core.List.{List, ◌∷◌}
use mathlib.Core.Path.{◌≡◌, refl}
use lib.ListN.{length, drop}
use mathlib.Core.Logic.{inl, inr}
use borrow.Author.Rules.{rules}
use native.Mathlib.Omega.{arith}
use Rattle.records.proofs.ReturnLaws.{loops, loop_starts, loop_done}
use Rattle.image.proofs.SettingsLaws.{ten_groups}
use Rattle.image.specs.Reading.{zero_group}
use Rattle.channels.specs.Channel.{start_channel}
use Rattle.records.specs.Numbers.{unreachable}
use Rattle.records.specs.Verdicts.{refused_unless}
use Rattle.image.specs.declared.Group.{Group}
use Rattle.image.specs.declared.Settings.{Settings}
use Rattle.channels.specs.declared.Channel.{Channel}
use Rattle.detectors.specs.Bank.{bank_verdict, in_range}
use Rattle.detectors.specs.declared.Bank.{Bank}
use Rattle.detectors.proofs.BankLaws.{ten_channels, channel_test, tested}
use Rattle.detectors.proofs.ChunkLaws.{no_element_left, element_left, element_is, elements_left}
use Rattle.detectors.proofs.advancing.bank_verdict.Goals as goal

-- the next group and the next channel stand at k, and their test is that of channel k
here : (settings : Settings) (bank : Bank) (k : ℕ) {rest : List Group} {left : List Channel} {group : Group} {channel : Channel} (others : List Group) (behind : List Channel)
    {holds : Bool} → rest ≡ drop k settings.groups → left ≡ drop k bank.channels → (rest ≡ group ∷ others) × (left ≡ channel ∷ behind) → length bank.channels ≡ 10
    → holds ≡ in_range k group channel
    → (k < 10) × (refused_unless holds unreachable k ≡ channel_test settings bank k)
here settings bank k others behind groups channels next ten is =
    let below = element_left k bank.channels channels _ behind next.1 in
    (omega (arith, below, ten), tested settings bank k (element_is k settings.groups groups _ others next.0 (zero_group k)) (element_is k bank.channels channels _ behind next.1 start_channel) is)

pub loop-k-init : goal.loop-k-init
unfolding bank_verdict
loop-k-init c =
    let pairs = c.zip.ensures in
    let numbered = c.enumerate-k-items.ensures in
    rw (c.into_iter-k-iterator.ensures.into_iter_gives, numbered.source, numbered.count, pairs.first) (record { groups = c.iter.ensures.rest; channels = pairs.second.0; left = loop_starts refl })

pub returns-in_err-ensure : goal.returns-in_err-ensure
returns-in_err-ensure c =
    let so = c.loop-k.invariant in
    let next = c.in-Some.ensures.steps in
    let told = here c.args.settings c.args.bank c.loop-k.k-iterator.count c.next.new.self.iter.a.rest.now c.next.new.self.iter.b.rest.now so.groups so.channels next.0 (ten_channels c.args.bank _ c.well_formed.1.0) (rw next.1 at c.in_range.ensures) in
    let below = told.0 in
    let same = told.1 in
    search (rules, loops)

pub loop-k-preserved : goal.loop-k-preserved
loop-k-preserved c =
    let a = c.args in
    let so = c.loop-k.invariant in
    let next = c.in-Some.ensures.steps in
    let k = c.loop-k.k-iterator.count in
    let others = c.next.new.self.iter.a.rest.now in
    let behind = c.next.new.self.iter.b.rest.now in
    let told = here a.settings a.bank k others behind so.groups so.channels next.0 (ten_channels a.bank _ c.well_formed.1.0) (rw next.1 at c.in_range.ensures) in
    let below = told.0 in
    let same = told.1 in
    rw next.2 (record {
      groups = elements_left k a.settings.groups so.groups c.in-Some.group.now others next.0.0;
      channels = elements_left k a.bank.channels so.channels c.in-Some.channel.now behind next.0.1;
      left = search (rules, loops);
    })

pub returns : goal.returns
returns c =
    let a = c.args in
    let so = c.loop-k.invariant in
    let groups = no_element_left c.loop-k.k-iterator.count a.settings.groups so.groups in
    let channels = no_element_left c.loop-k.k-iterator.count a.bank.channels so.channels in
    let ended : 10 ≤ c.loop-k.k-iterator.count =
    elim c.in-None.ensures.steps.0 [
      | inl none ↦ omega (arith, groups none.1.0, ten_groups a.settings _ c.well_formed.0)
      | inr none ↦ omega (arith, channels none.1.0, ten_channels a.bank _ c.well_formed.1.0)
    ] in
    loop_done so.left ended
