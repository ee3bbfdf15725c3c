-- `detectors::advancing::advance` meets its contract. The loop's invariant: the first k channels have run, the others stand as they came, and the words have their bits.
-- Assumes nothing.
use Prim.Native.Nat.{ℕ, ◌<◌, ◌≤◌}
use mathlib.Core.List.{List, ◌∷◌}
use mathlib.Core.Logic.{inl, inr}
use mathlib.Core.Path.{◌≡◌, refl, ap, ap₂, ◌∙◌}
use native.Mathlib.Omega.{arith}
use lib.ListN.{length, drop}
use Rattle.records.specs.Lists.{each}
use Rattle.records.specs.Words.{word_of}
use Rattle.records.proofs.ListLaws.{filled_more}
use Rattle.records.proofs.WordLaws.{added_more, added_fits}
use Rattle.image.specs.Reading.{zero_group}
use Rattle.image.specs.declared.Group.{Group}
use Rattle.image.specs.declared.Settings.{Settings}
use Rattle.image.proofs.SettingsLaws.{ten_groups}
use Rattle.channels.specs.Channel.{start_channel}
use Rattle.channels.specs.Run.{ran_over}
use Rattle.channels.specs.declared.Channel.{Channel}
use Rattle.channels.specs.declared.Ran.{Ran}
use Rattle.detectors.specs.declared.Bank.{Bank}
use Rattle.detectors.proofs.BankLaws.{ten_channels}
use Rattle.detectors.proofs.ChunkLaws.{no_element_left, element_left, element_is, elements_left}
use Rattle.detectors.proofs.TickLaws.{ran_at, bank_ran, words_ran}
use Rattle.detectors.proofs.advancing.advance.Goals as goal

-- the run is that of channel k, the next of both arrays
ran : (settings : Settings) (frames : List ℕ) (bank : Bank) (n k : ℕ) {rest : List Group} {left : List Channel} {group : Group} {channel : Channel} (others : List Group) (behind : List Channel)
    {made : Ran} → rest ≡ drop k settings.groups → left ≡ drop k bank.channels → (rest ≡ group ∷ others) × (left ≡ channel ∷ behind) → made ≡ ran_over group frames k channel n
    → (k < length bank.channels) × (made ≡ ran_at settings frames bank n k)
ran settings frames bank n k others behind groups channels next is = (
  element_left k bank.channels channels _ behind next.1,
  is
      ∙ ap₂ (λ (group : Group) (channel : Channel). ran_over group frames k channel n) (element_is k settings.groups groups _ others next.0 (zero_group k))
      (element_is k bank.channels channels _ behind next.1 start_channel),
)

pub loop-k-init : goal.loop-k-init
unfolding each word_of
loop-k-init g c =
    let pairs = c.zip.ensures in
    let numbered = c.enumerate-k-items.ensures in
    rw (c.into_iter-k-iterator.ensures.into_iter_gives, numbered.source, numbered.count, pairs.first) (record {
      within = omega arith;
      groups = c.iter.ensures.rest;
      left = pairs.second.0;
      channels = refl;
      faults = c.default-words.ensures.0;
      warnings = c.default-words.ensures.1;
    })

pub overflow_add-words : goal.overflow_add-words
overflow_add-words g c =
    let a = c.args in
    let l = c.loop-k in
    let so = l.invariant in
    let next = c.in-Some.ensures.steps in
    let k = l.k-iterator.count in
    let told = ran a.settings a.frames.now a.bank g.row.N k c.next.new.self.iter.a.rest.now c.next.new.self.iter.b.rest.now so.groups so.left next.0 (rw next.1 at c.run-ran.ensures) in
    record { fits = added_fits _ k _ _ _ so.faults (rw next.1 at c.bit.ensures) (ap (λ (r : Ran). r.fault) told.1) (omega (arith, told.0, ten_channels a.bank _ c.well_formed.1.0)) }

pub overflow_add-words-in-loop-k : goal.overflow_add-words-in-loop-k
overflow_add-words-in-loop-k g c =
    let a = c.args in
    let l = c.loop-k in
    let so = l.invariant in
    let next = c.in-Some.ensures.steps in
    let k = l.k-iterator.count in
    let told = ran a.settings a.frames.now a.bank g.row.N k c.next.new.self.iter.a.rest.now c.next.new.self.iter.b.rest.now so.groups so.left next.0 (rw next.1 at c.run-ran.ensures) in
    record { fits = added_fits _ k _ _ _ so.warnings (rw next.1 at c.bit-in-loop-k.ensures) (ap (λ (r : Ran). r.warning) told.1) (omega (arith, told.0, ten_channels a.bank _ c.well_formed.1.0)) }

pub loop-k-preserved : goal.loop-k-preserved
loop-k-preserved g c =
    let a = c.args in
    let l = c.loop-k in
    let so = l.invariant in
    let next = c.in-Some.ensures.steps in
    let k = l.k-iterator.count in
    let ten = ten_channels a.bank _ c.well_formed.1.0 in
    let told = ran a.settings a.frames.now a.bank g.row.N k c.next.new.self.iter.a.rest.now c.next.new.self.iter.b.rest.now so.groups so.left next.0 (rw next.1 at c.run-ran.ensures) in
    rw (next.2, next.1) (record {
      within = omega (arith, told.0, ten);
      groups = elements_left k a.settings.groups so.groups c.in-Some.group.now c.next.new.self.iter.a.rest.now next.0.0;
      left = elements_left k a.bank.channels so.left c.in-Some.channel.now c.next.new.self.iter.b.rest.now next.0.1;
      channels = filled_more _ _ _ k _ so.channels (ap (λ (r : Ran). r.channel) told.1) told.0;
      faults = added_more _ k _ _ _ so.faults (rw next.1 at c.bit.ensures) (ap (λ (r : Ran). r.fault) told.1) (omega (arith, told.0, ten));
      warnings = added_more _ k _ _ _ so.warnings (rw next.1 at c.bit-in-loop-k.ensures) (ap (λ (r : Ran). r.warning) told.1) (omega (arith, told.0, ten));
    })

pub returns : goal.returns
returns g c =
    let a = c.args in
    let l = c.loop-k in
    let k = l.k-iterator.count in
    let ten = ten_channels a.bank _ c.well_formed.1.0 in
    let groups = no_element_left k a.settings.groups l.invariant.groups in
    let channels = no_element_left k a.bank.channels l.invariant.left in
    let ended : 10 ≤ k =
    elim c.in-None.ensures.steps.0 [
      | inl none ↦ omega (arith, groups none.1.0, ten_groups a.settings _ c.well_formed.0)
      | inr none ↦ omega (arith, channels none.1.0, ten)
    ] in
    let all : k ≡ 10 = omega (arith, ended, l.invariant.within) in record {
      bank = bank_ran a.settings a.frames.now a.bank g.row.N k c.requires all _ ten l.invariant.channels;
      words = words_ran a.settings a.frames.now a.bank g.row.N k c.requires all _ l.invariant.faults l.invariant.warnings;
    }
