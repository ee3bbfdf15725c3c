-- Laws of writing: the byte that means a setting, the tests of one group in their order, and the settings group by group. Assumes nothing.
use Rattle.std.specs.Prelude.{Bool, true, false, Option, Some, None, Result, Ok, Err, IsOk}
use Prim.Native.Nat.{ℕ, ◌+◌, ◌*◌, ◌^◌, ◌<◌}
use mathlib.Core.Path.{◌≡◌, refl, ap, ap₂, sym, ◌∙◌}
use mathlib.Core.List.{List, [], ◌∷◌}
use native.Mathlib.Omega.{arith}
use borrow.Author.Count.{below_none, below_more}
use borrow.Author.Tests.{eq-eqb, ne_eqb}
use lib.Dec.{eqb, leb}
use lib.ListN.{length, get_or, replicate}
use Rattle.records.specs.Bits.{joined}
use Rattle.records.specs.Lists.{each}
use Rattle.records.specs.Numbers.{wrong_length, out_of_range}
use Rattle.records.specs.Verdicts.{accepted, refused, refused_unless, or_else, first_refusal}
use Rattle.records.specs.Answers.{verdict_of}
use Rattle.records.specs.declared.Number.{Number}
use Rattle.records.specs.declared.Number.TheVariants.{OutOfRange}
use Rattle.records.specs.declared.Refusal.{Refusal}
use Rattle.records.specs.declared.Verdict.{Verdict}
use Rattle.records.proofs.BitLaws.{joined_sum}
use Rattle.records.proofs.ListLaws.{get_d_default, each_ext, each_record}
use Rattle.records.proofs.VerdictLaws.{tests_accepted, accepted_tests, lowest_shows, first_records, first_accepted, first_cons, first_one, or_else_pass, or_else_hit}
use Rattle.records.proofs.ReturnLaws.{ends_here, goes_on, all_passed, held, number_some}
use Rattle.image.specs.Codes.{code_number, code_value, lookup, times, pulses, fault_code, input_code, source_code, pull_code}
use Rattle.image.specs.Reading.{zero_group}
use Rattle.writing.specs.Writing.{beside, flag, hysteresis_byte, timing_byte, pin_logic_byte, logic_byte, output_byte, group_bytes, setting_byte, code_verdict, settings_verdict, write_verdict, image_of, written, group_verdict, encoded, as_encoded}
use Rattle.image.specs.declared.Group.{Group}
use Rattle.image.specs.declared.Logic.{Logic}
use Rattle.image.specs.declared.Output.{Output}
use Rattle.image.specs.declared.Settings.{Settings}
use Rattle.writing.specs.Answers.{Encoded}
use Rattle.writing.proofs.CodeLaws.{lookup_lt, flag_lt, fault_lt, source_lt, pull_lt, beside_joined, code_passes}

-- ---- the byte that means a setting
hysteresis_is : (hysteresis : ℕ) → leb hysteresis 31 ≡ true → hysteresis_byte hysteresis ≡ Some hysteresis
unfolding hysteresis_byte
hysteresis_is hysteresis h = rw h

hysteresis_lacks : (hysteresis : ℕ) → leb hysteresis 31 ≡ false → hysteresis_byte hysteresis ≡ None
unfolding hysteresis_byte
hysteresis_lacks hysteresis h = rw h

timing_is : (group : Group) (delay : ℕ) → lookup times group.delay ≡ Some delay → timing_byte group ≡ Some (joined delay 2 (fault_code group.faults))
unfolding timing_byte
timing_is group delay e =
    ap (λ (code : Option ℕ). beside code 2 (Some (fault_code group.faults))) e
    ∙ beside_joined delay 2 (fault_code group.faults) (omega (arith, lookup_lt times group.delay delay e)) (fault_lt group.faults)

timing_lacks : (group : Group) → lookup times group.delay ≡ None → timing_byte group ≡ None
unfolding timing_byte
timing_lacks group e = ap (λ (code : Option ℕ). beside code 2 (Some (fault_code group.faults))) e

pub output_is : (output : Output) → Some (joined (source_code output.source) 4 (pull_code output.pull)) ≡ output_byte output
unfolding output_byte
output_is output = sym (beside_joined (source_code output.source) 4 (pull_code output.pull) (omega (arith, source_lt output.source)) (pull_lt output.pull))

-- byte 6 of a VX group
module _ (logic : Logic) where
  abbrev pinned : Option ℕ → Option ℕ → Option ℕ
  pinned pulse delay = beside (Some (flag logic.invert)) 6 (beside (Some (flag logic.edge)) 5 (beside pulse 3 delay))

  pub pin_logic_is : {pulse delay : ℕ} → lookup pulses logic.pulse ≡ Some pulse → lookup times logic.delay ≡ Some delay
      → Some (joined (flag logic.invert) 6 (joined (flag logic.edge) 5 (joined pulse 3 delay))) ≡ pin_logic_byte logic
  unfolding pin_logic_byte
  pin_logic_is {pulse} {delay} p d =
      let invert = flag logic.invert in
      let edge = flag logic.edge in
      let pulse-lt : pulse < 4 = lookup_lt pulses logic.pulse pulse p in
      let delay-lt : delay < 8 = lookup_lt times logic.delay delay d in
      let edge-lt : edge < 2 = flag_lt logic.edge in
      let invert-lt : invert < 2 = flag_lt logic.invert in
      let three : joined pulse 3 delay ≡ pulse * 2 ^ 3 + delay = joined_sum pulse 3 delay (omega arith) delay-lt in
      let five : joined edge 5 (joined pulse 3 delay) ≡ edge * 2 ^ 5 + joined pulse 3 delay = joined_sum edge 5 (joined pulse 3 delay) (omega arith) (omega arith) in
      sym
      (ap₂ pinned p d
      ∙ ap (λ (code : Option ℕ). beside (Some invert) 6 (beside (Some edge) 5 code)) (beside_joined pulse 3 delay (omega arith) delay-lt)
      ∙ ap (beside (Some invert) 6) (beside_joined edge 5 (joined pulse 3 delay) (omega arith) (omega arith))
      ∙ beside_joined invert 6 (joined edge 5 (joined pulse 3 delay)) (omega arith) (omega arith))

  pub pulse_lacks : lookup pulses logic.pulse ≡ None → None ≡ pin_logic_byte logic
  unfolding pin_logic_byte
  pulse_lacks p = sym (ap (λ (code : Option ℕ). pinned code (lookup times logic.delay)) p)

  pub delay_lacks : {pulse : ℕ} → lookup pulses logic.pulse ≡ Some pulse → lookup times logic.delay ≡ None → None ≡ pin_logic_byte logic
  unfolding pin_logic_byte
  delay_lacks p d = sym (ap₂ pinned p d)

-- ---- the tests of one group
-- what the encoder answers for a setting that the byte at an address cannot mean
abbrev refused_at : ℕ → Encoded
refused_at address = record { verdict = refused out_of_range address; bytes = replicate 8 0 }

-- the refusal of a test says that the test fails, and that it is of that number
refuses : (holds : Bool) (place : ℕ) (r : Refusal Number) → verdict_of {A = List ℕ} (Err r) ≡ refused_unless holds out_of_range place
    → (holds ≡ false) × (as_encoded (Err r) ≡ refused_at place)
refuses true place r e = absurd (number_some r.kind (ap (λ (v : Verdict). v.number) e))
refuses false place r e = (refl, ap (λ (v : Verdict). record { verdict = v; bytes = replicate 8 0 }) e)

holds : (b : Bool) (place : ℕ) → accepted ≡ refused_unless b out_of_range place → b ≡ true
holds b place passed = held b out_of_range place (λ z. omega arith) passed

-- the refusal of a setting that the byte at an address cannot mean
abbrev lacking : ℕ → Result (List ℕ) (Refusal Number)
lacking address = Err (record { kind = OutOfRange; place = address })

-- the code of byte j
abbrev pub code_at : ℕ → Group → ℕ → Option ℕ
code_at k group j = get_or (group_bytes k group) j None

-- each byte below j has a code
abbrev Coded : ℕ → Group → ℕ → Type 0
Coded k group j = (i : ℕ) → i < j → code_number (code_at k group i) ≡ 0

module _ (k : ℕ) (group : Group) where
  one_more : (j : ℕ) → Coded k group j → code_number (code_at k group j) ≡ 0 → Coded k group (j + 1)
  one_more j = below_more (λ i. code_number (code_at k group i) ≡ 0) j

  verdict_at : (j : ℕ) → j < 8 → Coded k group j → code_at k group j ≡ None → group_verdict k group ≡ code_verdict None (8 * k + j)
  unfolding group_verdict
  verdict_at j h before lacks =
      lowest_shows (λ i. code_verdict (code_at k group i) (8 * k + i)) 8 j (record {
        inside = h;
        refuses = λ z. let never : 4 ≡ 0 = sym (ap (λ (code : Option ℕ). (code_verdict code (8 * k + j)).number) lacks) ∙ z in omega arith;
        before = λ i p. code_passes (code_at k group i) (8 * k + i) (before i p);
      })
      ∙ ap (λ (code : Option ℕ). code_verdict code (8 * k + j)) lacks

  refused_at_lem : (j : ℕ) → j < 8 → Coded k group j → code_at k group j ≡ None → refused_at (8 * k + j) ≡ encoded k group
  unfolding encoded
  refused_at_lem j h before lacks = rw (verdict_at j h before lacks)

  all_coded : Coded k group 8 → ◌≡◌ {A = Encoded} (record { verdict = accepted; bytes = each (λ j. code_value (code_at k group j)) 0 8 }) (encoded k group)
  unfolding encoded group_verdict
  all_coded before =
      rw (tests_accepted (λ i. code_verdict (code_at k group i) (8 * k + i)) 8 (λ i p. code_passes (code_at k group i) (8 * k + i) (before i p)))

  -- byte by byte, as the encoder tests them
  level_coded : Coded k group 1
  unfolding group_bytes
  level_coded = one_more 0 (below_none _) refl

  pub over_refused : (r : Refusal Number) → verdict_of {A = List ℕ} (Err r) ≡ refused_unless (leb group.over.hysteresis 31) out_of_range (8 * k + 1)
      → as_encoded (Err r) ≡ encoded k group
  unfolding group_bytes
  over_refused r e =
      let no = refuses _ _ r e in
      no.1 ∙ refused_at_lem 1 (omega arith) level_coded (hysteresis_lacks _ no.0)

  module _ (over : accepted ≡ refused_unless (leb group.over.hysteresis 31) out_of_range (8 * k + 1)) where
    over_coded : Coded k group 3
    unfolding group_bytes
    over_coded = one_more 2 (one_more 1 level_coded (ap code_number (hysteresis_is _ (holds _ _ over)))) refl

    pub under_refused : (r : Refusal Number) → verdict_of {A = List ℕ} (Err r) ≡ refused_unless (leb group.under.hysteresis 31) out_of_range (8 * k + 3)
        → as_encoded (Err r) ≡ encoded k group
    unfolding group_bytes
    under_refused r e =
        let no = refuses _ _ r e in
        no.1 ∙ refused_at_lem 3 (omega arith) over_coded (hysteresis_lacks _ no.0)

    module _ (under : accepted ≡ refused_unless (leb group.under.hysteresis 31) out_of_range (8 * k + 3)) where
      under_coded : Coded k group 4
      unfolding group_bytes
      under_coded = one_more 3 over_coded (ap code_number (hysteresis_is _ (holds _ _ under)))

      pub delay_refused : lookup times group.delay ≡ None → as_encoded (lacking (8 * k + 4)) ≡ encoded k group
      unfolding group_bytes
      delay_refused h = refused_at_lem 4 (omega arith) under_coded (timing_lacks group h)

      module _ {delay : ℕ} (timed : lookup times group.delay ≡ Some delay) where
        delay_coded : Coded k group 5
        unfolding group_bytes
        delay_coded = one_more 4 under_coded (ap code_number (timing_is group delay timed))

        pub input_refused : input_code k group.input ≡ None → as_encoded (lacking (8 * k + 5)) ≡ encoded k group
        unfolding group_bytes
        input_refused h = refused_at_lem 5 (omega arith) delay_coded h

        module _ {five : ℕ} (named : input_code k group.input ≡ Some five) where
          input_coded : Coded k group 6
          unfolding group_bytes
          input_coded = one_more 5 delay_coded (ap code_number named)

          pub logic_refused : logic_byte k group.logic ≡ None → as_encoded (lacking (8 * k + 6)) ≡ encoded k group
          unfolding group_bytes
          logic_refused h = refused_at_lem 6 (omega arith) input_coded h

          module _ {six : ℕ} (wired : logic_byte k group.logic ≡ Some six) {seven : ℕ} (driven : Some seven ≡ output_byte group.output) where
            all_codes : Coded k group 8
            unfolding group_bytes
            all_codes = one_more 7 (one_more 6 input_coded (ap code_number wired)) (ap code_number (sym driven))

            pub encoded_is :
                as_encoded
                (Ok
                (group.over.level
                ∷ group.over.hysteresis
                ∷ group.under.level
                ∷ group.under.hysteresis
                ∷ joined delay 2 (fault_code group.faults)
                ∷ five
                ∷ six
                ∷ seven
                ∷ []))
                ≡ encoded k group
            unfolding group_bytes each
            encoded_is =
                rw (hysteresis_is group.over.hysteresis (holds _ _ over), hysteresis_is group.under.hysteresis (holds _ _ under), timing_is group delay timed, named, wired, sym driven)
                at (all_coded all_codes)

-- the bytes of a group that is accepted
pub encoded_bytes : (k : ℕ) (group : Group) → (group_verdict k group).number ≡ 0 → (encoded k group).bytes ≡ each (λ j. code_value (code_at k group j)) 0 8
unfolding encoded
encoded_bytes k group h = rw (eq-eqb _ _ h)

-- ---- the settings, group by group
-- group k of the settings
abbrev pub group_in : List Group → ℕ → Group
group_in groups k = get_or groups k (zero_group k)

-- its tests
abbrev pub settings_test : List Group → ℕ → Verdict
settings_test groups k = group_verdict k (group_in groups k)

-- what the encoder answers for group k of an array is that group's verdict
pub group_tested : {v : Verdict} {bytes : List ℕ} (groups : List Group) (k : ℕ) (d : Group) → record { verdict = v; bytes = bytes } ≡ encoded k (get_or groups k d)
    → length groups ≡ 10 → k < 10 → v ≡ settings_test groups k
unfolding encoded
group_tested groups k d is ten h =
    ap (λ (e : Encoded). e.verdict) (is ∙ ap (encoded k) (get_d_default groups k d (zero_group k) (omega arith)))

-- the byte at an address
abbrev pub byte_at : Settings → ℕ → ℕ
byte_at settings address = code_value (setting_byte settings address)

module _ (settings : Settings) where
  group_addresses : (k : ℕ) → first_refusal (each (λ a. code_verdict (setting_byte settings a) a) (8 * k) 8) ≡ settings_test settings.groups k
  unfolding group_verdict setting_byte
  group_addresses k = ap first_refusal (each_record (λ q r a. code_verdict (code_at q (group_in settings.groups q) r) a) 8 k)

  pub settings_groups : settings_verdict settings ≡ first_refusal (each (settings_test settings.groups) 0 10)
  unfolding settings_verdict
  settings_groups = first_records _ 8 0 10 ∙ ap first_refusal (each_ext _ _ 0 10 (λ k h. group_addresses (0 + k)))

  -- where the settings are accepted, the encoder refuses no group
  module _ (accepts : (settings_verdict settings).number ≡ 0) (k : ℕ) (d : Group) where
    each_accepted : k < 10 → (settings_test settings.groups k).number ≡ 0
    each_accepted h = accepted_tests (settings_test settings.groups) 10 (sym (ap (λ (v : Verdict). v.number) settings_groups) ∙ accepts) k h

    pub group_encoded : (answer : Result (List ℕ) (Refusal Number)) → as_encoded answer ≡ encoded k (get_or settings.groups k d)
        → length settings.groups ≡ 10 → k < 10 → IsOk answer
    group_encoded (Ok bytes) is ten h = refl
    group_encoded (Err refusal) is ten h =
        absurd (number_some refusal.kind (ap (λ (v : Verdict). v.number) (group_tested settings.groups k d is ten h) ∙ each_accepted h))

  -- where the settings are accepted, the encoder's bytes are those of the group's addresses
  pub group_bytes_lem : (settings_verdict settings).number ≡ 0 → (k : ℕ) (d : Group) (answer : Encoded) → answer ≡ encoded k (get_or settings.groups k d)
      → length settings.groups ≡ 10 → k < 10 → answer.bytes ≡ each (byte_at settings) (8 * k) 8
  unfolding setting_byte
  group_bytes_lem accepts k d answer is ten h =
      ap (λ (e : Encoded). e.bytes) (is ∙ ap (encoded k) (get_d_default settings.groups k d (zero_group k) (omega arith)))
      ∙ encoded_bytes k (group_in settings.groups k) (each_accepted accepts k d h)
      ∙ sym (each_record (λ q r a. code_value (code_at q (group_in settings.groups q) r)) 8 k)

  pub bytes_encoded : (settings_verdict settings).number ≡ 0 → (k : ℕ) (d : Group) (bytes : List ℕ) → as_encoded (Ok bytes) ≡ encoded k (get_or settings.groups k d)
      → length settings.groups ≡ 10 → k < 10 → bytes ≡ each (byte_at settings) (8 * k) 8
  bytes_encoded accepts k d bytes is ten h = group_bytes_lem accepts k d (as_encoded (Ok bytes)) is ten h

-- ---- the writer's answer and the buffer
module _ (settings : Settings) (buffer : List ℕ) where
  abbrev length_test : Verdict
  length_test = refused_unless (eqb (length buffer) 80) wrong_length 0

  settings_accepted : (settings_verdict settings).number ≡ 0 → settings_verdict settings ≡ accepted
  unfolding settings_verdict
  settings_accepted h = first_accepted _ h

  write_parts : write_verdict settings buffer ≡ or_else length_test (settings_verdict settings)
  unfolding write_verdict
  write_parts = first_cons _ _ ∙ ap (or_else _) (first_one (settings_verdict settings) settings_accepted)

  -- the length's test, then the settings'
  pub write_whole : length buffer ≡ 80 → settings_verdict settings ≡ write_verdict settings buffer
  write_whole h = sym (write_parts ∙ or_else_pass _ _ (rw (eq-eqb _ _ h)))

  pub write_not_whole : (length buffer ≡ 80 → ⊥) → refused wrong_length 0 ≡ write_verdict settings buffer
  write_not_whole h = sym (write_parts ∙ rw (ne_eqb _ _ h) (or_else_hit _ _ (λ e. omega arith)))

  -- a refusal leaves the buffer
  pub refusal_keeps : (v : Verdict) → v ≡ write_verdict settings buffer → (v.number ≡ 0 → ⊥) → buffer ≡ written settings buffer
  unfolding written
  refusal_keeps v is some = rw (← is, ne_eqb _ _ some)

  pub not_whole_keeps : (v : Verdict) → v ≡ length_test → (v.number ≡ 0 → ⊥) → buffer ≡ written settings buffer
  unfolding write_verdict
  not_whole_keeps v is some = refusal_keeps v (ends_here _ is some) some

  pub refused_keeps : (v : Verdict) → accepted ≡ length_test → v ≡ settings_verdict settings → (v.number ≡ 0 → ⊥) → buffer ≡ written settings buffer
  unfolding write_verdict
  refused_keeps v whole is some = refusal_keeps v (goes_on _ whole (ends_here _ is some)) some

  -- an acceptance fills it
  pub acceptance_fills : accepted ≡ length_test → accepted ≡ settings_verdict settings → image_of settings ≡ written settings buffer
  unfolding written write_verdict
  acceptance_fills whole accepts =
      let all : accepted ≡ write_verdict settings buffer = goes_on _ whole (goes_on _ accepts all_passed) in
      rw (← all)

-- the encoder's tests in their order, and past them its bytes
pub ruleset encodes = (over_refused, under_refused, delay_refused, input_refused, logic_refused, encoded_is)

-- what each test leaves of the buffer
pub ruleset fills = (not_whole_keeps, refused_keeps, acceptance_fills)
