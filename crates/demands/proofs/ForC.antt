-- What a program in C reads: each answer is one number, and taking it apart gives every field back; a state is eight bytes, and reading and writing them
-- undo each other. The bounds that are asked of a field are those of its type in src/. Assumes nothing.
use Prim.Native.Nat.{ℕ, ◌/◌, ◌%◌, ◌≤◌, ◌<◌}
use mathlib.Core.Path.{◌≡◌}
use mathlib.Core.List.{List}
use native.Mathlib.Omega.{arith}
use lib.ListN.{length}
use Rattle.records.specs.Verdicts.{accepted}
use Rattle.records.specs.declared.Verdict.{Verdict}
use Rattle.records.proofs.Every.{Bytes}
use Rattle.machine.specs.declared.State.{State}
use Rattle.states.specs.States.{state_from, state_bytes, bytes_verdict}
use Rattle.states.proofs.StateLaws as states
use Rattle.engine.specs.Engine.{Form}
use Rattle.engine.specs.declared.Ticked.{Ticked}
use Rattle.translator.specs.Translation.{translation}
use Rattle.detectors.specs.declared.Detected.{Detected}
use Rattle.state_calls.specs.StateCalls.{start_verdict, ticked_on, shown_on}
use Rattle.recordings.specs.Recordings.{recorded}
use Rattle.packing.specs.Packed.{packed_parts, packed_tick, packed_words}
use Rattle.capi.specs.Calls.{normal_verdict}
use Rattle.demands.proofs.PlaceLaws.{translation_within, normal_within, start_within, ticked_within, shown_within, recorded_within}

-- ---- an answer, taken apart

-- wrackbasket_translate, wrackbasket_normal and wrackbasket_start: number (7:0), cells (15:8), place (31:16)
pub parts_unpacked : (verdict : Verdict) (cells : ℕ) → verdict.number < 256 → cells < 256 → verdict.place < 65536
    → let answer = packed_parts verdict cells in
    (answer % 256 ≡ verdict.number) × (answer / 256 % 256 ≡ cells) × (answer / 65536 ≡ verdict.place)
unfolding packed_parts
parts_unpacked verdict cells n c p = (omega arith, omega arith, omega arith)

-- the ticks and shows: number (7:0), step that shows (15:8), outputs (31:16), place (62:32), 0 (63)
pub tick_unpacked : (told : Ticked) → told.verdict.number < 256 → told.step < 256 → told.outputs < 65536 → told.verdict.place < 2147483648
    → let answer = packed_tick told in
    (answer % 256 ≡ told.verdict.number)
    × (answer / 256 % 256 ≡ told.step)
    × (answer / 65536 % 65536 ≡ told.outputs)
    × (answer / 4294967296 ≡ told.verdict.place)
    × (answer / 9223372036854775808 ≡ 0)
unfolding packed_tick
tick_unpacked told n s o p = (omega arith, omega arith, omega arith, omega arith, omega arith)

-- wrackbasket_detect: number (7:0), place (15:8), faults (31:16), warnings (47:32)
pub words_unpacked : (told : Detected) → told.verdict.number < 256 → told.verdict.place < 256 → told.faults < 65536 → told.warnings < 65536
    → let answer = packed_words told in
    (answer % 256 ≡ told.verdict.number)
    × (answer / 256 % 256 ≡ told.verdict.place)
    × (answer / 65536 % 65536 ≡ told.faults)
    × (answer / 4294967296 ≡ told.warnings)
unfolding packed_words
words_unpacked told n p f w = (omega arith, omega arith, omega arith, omega arith)

-- No call answers a place that has no room there.
pub translate_place : (sheet table : List ℕ) → (translation sheet table).verdict.place ≤ 62
unfolding translation
translate_place sheet table = translation_within sheet (length table)

pub normal_place : (image buffer : List ℕ) → (normal_verdict image buffer).place ≤ 79
normal_place = normal_within

pub start_place : (state : List ℕ) → (start_verdict state).place ≤ 0
start_place = start_within

pub tick_place : (form : Form) (bytes state : List ℕ) (word : ℕ) → Bytes state → (ticked_on form bytes state word).verdict.place ≤ 255
tick_place = ticked_within

pub show_place : (form : Form) (bytes state : List ℕ) → Bytes state → (shown_on form bytes state).verdict.place ≤ 255
show_place = shown_within

pub detect_place : (image recording : List ℕ) → (recorded image recording).verdict.place ≤ 79
detect_place = recorded_within

-- ---- a state's eight bytes

-- The bytes of any state pass their test, and hold that state.
pub bytes_pass : (state : State) → bytes_verdict (state_bytes state) ≡ accepted
bytes_pass = states.bytes_pass

pub read_back : (state : State) → state.elapsed < 65536 → state_from (state_bytes state) ≡ state
read_back = states.read_back

-- Bytes that pass are those of the state that they hold.
pub write_back : (bytes : List ℕ) → Bytes bytes → (bytes_verdict bytes).number ≡ 0 → state_bytes (state_from bytes) ≡ bytes
write_back = states.write_back
