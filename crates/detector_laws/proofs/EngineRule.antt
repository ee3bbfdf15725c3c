-- Runs of engine ticks: they are runs of twenty times as many frames, and the channel rule holds for them. Assumes nothing.
use Prim.Native.Nat.{ℕ, zero, suc, ◌+◌, ◌-◌, ◌*◌, ◌≤◌, ◌<◌}
use mathlib.Core.Path.{◌≡◌, refl, ap, ap₂, sym, ◌∙◌}
use mathlib.Core.List.{List, [], ◌∷◌}
use native.Mathlib.Nat.{add-zero, add-suc, zero-sub, suc-sub-suc, sub-zero}
use native.Mathlib.Omega.{arith}
use lib.ListN.{get_or, take, drop}
use lib.Seq.{take-take, drop-drop, take-nil}
use Rattle.records.specs.Lists.{each}
use Rattle.records.proofs.ListLaws.{each_at, each_length, each_ext, each_from}
use Rattle.image.specs.declared.Settings.{Settings}
use Rattle.detectors.specs.Bank.{channel_at, bank_after, faults_of, warnings_of, start_bank}
use Rattle.channels.specs.Frame.{frame_at}
use Rattle.detectors.specs.Tick.{bank_at, no_words, words_at, words_over, trace}
use Rattle.detectors.specs.declared.Words.{Words}
use Rattle.detectors.specs.declared.Bank.{Bank}
use Rattle.detector_laws.proofs.ChannelRule.{Agree, SameBits, same_channel, same_bits}

-- ---- a run of engine ticks
-- the 220 bytes of engine tick e
unfoldable pub part_at : List ℕ → ℕ → List ℕ
part_at bytes e = take 220 (drop (220 * e) bytes)

-- the bank after the first m engine ticks
unfoldable pub engine_bank_at : Settings → List ℕ → Bank → ℕ → Bank
engine_bank_at settings bytes bank zero = bank
engine_bank_at settings bytes bank (suc e) = bank_at settings (part_at bytes e) (engine_bank_at settings bytes bank e) 20

-- the words of engine tick e
unfoldable pub engine_words_at : Settings → List ℕ → Bank → ℕ → Words
engine_words_at settings bytes bank e = words_over (trace settings (part_at bytes e) (engine_bank_at settings bytes bank e) 20)

-- ---- its frames
drop_take : (m n : ℕ) (l : List ℕ) → drop m (take n l) ≡ take (n - m) (drop m l)
drop_take zero n l = ap (λ (r : ℕ). take r l) (sym (sub-zero n))
drop_take (suc m) zero l = ap (λ (r : ℕ). take r (drop (suc m) l)) (sym (zero-sub (suc m)))
drop_take (suc m) (suc n) [] = sym (take-nil (suc n - suc m))
drop_take (suc m) (suc n) (x ∷ l) = drop_take m n l ∙ ap (λ (r : ℕ). take r (drop m l)) (sym (suc-sub-suc n m))

-- frame i of engine tick e is frame 20e + i of the run
pub frame_of_part : (bytes : List ℕ) (e i : ℕ) → i < 20 → frame_at (part_at bytes e) i ≡ frame_at bytes (20 * e + i)
unfolding frame_at part_at
frame_of_part bytes e i below =
    let fits : 11 ≤ 220 - 11 * i = omega arith in
    let place : 220 * e + 11 * i ≡ 11 * (20 * e + i) = omega arith in
    ap (take 11) (drop_take (11 * i) 220 (drop (220 * e) bytes))
    ∙ take-take 11 (220 - 11 * i) _ fits
    ∙ ap (take 11) (drop-drop (11 * i) (220 * e) bytes ∙ ap (λ (m : ℕ). drop m bytes) place)

-- ---- its banks
-- a run over a part of the frames goes on from the run before it
bank_goes_on : (settings : Settings) (part bytes : List ℕ) (bank : Bank) (m n : ℕ) → ((i : ℕ) → i < n → frame_at part i ≡ frame_at bytes (m + i))
    → bank_at settings part (bank_at settings bytes bank m) n ≡ bank_at settings bytes bank (m + n)
unfolding bank_at
bank_goes_on settings part bytes bank m zero same = ap (bank_at settings bytes bank) (sym (add-zero m))
bank_goes_on settings part bytes bank m (suc n) same =
    ap₂ (bank_after settings) (same n (omega arith)) (bank_goes_on settings part bytes bank m n (λ i h. same i (omega arith)))
    ∙ ap (bank_at settings bytes bank) (sym (add-suc m n))

-- the bank after e engine ticks is that after 20e frames
pub engine_bank : (settings : Settings) (bytes : List ℕ) (bank : Bank) (e : ℕ)
    → engine_bank_at settings bytes bank e ≡ bank_at settings bytes bank (20 * e)
unfolding engine_bank_at bank_at
engine_bank settings bytes bank zero = refl
engine_bank settings bytes bank (suc e) =
    let more : 20 * e + 20 ≡ 20 * suc e = omega arith in
    ap (λ (b : Bank). bank_at settings (part_at bytes e) b 20) (engine_bank settings bytes bank e)
    ∙ bank_goes_on settings (part_at bytes e) bytes bank (20 * e) 20 (frame_of_part bytes e)
    ∙ ap (bank_at settings bytes bank) more

-- ---- its words
words_go_on : (settings : Settings) (part bytes : List ℕ) (bank : Bank) (m n : ℕ) → ((i : ℕ) → i < n → frame_at part i ≡ frame_at bytes (m + i))
    → (i : ℕ) → i < n → words_at settings part (bank_at settings bytes bank m) i ≡ words_at settings bytes bank (m + i)
unfolding words_at
words_go_on settings part bytes bank m n same i below =
    let before = bank_goes_on settings part bytes bank m i (λ j h. same j (omega arith)) in
    let after = bank_goes_on settings part bytes bank m (suc i) (λ j h. same j (omega arith)) in
    (λ j. record { faults = faults_of settings (before j) (after j); warnings = warnings_of settings (before j) (after j) })
    ∙ rw add-suc

-- the words of engine tick e are over those of the frames 20e to 20e + 19
pub engine_words : (settings : Settings) (bytes : List ℕ) (bank : Bank) (e : ℕ)
    → engine_words_at settings bytes bank e ≡ words_over (each (words_at settings bytes bank) (20 * e) 20)
unfolding engine_words_at trace
engine_words settings bytes bank e =
    ap (λ (b : Bank). words_over (each (words_at settings (part_at bytes e) b) 0 20)) (engine_bank settings bytes bank e)
    ∙ ap words_over
    (each_ext (words_at settings (part_at bytes e) (bank_at settings bytes bank (20 * e))) (λ i. words_at settings bytes bank (20 * e + i)) 0 20
    (λ i h. words_go_on settings (part_at bytes e) bytes bank (20 * e) 20 (frame_of_part bytes e) (0 + i) (omega arith))
    ∙ sym (each_from (words_at settings bytes bank) (20 * e) 20))

-- ---- the rule
-- the words over n ticks are those of the last
pub words_of_last : (w : ℕ → Words) (i n : ℕ) → 0 < n → words_over (each w i n) ≡ w (i + (n - 1))
unfolding words_over
words_of_last w i n some =
    ap (λ (j : ℕ). get_or (each w i n) (j - 1) no_words) (each_length w i n) ∙ each_at w i n (n - 1) no_words (omega arith)

-- ticks with the same bits have the same bits over them all
over_same_bits : (k : ℕ) (v w : ℕ → Words) (i n : ℕ) → 0 < n → ((j : ℕ) → j < n → SameBits k (v (i + j)) (w (i + j)))
    → SameBits k (words_over (each v i n)) (words_over (each w i n))
over_same_bits k v w i n some same = rw (words_of_last v i n some, words_of_last w i n some) (same (n - 1) (omega arith))

-- over any number of engine ticks the channel's state is the same
pub engine_same_channel : (k m : ℕ) (s t : Settings) (f g : List ℕ) → k < 10 → Agree k (20 * m) s t f g → (e : ℕ) → e ≤ m
    → channel_at (engine_bank_at s f start_bank e) k ≡ channel_at (engine_bank_at t g start_bank e) k
engine_same_channel k m s t f g below agree e h =
    ap (λ (b : Bank). channel_at b k) (engine_bank s f start_bank e)
    ∙ same_channel k (20 * m) s t f g below agree (20 * e) (omega arith)
    ∙ ap (λ (b : Bank). channel_at b k) (sym (engine_bank t g start_bank e))

-- on every engine tick bit k of the fault word is the same, and so is that of the warning word
pub engine_same_bits : (k m : ℕ) (s t : Settings) (f g : List ℕ) → k < 10 → Agree k (20 * m) s t f g → (e : ℕ) → e < m
    → SameBits k (engine_words_at s f start_bank e) (engine_words_at t g start_bank e)
engine_same_bits k m s t f g below agree e h =
    rw (engine_words s f start_bank e, engine_words t g start_bank e)
    (over_same_bits k (words_at s f start_bank) (words_at t g start_bank) (20 * e) 20 (omega arith)
    (λ i p. same_bits k (20 * m) s t f g below agree (20 * e + i) (omega arith)))
