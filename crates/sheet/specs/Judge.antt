-- How a sheet is judged, record by record. Assumes nothing.
use Rattle.std.specs.Prelude.{◌≡◌, List, ℕ, ◌+◌, ◌*◌, ◌<◌, eqb, get_or, Option, Some, None}
use Rattle.std.proofs.Common.{refl, ap, arith, below_more}
use Rattle.record.specs.Number.{big_endian}
use Rattle.code.specs.Says.{Says, says_equal}
use Rattle.sheet.specs.Sheet.{records, byte_of, Whole, Marked, Names, was_of, is_of, Placed, SoundBelow}
use Rattle.sheet.specs.declared.Correction.{Correction}
use Rattle.sheet.specs.Answer.{corrected}
use Rattle.sheet.specs.Calls.{Judged, sound}

-- where a record begins
first_byte : (sheet : List ℕ) (k : ℕ) → get_or sheet (8 * k) 0 ≡ byte_of sheet k 0
first_byte sheet k = ap (λ (n : ℕ). get_or sheet n 0) (omega arith)

-- a record has the mark exactly if its first two bytes make that number
pub mark_says : (sheet : List ℕ) (k n : ℕ) → n ≡ big_endian (get_or sheet (8 * k) 0) (byte_of sheet k 1) → get_or sheet (8 * k) 0 < 256 → byte_of sheet k 1 < 256
    → Says (eqb n 0xC33C) (Marked sheet k)
mark_says sheet k n is high low =
    says_equal n 0xC33C (λ e. (omega (arith, first_byte sheet k), omega arith)) (λ m. omega (arith, first_byte sheet k, m.0, m.1))

-- what is read of the k-th record: its correction, if it has the mark
abbrev pub Read : List ℕ → ℕ → Option Correction → Type 0
Read sheet k None = Marked sheet k → ⊥
Read sheet k (Some c) = Marked sheet k × Names sheet c.row c.column k × (c.was ≡ was_of sheet k) × (c.is ≡ is_of sheet k)

-- no record is passed yet, and one more is
pub sound_none : (p : ℕ) (sheet : List ℕ) → SoundBelow p sheet 0
sound_none p sheet k h = omega arith

pub sound_more : (p : ℕ) (sheet : List ℕ) (n : ℕ) → SoundBelow p sheet n → Marked sheet n → Placed p sheet n → SoundBelow p sheet (n + 1)
sound_more p sheet n before m h = below_more (λ k. Marked sheet k × Placed p sheet k) n before (m, h)

-- a sheet that is taken has whole records, all of which count, and none is faulty
pub judged_count : {p : ℕ} (sheet : List ℕ) (n : ℕ) → Judged p sheet (corrected n) → (n ≡ records sheet) × Whole sheet × SoundBelow p sheet (records sheet)
judged_count sheet n (sound w h) = (refl, w, h)

-- a sheet that is taken has no faulty record
pub judged_sound : {p n : ℕ} {sheet : List ℕ} → Judged p sheet (corrected n) → SoundBelow p sheet (records sheet)
judged_sound {p = p} {n = n} {sheet = sheet} j = (judged_count sheet n j).2
