-- WHAT A WORD TELLS: taken apart as include/counterfrost.h does, the word of a call gives back the kind and the numbers of what is said. So
-- no two answers are confused. Assumes nothing.
use Rattle.std.specs.Prelude.{◌≡◌, List, ℕ, ◌/◌, ◌%◌}
use Rattle.std.proofs.Common.{sym, subst, arith}
use Rattle.word.specs.Word.{Answer, answer, word, size_answer, tile_answer}
use Rattle.counterfrost.specs.Numbers.{sheet_answer, lay_answer, reel_answer}
use Rattle.counterfrost.specs.Calls.{Worded, HouseWorded, TakesWorded, WriteWorded, ReadWorded, RepairWorded, InspectWorded, RecoverWorded, FillWorded, JudgeWorded, CorrectWorded, NextWorded, LayWorded}
use Rattle.word.specs.Fits.{Fits}
use Rattle.counterfrost.specs.Fits.{house_fits, takes_fits, write_fits, read_fits, repair_fits, inspect_fits, recover_fits, fill_fits, judge_fits, correct_fits, next_fits, lay_fits}

-- `cf_kind`, `cf_first` and `cf_second`: the word shifted by 32 bits, its next 16 bits, its last 16
abbrev pub kind_of : ℕ → ℕ
kind_of w = w / 0x100000000

abbrev pub first_of : ℕ → ℕ
first_of w = w / 0x10000 % 0x10000

abbrev pub second_of : ℕ → ℕ
second_of w = w % 0x10000

-- they tell the answer
abbrev pub Tells : ℕ → Answer → Type 0
Tells w (answer kind first second) = (kind_of w ≡ kind) × (first_of w ≡ first) × (second_of w ≡ second)

apart : (a : Answer) → Fits a → Tells (word a) a
apart (answer kind first second) f = (omega (arith, f.0, f.1), omega (arith, f.0, f.1), omega (arith, f.0, f.1))

-- where what is rightly said fits, its word tells it
tells : {Said : Type 0} {answer_of : Said → Answer} {Right : Said → Type 0} {w : ℕ} → ((said : Said) → Right said → Fits (answer_of said))
    → (t : Worded answer_of Right w) → Tells w (answer_of t.said)
tells {Said} {answer_of} f t =
    subst (λ (v : ℕ). Tells v (answer_of t.said)) (sym t.is) (apart (answer_of t.said) (f t.said t.right))

pub house_tells : {p w : ℕ} (t : HouseWorded p w) → Tells w (size_answer t.said)
house_tells t = tells (λ said h. house_fits h) t

pub takes_tells : (kind : ℕ) {p l w : ℕ} (t : TakesWorded kind p l w) → Tells w (size_answer t.said)
takes_tells kind t = tells (λ said h. takes_fits h) t

pub write_tells : (kind : ℕ) {p l w : ℕ} {text x y : List ℕ} (t : WriteWorded kind p l text x w y) → Tells w (tile_answer t.said)
write_tells kind t = tells (λ said h. write_fits h) t

pub read_tells : (kind : ℕ) {p l w : ℕ} {x text y : List ℕ} (t : ReadWorded kind p l x text w y) → Tells w (tile_answer t.said)
read_tells kind t = tells (λ said h. read_fits h) t

pub repair_tells : (kind : ℕ) {p l w : ℕ} {x y : List ℕ} (t : RepairWorded kind p l x w y) → Tells w (tile_answer t.said)
repair_tells kind t = tells (λ said h. repair_fits h) t

pub inspect_tells : (kind : ℕ) {p l w : ℕ} {x : List ℕ} (t : InspectWorded kind p l x w) → Tells w (tile_answer t.said)
inspect_tells kind t = tells (λ said h. inspect_fits h) t

pub recover_tells : (kind : ℕ) {p l w : ℕ} {x text y : List ℕ} (t : RecoverWorded kind p l x text w y) → Tells w (tile_answer t.said)
recover_tells kind t = tells (λ said h. recover_fits h) t

pub fill_tells : (kind first second : ℕ) {p l w : ℕ} {x y : List ℕ} (t : FillWorded kind p l x first second w y) → Tells w (tile_answer t.said)
fill_tells kind first second t = tells (λ said h. fill_fits h) t

pub judge_tells : (first second : ℕ) {p l w : ℕ} {x y : List ℕ} (t : JudgeWorded p l x y first second w) → Tells w (tile_answer t.said)
judge_tells first second t = tells (λ said h. judge_fits h) t

pub correct_tells : (kind : ℕ) {p l w n : ℕ} {x records y : List ℕ} (t : CorrectWorded kind p l x records w y n) → Tells w (sheet_answer t.said)
correct_tells kind t = tells (λ said h. correct_fits h.0) t

pub next_tells : {at w kind number p l first second from : ℕ} {reel : List ℕ} (t : NextWorded reel at w kind number p l first second from) → Tells w (reel_answer t.said)
next_tells t = tells (λ said h. next_fits h.0) t

pub lay_tells : (which number first second : ℕ) {p l w n : ℕ} {tile room x : List ℕ} (t : LayWorded which p l number first second tile room w x n) → Tells w (lay_answer t.said)
lay_tells which number first second t = tells (λ said h. lay_fits h.0) t
