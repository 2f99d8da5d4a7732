-- The contracts settle the word, the bytes and the numbers: two outcomes that are allowed for the same input are the same. Assumes nothing.
use Rattle.std.specs.Prelude.{◌≡◌, List, ℕ}
use Rattle.std.proofs.Common.{sym, ap, ◌∙◌}
use Rattle.size.specs.Once.{house_told_once, judged_told_once}
use Rattle.promise.specs.Once.{write_told_once, read_told_once, repair_told_once, inspect_told_once, recover_told_once, fill_told_once, judge_told_once}
use Rattle.sheet.specs.Once.{correct_told_once}
use Rattle.reel.specs.Once.{next_told_once}
use Rattle.header.specs.declared.Header.{Header}
use Rattle.printer.specs.Once.{lay_told_once}
use Rattle.flag.specs.Flag.{line_of, flag_of}
use Rattle.word.specs.Word.{Answer, word, tile_kind, mark_of}
use Rattle.counterfrost.specs.Numbers.{count_or_offset, record_length, Seven, seven_of}
use Rattle.counterfrost.specs.Calls.{Worded, HouseWorded, TakesWorded, WriteWorded, ReadWorded, RepairWorded, InspectWorded, RecoverWorded, FillWorded, JudgeWorded, CorrectWorded, NextWorded, LayWorded}

-- where one thing is said, it has one word
one_word : {Said : Type 0} {answer_of : Said → Answer} {Right Right' : Said → Type 0} {v w : ℕ} (t : Worded answer_of Right v)
    (u : Worded answer_of Right' w) → t.said ≡ u.said → v ≡ w
one_word {Said} {answer_of} t u e = t.is ∙ ap (λ (s : Said). word (answer_of s)) e ∙ sym u.is

pub house_word_once : (p v w : ℕ) → HouseWorded p v → HouseWorded p w → v ≡ w
house_word_once p v w t u = one_word t u (house_told_once p t.said u.said t.right u.right)

pub takes_word_once : (kind p l v w : ℕ) → TakesWorded kind p l v → TakesWorded kind p l w → v ≡ w
takes_word_once kind p l v w t u = one_word t u (judged_told_once (tile_kind kind) p l t.said u.said t.right u.right)

pub write_word_once : (kind p l : ℕ) (text tile : List ℕ) (v w : ℕ) (x y : List ℕ) → WriteWorded kind p l text tile v x → WriteWorded kind p l text tile w y
    → (v ≡ w) × (x ≡ y)
write_word_once kind p l text tile v w x y t u =
    let e = write_told_once (tile_kind kind) p l text tile t.said u.said x y t.right u.right in (one_word t u e.0, e.1)

pub read_word_once : (kind p l : ℕ) (tile text : List ℕ) (v w : ℕ) (x y : List ℕ) → ReadWorded kind p l tile text v x → ReadWorded kind p l tile text w y
    → (v ≡ w) × (x ≡ y)
read_word_once kind p l tile text v w x y t u =
    let e = read_told_once (tile_kind kind) p l tile text t.said u.said x y t.right u.right in (one_word t u e.0, e.1)

pub repair_word_once : (kind p l : ℕ) (tile : List ℕ) (v w : ℕ) (x y : List ℕ) → RepairWorded kind p l tile v x → RepairWorded kind p l tile w y
    → (v ≡ w) × (x ≡ y)
repair_word_once kind p l tile v w x y t u =
    let e = repair_told_once (tile_kind kind) p l tile t.said u.said x y t.right u.right in (one_word t u e.0, e.1)

pub inspect_word_once : (kind p l : ℕ) (scan : List ℕ) (v w : ℕ) → InspectWorded kind p l scan v → InspectWorded kind p l scan w → v ≡ w
inspect_word_once kind p l scan v w t u = one_word t u (inspect_told_once (tile_kind kind) p l scan t.said u.said t.right u.right)

pub recover_word_once : (kind p l : ℕ) (scan text : List ℕ) (v w : ℕ) (x y : List ℕ) → RecoverWorded kind p l scan text v x → RecoverWorded kind p l scan text w y
    → (v ≡ w) × (x ≡ y)
recover_word_once kind p l scan text v w x y t u =
    let e = recover_told_once (tile_kind kind) p l scan text t.said u.said x y t.right u.right in (one_word t u e.0, e.1)

pub fill_word_once : (kind p l : ℕ) (tile : List ℕ) (first second v w : ℕ) (x y : List ℕ) → FillWorded kind p l tile first second v x
    → FillWorded kind p l tile first second w y → (v ≡ w) × (x ≡ y)
fill_word_once kind p l tile first second v w x y t u =
    let e = fill_told_once (tile_kind kind) p l tile (line_of first) (line_of second) t.said u.said x y t.right u.right in (one_word t u e.0, e.1)

pub judge_word_once : (p l : ℕ) (scan restored : List ℕ) (first second v w : ℕ) → JudgeWorded p l scan restored first second v
    → JudgeWorded p l scan restored first second w → v ≡ w
judge_word_once p l scan restored first second v w t u =
    one_word t u (judge_told_once p l scan restored (line_of first) (line_of second) t.said u.said t.right u.right)

-- a correction leaves one number too
pub correct_word_once : (kind p l : ℕ) (tile sheet : List ℕ) (v w : ℕ) (x y : List ℕ) (m n : ℕ) → CorrectWorded kind p l tile sheet v x m
    → CorrectWorded kind p l tile sheet w y n → (v ≡ w) × (x ≡ y) × (m ≡ n)
correct_word_once kind p l tile sheet v w x y m n t u =
    let e = correct_told_once (tile_kind kind) p l tile sheet t.said u.said x y t.right.0 u.right.0 in
    (one_word t u e.0, e.1, t.right.1 ∙ ap count_or_offset e.0 ∙ sym u.right.1)

-- laying a record leaves one too
pub lay_word_once : (which p l number first second : ℕ) (tile room : List ℕ) (v w : ℕ) (x y : List ℕ) (m n : ℕ) → LayWorded which p l number first second tile room v x m
    → LayWorded which p l number first second tile room w y n → (v ≡ w) × (x ≡ y) × (m ≡ n)
lay_word_once which p l number first second tile room v w x y m n t u =
    let h : Header = record { mark = mark_of which; p = p; l = l; number = number; first = flag_of first; second = flag_of second } in
    let e = lay_told_once h tile room t.said u.said x y t.right.0 u.right.0 in
    (one_word t u e.0, e.1, t.right.1 ∙ ap record_length e.0 ∙ sym u.right.1)

-- and a place has seven numbers
pub next_word_once : (reel : List ℕ) (at v w : ℕ) (s t : Seven) → NextWorded reel at v s.kind s.number s.p s.l s.first s.second s.offset
    → NextWorded reel at w t.kind t.number t.p t.l t.first t.second t.offset → (v ≡ w) × (s ≡ t)
next_word_once reel at v w s t x y =
    let e = next_told_once reel at x.said y.said x.right.0 y.right.0 in (one_word x y e, x.right.1 ∙ ap seven_of e ∙ sym y.right.1)
