-- Wrong programs, each broken by a theorem: no such program meets its contract. Assumes nothing.
use Rattle.std.specs.Prelude.{◌≡◌, refl, List, [], ◌∷◌, ℕ, length, get_or, replicate}
use Rattle.std.proofs.Common.{ap, inl, arith}
use Rattle.code.specs.Tile.{text_length, text_of, Good}
use Rattle.code.specs.Kind.{Takes}
use Rattle.code.specs.Count.{once_only}
use Rattle.code.specs.Fillings.{fills_once}
use Rattle.code.specs.declared.Kind.{Kind}
use Rattle.code.specs.declared.Kind.TheVariants.{New, Old}
use Rattle.code.specs.declared.Line.TheVariants.{Row}
use Rattle.size.specs.Answer as size
use Rattle.size.specs.Shams.{size_5, size_7, at_5_2, no_at_7_2}
use Rattle.promise.specs.Answer as tile
use Rattle.promise.specs.Admit.{admits}
use Rattle.promise.specs.Calls as tile_calls
use Rattle.promise.specs.Calls.{WriteTold}
use Rattle.promise.specs.Explain.{row_fills}
use Rattle.promise.specs.Worked as tile_case
use Rattle.promise.specs.WorkedJudged.{judgement}
use Rattle.promise.specs.WorkedRecovered.{nines, zeros_text}
use Rattle.promise.specs.Worked.{zeros, text_1, tile_1, tile_4, tile_5, tile_6, tile_7, tile_8, repaired_8, tile_9, filled_9, copied_1}
use Rattle.promise.proofs.Worked as tile_worked
use Rattle.promise.proofs.WorkedRecovered.{recovery_claimed}
use Rattle.sheet.specs.Answer as sheet
use Rattle.sheet.specs.Calls as sheet_calls
use Rattle.sheet.specs.Worked as sheet_case
use Rattle.sheet.specs.Worked.{sheet_11, tile_11}
use Rattle.reel.specs.Answer as reel
use Rattle.reel.specs.Worked as reel_case
use Rattle.reel.specs.Worked.{flagged_tile, plain_tile, whole_case, old_case, flag_case, row_0, column_0}
use Rattle.flag.specs.Flag.{line_of, flag_of}
use Rattle.header.specs.Header.{Carries}
use Rattle.header.specs.declared.Mark.TheVariants as mark
use Rattle.header.specs.declared.Header.{Header}
use Rattle.printer.specs.Lay as lay
use Rattle.printer.specs.Laying.{taken_fit, laid_room, made_laid}
use Rattle.word.specs.Version.{version}
use Rattle.word.specs.Word.{answer, word, done, refusal, tile_kind, mark_of}
use Rattle.counterfrost.specs.Calls.{HouseWorded, TakesWorded, WriteWorded, ReadWorded, RepairWorded, InspectWorded, RecoverWorded, FillWorded, JudgeWorded, CorrectWorded, NextWorded, LayWorded}
use Rattle.counterfrost.specs.Once.{house_word_once, takes_word_once, write_word_once, read_word_once, repair_word_once, inspect_word_once, recover_word_once, fill_word_once, judge_word_once, correct_word_once, next_word_once, lay_word_once}
use Rattle.counterfrost.specs.Numbers.{Seven}

-- a good tile was written
written_good : {k : Kind} {p l : ℕ} {text x y : List ℕ} → WriteTold k p l text x tile.done y → Good p l y
written_good (WriteTold.writes h w) = w.good

-- ---- the house slope

house_5 : HouseWorded 5 (word (answer 0 2 0))
house_5 = record { said = size.slope 2; right = size.given size_5 (record { allowed = at_5_2; least = λ j h a. omega (arith, a.low) }); is = refl }

house_4 : HouseWorded 4 (word (refusal 1))
house_4 = record { said = size.refused 1; right = size.no_size (λ s. omega (arith, s.low)); is = refl }

-- a first number that is laid in the wrong bits
pub first_misplaced : HouseWorded 5 2 → ⊥
first_misplaced t = omega (arith, house_word_once 5 (word (answer 0 2 0)) 2 house_5 t)

-- a refusal of the kind 0
pub refusal_told_done : HouseWorded 4 (word (answer 0 1 0)) → ⊥
refusal_told_done t = omega (arith, house_word_once 4 (word (refusal 1)) (word (answer 0 1 0)) house_4 t)

-- ---- the judgement of a size and a slope

taken_5_2 : (kind : ℕ) → TakesWorded kind 5 2 (word done)
taken_5_2 kind = record { said = size.well; right = size.taken size_5 (tile_case.taken_5_2 (tile_kind kind)); is = refl }

-- 4 is no size, and 0 is nowhere a slope
refused_4 : (kind : ℕ) → TakesWorded kind 4 0 (word (refusal 1))
refused_4 kind = record { said = size.refused 1; right = size.no_size (λ s. omega (arith, s.low)); is = refl }

-- one that takes the slope for the size
pub takes_exchanged : (kind : ℕ) → TakesWorded kind 5 2 (word (refusal 1)) → ⊥
takes_exchanged kind t = omega (arith, takes_word_once kind 5 2 (word done) (word (refusal 1)) (taken_5_2 kind) t)

-- one that takes everything
pub takes_everything : (kind : ℕ) → TakesWorded kind 4 0 (word done) → ⊥
takes_everything kind t = omega (arith, takes_word_once kind 4 0 (word (refusal 1)) (word done) (refused_4 kind) t)

-- one that looks at the slope first
pub takes_slope_first : (kind : ℕ) → TakesWorded kind 4 0 (word (refusal 2)) → ⊥
takes_slope_first kind t = omega (arith, takes_word_once kind 4 0 (word (refusal 1)) (word (refusal 2)) (refused_4 kind) t)

-- ---- the version

-- a library that says the version before this one, and one that says none
pub version_stale : ◌≡◌ {A = ℕ} 700 version → ⊥
version_stale e = omega (arith, e)

pub version_missing : ◌≡◌ {A = ℕ} 0 version → ⊥
version_missing e = omega (arith, e)

-- ---- write and read

written_1 : (kind : ℕ) → WriteWorded kind 5 2 text_1 zeros (word done) tile_1
written_1 kind = record { said = tile.done; right = ((tile_worked.claimed 1).0 (tile_kind kind) zeros refl).0; is = refl }

-- a writer that takes the slope for the size
pub write_exchanged : (kind : ℕ) (x : List ℕ) → WriteWorded kind 5 2 text_1 zeros (word (refusal 1)) x → ⊥
write_exchanged kind x t = omega (arith, (write_word_once kind 5 2 text_1 zeros (word done) (word (refusal 1)) tile_1 x (written_1 kind) t).0)

-- one that lays the text in and makes no checks
pub write_copies : (kind : ℕ) (w : ℕ) → WriteWorded kind 5 2 text_1 zeros w copied_1 → ⊥
write_copies kind w t =
    let e = (write_word_once kind 5 2 text_1 zeros (word done) w tile_1 copied_1 (written_1 kind) t).1 in let z : ◌≡◌ {A = ℕ} 0 1 = cc in omega arith

-- one that refuses the slope 0 with the kind 0
pub write_refusal_done : (kind : ℕ) (x : List ℕ) → WriteWorded kind 5 0 text_1 zeros (word (answer 0 2 0)) x → ⊥
write_refusal_done kind x t =
    let right : WriteWorded kind 5 0 text_1 zeros (word (refusal 2)) zeros = record {
      said = tile.refused 2;
      right = tile_calls.WriteTold.refuses (tile_calls.judged (size.no_slope size_5 (no_0 (tile_kind kind))));
      is = refl;
    } in
    omega (arith, (write_word_once kind 5 0 text_1 zeros (word (refusal 2)) (word (answer 0 2 0)) zeros x right t).0)
  where
    no_0 : (k : Kind) → Takes k 5 0 → ⊥
    no_0 New a = omega (arith, a.low)
    no_0 Old a = omega arith

-- the text of tile 1, whatever the lent text held
read_1 : (kind : ℕ) (page : List ℕ) → length page ≡ text_length 5 → ReadWorded kind 5 2 tile_1 page (word done) (text_of 5 tile_1)
read_1 kind page e = record {
  said = tile.done;
  right = tile_calls.reads (admits size_5 (tile_case.taken_5_2 (tile_kind kind)) (refl, e)) (written_good ((tile_worked.claimed 1).0 (tile_kind kind) zeros refl).0);
  is = refl;
}

-- a reader that takes the slope for the size
pub read_exchanged : (kind : ℕ) (page x : List ℕ) → length page ≡ text_length 5 → ReadWorded kind 5 2 tile_1 page (word (refusal 1)) x → ⊥
read_exchanged kind page x e t = omega (arith, (read_word_once kind 5 2 tile_1 page (word done) (word (refusal 1)) (text_of 5 tile_1) x (read_1 kind page e) t).0)

-- tile 1 without its checks
refused_1 : (kind : ℕ) (page : List ℕ) → length page ≡ text_length 5 → ReadWorded kind 5 2 copied_1 page (word (refusal 5)) page
refused_1 kind page e = record { said = tile.refused 5; right = ((tile_worked.other_claimed 2).1 (tile_kind kind) page e).0; is = refl }

-- one that says Done to a tile that is not good
pub read_damaged : (kind : ℕ) (page x : List ℕ) → length page ≡ text_length 5 → ReadWorded kind 5 2 copied_1 page (word done) x → ⊥
read_damaged kind page x e t = omega (arith, (read_word_once kind 5 2 copied_1 page (word (refusal 5)) (word done) page x (refused_1 kind page e) t).0)

-- one that refuses it with the kind 0
pub read_refusal_done : (kind : ℕ) (page x : List ℕ) → length page ≡ text_length 5 → ReadWorded kind 5 2 copied_1 page (word (answer 0 5 0)) x → ⊥
read_refusal_done kind page x e t =
    omega (arith, (read_word_once kind 5 2 copied_1 page (word (refusal 5)) (word (answer 0 5 0)) page x (refused_1 kind page e) t).0)

-- ---- repair

mended_8 : (kind : ℕ) → RepairWorded kind 5 2 tile_8 (word (answer 1 3 0)) repaired_8
mended_8 kind = record { said = tile.column 3; right = (tile_worked.claimed 8 (tile_kind kind)).0; is = refl }

-- a repair that tells a column as a row
pub column_told_row : (kind : ℕ) (x : List ℕ) → RepairWorded kind 5 2 tile_8 (word (answer 2 3 0)) x → ⊥
column_told_row kind x t = omega (arith, (repair_word_once kind 5 2 tile_8 (word (answer 1 3 0)) (word (answer 2 3 0)) repaired_8 x (mended_8 kind) t).0)

-- one that names the column second
pub column_second : (kind : ℕ) (x : List ℕ) → RepairWorded kind 5 2 tile_8 (word (answer 1 0 3)) x → ⊥
column_second kind x t = omega (arith, (repair_word_once kind 5 2 tile_8 (word (answer 1 3 0)) (word (answer 1 0 3)) repaired_8 x (mended_8 kind) t).0)

mended_4 : (kind : ℕ) → RepairWorded kind 5 2 tile_4 (word (answer 3 2 3)) zeros
mended_4 kind = record { said = tile.cell 2 3; right = (tile_worked.claimed 4 (tile_kind kind)).0; is = refl }

-- one that still tells a lone byte as its column
pub cell_told_column : (kind : ℕ) (x : List ℕ) → RepairWorded kind 5 2 tile_4 (word (answer 1 3 0)) x → ⊥
cell_told_column kind x t = omega (arith, (repair_word_once kind 5 2 tile_4 (word (answer 3 2 3)) (word (answer 1 3 0)) zeros x (mended_4 kind) t).0)

-- one that tells the cell's column first
pub cell_exchanged : (kind : ℕ) (x : List ℕ) → RepairWorded kind 5 2 tile_4 (word (answer 3 3 2)) x → ⊥
cell_exchanged kind x t = omega (arith, (repair_word_once kind 5 2 tile_4 (word (answer 3 2 3)) (word (answer 3 3 2)) zeros x (mended_4 kind) t).0)

-- ---- inspect and recover

inspected_26 : (kind : ℕ) → InspectWorded kind 5 2 tile_4 (word (answer 3 2 3))
inspected_26 kind = record { said = tile.cell 2 3; right = (recovery_claimed 26 (tile_kind kind)).1; is = refl }

-- an inspector that takes the slope for the size
pub inspect_exchanged : (kind : ℕ) → InspectWorded kind 5 2 tile_4 (word (refusal 1)) → ⊥
inspect_exchanged kind t = omega (arith, inspect_word_once kind 5 2 tile_4 (word (answer 3 2 3)) (word (refusal 1)) (inspected_26 kind) t)

-- one that says done, and no more, of every tile that can be repaired
pub inspect_done : (kind : ℕ) → InspectWorded kind 5 2 tile_4 (word done) → ⊥
inspect_done kind t = omega (arith, inspect_word_once kind 5 2 tile_4 (word (answer 3 2 3)) (word done) (inspected_26 kind) t)

recovered_27 : (kind : ℕ) → RecoverWorded kind 5 2 tile_5 nines (word (answer 1 0 0)) zeros_text
recovered_27 kind = record { said = tile.column 0; right = (recovery_claimed 27 (tile_kind kind)).0.0; is = refl }

-- a recovery that takes the slope for the size
pub recover_exchanged : (kind : ℕ) (x : List ℕ) → RecoverWorded kind 5 2 tile_5 nines (word (refusal 1)) x → ⊥
recover_exchanged kind x t = omega (arith, (recover_word_once kind 5 2 tile_5 nines (word (answer 1 0 0)) (word (refusal 1)) zeros_text x (recovered_27 kind) t).0)

-- one that says done, and no more, where it repaired
pub recover_done : (kind : ℕ) (x : List ℕ) → RecoverWorded kind 5 2 tile_5 nines (word done) x → ⊥
recover_done kind x t = omega (arith, (recover_word_once kind 5 2 tile_5 nines (word (answer 1 0 0)) (word done) zeros_text x (recovered_27 kind) t).0)

-- one that leaves the text as it was, whatever it says
pub recover_nothing : (kind w : ℕ) → RecoverWorded kind 5 2 tile_5 nines w nines → ⊥
recover_nothing kind w t =
    let e = (recover_word_once kind 5 2 tile_5 nines (word (answer 1 0 0)) w zeros_text nines (recovered_27 kind) t).1 in let z : ◌≡◌ {A = ℕ} 0 9 = cc in omega arith

unrecovered_30 : (kind : ℕ) → RecoverWorded kind 5 2 tile_7 nines (word (refusal 5)) nines
unrecovered_30 kind = record { said = tile.refused 5; right = (recovery_claimed 30 (tile_kind kind)).0.0; is = refl }

-- one that refuses with the kind 0
pub recover_refusal_done : (kind : ℕ) (x : List ℕ) → RecoverWorded kind 5 2 tile_7 nines (word (answer 0 5 0)) x → ⊥
recover_refusal_done kind x t = omega (arith, (recover_word_once kind 5 2 tile_7 nines (word (refusal 5)) (word (answer 0 5 0)) nines x (unrecovered_30 kind) t).0)

-- ---- fill

-- row 0, named twice
filled_6 : (kind : ℕ) → FillWorded kind 5 2 tile_6 0 0 (word done) zeros
unfolding line_of
filled_6 kind = record {
  said = tile.done;
  right = tile_calls.has_lines (admits size_5 (tile_case.taken_5_2 (tile_kind kind)) refl) (omega arith) (omega arith) (tile_calls.Looked.one
      (once_only (fills_once 5 2 tile_6 tile_case.slope_5_2 (Row 0) (Row 0) (inl tt)) (row_fills (tile_worked.claimed 6 (tile_kind kind)).0)) refl);
  is = refl;
}

-- a fill that takes rows for columns: column 0 has no filling there
pub rows_for_columns : (kind : ℕ) (x : List ℕ) → FillWorded kind 5 2 tile_6 0 0 (word (refusal 5)) x → ⊥
rows_for_columns kind x t = omega (arith, (fill_word_once kind 5 2 tile_6 0 0 (word done) (word (refusal 5)) zeros x (filled_6 kind) t).0)

-- row 0 and column 0
crossed_9 : (kind : ℕ) → FillWorded kind 5 2 tile_9 0 0x8000 (word done) filled_9
unfolding line_of
crossed_9 kind = record { said = tile.done; right = (tile_worked.claimed 9 (tile_kind kind)).0; is = refl }

-- one that passes over the second line: row 0 alone has no filling there
pub second_line_ignored : (kind : ℕ) (x : List ℕ) → FillWorded kind 5 2 tile_9 0 0x8000 (word (refusal 5)) x → ⊥
second_line_ignored kind x t = omega (arith, (fill_word_once kind 5 2 tile_9 0 0x8000 (word done) (word (refusal 5)) filled_9 x (crossed_9 kind) t).0)

-- the column 8000 hex, which no tile has
far_line : (kind : ℕ) → FillWorded kind 5 2 zeros 0x10000 0x10000 (word (refusal 4)) zeros
unfolding line_of
far_line kind = record { said = tile.refused 4; right = tile_calls.no_line (admits size_5 (tile_case.taken_5_2 (tile_kind kind)) refl) (λ h. omega (arith, h.0)); is = refl }

-- one that looks at the last 16 bits of a line's name alone
pub last_bits : (kind : ℕ) (x : List ℕ) → FillWorded kind 5 2 zeros 0x10000 0x10000 (word done) x → ⊥
last_bits kind x t = omega (arith, (fill_word_once kind 5 2 zeros 0x10000 0x10000 (word (refusal 4)) (word done) zeros x (far_line kind) t).0)

-- ---- judge

-- tile 9, restored in row 0 and column 0
accepted_18 : JudgeWorded 5 2 tile_9 filled_9 0 0x8000 (word done)
unfolding line_of
accepted_18 = record { said = tile.done; right = (judgement 18).0; is = refl }

-- a judge that takes the scan for the restored tile: it is not good
pub judge_exchanged : JudgeWorded 5 2 tile_9 filled_9 0 0x8000 (word (refusal 10)) → ⊥
judge_exchanged t = omega (arith, judge_word_once 5 2 tile_9 filled_9 0 0x8000 (word done) (word (refusal 10)) accepted_18 t)

-- one that passes over the second line: what was restored there differs
pub judge_first_line : JudgeWorded 5 2 tile_9 filled_9 0 0x8000 (word (refusal 11)) → ⊥
judge_first_line t = omega (arith, judge_word_once 5 2 tile_9 filled_9 0 0x8000 (word done) (word (refusal 11)) accepted_18 t)

-- zeros, which are good, and differ from tile 9 elsewhere
elsewhere_19 : JudgeWorded 5 2 tile_9 zeros 0 0x8000 (word (refusal 11))
unfolding line_of
elsewhere_19 = record { said = tile.refused 11; right = (judgement 19).0; is = refl }

-- one that tells this with the kind 0
pub judge_refusal_done : JudgeWorded 5 2 tile_9 zeros 0 0x8000 (word (answer 0 11 0)) → ⊥
judge_refusal_done t = omega (arith, judge_word_once 5 2 tile_9 zeros 0 0x8000 (word (refusal 11)) (word (answer 0 11 0)) elsewhere_19 t)

-- ---- correct

corrected_11 : (kind : ℕ) → CorrectWorded kind 5 2 tile_4 sheet_11 (word done) tile_11 1
corrected_11 kind = record { said = sheet.corrected 1; right = (((sheet_case.claimed 11).1 (tile_kind kind)).0.0, refl); is = refl }

-- a correction that leaves the number as it was
pub count_missing : (kind : ℕ) (w : ℕ) (x : List ℕ) → CorrectWorded kind 5 2 tile_4 sheet_11 w x 0 → ⊥
count_missing kind w x t = omega (arith, (correct_word_once kind 5 2 tile_4 sheet_11 (word done) w tile_11 x 1 0 (corrected_11 kind) t).2)

-- a sheet of one byte
cut_sheet : (kind : ℕ) → CorrectWorded kind 5 2 zeros (0 ∷ []) (word (refusal 7)) zeros 0
cut_sheet kind = record { said = sheet.refused 7 0; right = (sheet_calls.faulty (admits size_5 (tile_case.taken_5_2 (tile_kind kind)) refl) (sheet_calls.cut (λ w. omega (arith, w))), refl); is = refl }

-- one that gives the size for a refusal's offset
pub size_for_offset : (kind : ℕ) (w : ℕ) (x : List ℕ) → CorrectWorded kind 5 2 zeros (0 ∷ []) w x 5 → ⊥
size_for_offset kind w x t = omega (arith, (correct_word_once kind 5 2 zeros (0 ∷ []) (word (refusal 7)) w zeros x 0 5 (cut_sheet kind) t).2)

-- ---- next

-- the numbers of a place
abbrev seven : ℕ → ℕ → ℕ → ℕ → ℕ → ℕ → ℕ → Seven
seven kind number p l first second from = record { kind = kind; number = number; p = p; l = l; first = first; second = second; offset = from }

first_tile : NextWorded whole_case 0 (word done) 0 7 5 2 0xFFFF 0xFFFF 10
first_tile = record { said = reel.tile (plain_tile New 7 5 2 10); right = (reel_case.first, refl); is = refl }

at_end : NextWorded whole_case 53 (word (answer 7 0 0)) 0 0 0 0 0xFFFF 0xFFFF 0
at_end = record { said = reel.end; right = (reel_case.behind, refl); is = refl }

-- a reader that leaves a number where it has no value
pub number_left : (w : ℕ) → NextWorded whole_case 53 w 0 1 0 0 0xFFFF 0xFFFF 0 → ⊥
number_left w t =
    omega (arith, ap (λ (s : Seven). s.number) (next_word_once whole_case 53 (word (answer 7 0 0)) w (seven 0 0 0 0 0xFFFF 0xFFFF 0) (seven 0 1 0 0 0xFFFF 0xFFFF 0) at_end t).1)

-- one that gives the tile's number for the offset of its bytes
pub number_for_offset : (w : ℕ) → NextWorded whole_case 0 w 0 7 5 2 0xFFFF 0xFFFF 7 → ⊥
number_for_offset w t =
    omega (arith, ap (λ (s : Seven). s.offset) (next_word_once whole_case 0 (word done) w (seven 0 7 5 2 0xFFFF 0xFFFF 10) (seven 0 7 5 2 0xFFFF 0xFFFF 7) first_tile t).1)

-- one that tells the flags of a record that has none as row 0
pub none_told_row : (w : ℕ) → NextWorded whole_case 0 w 0 7 5 2 0 0 10 → ⊥
none_told_row w t =
    omega (arith, ap (λ (s : Seven). s.first) (next_word_once whole_case 0 (word done) w (seven 0 7 5 2 0xFFFF 0xFFFF 10) (seven 0 7 5 2 0 0 10) first_tile t).1)

-- one that tells the end as a tile
pub end_told_tile : (kind number p l first second from : ℕ) → NextWorded whole_case 53 (word done) kind number p l first second from → ⊥
end_told_tile kind number p l first second from t =
    omega (arith, (next_word_once whole_case 53 (word (answer 7 0 0)) (word done) (seven 0 0 0 0 0xFFFF 0xFFFF 0) (seven kind number p l first second from) at_end t).0)

-- an old record, which stands first on a reel
first_old : NextWorded old_case 0 (word done) 1 9 7 2 0xFFFF 0xFFFF 10
first_old = record { said = reel.tile (plain_tile Old 9 7 2 10); right = (reel_case.old_first, refl); is = refl }

-- a reader that tells it as a new one
pub old_told_new : (w : ℕ) → NextWorded old_case 0 w 0 9 7 2 0xFFFF 0xFFFF 10 → ⊥
old_told_new w t =
    omega (arith, ap (λ (s : Seven). s.kind) (next_word_once old_case 0 (word done) w (seven 1 9 7 2 0xFFFF 0xFFFF 10) (seven 0 9 7 2 0xFFFF 0xFFFF 10) first_old t).1)

-- a flagged record with row 0 and column 0
first_flagged : NextWorded flag_case 0 (word done) 0 9 5 2 0 0x8000 14
first_flagged = record { said = reel.tile (flagged_tile 9 5 2 row_0 column_0 14); right = (reel_case.crossed, refl); is = refl }

-- a reader that tells its column without the 8000 hex
pub flag_told_row : (w : ℕ) → NextWorded flag_case 0 w 0 9 5 2 0 0 14 → ⊥
flag_told_row w t =
    omega (arith, ap (λ (s : Seven). s.second) (next_word_once flag_case 0 (word done) w (seven 0 9 5 2 0 0x8000 14) (seven 0 9 5 2 0 0 14) first_flagged t).1)

-- ---- lay

-- tile 9 is laid with its two flags, into a room of just the 30 bytes that the record has
abbrev header_9 : Header
header_9 = record { mark = mark.Flagged; p = 5; l = 2; number = 9; first = row_0; second = column_0 }

abbrev room_30 : List ℕ
room_30 = replicate 30 0

laid_9 : LayWorded 2 5 2 9 0 0x8000 tile_9 room_30 (word done) (laid_room header_9 tile_9 room_30) 30
unfolding mark_of flag_of line_of
laid_9 =
    let taken : lay.Taken header_9 tile_9 size.well = admits size_5 at_5_2 refl in
    let carries : Carries header_9 = (omega arith, omega arith) in
    record {
      said = lay.laid 30;
      right = (lay.lays taken carries (omega arith) (made_laid header_9 tile_9 room_30 (taken_fit taken carries (omega arith)) (omega arith)), refl);
      is = refl;
    }

-- a call that leaves the number as it was
pub length_missing : (w : ℕ) (x : List ℕ) → LayWorded 2 5 2 9 0 0x8000 tile_9 room_30 w x 0 → ⊥
length_missing w x t =
    omega (arith, (lay_word_once 2 5 2 9 0 0x8000 tile_9 room_30 (word done) w (laid_room header_9 tile_9 room_30) x 30 0 laid_9 t).2)

-- one that lays the second flag first
pub flags_exchanged : (w n : ℕ) (x : List ℕ) → get_or x 10 0 ≡ 0x80 → LayWorded 2 5 2 9 0 0x8000 tile_9 room_30 w x n → ⊥
flags_exchanged w n x e t =
    omega (arith, e, ap (λ (y : List ℕ). get_or y 10 0) (lay_word_once 2 5 2 9 0 0x8000 tile_9 room_30 (word done) w (laid_room header_9 tile_9 room_30) x 30 n laid_9 t).1)

-- one that takes 2 for a record without flags, and so refuses them
pub two_has_no_flags : (n : ℕ) (x : List ℕ) → LayWorded 2 5 2 9 0 0x8000 tile_9 room_30 (word (refusal 4)) x n → ⊥
two_has_no_flags n x t =
    omega (arith, (lay_word_once 2 5 2 9 0 0x8000 tile_9 room_30 (word done) (word (refusal 4)) (laid_room header_9 tile_9 room_30) x 30 n laid_9 t).0)

-- the same flags in a record of a new tile that has no place for them
refused_9 : LayWorded 0 5 2 9 0 0x8000 tile_9 room_30 (word (refusal 4)) room_30 0
unfolding mark_of flag_of line_of
refused_9 = record { said = lay.refused 4; right = (lay.no_line (admits size_5 at_5_2 refl) (λ c. c.0), refl); is = refl }

-- one that drops them
pub flags_dropped : (n : ℕ) (x : List ℕ) → LayWorded 0 5 2 9 0 0x8000 tile_9 room_30 (word done) x n → ⊥
flags_dropped n x t =
    omega (arith, (lay_word_once 0 5 2 9 0 0x8000 tile_9 room_30 (word (refusal 4)) (word done) room_30 x 0 n refused_9 t).0)

-- ---- the kind

-- a call that takes every number but 0 for old, and so takes slope 2 at 7 for 2
pub two_is_old : TakesWorded 2 7 2 (word done) → ⊥
unfolding tile_kind
two_is_old t =
    omega (arith, takes_word_once 2 7 2 (word (refusal 2)) (word done) (record { said = size.refused 2; right = size.no_slope size_7 no_at_7_2; is = refl }) t)

-- one that takes every number for new, and so refuses it for 1
pub one_is_new : TakesWorded 1 7 2 (word (refusal 2)) → ⊥
unfolding tile_kind
one_is_new t =
    omega (arith, takes_word_once 1 7 2 (word done) (word (refusal 2)) (record { said = size.well; right = size.taken size_7 (omega arith, omega arith); is = refl }) t)
