-- Every number that is answered fits into its 16 bits of a word. Assumes nothing.
use Rattle.std.specs.Prelude.{List, ℕ, ◌≤◌}
use Rattle.std.proofs.Common.{arith}
use Rattle.code.specs.declared.Kind.{Kind}
use Rattle.code.specs.declared.Line.{Line}
use Rattle.size.specs.Answer as size
use Rattle.promise.specs.Answer as tile
use Rattle.promise.specs.Calls.{Admitted, judged, no_length, WriteTold, ReadTold, Looked, Named, by_cell, by_column, by_row, RepairTold, InspectTold, RecoverTold, Done, FillTold, JudgeTold}
use Rattle.promise.specs.Admit.{admitted_well}
use Rattle.promise.specs.Name.{named_in}
use Rattle.sheet.specs.Answer as sheet
use Rattle.sheet.specs.Calls as sheet_calls
use Rattle.header.specs.declared.Header.{Header}
use Rattle.printer.specs.Lay as lay
use Rattle.reel.specs.Answer as reel
use Rattle.reel.specs.Calls as reel_calls
use Rattle.word.specs.Word.{refusal, size_answer, tile_answer}
use Rattle.word.specs.Fits.{Fits}
use Rattle.counterfrost.specs.Numbers.{sheet_answer, lay_answer, reel_answer}

-- a house slope is below its size
pub house_fits : {p : ℕ} {said : size.Said} → size.HouseTold p said → Fits (size_answer said)
house_fits (size.given s h) = (omega (arith, s.high, h.allowed.high), omega arith)
house_fits (size.no_size f) = (omega arith, omega arith)

pub takes_fits : {k : Kind} {p l : ℕ} {said : size.Said} → size.Judged k p l said → Fits (size_answer said)
takes_fits (size.taken s a) = (omega arith, omega arith)
takes_fits (size.no_size f) = (omega arith, omega arith)
takes_fits (size.no_slope s f) = (omega arith, omega arith)

admitted_fits : {k : Kind} {p l n : ℕ} {Lengths : Type 0} → Admitted k p l Lengths (size.refused n) → Fits (refusal n)
admitted_fits (judged j) = takes_fits j
admitted_fits (no_length j f) = (omega arith, omega arith)

pub write_fits : {k : Kind} {p l : ℕ} {text x y : List ℕ} {said : tile.Said} → WriteTold k p l text x said y → Fits (tile_answer said)
write_fits (WriteTold.refuses h) = admitted_fits h
write_fits (WriteTold.writes h w) = (omega arith, omega arith)

pub read_fits : {k : Kind} {p l : ℕ} {x text y : List ℕ} {said : tile.Said} → ReadTold k p l x text said y → Fits (tile_answer said)
read_fits (ReadTold.refuses h) = admitted_fits h
read_fits (ReadTold.not_good h f) = (omega arith, omega arith)
read_fits (ReadTold.reads h g) = (omega arith, omega arith)

-- the cell or the line that repair names is one of the tile's
named_fits : {p : ℕ} {x y : List ℕ} {said : tile.Said} → p ≤ 257 → Named p x y said → Fits (tile_answer said)
named_fits high (by_cell o) = (omega (arith, named_in (by_cell o)), omega (arith, named_in (by_cell o)))
named_fits high (by_column m) = (omega (arith, named_in (by_column m)), omega arith)
named_fits high (by_row m) = (omega (arith, named_in (by_row m)), omega arith)

-- so what comes of looking at good tiles fits, if their names do; that of a filling is done
looked_fits : {F : List ℕ → Type 0} {Name : List ℕ → tile.Said → Type 0} {x y : List ℕ} {said : tile.Said}
    → ((z : List ℕ) (s : tile.Said) → Name z s → Fits (tile_answer s)) → Looked F Name x said y → Fits (tile_answer said)
looked_fits f (Looked.one {said} {new} o n) = f new said n
looked_fits f (Looked.none d) = (omega arith, omega arith)
looked_fits f (Looked.several d) = (omega arith, omega arith)

done_fits : (y : List ℕ) (said : tile.Said) → Done y said → Fits (tile_answer said)
done_fits y said e = rw e (omega arith, omega arith)

pub repair_fits : {k : Kind} {p l : ℕ} {x y : List ℕ} {said : tile.Said} → RepairTold k p l x said y → Fits (tile_answer said)
repair_fits (RepairTold.refuses h) = admitted_fits h
repair_fits (RepairTold.is_good h g) = (omega arith, omega arith)
repair_fits (RepairTold.is_hurt h bad q) = looked_fits (λ z s. named_fits (admitted_well h).0.high) q

pub inspect_fits : {k : Kind} {p l : ℕ} {x : List ℕ} {said : tile.Said} → InspectTold k p l x said → Fits (tile_answer said)
inspect_fits t = repair_fits t.told

pub recover_fits : {k : Kind} {p l : ℕ} {x text y : List ℕ} {said : tile.Said} → RecoverTold k p l x text said y → Fits (tile_answer said)
recover_fits (RecoverTold.refuses h) = admitted_fits h
recover_fits (RecoverTold.unrepaired h t) = inspect_fits t
recover_fits (RecoverTold.recovers h d t) = repair_fits t

pub fill_fits : {k : Kind} {p l : ℕ} {x y : List ℕ} {a b : Line} {said : tile.Said} → FillTold k p l x a b said y → Fits (tile_answer said)
fill_fits (FillTold.refuses h) = admitted_fits h
fill_fits (FillTold.no_line h f) = (omega arith, omega arith)
fill_fits (FillTold.has_lines h a b q) = looked_fits done_fits q

pub judge_fits : {p l : ℕ} {x y : List ℕ} {a b : Line} {said : tile.Said} → JudgeTold p l x y a b said → Fits (tile_answer said)
judge_fits (JudgeTold.refuses h) = admitted_fits h
judge_fits (JudgeTold.no_line h f) = (omega arith, omega arith)
judge_fits (JudgeTold.not_good h a b f) = (omega arith, omega arith)
judge_fits (JudgeTold.elsewhere h a b g f) = (omega arith, omega arith)
judge_fits (JudgeTold.accepts h a b g e) = (omega arith, omega arith)

sheet_fits : {p n at : ℕ} {records : List ℕ} → sheet_calls.Judged p records (sheet.refused n at) → Fits (refusal n)
sheet_fits (sheet_calls.cut f) = (omega arith, omega arith)
sheet_fits (sheet_calls.no_mark w h s f) = (omega arith, omega arith)
sheet_fits (sheet_calls.no_place w h s m f) = (omega arith, omega arith)

pub correct_fits : {k : Kind} {p l : ℕ} {x records y : List ℕ} {said : sheet.Said} → sheet_calls.CorrectTold k p l x records said y → Fits (sheet_answer said)
correct_fits (sheet_calls.refuses h) = admitted_fits h
correct_fits (sheet_calls.faulty h j) = sheet_fits j
correct_fits (sheet_calls.corrects h j c) = (omega arith, omega arith)

header_fits : {film : List ℕ} {at : ℕ} {h : Header} {said : reel.Said} → reel_calls.HeaderTold film at h said → Fits (reel_answer said)
header_fits (reel_calls.refuses j) = takes_fits j
header_fits (reel_calls.no_line j f) = (omega arith, omega arith)
header_fits (reel_calls.tile_cut j c f) = (omega arith, omega arith)
header_fits (reel_calls.stands j c w) = (omega arith, omega arith)

pub next_fits : {film : List ℕ} {at : ℕ} {said : reel.Said} → reel_calls.NextTold film at said → Fits (reel_answer said)
next_fits (reel_calls.ends e) = (omega arith, omega arith)
next_fits (reel_calls.start_cut e f) = (omega arith, omega arith)
next_fits (reel_calls.no_mark s m) = (omega arith, omega arith)
next_fits (reel_calls.header_cut k s m f) = (omega arith, omega arith)
next_fits (reel_calls.headed there told) = header_fits told

pub lay_fits : {h : Header} {tile room x : List ℕ} {said : lay.Said} → lay.LayTold h tile room said x → Fits (lay_answer said)
lay_fits (lay.refuses t) = admitted_fits t
lay_fits (lay.no_line t f) = (omega arith, omega arith)
lay_fits (lay.no_room t c f) = (omega arith, omega arith)
lay_fits (lay.lays t c r l) = (omega arith, omega arith)
