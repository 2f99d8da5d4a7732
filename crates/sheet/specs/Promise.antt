-- WHAT THE PROMISE MEANS FOR A USER: what a sheet changes and what it leaves, in any tile, sound or not; that repair and fill come to the
-- same after it as before; and that a corrected place is read as its last record put it. Assumes nothing.
use Rattle.std.specs.Prelude.{◌≡◌, refl, List, [], ℕ, ◌-◌, ◌*◌, ◌<◌, length}
use Rattle.std.proofs.Common.{sym, ap, ◌∙◌, inl, arith}
use Rattle.xor.specs.Xor.{◌⊕◌, zero_r}
use Rattle.residue.specs.Size.{Size, Allowed}
use Rattle.code.specs.Kind.{Takes, taken_slope}
use Rattle.code.specs.Tile.{tile_length, cell, Good, text_length, text_of, Writes, xored}
use Rattle.code.specs.Place.{cell_padded, text_byte, text_length_lem, text_at}
use Rattle.code.specs.Xored.{xored_length, xored_letter, xored_cell, xored_is, xored_good, xored_text}
use Rattle.code.specs.Distance.{Blank, lines_blank, within_off}
use Rattle.code.specs.declared.Kind.{Kind}
use Rattle.code.specs.declared.Line.{Line}
use Rattle.code.specs.declared.Line.TheVariants.{Column}
use Rattle.promise.specs.Answer as answer
use Rattle.promise.specs.Calls.{WriteTold, ReadTold, RepairTold, Granted, RecoverTold, FillTold}
use Rattle.promise.specs.Admit.{admits, admitted_well, admitted_no, admitted_alike}
use Rattle.promise.specs.Once.{write_told_once, read_told_once, repair_told_once, fill_told_once}
use Rattle.promise.specs.Promise.{repair_refused, fill_refused}
use Rattle.promise.specs.Carry.{repair_carried, fill_carried, repaired_good}
use Rattle.promise.specs.Recovered.{recover_inspects, recovered_text}
use Rattle.sheet.specs.Sheet.{records, is_of, given, differences, Whole, Placed, SoundBelow}
use Rattle.sheet.specs.Answer.{Said, corrected, refused}
use Rattle.sheet.specs.Calls.{sound, Corrects, CorrectTold}
use Rattle.sheet.specs.Judge.{judged_count, judged_sound}
use Rattle.sheet.specs.Make.{given_none, given_off, differences_at}
use Rattle.sheet.specs.Once.{judged_told_once, correct_told_once}
use Rattle.sheet.specs.Last.{NoneFrom, Follows, Last, last_made}

-- ---- what is taken, and what is refused

-- every tile of the right length, good or damaged or garbage, is corrected by every sound sheet, whose records are counted in the answer
pub correct_takes : (kind : Kind) (p l : ℕ) (tile sheet : List ℕ) (said : Said) (new : List ℕ) → Size p → Takes kind p l → length tile ≡ tile_length p
    → Whole sheet → SoundBelow p sheet (records sheet) → CorrectTold kind p l tile sheet said new → said ≡ corrected (records sheet)
correct_takes kind p l tile sheet said new s w e whole below told = go told
  where
    go : {said : Said} {new : List ℕ} → CorrectTold kind p l tile sheet said new → said ≡ corrected (records sheet)
    go (CorrectTold.refuses h) = absurd (admitted_no h (s, w, e))
    go (CorrectTold.faulty {n} {at} h j) = judged_told_once p sheet (refused n at) (corrected (records sheet)) j (sound whole below)
    go (CorrectTold.corrects {n} h j c) = judged_told_once p sheet (corrected n) (corrected (records sheet)) j (sound whole below)

-- the count that is answered is an eighth of the sheet's length
pub count_tied : {kind : Kind} {p l n : ℕ} {tile sheet new : List ℕ} → CorrectTold kind p l tile sheet (corrected n) new → 8 * n ≡ length sheet
count_tied (CorrectTold.corrects h j c) = let t = judged_count _ _ j in omega (arith, t.0, t.1)

-- a refused correction leaves the tile
pub correct_refused : {kind : Kind} {p l n at : ℕ} {tile sheet new : List ℕ} → CorrectTold kind p l tile sheet (refused n at) new → new ≡ tile
correct_refused (CorrectTold.refuses h) = refl
correct_refused (CorrectTold.faulty h j) = refl

-- ---- what is changed

-- what a correction makes
pub changed : {kind : Kind} {p l n : ℕ} {tile sheet new : List ℕ} → CorrectTold kind p l tile sheet (corrected n) new → Corrects p l sheet tile new
changed (CorrectTold.corrects h j c) = c

-- where a correction is made, the size is a size, the kind takes the slope and the tile has its length
taken : {kind : Kind} {p l n : ℕ} {tile sheet new : List ℕ} → CorrectTold kind p l tile sheet (corrected n) new → Size p × Takes kind p l × (length tile ≡ tile_length p)
taken (CorrectTold.corrects h j c) = admitted_well h

-- and each record has its place in the text
placed : {kind : Kind} {p l n : ℕ} {tile sheet new : List ℕ} → CorrectTold kind p l tile sheet (corrected n) new → (k : ℕ) → k < records sheet → Placed p sheet k
placed (CorrectTold.corrects h j c) k q = (judged_sound j k q).1

module _ (kind : Kind) (p l n : ℕ) (tile sheet new : List ℕ) (told : CorrectTold kind p l tile sheet (corrected n) new) where
  -- the good tile that is added
  abbrev pub change : List ℕ
  change = (changed told).change

  large : 3 < p
  large = omega (arith, (taken told).0.low)

  -- in the text the change holds the differences
  change_at : (i j : ℕ) → i < p - 1 → j < p - 3 → cell p change i j ≡ given sheet (records sheet) i j
  change_at i j hi hj = sym (text_at p change i j hi hj) ∙ ap (λ (t : List ℕ). text_byte p t i j) (changed told).written.has ∙ differences_at p sheet i j hi hj

  -- THE CHANGE is good, has the differences as its text, and is zero outside the corrected places and the two check columns
  pub change_is : Good p l change × (text_of p change ≡ differences p sheet)
      × ((i j : ℕ) → i < p - 1 → j < p - 3 → NoneFrom sheet i j 0 (records sheet) → cell p change i j ≡ 0)
  change_is = (
    (changed told).written.good,
    (changed told).written.has,
    λ i j hi hj none. change_at i j hi hj ∙ given_off sheet (records sheet) i j (λ k h. none k (omega arith) h),
  )

  -- so the tile is touched there alone
  pub untouched : (i j : ℕ) → i < p - 1 → j < p - 3 → NoneFrom sheet i j 0 (records sheet) → cell p new i j ≡ cell p tile i j
  untouched i j hi hj none =
      ap (λ (t : List ℕ). cell p t i j) (changed told).becomes ∙ xored_cell p tile change (taken told).2 i j hi (omega arith)
      ∙ ap (λ (x : ℕ). cell p tile i j ⊕ x) (change_is.2 i j hi hj none) ∙ zero_r _

  -- where all differences cancel out, it is not touched at all: a good tile that is zero outside the check columns is zero
  pub cancelled : ((i j : ℕ) → i < p - 1 → j < p - 3 → given sheet (records sheet) i j ≡ 0) → new ≡ tile
  cancelled none =
      let e = (taken told).2 in
      (changed told).becomes
      ∙ sym (xored_is p tile change e tile (omega (arith, large)) e (λ i j hi hj. sym (ap (λ (x : ℕ). cell p tile i j ⊕ x) (zero i j (omega arith) (omega arith)) ∙ zero_r _)))
    where
      zero : Blank p (cell p change)
      zero =
          lines_blank p l (Column (p - 3)) (Column (p - 2)) (cell p change) (taken_slope kind p l (taken told).0 (taken told).1) (inl tt) (omega (arith, large)) (omega (arith, large))
          (changed told).written.good (cell_padded p change) (within_off p (Column (p - 3)) (Column (p - 2)) (cell p change) (cell_padded p change) (λ i j hi hj d q.
          let text : j < p - 3 = omega arith in change_at i j hi text ∙ none i j hi text))

  -- ---- good tiles, and repair after a sheet

  -- a good tile to which the change is added is the one written afresh from its text corrected by the differences
  afresh : (fixed : List ℕ) → length fixed ≡ tile_length p → Good p l fixed → Writes p l (xored (text_of p fixed) (differences p sheet)) (xored fixed change)
  afresh fixed e g = record {
    size = xored_length fixed change ∙ e;
    good = xored_good p fixed change e l g (changed told).written.good;
    has = xored_text p fixed change e large ∙ ap (xored (text_of p fixed)) (changed told).written.has;
  }

  -- A GOOD TILE stays good, and its text is corrected by the differences
  pub correct_good : Good p l tile → Good p l new × (text_of p new ≡ xored (text_of p tile) (differences p sheet))
  correct_good g = let w = rw (← (changed told).becomes) at (afresh tile (taken told).2 g) in (w.good, w.has)

  -- REPAIR gives the same answer after the sheet as before; its tile is the earlier one with the change added, and where it succeeds that
  -- is the one written afresh from its text corrected by the differences
  pub repair_after : (said said' : answer.Said) (fixed fixed' : List ℕ) → RepairTold kind p l tile said fixed → RepairTold kind p l new said' fixed'
      → (said' ≡ said) × (fixed' ≡ xored fixed change)
      × (Granted said → Writes p l (xored (text_of p fixed) (differences p sheet)) fixed')
  repair_after said said' fixed fixed' before after =
      let same = repair_told_once kind p l new said' said fixed' (xored fixed change) after
      (rw (← (changed told).becomes) at (repair_carried kind p l change (changed told).written.good before)) in
      (same.0, same.1, λ d. let g = repaired_good d before in rw (← same.1) at (afresh fixed g.0 g.1))

  -- RECOVER, too, answers after the sheet as before, and the text that it gives is the earlier one corrected
  pub recover_after : {said said' : answer.Said} {page page' text text' : List ℕ} → Granted said → RecoverTold kind p l tile page said text
      → length page' ≡ text_length p → RecoverTold kind p l new page' said' text' → (said' ≡ said) × (text' ≡ xored text (differences p sheet))
  recover_after granted (RecoverTold.refuses {n} h) e after = absurd (granted n refl)
  recover_after granted (RecoverTold.unrepaired {n} h t) e after = absurd (granted n refl)
  recover_after {said} {said'} granted (RecoverTold.recovers {tile = fixed} h d t) e after =
      let i = recover_inspects e after in
      let same = repair_after said said' fixed i.tile t i.told in
      let granted' : Granted said' = rw (← same.0) at granted in
      (same.0, recovered_text granted' after i.told ∙ (same.2 granted).has)

  -- so whoever writes that text, over whatever tile, has the same tile
  pub write_after : (said said' wrote : answer.Said) (fixed fixed' lent afresh' : List ℕ) → RepairTold kind p l tile said fixed
      → Granted said → RepairTold kind p l new said' fixed' → length lent ≡ tile_length p
      → WriteTold kind p l (xored (text_of p fixed) (differences p sheet)) lent wrote afresh' → (wrote ≡ answer.done) × (afresh' ≡ fixed')
  write_after said said' wrote fixed fixed' lent afresh' before well after e written =
      let w = (repair_after said said' fixed fixed' before after).2 well in
      let t = taken told in
      write_told_once kind p l (xored (text_of p fixed) (differences p sheet)) lent wrote answer.done afresh' fixed' written
      (WriteTold.writes (admits t.0 t.1 (e, xored_length (text_of p fixed) (differences p sheet) ∙ text_length_lem p fixed)) w)

  -- FILL answers after the sheet as before, whatever lines are named, and the tiles that it leaves differ by the change
  pub fill_after : (a b : Line) (said said' : answer.Said) (filled filled' : List ℕ) → FillTold kind p l tile a b said filled → FillTold kind p l new a b said' filled'
      → (said' ≡ said) × (filled' ≡ xored filled change)
  fill_after a b said said' filled filled' before after =
      fill_told_once kind p l new a b said' said filled' (xored filled change) after
      (rw (← (changed told).becomes) at (fill_carried kind p l change (changed told).written.good before))

  -- WHAT IS DOUBTFUL before the sheet is doubtful after it, for repair and for fill, and is left as it is
  pub doubtful_after : (said : answer.Said) (fixed fixed' : List ℕ) → RepairTold kind p l tile (answer.refused 8) fixed → RepairTold kind p l new said fixed'
      → (said ≡ answer.refused 8) × (fixed' ≡ new)
  doubtful_after said fixed fixed' before after =
      let same = (repair_after (answer.refused 8) said fixed fixed' before after).0 in (same, repair_refused (rw same at after))

  pub fillings_after : (a b : Line) (said : answer.Said) (filled filled' : List ℕ) → FillTold kind p l tile a b (answer.refused 8) filled
      → FillTold kind p l new a b said filled' → (said ≡ answer.refused 8) × (filled' ≡ new)
  fillings_after a b said filled filled' before after =
      let same = (fill_after a b (answer.refused 8) said filled filled' before after).0 in (same, fill_refused (rw same at after))

  -- WHAT IS READ once the sheet is made and the tile repaired: at a place whose records follow each other, what the last one put
  pub last_is : (said said' read : answer.Said) (fixed fixed' page text : List ℕ) (i j k : ℕ) → RepairTold kind p l tile said fixed
      → Granted said → RepairTold kind p l new said' fixed' → length page ≡ text_length p → ReadTold kind p l fixed' page read text
      → Follows sheet i j (text_byte p (text_of p fixed) i j) → Last sheet i j k
      → (read ≡ answer.done) × (text_byte p text i j ≡ is_of sheet k)
  last_is said said' read fixed fixed' page text i j k before well after e_page reading follows last =
      let w = (repair_after said said' fixed fixed' before after).2 well in
      let t = taken told in
      let at = placed told k last.within in
      let hi : i < p - 1 = omega (arith, at.0, last.names.0) in
      let hj : j < p - 3 = omega (arith, at.1, last.names.1) in
      let r = read_told_once kind p l fixed' page read answer.done text (text_of p fixed') reading (ReadTold.reads (admits t.0 t.1 (w.size, e_page)) w.good) in (
        r.0,
        ap (λ (u : List ℕ). text_byte p u i j) (r.1 ∙ w.has) ∙ xored_letter p (text_of p fixed) (differences p sheet) i j (text_length_lem p fixed) hi hj
            ∙ ap (λ (x : ℕ). text_byte p (text_of p fixed) i j ⊕ x) (differences_at p sheet i j hi hj) ∙ last_made sheet i j (text_byte p (text_of p fixed) i j) follows k last,
      )

-- the empty sheet is answered by 0 records, and the tile stays as it is
pub correct_empty : (kind : Kind) (p l : ℕ) (tile : List ℕ) (said : Said) (new : List ℕ) → Size p → Takes kind p l → length tile ≡ tile_length p
    → CorrectTold kind p l tile [] said new → (said ≡ corrected 0) × (new ≡ tile)
correct_empty kind p l tile said new s w e told =
    let said_is = correct_takes kind p l tile [] said new s w e refl (λ k h. omega arith) told in
    (said_is, cancelled kind p l 0 tile [] new (rw said_is at told) (λ i j hi hj. given_none [] i j))

-- BOTH KINDS give one answer, and leave the same bytes, where the slope is allowed
pub correct_alike : {j k : Kind} {p l : ℕ} {tile sheet x y : List ℕ} {s t : Said} → Allowed p l → CorrectTold j p l tile sheet s x → CorrectTold k p l tile sheet t y
    → (s ≡ t) × (x ≡ y)
correct_alike {j} {k} {p} {l} {tile} {sheet} {x} {y} {s} {t} allowed a b = correct_told_once k p l tile sheet s t x y (either a) b
  where
    either : {s : Said} {x : List ℕ} → CorrectTold j p l tile sheet s x → CorrectTold k p l tile sheet s x
    either (CorrectTold.refuses h) = CorrectTold.refuses (admitted_alike allowed h)
    either (CorrectTold.faulty h f) = CorrectTold.faulty (admitted_alike allowed h) f
    either (CorrectTold.corrects h f c) = CorrectTold.corrects (admitted_alike allowed h) f c
