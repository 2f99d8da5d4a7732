-- The contracts settle the answers and the bytes: two outcomes that are allowed for the same input are the same. Assumes nothing.
use Rattle.std.specs.Prelude.{◌≡◌, refl, List, ℕ, Result, Ok, Err}
use Rattle.std.proofs.Common.{sym, ap, ap₂, ◌∙◌}
use Rattle.residue.specs.Size.{Size}
use Rattle.code.specs.Slope.{Slope}
use Rattle.code.specs.Kind.{Takes, taken_slope}
use Rattle.code.specs.Tile.{tile_length, Good, text_of, Writes, EqualOutsideBoth, Fills}
use Rattle.code.specs.Count.{none_several, only_several, only_once}
use Rattle.code.specs.Writing.{written_once}
use Rattle.code.specs.declared.Kind.{Kind}
use Rattle.code.specs.declared.Kind.TheVariants.{New}
use Rattle.code.specs.declared.Line.{Line}
use Rattle.size.specs.Answer as size
use Rattle.size.specs.Answer.{judgement_said}
use Rattle.size.specs.Refusal.{number_of}
use Rattle.size.specs.Once.{refusal_of, back, number_once, judgement_said_once}
use Rattle.size.specs.declared.Refusal.{Refusal}
use Rattle.promise.specs.Answer.{Said, done, clean, cell, column, row, refused, outcome_said, repair_said}
use Rattle.promise.specs.Calls.{Admitted, TileLength, BothLengths, TwoLengths, WriteTold, ReadTold, Looked, ByLine, Named, RepairTold, InspectTold, Granted, RecoverTold, Has, Done, FillTold, JudgeTold}
use Rattle.promise.specs.Admit.{admitted_well, admitted_no, admitted_once}
use Rattle.promise.specs.Name.{named_once}
use Rattle.promise.specs.declared.Repaired.{Repaired}
use Rattle.promise.specs.declared.Repaired.TheVariants as repair

-- ---- what the calls share

-- R allows one outcome at most
abbrev pub Single : {Answer : Type 0} → (Answer → List ℕ → Type 0) → Type 0
Single {Answer} R = (a b : Answer) (x y : List ℕ) → R a x → R b y → (a ≡ b) × (x ≡ y)

-- one answer, with bytes of which P holds ..
abbrev Only : Said → (List ℕ → Type 0) → Said → List ℕ → Type 0
Only s P a x = (a ≡ s) × P x

-- .. is one outcome, if P holds of one list at most
only_single : (s : Said) (P : List ℕ → Type 0) → ((x y : List ℕ) → P x → P y → x ≡ y) → Single (Only s P)
only_single s P f a b x y t u = (t.0 ∙ sym u.0, f x y t.1 u.1)

-- one answer, with given bytes ..
abbrev Just : Said → List ℕ → Said → List ℕ → Type 0
Just s y = Only s (λ x. x ≡ y)

-- .. is one outcome
just_single : (s : Said) (y : List ℕ) → Single (Just s y)
just_single s y = only_single s (λ x. x ≡ y) (λ x z e f. e ∙ sym f)

-- the outcomes of R where A holds, and else those of S ..
data Else (A : Type 0) (R S : Said → List ℕ → Type 0) (a : Said) (x : List ℕ) : Type 0 where
  holds : A → R a x → Else A R S a x
  fails : (A → ⊥) → S a x → Else A R S a x

-- .. are one outcome, if each are: A cannot both hold and fail
else_single : {A : Type 0} {R S : Said → List ℕ → Type 0} → (A → Single R) → Single S → Single (Else A R S)
else_single f g a b x y (holds h r) (holds k s) = f h a b x y r s
else_single f g a b x y (holds h r) (fails k s) = absurd (k h)
else_single f g a b x y (fails h r) (holds k s) = absurd (h k)
else_single f g a b x y (fails h r) (fails k s) = g a b x y r s

-- what comes of looking at all good tiles that have F is one outcome, if a tile has one name: there is none, exactly one, or several
looked_single : {F : List ℕ → Type 0} {Name : List ℕ → Said → Type 0} {lent : List ℕ} → ((y : List ℕ) (s t : Said) → Name y s → Name y t → s ≡ t)
    → Single (Looked F Name lent)
looked_single named a b x y (Looked.one o n) (Looked.one q m) = let e : x ≡ y = only_once o q in (named y a b (rw e at n) m, e)
looked_single named a b x y (Looked.one {new} o n) (Looked.none f) = absurd (f new o.is)
looked_single named a b x y (Looked.one o n) (Looked.several d) = absurd (only_several o d)
looked_single named a b x y (Looked.none f) (Looked.one {new} o n) = absurd (f new o.is)
looked_single named a b x y (Looked.none f) (Looked.none g) = (refl, refl)
looked_single named a b x y (Looked.none f) (Looked.several d) = absurd (none_several f d)
looked_single named a b x y (Looked.several d) (Looked.one o n) = absurd (only_several o d)
looked_single named a b x y (Looked.several d) (Looked.none f) = absurd (none_several f d)
looked_single named a b x y (Looked.several d) (Looked.several e) = (refl, refl)

-- a call that is not admitted: the number that refuses it, and the lent bytes as they were ..
data NotAdmitted (k : Kind) (p l : ℕ) (Lengths : Type 0) (lent : List ℕ) : Said → List ℕ → Type 0 where
  not_admitted : {n : ℕ} → Admitted k p l Lengths (size.refused n) → NotAdmitted k p l Lengths lent (refused n) lent

-- .. is one outcome, as one number refuses it
not_admitted_single : (k : Kind) (p l : ℕ) (Lengths : Type 0) (lent : List ℕ) → Single (NotAdmitted k p l Lengths lent)
not_admitted_single k p l Lengths lent a b x y (not_admitted {n} h) (not_admitted {n = m} i) =
    let e : size.refused n ≡ size.refused m = admitted_once k p l Lengths (size.refused n) (size.refused m) h i in (cc, refl)

-- every call: its own outcomes where size, slope and lengths are right, and else a refusal
abbrev Call : Kind → ℕ → ℕ → Type 0 → List ℕ → (Said → List ℕ → Type 0) → Said → List ℕ → Type 0
Call k p l Lengths lent Own = Else (Size p × Takes k p l × Lengths) Own (NotAdmitted k p l Lengths lent)

module _ {k : Kind} {p l : ℕ} {Lengths : Type 0} {lent : List ℕ} {Own : Said → List ℕ → Type 0} where
  -- a call refuses, or goes on, as it is admitted
  refuses : {n : ℕ} → Admitted k p l Lengths (size.refused n) → Call k p l Lengths lent Own (refused n) lent
  refuses h = fails (admitted_no h) (not_admitted h)

  goes_on : {a : Said} {x : List ℕ} → Admitted k p l Lengths size.well → Own a x → Call k p l Lengths lent Own a x
  goes_on h r = holds (admitted_well h) r

  -- where its own outcomes are one, a call allows one outcome
  call_once : {a b : Said} {x y : List ℕ} → Call k p l Lengths lent Own a x → Call k p l Lengths lent Own b y
      → (Slope p l → Single Own) → (a ≡ b) × (x ≡ y)
  call_once {a} {b} {x} {y} t u f =
      else_single (λ h. f (taken_slope k p l h.0 h.1)) (not_admitted_single k p l Lengths lent) a b x y t u

-- ---- each call

-- write: the good tile that has the text
module _ (k : Kind) (p l : ℕ) (text tile : List ℕ) where
  -- a write, as such a call
  write_call : {a : Said} {x : List ℕ} → WriteTold k p l text tile a x → Call k p l (BothLengths p tile text) tile (Only done (Writes p l text)) a x
  write_call (WriteTold.refuses h) = refuses h
  write_call (WriteTold.writes h w) = goes_on h (refl, w)

  -- so two outcomes of a write are the same: one good tile has the text
  pub write_told_once : (a b : Said) (x y : List ℕ) → WriteTold k p l text tile a x → WriteTold k p l text tile b y → (a ≡ b) × (x ≡ y)
  write_told_once a b x y t u =
      call_once (write_call t) (write_call u) (λ S. only_single done (Writes p l text) (λ v z. written_once p l text v z S))

-- read: where the tile is good its text, and else 5
module _ (k : Kind) (p l : ℕ) (tile text : List ℕ) where
  -- its own outcomes
  abbrev ReadOwn : Said → List ℕ → Type 0
  ReadOwn = Else (Good p l tile) (Just done (text_of p tile)) (Just (refused 5) text)

  -- a read, as such a call
  read_call : {a : Said} {x : List ℕ} → ReadTold k p l tile text a x → Call k p l (BothLengths p tile text) text ReadOwn a x
  read_call (ReadTold.refuses h) = refuses h
  read_call (ReadTold.not_good h f) = goes_on h (fails f (refl, refl))
  read_call (ReadTold.reads h g) = goes_on h (holds g (refl, refl))

  -- so two outcomes of a read are the same
  pub read_told_once : (a b : Said) (x y : List ℕ) → ReadTold k p l tile text a x → ReadTold k p l tile text b y → (a ≡ b) × (x ≡ y)
  read_told_once a b x y t u =
      call_once (read_call t) (read_call u) (λ S. else_single (λ g. just_single done (text_of p tile)) (just_single (refused 5) text))

-- repair: of a good tile Clean, and else what comes of looking at those that explain it
module _ (k : Kind) (p l : ℕ) (tile : List ℕ) where
  -- its own outcomes
  abbrev RepairOwn : Said → List ℕ → Type 0
  RepairOwn = Else (Good p l tile) (Just clean tile) (Looked (ByLine p l tile) (Named p tile) tile)

  -- a repair, as such a call
  repair_call : {a : Said} {x : List ℕ} → RepairTold k p l tile a x → Call k p l (TileLength p tile) tile RepairOwn a x
  repair_call (RepairTold.refuses h) = refuses h
  repair_call (RepairTold.is_good h g) = goes_on h (holds g (refl, refl))
  repair_call (RepairTold.is_hurt h bad q) = goes_on h (fails bad q)

  -- so two outcomes of a repair are the same: a difference has one name
  pub repair_told_once : (a b : Said) (x y : List ℕ) → RepairTold k p l tile a x → RepairTold k p l tile b y → (a ≡ b) × (x ≡ y)
  repair_told_once a b x y t u =
      call_once (repair_call t) (repair_call u) (λ S. else_single (λ g. just_single clean tile) (looked_single (λ z s t. named_once)))

-- inspect: what repair says
module _ (k : Kind) (p l : ℕ) (scan : List ℕ) where
  -- two answers of it are the same
  pub inspect_told_once : (a b : Said) → InspectTold k p l scan a → InspectTold k p l scan b → a ≡ b
  inspect_told_once a b t u = (repair_told_once k p l scan a b t.tile u.tile t.told u.told).0

-- recover: what repair says, with the text of its tile, or, where that is a refusal, with the text as it was
module _ (k : Kind) (p l : ℕ) (scan text : List ℕ) where
  -- the text that is left, after what was said, where repair leaves this tile
  abbrev left : Said → List ℕ → List ℕ
  left done tile = text_of p tile
  left clean tile = text_of p tile
  left (cell r c) tile = text_of p tile
  left (column c) tile = text_of p tile
  left (row r) tile = text_of p tile
  left (refused n) tile = text

  left_granted : (s : Said) (tile : List ℕ) → Granted s → left s tile ≡ text_of p tile
  left_granted done tile d = refl
  left_granted clean tile d = refl
  left_granted (cell r c) tile d = refl
  left_granted (column c) tile d = refl
  left_granted (row r) tile d = refl
  left_granted (refused n) tile d = absurd (d n refl)

  -- its own outcomes ..
  abbrev RecoverOwn : Said → List ℕ → Type 0
  RecoverOwn a x = (tile : List ℕ) × RepairTold k p l scan a tile × (x ≡ left a tile)

  -- .. are one, as those of repair are
  recover_single : Single RecoverOwn
  recover_single a b x y t u =
      let e = repair_told_once k p l scan a b t.0 u.0 t.1 u.1 in (e.0, t.2 ∙ ap₂ left e.0 e.1 ∙ sym u.2)

  -- a recovery, as such a call
  recover_call : {a : Said} {x : List ℕ} → RecoverTold k p l scan text a x → Call k p l (BothLengths p scan text) text RecoverOwn a x
  recover_call (RecoverTold.refuses h) = refuses h
  recover_call (RecoverTold.unrepaired h t) = goes_on h (t.tile, t.told, refl)
  recover_call (RecoverTold.recovers {said} {tile} h d t) = goes_on h (tile, t, sym (left_granted said tile d))

  -- so two outcomes of a recovery are the same
  pub recover_told_once : (a b : Said) (x y : List ℕ) → RecoverTold k p l scan text a x → RecoverTold k p l scan text b y → (a ≡ b) × (x ≡ y)
  recover_told_once a b x y t u = call_once (recover_call t) (recover_call u) (λ S. recover_single)

-- fill: 4 where the tile lacks a line, and else what comes of looking at its fillings
module _ (k : Kind) (p l : ℕ) (tile : List ℕ) (a b : Line) where
  -- its own outcomes
  abbrev FillOwn : Said → List ℕ → Type 0
  FillOwn = Else (Has p a × Has p b) (Looked (Fills p l a b tile) Done tile) (Just (refused 4) tile)

  -- a filling, as such a call
  fill_call : {c : Said} {x : List ℕ} → FillTold k p l tile a b c x → Call k p l (TileLength p tile) tile FillOwn c x
  fill_call (FillTold.refuses h) = refuses h
  fill_call (FillTold.no_line h f) = goes_on h (fails f (refl, refl))
  fill_call (FillTold.has_lines h ha hb q) = goes_on h (holds (ha, hb) q)

  -- so two outcomes of a filling are the same
  pub fill_told_once : (c d : Said) (x y : List ℕ) → FillTold k p l tile a b c x → FillTold k p l tile a b d y → (c ≡ d) × (x ≡ y)
  fill_told_once c d x y t u =
      call_once (fill_call t) (fill_call u) (λ S. else_single (λ h. looked_single (λ z s t e f. e ∙ sym f)) (just_single (refused 4) tile))

-- judge: 4 where the tiles lack a line, 10 where the restored one is not good, 11 where it differs elsewhere, and else done. It is lent
-- nothing to write, so that the restored tile, as it was, stands for what is left
module _ (p l : ℕ) (scan restored : List ℕ) (a b : Line) where
  -- its own outcomes
  abbrev JudgeOwn : Said → List ℕ → Type 0
  JudgeOwn =
      Else (Has p a × Has p b)
      (Else (Good p l restored) (Else (EqualOutsideBoth p a b scan restored) (Just done restored) (Just (refused 11) restored)) (Just (refused 10) restored))
      (Just (refused 4) restored)

  -- a judgement, as such a call
  judge_call : {c : Said} → JudgeTold p l scan restored a b c → Call New p l (TwoLengths p scan restored) restored JudgeOwn c restored
  judge_call (JudgeTold.refuses h) = refuses h
  judge_call (JudgeTold.no_line h f) = goes_on h (fails f (refl, refl))
  judge_call (JudgeTold.not_good h ha hb f) = goes_on h (holds (ha, hb) (fails f (refl, refl)))
  judge_call (JudgeTold.elsewhere h ha hb g f) = goes_on h (holds (ha, hb) (holds g (fails f (refl, refl))))
  judge_call (JudgeTold.accepts h ha hb g e) = goes_on h (holds (ha, hb) (holds g (holds e (refl, refl))))

  -- so two answers of a judge are the same
  pub judge_told_once : (c d : Said) → JudgeTold p l scan restored a b c → JudgeTold p l scan restored a b d → c ≡ d
  judge_told_once c d t u =
      let said : (s : Said) → Single (Just s restored) = λ s. just_single s restored in
      (call_once (judge_call t) (judge_call u) (λ S.
      else_single (λ h. else_single (λ g. else_single (λ e. said done) (said (refused 11))) (said (refused 10))) (said (refused 4)))).0

-- ---- the same of the enums that the calls answer

-- one answer of write, read, fill or judge says it ..
outcome_said_once : (a b : Result Unit Refusal) → outcome_said a ≡ outcome_said b → a ≡ b
outcome_said_once (Ok d) (Ok d') e = refl
outcome_said_once (Ok d) (Err s) e = cc
outcome_said_once (Err r) (Ok d) e = cc
outcome_said_once (Err r) (Err s) e = let n : number_of r ≡ number_of s = cc in ap Err (number_once r s n)

-- .. and one of repair, inspect or recover: the one that says s (`done` is no answer of theirs) says it
abbrev answer_of : Said → Result Repaired Refusal
answer_of done = Ok repair.Clean
answer_of clean = Ok repair.Clean
answer_of (cell r c) = Ok (repair.Cell r c)
answer_of (column c) = Ok (repair.Column c)
answer_of (row r) = Ok (repair.Row r)
answer_of (refused n) = Err (refusal_of n)

answer_back : (a : Result Repaired Refusal) → answer_of (repair_said a) ≡ a
answer_back (Ok repair.Clean) = refl
answer_back (Ok (repair.Cell r c)) = refl
answer_back (Ok (repair.Column c)) = refl
answer_back (Ok (repair.Row r)) = refl
answer_back (Err r) = ap Err (back r)

repair_said_once : (a b : Result Repaired Refusal) → repair_said a ≡ repair_said b → a ≡ b
repair_said_once a b e = sym (answer_back a) ∙ ap answer_of e ∙ answer_back b

-- so where one outcome is allowed, one answer is right
outcome_single : (R : Said → List ℕ → Type 0) → Single R → (a b : Result Unit Refusal) (x y : List ℕ) → R (outcome_said a) x → R (outcome_said b) y
    → (a ≡ b) × (x ≡ y)
outcome_single R f a b x y t u = let e = f (outcome_said a) (outcome_said b) x y t u in (outcome_said_once a b e.0, e.1)

repaired_single : (R : Said → List ℕ → Type 0) → Single R → (a b : Result Repaired Refusal) (x y : List ℕ) → R (repair_said a) x → R (repair_said b) y
    → (a ≡ b) × (x ≡ y)
repaired_single R f a b x y t u = let e = f (repair_said a) (repair_said b) x y t u in (repair_said_once a b e.0, e.1)

-- a judgement of a kind, a size, a slope and a length has one right answer
pub judge_tile_once : (k : Kind) (p l cells : ℕ) (a b : Result Unit Refusal) → Admitted k p l (cells ≡ tile_length p) (judgement_said a) → Admitted k p l (cells ≡ tile_length p) (judgement_said b) → a ≡ b
judge_tile_once k p l cells a b t u = judgement_said_once a b (admitted_once k p l (cells ≡ tile_length p) (judgement_said a) (judgement_said b) t u)

-- a write has one right answer, and leaves one tile
pub write_once : (k : Kind) (p l : ℕ) (text tile : List ℕ) (a b : Result Unit Refusal) (x y : List ℕ)
    → WriteTold k p l text tile (outcome_said a) x → WriteTold k p l text tile (outcome_said b) y → (a ≡ b) × (x ≡ y)
write_once k p l text tile = outcome_single (WriteTold k p l text tile) (write_told_once k p l text tile)

-- a read has one right answer, and leaves one text
pub read_once : (k : Kind) (p l : ℕ) (tile text : List ℕ) (a b : Result Unit Refusal) (x y : List ℕ)
    → ReadTold k p l tile text (outcome_said a) x → ReadTold k p l tile text (outcome_said b) y → (a ≡ b) × (x ≡ y)
read_once k p l tile text = outcome_single (ReadTold k p l tile text) (read_told_once k p l tile text)

-- a repair has one right answer, and leaves one tile
pub repair_once : (k : Kind) (p l : ℕ) (tile : List ℕ) (a b : Result Repaired Refusal) (x y : List ℕ)
    → RepairTold k p l tile (repair_said a) x → RepairTold k p l tile (repair_said b) y → (a ≡ b) × (x ≡ y)
repair_once k p l tile = repaired_single (RepairTold k p l tile) (repair_told_once k p l tile)

-- an inspection has one right answer
pub inspect_once : (k : Kind) (p l : ℕ) (scan : List ℕ) (a b : Result Repaired Refusal) → InspectTold k p l scan (repair_said a) → InspectTold k p l scan (repair_said b)
    → a ≡ b
inspect_once k p l scan a b t u = repair_said_once a b (inspect_told_once k p l scan (repair_said a) (repair_said b) t u)

-- a recovery has one right answer, and leaves one text
pub recover_once : (k : Kind) (p l : ℕ) (scan text : List ℕ) (a b : Result Repaired Refusal) (x y : List ℕ)
    → RecoverTold k p l scan text (repair_said a) x → RecoverTold k p l scan text (repair_said b) y → (a ≡ b) × (x ≡ y)
recover_once k p l scan text = repaired_single (RecoverTold k p l scan text) (recover_told_once k p l scan text)

-- a filling of flagged lines has one right answer, and leaves one tile
pub fill_once : (k : Kind) (p l : ℕ) (tile : List ℕ) (a b : Line) (c d : Result Unit Refusal) (x y : List ℕ)
    → FillTold k p l tile a b (outcome_said c) x → FillTold k p l tile a b (outcome_said d) y → (c ≡ d) × (x ≡ y)
fill_once k p l tile a b = outcome_single (FillTold k p l tile a b) (fill_told_once k p l tile a b)

-- a restored tile has one right judgement
pub judge_once : (p l : ℕ) (scan restored : List ℕ) (a b : Line) (c d : Result Unit Refusal)
    → JudgeTold p l scan restored a b (outcome_said c) → JudgeTold p l scan restored a b (outcome_said d) → c ≡ d
judge_once p l scan restored a b c d t u = outcome_said_once c d (judge_told_once p l scan restored a b (outcome_said c) (outcome_said d) t u)
