-- The contracts settle the answers: two answers that are allowed at the same place are the same, and so are the bytes that are handed back.
-- Assumes nothing.
use Rattle.std.specs.Prelude.{◌≡◌, refl, List, [], ℕ, ◌+◌, ◌-◌, ◌≤◌, length}
use Rattle.std.proofs.Common.{sym, ap, ◌∙◌, subst, arith}
use Rattle.std.specs.Borrow.{Bor}
use Rattle.code.specs.Tile.{tile_length}
use Rattle.size.specs.Answer as size
use Rattle.size.specs.Refusal as refusal
use Rattle.size.specs.Told.{judged_well, judged_no}
use Rattle.size.specs.Once.{number_once, judged_told_once}
use Rattle.header.specs.Header.{header_length, kind_of, HeaderAt}
use Rattle.header.specs.Laid.{counted}
use Rattle.header.specs.Mark.{one_mark, one_header}
use Rattle.header.specs.declared.Mark.{Mark}
use Rattle.header.specs.declared.Header.{Header}
use Rattle.reel.specs.Answer.{Said, tile, end, refused, found_said}
use Rattle.reel.specs.Calls.{StartWhole, HeaderJudged, HeaderTold, refuses, no_line, tile_cut, stands, NextTold, ends, start_cut, no_mark, header_cut, headed, after_said, AfterTold, PartOf, HandsBack, BytesTold, RestTold}
use Rattle.reel.specs.Reading.{Begins, MovesTo, SecondTold}
use Rattle.reel.specs.declared.Tile.{Tile}
use Rattle.reel.specs.declared.reader.Reader.{Reader}
use Rattle.reel.specs.declared.Found.{Found}
use Rattle.reel.specs.declared.Found.TheVariants as found

-- ---- at one place one thing is said

module _ (reel : List ℕ) (at : ℕ) (h : Header) where
  -- the size and the slope of a header are refused with one number, and not both refused and well
  refused_once : {n n' : ℕ} → HeaderJudged h (size.refused n) → HeaderJudged h (size.refused n') → n ≡ n'
  refused_once {n} {n'} a b = let e = judged_told_once (kind_of h.mark) h.p h.l (size.refused n) (size.refused n') a b in cc

  no_well : {n : ℕ} → HeaderJudged h (size.refused n) → HeaderJudged h size.well → ⊥
  no_well a b = judged_no a (judged_well b)

  header_told_once : (a b : Said) → HeaderTold reel at h a → HeaderTold reel at h b → a ≡ b
  header_told_once a b (refuses j) (refuses j') = ap (λ (x : ℕ). refused x at) (refused_once j j')
  header_told_once a b (refuses j) (no_line j' f') = absurd (no_well j j')
  header_told_once a b (refuses j) (tile_cut j' c' f') = absurd (no_well j j')
  header_told_once a b (refuses j) (stands j' c' w') = absurd (no_well j j')
  header_told_once a b (no_line j f) (refuses j') = absurd (no_well j' j)
  header_told_once a b (no_line j f) (no_line j' f') = refl
  header_told_once a b (no_line j f) (tile_cut j' c' f') = absurd (f c')
  header_told_once a b (no_line j f) (stands j' c' w') = absurd (f c')
  header_told_once a b (tile_cut j c f) (refuses j') = absurd (no_well j' j)
  header_told_once a b (tile_cut j c f) (no_line j' f') = absurd (f' c)
  header_told_once a b (tile_cut j c f) (tile_cut j' c' f') = refl
  header_told_once a b (tile_cut j c f) (stands j' c' w') = absurd (f w')
  header_told_once a b (stands j c w) (refuses j') = absurd (no_well j' j)
  header_told_once a b (stands j c w) (no_line j' f') = absurd (f' c)
  header_told_once a b (stands j c w) (tile_cut j' c' f') = absurd (f' w)
  header_told_once a b (stands j c w) (stands j' c' w') = refl

  -- a whole header has a whole start
  start_of : HeaderAt reel at h → StartWhole reel at
  start_of there = omega (arith, there.whole, (counted h.mark).0)

-- a header that is whole is not cut
whole_header : {reel : List ℕ} {at : ℕ} {m : Mark} {h : Header} → HeaderAt reel at h → m ≡ h.mark → at + header_length m ≤ length reel
whole_header {reel} {at} there e = rw e there.whole

pub next_told_once : (reel : List ℕ) (at : ℕ) (a b : Said) → NextTold reel at a → NextTold reel at b → a ≡ b
next_told_once reel at a b (ends e) (ends e') = refl
next_told_once reel at a b (ends e) (start_cut e' f') = absurd (omega arith)
next_told_once reel at a b (ends e) (no_mark s' m') = absurd (omega arith)
next_told_once reel at a b (ends e) (header_cut k' s' m' f') = absurd (omega arith)
next_told_once reel at a b (ends e) (headed {h} there' t') = absurd (omega (arith, start_of reel at h there'))
next_told_once reel at a b (start_cut e f) (ends e') = absurd (omega arith)
next_told_once reel at a b (start_cut e f) (start_cut e' f') = refl
next_told_once reel at a b (start_cut e f) (no_mark s' m') = absurd (f s')
next_told_once reel at a b (start_cut e f) (header_cut k' s' m' f') = refl
next_told_once reel at a b (start_cut e f) (headed {h} there' t') = absurd (f (start_of reel at h there'))
next_told_once reel at a b (no_mark s m) (ends e') = absurd (omega arith)
next_told_once reel at a b (no_mark s m) (start_cut e' f') = absurd (f' s)
next_told_once reel at a b (no_mark s m) (no_mark s' m') = refl
next_told_once reel at a b (no_mark s m) (header_cut k s' m' f') = absurd (m k m')
next_told_once reel at a b (no_mark s m) (headed {h} there' t') = absurd (m h.mark there'.marked)
next_told_once reel at a b (header_cut k s m f) (ends e') = absurd (omega arith)
next_told_once reel at a b (header_cut k s m f) (start_cut e' f') = refl
next_told_once reel at a b (header_cut k s m f) (no_mark s' m') = absurd (m' k m)
next_told_once reel at a b (header_cut k s m f) (header_cut k' s' m' f') = refl
next_told_once reel at a b (header_cut k s m f) (headed {h} there' t') =
    absurd (f (whole_header there' (one_mark reel at k h.mark m there'.marked)))
next_told_once reel at a b (headed {h} there t) (ends e') = absurd (omega (arith, start_of reel at h there))
next_told_once reel at a b (headed {h} there t) (start_cut e' f') = absurd (f' (start_of reel at h there))
next_told_once reel at a b (headed {h} there t) (no_mark s' m') = absurd (m' h.mark there.marked)
next_told_once reel at a b (headed {h} there t) (header_cut k s' m' f') =
    absurd (f' (whole_header there (one_mark reel at k h.mark m' there.marked)))
next_told_once reel at a b (headed {h} there t) (headed {h = g} there' t') =
    header_told_once reel at g a b (subst (λ (x : Header). HeaderTold reel at x a) (one_header there there') t) t'

-- ---- so each call has one right answer

pub tile_once : {s t : Tile} → tile s ≡ tile t → s ≡ t
tile_once {s} {t} e = cc

found_said_once : (a b : Found) → found_said a ≡ found_said b → a ≡ b
found_said_once (found.Tile s) (found.Tile t) e = ap found.Tile (tile_once e)
found_said_once (found.Tile s) found.End e = cc
found_said_once (found.Tile s) (found.Refused r at) e = cc
found_said_once found.End (found.Tile t) e = cc
found_said_once found.End found.End e = refl
found_said_once found.End (found.Refused r at) e = cc
found_said_once (found.Refused q from) (found.Tile t) e = cc
found_said_once (found.Refused q from) found.End e = cc
found_said_once (found.Refused q from) (found.Refused r at) e =
    let n : refusal.number_of q ≡ refusal.number_of r = cc in let o : from ≡ at = cc in λ i. found.Refused (number_once q r n i) (o i)

pub next_once : (reel : List ℕ) (at : ℕ) (a b : Found) → NextTold reel at (found_said a) → NextTold reel at (found_said b) → a ≡ b
next_once reel at a b s t = found_said_once a b (next_told_once reel at (found_said a) (found_said b) s t)

pub after_once : (reel : List ℕ) (at a b : ℕ) → AfterTold reel at a → AfterTold reel at b → a ≡ b
after_once reel at a b s t = s.is ∙ ap (after_said at) (next_told_once reel at s.said t.said s.told t.told) ∙ sym t.is

-- behind a tile it is the place right behind the tile's bytes
pub after_tile : {reel : List ℕ} {at to : ℕ} {t : Tile} → NextTold reel at (tile t) → AfterTold reel at to → to ≡ t.at + tile_length t.p
after_tile {reel} {at} {to} {t} told after = after_once reel at to (t.at + tile_length t.p) after (record { said = tile t; told = told; is = refl })

-- what two parts have in common that are allowed for the same call
pub record Same (a b : Bor (List ℕ)) : Type 0 where
  pub bytes : a.now ≡ b.now
  pub place : (a.now ≡ [] → ⊥) → a.ref_ptr ≡ b.ref_ptr

parts_same : (whole a b : Bor (List ℕ)) (from count : ℕ) → PartOf whole a from count → PartOf whole b from count → Same a b
parts_same whole a b from count s t =
    let e = s.holds ∙ sym t.holds in record { bytes = e; place = λ some. s.own some ∙ sym (t.own (λ none. some (e ∙ none))) }

nones_same : (a b : Bor (List ℕ)) → a.now ≡ [] → b.now ≡ [] → Same a b
nones_same a b e f = record { bytes = e ∙ sym f; place = λ some. absurd (some e) }

hands_same : (reel a b : Bor (List ℕ)) (said : Said) → HandsBack reel said a → HandsBack reel said b → Same a b
hands_same reel a b (tile t) x y = parts_same reel a b t.at (tile_length t.p) x y
hands_same reel a b end s t = nones_same a b s t
hands_same reel a b (refused n from) s t = nones_same a b s t

pub bytes_once : (reel : Bor (List ℕ)) (at : ℕ) (a b : Bor (List ℕ)) → BytesTold reel at a → BytesTold reel at b → Same a b
bytes_once reel at a b s t =
    let e = next_told_once reel.now at s.said t.said s.told t.told in
    hands_same reel a b t.said (subst (λ (x : Said). HandsBack reel x a) e s.are) t.are

pub rest_once : (reel : Bor (List ℕ)) (at : ℕ) (a b : Bor (List ℕ)) → RestTold reel at a → RestTold reel at b → Same a b
rest_once reel at a b s t =
    let e = after_once reel.now at s.from t.from s.told t.told in
    parts_same reel a b t.from (length reel.now - t.from) (subst (λ (x : ℕ). PartOf reel a x (length reel.now - x)) e s.is) t.is

-- ---- and so has each function of a reader; `found` and `bytes` promise what `next` and `bytes` do, and `place` an equation

pub begins_once : (reel : Bor (List ℕ)) (a b : Reader) → Begins reel a → Begins reel b → a ≡ b
begins_once reel a b s t = λ i. record { reel = (s.0 ∙ sym t.0) i; at = (s.1 ∙ sym t.1) i }

pub moves_once : (reader a b : Reader) → MovesTo reader a → MovesTo reader b → a ≡ b
moves_once reader a b s t =
    let at = after_once reader.reel.now reader.at a.at b.at s.1 t.1 in λ i. record { reel = (s.0 ∙ sym t.0) i; at = at i }

pub second_once : (reel : List ℕ) (a b : Found) → SecondTold reel (found_said a) → SecondTold reel (found_said b) → a ≡ b
second_once reel a b s t =
    let e = after_once reel 0 s.at t.at s.behind t.behind in
    next_once reel t.at a b (subst (λ (n : ℕ). NextTold reel n (found_said a)) e s.told) t.told
