-- The contract settles the answer and the room: two outcomes of laying a record that are allowed for the same input are the same.
-- Assumes nothing.
use Rattle.std.specs.Prelude.{◌≡◌, refl, List, ◌++◌, ℕ, Result, Ok, Err}
use Rattle.std.proofs.Common.{sym, ap, ap₂, ◌∙◌, take-append-drop}
use Rattle.size.specs.Answer as size
use Rattle.size.specs.Refusal.{number_of}
use Rattle.size.specs.Once.{number_once}
use Rattle.size.specs.declared.Refusal.{Refusal}
use Rattle.promise.specs.Calls.{TileLength}
use Rattle.promise.specs.Admit.{admitted_well, admitted_no, admitted_once}
use Rattle.header.specs.Header.{kind_of}
use Rattle.header.specs.Laid.{record_once}
use Rattle.header.specs.declared.Header.{Header}
use Rattle.printer.specs.Lay.{Said, refused, laid_said, Taken, LaidFirst, LayTold, refuses, no_line, no_room, lays}

module _ (h : Header) (tile room : List ℕ) where
  -- one number refuses a record, and none does that is taken
  taken_once : {n m : ℕ} → Taken h tile (size.refused n) → Taken h tile (size.refused m) → refused n ≡ refused m
  taken_once {n} {m} t u =
      let e = admitted_once (kind_of h.mark) h.p h.l (TileLength h.p tile) (size.refused n) (size.refused m) t u in cc

  taken_not : {n : ℕ} → Taken h tile (size.refused n) → Taken h tile size.well → ⊥
  taken_not t w = admitted_no t (admitted_well w)

  -- a record stands in one way in a room: it is the only one of its tile, and behind it all stays
  laid_once : (n : ℕ) (x y : List ℕ) → LaidFirst h tile room n x → LaidFirst h tile room n y → x ≡ y
  laid_once n x y a b = sym (take-append-drop n x) ∙ ap₂ ◌++◌ (record_once a.is b.is) (a.behind ∙ sym b.behind) ∙ take-append-drop n y

  -- so two outcomes are the same
  pub lay_told_once : (a b : Said) (x y : List ℕ) → LayTold h tile room a x → LayTold h tile room b y → (a ≡ b) × (x ≡ y)
  lay_told_once a b x y (refuses t) (refuses u) = (taken_once t u, refl)
  lay_told_once a b x y (refuses t) (no_line w f) = absurd (taken_not t w)
  lay_told_once a b x y (refuses t) (no_room w c f) = absurd (taken_not t w)
  lay_told_once a b x y (refuses t) (lays w c r s) = absurd (taken_not t w)
  lay_told_once a b x y (no_line w f) (refuses t) = absurd (taken_not t w)
  lay_told_once a b x y (no_line w f) (no_line v g) = (refl, refl)
  lay_told_once a b x y (no_line w f) (no_room v c g) = absurd (f c)
  lay_told_once a b x y (no_line w f) (lays v c r s) = absurd (f c)
  lay_told_once a b x y (no_room w c f) (refuses t) = absurd (taken_not t w)
  lay_told_once a b x y (no_room w c f) (no_line v g) = absurd (g c)
  lay_told_once a b x y (no_room w c f) (no_room v d g) = (refl, refl)
  lay_told_once a b x y (no_room w c f) (lays v d r s) = absurd (f r)
  lay_told_once a b x y (lays w c r s) (refuses t) = absurd (taken_not t w)
  lay_told_once a b x y (lays w c r s) (no_line v g) = absurd (g c)
  lay_told_once a b x y (lays w c r s) (no_room v d g) = absurd (g r)
  lay_told_once a b x y (lays w c r s) (lays v d q t) = (refl, laid_once _ x y s t)

-- one answer says it
laid_said_once : (a b : Result ℕ Refusal) → laid_said a ≡ laid_said b → a ≡ b
laid_said_once (Ok n) (Ok m) e = cc
laid_said_once (Ok n) (Err s) e = cc
laid_said_once (Err r) (Ok m) e = cc
laid_said_once (Err r) (Err s) e = let n : number_of r ≡ number_of s = cc in ap Err (number_once r s n)

-- LAY HAS ONE RIGHT ANSWER, and leaves one room
pub lay_once : (h : Header) (tile room : List ℕ) (a b : Result ℕ Refusal) (x y : List ℕ) → LayTold h tile room (laid_said a) x → LayTold h tile room (laid_said b) y
    → (a ≡ b) × (x ≡ y)
lay_once h tile room a b x y t u = let e = lay_told_once h tile room (laid_said a) (laid_said b) x y t u in (laid_said_once a b e.0, e.1)
