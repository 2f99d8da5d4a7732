-- How many fillings two lines have, for any slope from 2 to p-2: exactly one in two columns or two rows; one or none in one line; one or
-- none in a row with a column where the powers reach all, and none or several where they do not. Assumes nothing.
use Rattle.std.specs.Prelude.{refl, ◌⊎◌, List, ℕ, ◌-◌, ◌<◌}
use Rattle.std.proofs.Common.{sym, inl, inr}
use Rattle.residue.specs.Power.{ReachesAll}
use Rattle.residue.specs.Order.{Order, order}
use Rattle.code.specs.Slope.{Slope, slope_pos}
use Rattle.code.specs.Tile.{cell, sum, Fills, Bytes}
use Rattle.code.specs.OneLine.{number}
use Rattle.code.specs.Distance.{Parallel}
use Rattle.code.specs.Classes.{ClassesAgree}
use Rattle.code.specs.Filling.{filled_once, fills_either}
use Rattle.code.specs.Doubtful.{filling_classes, classes_filled, second_filling}
use Rattle.code.specs.Count.{None, Several, OfBytes, AtMostOne, once_several, several_over}
use Rattle.code.specs.declared.Line.{Line}
use Rattle.code.specs.declared.Line.TheVariants.{Row, Column}

-- two lines that are sure: parallel ones, and any at a slope that reaches all
abbrev pub Sure : ℕ → ℕ → Line → Line → Type 0
Sure p l a b = (Parallel a b) ⊎ (ReachesAll p l)

module _ (p l : ℕ) (x : List ℕ) (S : Slope p l) where
  -- where two lines are sure, at most one ..
  pub fills_once : (a b : Line) → Sure p l a b → AtMostOne (Fills p l a b x)
  fills_once a b h y z = filled_once p l a b x y z S h

  -- .. so doubt is a matter of a row with a column, and of a slope that misses a remainder
  pub fills_sure : (a b : Line) → Sure p l a b → Several (Fills p l a b x) → ⊥
  fills_sure a b h = once_several (fills_once a b h)

  module _ (s t : ℕ) (hs : s < p - 1) (ht : t < p - 1) where
    -- there a filling has a second one
    crossed_second : (ReachesAll p l → ⊥) → (y : List ℕ) → Fills p l (Column t) (Row s) x y → Several (Fills p l (Column t) (Row s) x)
    crossed_second miss y f =
        let z = second_filling p l s t x y S miss hs ht f in record { one = y; other = z.0; is = f; is_other = z.1; apart = λ e. z.2 (sym e) }

    module _ (n : ℕ) (O : Order p l n) where
      -- but several, of bytes, where the sums agree over the classes ..
      pub crossed_several : (ReachesAll p l → ⊥) → ClassesAgree p l n (sum p 1 (cell p x)) (sum p l (cell p x)) s t → Bytes x
          → Several (OfBytes (Fills p l (Column t) (Row s) x))
      crossed_several miss c h =
          let f = (classes_filled p l n s t x S O hs ht).1 c in
          let z = second_filling p l s t x f.0 S miss hs ht f.1 in
          record { one = f.0; other = z.0; is = (f.1, f.2 h); is_other = (z.1, z.3 (f.2 h)); apart = λ e. z.2 (sym e) }

      -- .. and none where they do not
      pub crossed_none : (ClassesAgree p l n (sum p 1 (cell p x)) (sum p l (cell p x)) s t → ⊥) → None (Fills p l (Column t) (Row s) x)
      crossed_none d y f = d (filling_classes p l n s t x y S O hs ht f)

    -- so where there are several, two are of bytes if the tile is
    crossed_bytes : Several (Fills p l (Column t) (Row s) x) → Bytes x → Several (OfBytes (Fills p l (Column t) (Row s) x))
    crossed_bytes d h =
        let o = order p l S.prime (slope_pos p l S) in
        crossed_several o.0 o.2 (λ all. fills_sure (Column t) (Row s) (inr all) d)
        (filling_classes p l o.0 s t x d.one S o.2 hs ht d.is) h

  -- the lines may be named in either order
  exchanged : (a b : Line) → Several (Fills p l a b x) → Several (Fills p l b a x)
  exchanged a b = several_over (λ y. y) (λ y. y) (λ y. fills_either p l a b x y) (λ y. fills_either p l b a x y) (λ y. refl)

  -- WHERE TWO LINES ARE NOT SURE, a filling has a second one: there is none, or there are several
  pub unsure_several : (a b : Line) → number a < p - 1 → number b < p - 1 → (Sure p l a b → ⊥) → (y : List ℕ) → Fills p l a b x y → Several (Fills p l a b x)
  unsure_several (Column u) (Column v) ha hb unsure y f = absurd (unsure (inl tt))
  unsure_several (Row r) (Row s) ha hb unsure y f = absurd (unsure (inl tt))
  unsure_several (Column t) (Row s) ha hb unsure y f = crossed_second s t hb ha (λ all. unsure (inr all)) y f
  unsure_several (Row s) (Column t) ha hb unsure y f =
      exchanged (Column t) (Row s) (crossed_second s t ha hb (λ all. unsure (inr all)) y (fills_either p l (Row s) (Column t) x y f))

  -- WHERE THERE ARE SEVERAL FILLINGS of a tile of bytes, two are tiles of bytes, whichever the lines
  pub several_bytes : (a b : Line) → number a < p - 1 → number b < p - 1 → Bytes x → Several (Fills p l a b x) → Several (OfBytes (Fills p l a b x))
  several_bytes (Column u) (Column v) ha hb h d = absurd (fills_sure (Column u) (Column v) (inl tt) d)
  several_bytes (Row r) (Row s) ha hb h d = absurd (fills_sure (Row r) (Row s) (inl tt) d)
  several_bytes (Column t) (Row s) ha hb h d = crossed_bytes s t hb ha d h
  several_bytes (Row s) (Column t) ha hb h d =
      several_over (λ y. y) (λ y. y) (λ y q. (fills_either p l (Column t) (Row s) x y q.0, q.1))
      (λ y q. (fills_either p l (Row s) (Column t) x y q.0, q.1)) (λ y. refl) (crossed_bytes s t ha hb (exchanged (Row s) (Column t) d) h)
