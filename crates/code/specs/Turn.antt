-- Turning (Lemma 2.2 of the paper): a tile turned over its diagonal is good for the inverse slope exactly if the tile is good. So what
-- holds of columns holds of rows. Assumes nothing.
use Rattle.std.specs.Prelude.{◌≡◌, refl, ◌↔◌, Bool, true, false, ℕ, ◌+◌, ◌*◌, ◌%◌, ◌<◌, eqb}
use Rattle.std.proofs.Math.Path.{sym, ap}
use Rattle.std.proofs.Common.{◌∙◌, mod-lt, mod-eq_of_lt, mul_comm, arith, eqb-true, eq-eqb, ne_eqb}
use Rattle.std.proofs.lemmas.Bool.{eqb-false}
use Rattle.xor.specs.Xor.{◌⊕◌}
use Rattle.xor.specs.Sum.{keep, ext, swap}
use Rattle.residue.specs.Remainder.{same, mul_mod_mod, add_alike, undo}
use Rattle.code.specs.Tile.{Cells, line, sum, OneSum}
use Rattle.code.specs.Sums.{Padded}
use Rattle.code.specs.Settle.{Settles}

abbrev pub turned : Cells → Cells
turned T i j = T j i

pub padded_turned : (p : ℕ) (T : Cells) → Padded p T → Padded p (turned T)
padded_turned p T h = record { row = h.column; column = h.row }

-- the slope-1 lines are their own turned lines
pub turn_first : (p t : ℕ) (T : Cells) → sum p 1 (turned T) t ≡ sum p 1 T t
unfolding sum
turn_first p t T =
    swap p p _ ∙ ext p _ _ (λ j l. ext p _ _ (λ i m. ap (λ (k : ℕ). keep (eqb (k % p) t) (T j i)) (omega arith)))

-- two tests that hold together
same_test : (a b c d : ℕ) → (a ≡ b → c ≡ d) → (c ≡ d → a ≡ b) → eqb a b ≡ eqb c d
same_test a b c d f g = go (eqb a b) refl
  where
    go : (t : Bool) → eqb a b ≡ t → eqb a b ≡ eqb c d
    go true e = e ∙ sym (eq-eqb c d (f (eqb-true a b e)))
    go false e = e ∙ sym (ne_eqb c d (λ q. eqb-false a b e (g q)))

-- l times what its inverse m took k to is k
there_and_back : (p l m k : ℕ) → m * l % p ≡ 1 → k < p → l * (m * k % p) % p ≡ k
there_and_back p l m k inverse h = mul_mod_mod p l (m * k) ∙ same p (omega arith) ∙ undo p m l k inverse ∙ mod-eq_of_lt h

-- m is the inverse of the slope l
module _ (p l m : ℕ) (inverse : l * m % p ≡ 1) where
  inverse' : m * l % p ≡ 1
  inverse' = same p (mul_comm m l) ∙ inverse

  -- the slope-m line through (i, j), l times: the slope-l line through (j, i)
  pub turned_line : (i j : ℕ) → l * line p m i j % p ≡ line p l j i
  turned_line i j =
      mul_mod_mod p l (i + m * j) ∙ same p (omega arith) ∙ add_alike p (m * j * l) j (l * i) (same p (omega arith) ∙ undo p m l j inverse')

  pub turn_second : (t : ℕ) (T : Cells) → t < p → sum p m (turned T) t ≡ sum p l T (l * t % p)
  unfolding sum
  turn_second t T h =
      swap p p _
      ∙ ext p _ _ (λ j q. ext p _ _ (λ i r. ap (λ (b : Bool). keep b (T j i))
      (same_test (line p m i j) t (line p l j i) (l * t % p)
      (λ e. sym (turned_line i j) ∙ ap (λ (x : ℕ). l * x % p) e)
      (λ e. sym (there_and_back p m l (line p m i j) inverse (mod-lt (i + m * j) (omega arith))) ∙ ap (λ (x : ℕ). m * x % p) (turned_line i j ∙ e)
      ∙ there_and_back p m l t inverse h))))

  turned_one_sum : (T : Cells) → OneSum p l T → OneSum p m (turned T)
  turned_one_sum T g = record {
    common = g.common;
    first = λ t q. turn_first p t T ∙ g.first t q;
    second = λ t q. turn_second t T q ∙ g.second (l * t % p) (mod-lt (l * t) (omega arith));
  }

  -- a change settles sums exactly if the turned change settles the turned sums
  pub settles_turned : (A B : ℕ → ℕ) (D : Cells) → Settles p l A B D → Settles p m A (λ t. B (l * t % p)) (turned D)
  settles_turned A B D g = record {
    common = g.common;
    first = λ t q. ap (λ (x : ℕ). A t ⊕ x) (turn_first p t D) ∙ g.first t q;
    second = λ t q. ap (λ (x : ℕ). B (l * t % p) ⊕ x) (turn_second t D q) ∙ g.second (l * t % p) (mod-lt (l * t) (omega arith));
  }

  pub turned_settles : (A B : ℕ → ℕ) (D : Cells) → Settles p m A (λ t. B (l * t % p)) (turned D) → Settles p l A B D
  turned_settles A B D g = record {
    common = g.common;
    first = λ t q. ap (λ (x : ℕ). A t ⊕ x) (sym (turn_first p t D)) ∙ g.first t q;
    second = λ t q.
        let u : m * t % p < p = mod-lt (m * t) (omega arith) in
        ap (λ (x : ℕ). B x ⊕ sum p l D x) (sym (there_and_back p l m t inverse' q))
        ∙ ap (λ (x : ℕ). B (l * (m * t % p) % p) ⊕ x) (sym (turn_second (m * t % p) D u)) ∙ g.second (m * t % p) u;
  }

-- LEMMA 2.2. The way back is the way there from the turned tile, as a tile turned twice is the tile
pub good_turned : (p l m : ℕ) (T : Cells) → l * m % p ≡ 1 → OneSum p l T ↔ OneSum p m (turned T)
good_turned p l m T inverse = (turned_one_sum p l m inverse T, turned_one_sum p m l (inverse' p l m inverse) (turned T))
