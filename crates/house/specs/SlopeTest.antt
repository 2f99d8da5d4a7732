-- A quick test of a slope, which antt computes: it lies between 2 and p - 2, and no power of it from the first to the (p - 2)-th is 1.
-- For a prime p it says which slopes are allowed. Assumes nothing.
use Rattle.std.specs.Prelude.{◌≡◌, ◌≢◌, true, ◌&&◌, not, T, leb, eqb}
use Rattle.std.proofs.Math.Path.{ap}
use Rattle.std.proofs.Common.{sym, ◌∙◌, eq-or-lt_of_le, arith, leb→le, le→leb}
use Rattle.std.proofs.Math.Logic.{⊎_elim}
use Rattle.std.proofs.Math.Bool.{Bool}
use Prim.Native.Nat.{ℕ, zero, suc, ◌+◌, ◌*◌, ◌-◌, ◌%◌, ◌^◌, ◌≤◌, ◌<◌}
use Rattle.std.proofs.Math.Dec.{T_not, not_T, eqb→eq}
use Rattle.residue.specs.Prime.{Prime}
use Rattle.residue.specs.Remainder.{below_pos}
use Rattle.residue.specs.Power.{no_return_reaches, reaches_no_return, first_power, next_power}
use Rattle.residue.specs.Size.{Allowed}
use Rattle.residue.specs.Test.{and_left, and_right, and_both}

-- none of n numbers from x on, each l times the one before modulo p, is 1
unfoldable pub clear : ℕ → ℕ → ℕ → ℕ → Bool
clear p l zero x = true
clear p l (suc n) x = not (eqb x 1) && clear p l n (x * l % p)

-- the test of a slope
unfoldable pub slope_ok : ℕ → ℕ → Bool
slope_ok p l = leb 2 l && (leb (l + 2) p && clear p l (p - 2) l)

module _ (p l : ℕ) where
  -- where x is the i-th power of l and the n numbers from x on are clear, none of n powers from the i-th on is 1; and the reverse
  clear_at : (n i x : ℕ) → x ≡ (l ^ i) % p → T (clear p l n x) → (k : ℕ) → i ≤ k → k < i + n → (l ^ k) % p ≢ 1
  unfolding clear
  clear_at zero i x e t k h lt = absurd (omega arith)
  clear_at (suc n) i x e t k h lt =
      ⊎_elim (λ q one. T_not (eqb x 1) (and_left (not (eqb x 1)) (clear p l n (x * l % p)) t) (rw (e ∙ ap (λ (j : ℕ). (l ^ j) % p) q ∙ one) tt))
      (λ more. clear_at n (i + 1) (x * l % p) (next_power p l i x e) (and_right (not (eqb x 1)) (clear p l n (x * l % p)) t) k (omega arith) (omega arith))
      (eq-or-lt_of_le h)

  at_clear : (n i x : ℕ) → x ≡ (l ^ i) % p → ((k : ℕ) → i ≤ k → k < i + n → (l ^ k) % p ≢ 1) → T (clear p l n x)
  unfolding clear
  at_clear zero i x e f = tt
  at_clear (suc n) i x e f =
      and_both (not (eqb x 1)) (clear p l n (x * l % p)) (not_T (eqb x 1) (λ t. f i (omega arith) (omega arith) (sym e ∙ eqb→eq x 1 t)))
      (at_clear n (i + 1) (x * l % p) (next_power p l i x e) (λ k h lt. f k (omega arith) (omega arith)))

  -- a slope that passes is allowed
  pub slope_sound : Prime p → T (slope_ok p l) → Allowed p l
  unfolding slope_ok
  slope_sound P t = record {
    low = lo;
    high = hi;
    reach = no_return_reaches p l P (below_pos p l (omega (arith, lo)) (omega (arith, hi))) (λ k h lt.
        clear_at (p - 2) 1 l (first_power p l (omega (arith, hi))) (and_right (leb (l + 2) p) c rest) k h (omega (arith, lo, hi)));
  }
    where
      c : Bool
      c = clear p l (p - 2) l

      rest : T (leb (l + 2) p && c)
      rest = and_right (leb 2 l) (leb (l + 2) p && c) t

      lo : 2 ≤ l
      lo = leb→le 2 l (and_left (leb 2 l) (leb (l + 2) p && c) t)

      hi : l + 2 ≤ p
      hi = leb→le (l + 2) p (and_left (leb (l + 2) p) c rest)

  -- an allowed slope passes
  pub slope_complete : Prime p → Allowed p l → T (slope_ok p l)
  unfolding slope_ok
  slope_complete P a =
      and_both (leb 2 l) (leb (l + 2) p && clear p l (p - 2) l) (le→leb 2 l a.low)
      (and_both (leb (l + 2) p) (clear p l (p - 2) l) (le→leb (l + 2) p a.high)
      (at_clear (p - 2) 1 l (first_power p l (omega (arith, a.high))) (λ k h lt. reaches_no_return p l P a.reach k h (omega arith))))
