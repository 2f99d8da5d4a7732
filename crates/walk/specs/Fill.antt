-- An array that a loop fills from the front, and the place that the loop carries along. Assumes nothing.
use Rattle.std.specs.Prelude.{◌≡◌, refl, List, ℕ, ◌+◌, ◌*◌, ◌%◌, ◌<◌, length, set}
use Rattle.std.proofs.Common.{sym, ap, ◌∙◌, mod-eq_of_lt, arith, get_or-set_same, get_or-set_other}
use Rattle.std.proofs.Math.Nat.{mod-add-mod}
use Rattle.std.proofs.Math.Decide.{ℕ_discrete}
use Rattle.residue.specs.Remainder.{same, same_step}
use Rattle.code.specs.OneLine.{number, through}
use Rattle.code.specs.declared.Line.{Line}
use Rattle.code.specs.declared.Line.TheVariants.{Row, Column}
use Rattle.code.specs.Held.{held}
use Rattle.walk.specs.Sums.{Stepped}

-- an array that holds f below k, with f k stored at k, holds f below k + 1
pub one_more : (xs : List ℕ) (k v : ℕ) (f : ℕ → ℕ) → k < length xs → v ≡ f k → ((t : ℕ) → t < k → held xs t ≡ f t)
    → (t : ℕ) → t < k + 1 → held (set xs k v) t ≡ f t
one_more xs k v f h e inv t l = go (ℕ_discrete t k)
  where
    go : Dec (t ≡ k) → held (set xs k v) t ≡ f t
    go (yes q) = rw (q, get_or-set_same xs k v 0 h) e
    go (no d) = get_or-set_other xs k t v 0 d ∙ inv t (omega arith)

-- k steps of s from b, and one more
pub carried : (p b s k t r : ℕ) → t ≡ (b + s * k) % p → Stepped p t s r → r ≡ (b + s * (k + 1)) % p
carried p b s k t r e h = h.is ∙ ap (λ (x : ℕ). (x + s) % p) e ∙ mod-add-mod (b + s * k) p s ∙ same p (omega arith)

-- no steps
pub begins : (p b s : ℕ) → b < p → b ≡ (b + s * 0) % p
begins p b s h = sym (same p (omega arith) ∙ mod-eq_of_lt h)

-- the slope-1 line through the k-th cell of a line is k steps from its number
pub from_number : (p : ℕ) (a : Line) (k : ℕ) → (number a + 1 * k) % p ≡ through p 1 a k
from_number p (Row r) k = refl
from_number p (Column c) k = same p (omega arith)

-- a slope-1 line meets a line in one cell
pub through_once : (p : ℕ) (b : Line) (j k : ℕ) → j < p → k < p → through p 1 b j ≡ through p 1 b k → j ≡ k
through_once p b j k hj hk e =
    same_step p (number b) j k hj hk (same p (omega arith) ∙ from_number p b j ∙ e ∙ sym (from_number p b k) ∙ same p (omega arith))
