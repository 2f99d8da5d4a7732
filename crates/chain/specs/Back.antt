-- A step back along the column or the line, without a division. Assumes nothing.
use Rattle.std.specs.Prelude.{◌≡◌, ℕ, ◌+◌, ◌-◌, ◌%◌, ◌≤◌, ◌<◌}
use Rattle.std.proofs.Common.{sym, ap, ◌∙◌, mod-eq_of_lt, arith}
use Rattle.residue.specs.Remainder.{before, alike}

-- the place from which a step of k comes to t, where t is below k, and where it is not
pub before_low : (p k t : ℕ) → k < p → t < k → t + p - k ≡ before p k t
before_low p k t h l = sym (ap (λ (x : ℕ). (t + (p - x)) % p) (mod-eq_of_lt h) ∙ alike p _ (t + p - k) 0 0 (omega arith) ∙ mod-eq_of_lt (omega arith))

pub before_high : (p k t : ℕ) → t < p → k ≤ t → t - k ≡ before p k t
before_high p k t h l =
    let k_lt : k < p = omega arith in
    sym (ap (λ (x : ℕ). (t + (p - x)) % p) (mod-eq_of_lt k_lt) ∙ alike p _ (t - k) 0 1 (omega arith) ∙ mod-eq_of_lt (omega arith))
