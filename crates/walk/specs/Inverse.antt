-- The search for the inverse of a slope, upward from 1: it comes to the inverse, as there is one. Assumes nothing.
use Rattle.std.specs.Prelude.{◌≡◌, ℕ, ◌+◌, ◌*◌, ◌%◌, ◌≤◌, ◌<◌}
use Rattle.std.proofs.Common.{ap, ◌∙◌, ⊎_elim, eq-or-lt_of_le, arith}
use Rattle.residue.specs.Remainder.{same, below_pos}
use Rattle.residue.specs.Prime.{Prime, inverse}

-- no inverse of l is below m
abbrev pub NoneBelow : ℕ → ℕ → ℕ → Type 0
NoneBelow p l m = (n : ℕ) → l * n % p ≡ 1 → m ≤ n

-- so m is below p
pub still_below : (p l m : ℕ) → Prime p → 0 < l → l < p → NoneBelow p l m → m < p
still_below p l m P h k none = let n = inverse p l P (below_pos p l h k) in omega (arith, n.1, none n.0 n.2)

-- and where l m is not 1, none is below m + 1
pub past : (p l m : ℕ) → ((0 + l * m) % p ≡ 1 → ⊥) → NoneBelow p l m → NoneBelow p l (m + 1)
past p l m d none n e =
    ⊎_elim (λ q. absurd (d (same p (omega (arith, ap (λ (x : ℕ). l * x) q)) ∙ e))) (λ lt. omega arith) (eq-or-lt_of_le (none n e))
