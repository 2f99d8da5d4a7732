-- A test of a size, which antt computes: it is from 5 to 257, and no number from 2 below it divides it. Assumes nothing.
use Rattle.std.specs.Prelude.{◌≡◌, Bool, ◌&&◌, not, ℕ, ◌%◌, ◌≤◌, ◌<◌, T, leb, eqb}
use Rattle.std.proofs.Common.{arith, T_not, leb→le, le→leb, eqb→eq}
use Rattle.std.proofs.Math.Dec.{not_T}
use Rattle.residue.specs.Size.{Size}
use Rattle.residue.specs.Test.{up_to, up_at, at_up, and_left, and_right, and_both, imp, imp_on, to_imp}

-- d is below 2, or does not divide p
abbrev whole : ℕ → ℕ → Bool
whole p d = imp (leb 2 d) (not (eqb (p % d) 0))

-- the test of a size
unfoldable pub size_ok : ℕ → Bool
size_ok p = leb 5 p && (leb p 257 && up_to (whole p) p)

-- what passes is a size
pub size_sound : (p : ℕ) → T (size_ok p) → Size p
unfolding size_ok
size_sound p t = record { prime = record { two = omega (arith, lo); whole = go }; low = lo; high = hi }
  where
    rest : T (leb p 257 && up_to (whole p) p)
    rest = and_right (leb 5 p) (leb p 257 && up_to (whole p) p) t

    lo : 5 ≤ p
    lo = leb→le 5 p (and_left (leb 5 p) (leb p 257 && up_to (whole p) p) t)

    hi : p ≤ 257
    hi = leb→le p 257 (and_left (leb p 257) (up_to (whole p) p) rest)

    go : (d : ℕ) → 2 ≤ d → d < p → p % d ≡ 0 → ⊥
    go d h k e =
        T_not (eqb (p % d) 0)
        (imp_on (leb 2 d) (not (eqb (p % d) 0)) (up_at (whole p) p (and_right (leb p 257) (up_to (whole p) p) rest) d k) (le→leb 2 d h))
        (rw e tt)

-- a size passes
pub size_complete : (p : ℕ) → Size p → T (size_ok p)
unfolding size_ok
size_complete p s =
    and_both (leb 5 p) (leb p 257 && up_to (whole p) p) (le→leb 5 p s.low)
    (and_both (leb p 257) (up_to (whole p) p) (le→leb p 257 s.high)
    (at_up (whole p) p (λ d k. to_imp (leb 2 d) (not (eqb (p % d) 0)) (λ h.
    not_T (eqb (p % d) 0) (λ e. s.prime.whole d (leb→le 2 d h) k (eqb→eq (p % d) 0 e))))))
