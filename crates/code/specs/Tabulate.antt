-- A list given by its entries, and its laws. Assumes nothing.
use Rattle.std.specs.Prelude.{◌≡◌, refl, List, [], ◌∷◌, ℕ, zero, suc, ◌<◌, length, get_or}
use Rattle.std.proofs.Common.{ap, le_of_suc-le-suc, not-suc-le-zero, zero-lt-suc}

-- SPEC 1.3: the list f 0, .., f (n - 1), counted from 0
unfoldable pub tabulate : ℕ → (ℕ → ℕ) → List ℕ
tabulate zero f = []
tabulate (suc n) f = f 0 ∷ tabulate n (λ i. f (suc i))

pub tabulate_length : (n : ℕ) (f : ℕ → ℕ) → length (tabulate n f) ≡ n
unfolding tabulate
tabulate_length zero f = refl
tabulate_length (suc n) f = ap suc (tabulate_length n (λ i. f (suc i)))

pub tabulate_at : (n k : ℕ) (f : ℕ → ℕ) → k < n → get_or (tabulate n f) k 0 ≡ f k
unfolding tabulate
tabulate_at zero k f h = absurd (not-suc-le-zero h)
tabulate_at (suc n) zero f h = refl
tabulate_at (suc n) (suc k) f h = tabulate_at n k (λ i. f (suc i)) (le_of_suc-le-suc h)

-- a table of bytes holds bytes, also past its end, where there is 0
pub tabulate_bytes : (n : ℕ) (f : ℕ → ℕ) → ((k : ℕ) → f k < 256) → (k : ℕ) → get_or (tabulate n f) k 0 < 256
unfolding tabulate
tabulate_bytes zero f h k = zero-lt-suc 255
tabulate_bytes (suc n) f h zero = h 0
tabulate_bytes (suc n) f h (suc k) = tabulate_bytes n (λ i. f (suc i)) (λ i. h (suc i)) k
