-- What an array or a slice holds, place by place. Assumes nothing.
use Rattle.std.specs.Prelude.{◌≡◌, refl, List, ℕ, zero, suc, ◌<◌, eqb, length, get_or, set, replicate}
use Rattle.std.proofs.Common.{sym, get_or-set_same, get_or-set_other, eq-eqb, ne_eqb}
use Rattle.std.proofs.Math.Decide.{ℕ_discrete}
use Rattle.std.specs.Int.Bits.{bit_xor}
use Rattle.xor.specs.Xor.{◌⊕◌, ⊕_is, zero_r}
use Rattle.xor.specs.Sum.{keep}

abbrev pub held : List ℕ → ℕ → ℕ
held xs k = get_or xs k 0

-- `out[k] = out[k] ^ x`, as it is seen at t
pub hit : (out : List ℕ) (k x t : ℕ) → k < length out → held (set out k (bit_xor (held out k) x)) t ≡ held out t ⊕ keep (eqb k t) x
hit out k x t h = go (ℕ_discrete t k)
  where
    go : Dec (t ≡ k) → held (set out k (bit_xor (held out k) x)) t ≡ held out t ⊕ keep (eqb k t) x
    go (yes e) = rw (e, eq-eqb k k refl, get_or-set_same out k (bit_xor (held out k) x) 0 h) (⊕_is (held out k) x)
    go (no d) = rw (ne_eqb k t (λ e. d (sym e)), get_or-set_other out k t (bit_xor (held out k) x) 0 d) (sym (zero_r (held out t)))

-- an array of zeros holds 0 at each place
pub zeros_held : (n k : ℕ) → held (replicate n 0) k ≡ 0
zeros_held zero k = refl
zeros_held (suc n) zero = refl
zeros_held (suc n) (suc k) = zeros_held n k
