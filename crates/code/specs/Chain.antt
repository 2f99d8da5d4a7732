-- Values handed on along a closed walk: n places, each passed once, the n-th step coming back to the first. Starting from 0 and adding
-- a term at each step fixes a value for each place, and where the terms add up to zero round the walk it exists. Both chains of the
-- paper, for two columns and for a row with a column, are such walks. Assumes nothing.
use Rattle.std.specs.Prelude.{◌≡◌, ◌≢◌, ◌⊎◌, Bool, true, false, ℕ, zero, suc, ◌+◌, ◌*◌, ◌%◌, ◌<◌, eqb}
use Rattle.std.proofs.Common.{sym, ap, ◌∙◌, inl, inr, mod-lt, eq-or-lt_of_le, le_of_suc-le-suc, lt-suc_self, add-one, arith, eq-eqb, ne_eqb}
use Rattle.std.proofs.Math.Nat.{le_step}
use Rattle.xor.specs.Xor.{◌⊕◌}
use Rattle.xor.specs.Sum.{xor_below, none, more, count, zeros, bytes, reindex}
use Rattle.residue.specs.Prime.{Prime, once}
use Rattle.residue.specs.Pigeon.{onto}

-- walk 0 to walk (n - 1) are different places, and walk n is walk 0
pub record Round (n : ℕ) (walk : ℕ → ℕ) : Type 0 where
  pub some : 0 < n
  pub once : (j k : ℕ) → j < k → k < n → walk j ≢ walk k
  pub closes : walk n ≡ walk 0

-- x is 0 where the walk starts, and each step adds the term of the place it leaves
pub record Chain (n : ℕ) (walk term x : ℕ → ℕ) : Type 0 where
  pub start : x (walk 0) ≡ 0
  pub next : (k : ℕ) → k < n → x (walk (k + 1)) ≡ x (walk k) ⊕ term k

-- what the chain says of each place: the sum of the terms before it
pub chain_value : (k : ℕ) (walk term x : ℕ → ℕ) → x (walk 0) ≡ 0
    → ((i : ℕ) → i < k → x (walk (i + 1)) ≡ x (walk i) ⊕ term i) → x (walk k) ≡ xor_below k term
chain_value zero walk term x s h = s ∙ sym (none term)
chain_value (suc k) walk term x s h =
    ap (λ (i : ℕ). x (walk i)) (sym (add-one k)) ∙ h k (lt-suc_self k)
    ∙ ap (λ (y : ℕ). y ⊕ term k) (chain_value k walk term x s (λ i l. h i (le_step l)))
    ∙ sym (more k term) ∙ count (k + 1) (suc k) term (add-one k)

-- where every term is zero, so is every value
pub chain_zero : (n : ℕ) (walk term x : ℕ → ℕ) → Chain n walk term x → ((i : ℕ) → i < n → term i ≡ 0) → (k : ℕ) → k < n → x (walk k) ≡ 0
chain_zero n walk term x c z k h = chain_value k walk term x c.start (λ i l. c.next i (omega arith)) ∙ zeros k term (λ i l. z i (omega arith))

-- the last step needs no look: it closes because the terms add up to zero
pub chain_closes : (n : ℕ) (walk term x : ℕ → ℕ) → Round n walk → xor_below n term ≡ 0 → x (walk 0) ≡ 0
    → ((k : ℕ) → k + 1 < n → x (walk (k + 1)) ≡ x (walk k) ⊕ term k) → Chain n walk term x
chain_closes n walk term x r z s h = record { start = s; next = λ k l. go k (eq-or-lt_of_le l) }
  where
    go : (k : ℕ) → (suc k ≡ n) ⊎ (suc k < n) → x (walk (k + 1)) ≡ x (walk k) ⊕ term k
    go k (inl e) =
        ap (λ (i : ℕ). x (walk i)) (add-one k ∙ e) ∙ ap x r.closes ∙ s ∙ sym z ∙ count n (k + 1) term (omega arith) ∙ more k term
        ∙ ap (λ (y : ℕ). y ⊕ term k) (sym (chain_value k walk term x s (λ i l. h i (omega arith))))
    go k (inr l) = h k (omega arith)

-- ---- the value exists

abbrev pick : Bool → ℕ → ℕ → ℕ
pick true a b = a
pick false a b = b

-- which place of the walk m is: the largest k below n with walk k ≡ m, or 0
unfoldable rank : (ℕ → ℕ) → ℕ → ℕ → ℕ
rank walk zero m = 0
rank walk (suc n) m = pick (eqb (walk n) m) n (rank walk n m)

rank_at : (n k : ℕ) (walk : ℕ → ℕ) → ((i j : ℕ) → i < j → j < n → walk i ≢ walk j) → k < n → rank walk n (walk k) ≡ k
unfolding rank
rank_at zero k walk o h = omega arith
rank_at (suc n) k walk o h = go (eq-or-lt_of_le (le_of_suc-le-suc h)) (rank_at n k walk (λ i j l m. o i j l (le_step m)))
  where
    go : (k ≡ n) ⊎ (k < n) → (k < n → rank walk n (walk k) ≡ k) → pick (eqb (walk n) (walk k)) n (rank walk n (walk k)) ≡ k
    go (inl e) ih = rw (eq-eqb (walk n) (walk k) (ap walk (sym e))) (sym e)
    go (inr l) ih = rw (ne_eqb (walk n) (walk k) (λ e. o k n l (lt-suc_self n) (sym e))) (ih l)

-- the value that the chain hands to the place m
pub handed : (ℕ → ℕ) → (ℕ → ℕ) → ℕ → ℕ → ℕ
handed walk term n m = xor_below (rank walk n m) term

pub handed_byte : (n m : ℕ) (walk term : ℕ → ℕ) → ((k : ℕ) → term k < 256) → handed walk term n m < 256
unfolding handed
handed_byte n m walk term h = bytes (rank walk n m) term (λ k l. h k)

pub handed_chain : (n : ℕ) (walk term : ℕ → ℕ) → Round n walk → xor_below n term ≡ 0 → Chain n walk term (handed walk term n)
unfolding handed
handed_chain n walk term r z =
    chain_closes n walk term (handed walk term n) r z (at 0 r.some ∙ none term)
    (λ k h. at (k + 1) h ∙ more k term ∙ ap (λ (y : ℕ). y ⊕ term k) (sym (at k (omega arith))))
  where
    at : (k : ℕ) → k < n → handed walk term n (walk k) ≡ xor_below k term
    at k h = count _ k term (rank_at n k walk r.once h)

-- ---- totals over a walk

-- n different numbers below n are all of them, so terms taken in their order add up to the same
pub reordered : (n : ℕ) (σ f : ℕ → ℕ) → ((k : ℕ) → k < n → σ k < n) → ((j k : ℕ) → j < k → k < n → σ j ≢ σ k) → xor_below n (λ k. f (σ k)) ≡ xor_below n f
reordered n σ f b d = reindex n σ (rank σ n) f (record {
  there = b;
  back = λ i h. let t = onto n σ b d i h in rw (at i h) t.1;
  left = λ i h. rank_at n i σ d h;
  right = λ i h. let t = onto n σ b d i h in ap σ (at i h) ∙ t.2;
})
  where
    at : (i : ℕ) (h : i < n) → rank σ n i ≡ (onto n σ b d i h).0
    at i h = let t = onto n σ b d i h in ap (rank σ n) (sym t.2) ∙ rank_at n t.0 σ d t.1

-- the terms at b, b + a, b + 2 a, .. modulo a prime
pub stepped : (p a b : ℕ) (f : ℕ → ℕ) → Prime p → 0 < a % p → xor_below p (λ k. f ((b + k * a) % p)) ≡ xor_below p f
stepped p a b f P h = reordered p (λ k. (b + k * a) % p) f (λ k l. mod-lt _ (omega arith)) (λ j k jk kp e. omega (arith, once P b a j k h (omega arith) kp e))
