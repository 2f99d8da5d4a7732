-- Two hurt columns u and v: the hops go by steps of d = (l - 1)(v - u) and pass every row, for every slope from 2 below p. Round the
-- circle the sums add up to total ⊕ total = 0, so the chain always closes. Assumes nothing.
use Rattle.std.specs.Prelude.{◌≡◌, refl, ◌≢◌, ℕ, ◌+◌, ◌-◌, ◌*◌, ◌%◌, ◌<◌, ◌≤◌}
use Rattle.std.proofs.Common.{sym, ap, ap₂, ◌∙◌, mod-lt, mod-eq_of_lt, suc-mul}
use Rattle.std.proofs.Math.Nat.{mod-add-mod, zero-mod}
use native.Mathlib.Omega.{arith, by_contra}
use Rattle.xor.specs.Xor.{◌⊕◌, self}
use Rattle.xor.specs.Sum.{xor_below, ext, split}
use Rattle.residue.specs.Remainder.{same, steps_close, add_alike, before, before_lt, before_step, step_before, below, below_pos}
use Rattle.residue.specs.Prime.{Prime, mul_cancel, meets, once}
use Rattle.code.specs.Tile.{line}
use Rattle.code.specs.Chain.{stepped}
use Rattle.code.specs.Pair.{Hops, hop}
use Rattle.code.specs.declared.Line.TheVariants.{Column}

-- d is (l - 1)(v - u), up to multiples of p
abbrev pub Stride : ℕ → ℕ → ℕ → ℕ → ℕ → Type 0
Stride p l u v d = (d + (l - 1) * u) % p ≡ (l - 1) * v % p

pub stride : ℕ → ℕ → ℕ → ℕ → ℕ
stride p l u v = before p ((l - 1) * u) ((l - 1) * v % p)

pub stride_is : (p l u v : ℕ) → 0 < p → Stride p l u v (stride p l u v)
unfolding stride
stride_is p l u v h = before_step p ((l - 1) * u) ((l - 1) * v % p) (mod-lt _ h)

-- the rows that the chain passes in the one column, from the added zero on, and where it stops in the other
abbrev pub row_by : ℕ → ℕ → ℕ → ℕ
row_by p d k = (p - 1 + k * d) % p

abbrev pub stop_by : ℕ → ℕ → ℕ → ℕ → ℕ → ℕ
stop_by p d u v k = before p (1 * v) (line p 1 (row_by p d k) u)

less : (l c : ℕ) → 2 ≤ l → (l - 1) * c + c ≡ l * c
less l c h = sym (suc-mul (l - 1) c) ∙ ap (λ (x : ℕ). x * c) (omega arith)

pub stride_pos : (p l u v d : ℕ) → Prime p → 2 ≤ l → l < p → u < p → v < p → u ≢ v → Stride p l u v d → 0 < d % p
stride_pos p l u v d P low high hu hv apart step =
    by_contra 1 _ (λ none. apart (below p u v hu hv (mul_cancel P (l - 1) u v (below_pos p (l - 1) (omega arith) (omega arith)) (sym (still none) ∙ step))))
  where
    still : d % p < 1 → (d + (l - 1) * u) % p ≡ (l - 1) * u % p
    still none = let z : d % p ≡ 0 = omega arith in add_alike p d 0 ((l - 1) * u) (z ∙ sym (zero-mod p)) ∙ same p (omega arith)

row_next : (p d k : ℕ) → row_by p d (k + 1) ≡ (row_by p d k + d) % p
row_next p d k = same p (omega arith) ∙ sym (mod-add-mod (p - 1 + k * d) p d)

-- the hops from u to v and back
pub columns_hops : (p l u v d : ℕ) → Prime p → 2 ≤ l → l < p → u < p → v < p → u ≢ v → Stride p l u v d → Hops p l u (Column v) p (row_by p d) (stop_by p d u v)
columns_hops p l u v d P low high hu hv apart step = record {
  round = record {
    some = pos;
    once = λ j k jk kp e. omega (arith, once P (p - 1) d j k d_pos (omega arith) kp e);
    closes = steps_close p (p - 1) d;
  };
  start = same p (omega arith) ∙ mod-eq_of_lt (omega arith);
  row = λ k. mod-lt _ pos;
  cell = λ k. mod-lt _ pos;
  first = first;
  second = λ k.
      same p (omega (arith, less l v low))
      ∙ add_alike p (stop_by p d u v k + 1 * v) (row_by p d k + 1 * u) ((l - 1) * v) (first k)
      ∙ same p (omega arith)
      ∙ sym (add_alike p (d + (l - 1) * u) ((l - 1) * v) (row_by p d k + u) step)
      ∙ same p (omega (arith, less l u low))
      ∙ sym (mod-add-mod (row_by p d k + d) p (l * u))
      ∙ ap (λ (x : ℕ). (x + l * u) % p) (sym (row_next p d k));
  rows = λ i hi o. meets P (p - 1) d i d_pos hi;
  stops = λ j hj o.
      let t = meets P (p - 1) d (before p (1 * u) (line p 1 j v)) d_pos (before_lt p (1 * u) (line p 1 j v) pos) in
      (t.0, t.1, ap (λ (i : ℕ). before p (1 * v) (line p 1 i u)) t.2 ∙ ap (before p (1 * v)) (before_step p (1 * u) (line p 1 j v) (mod-lt _ pos)) ∙ step_before p (1 * v) j hj);
  clear = λ k e. apart (sym e);
}
  where
    pos : 0 < p
    pos = omega arith

    d_pos : 0 < d % p
    d_pos = stride_pos p l u v d P low high hu hv apart step

    first : (k : ℕ) → line p 1 (stop_by p d u v k) v ≡ line p 1 (row_by p d k) u
    first k = before_step p (1 * v) (line p 1 (row_by p d k) u) (mod-lt _ pos)

-- the terms of the chain add up to zero
pub columns_close : (p l u d : ℕ) (A B : ℕ → ℕ) → Prime p → 0 < d % p → xor_below p A ≡ xor_below p B → xor_below p (hop p l A B u (row_by p d)) ≡ 0
columns_close p l u d A B P d_pos e =
    split p _ _
    ∙ ap₂ ◌⊕◌ (swept 1 (p - 1) A (row_by p d) (λ k. refl)) (swept l (p - 1 + d) B (λ k. row_by p d (k + 1)) (λ k. same p (omega arith)) ∙ sym e)
    ∙ self _
  where
    swept : (s a : ℕ) (S row : ℕ → ℕ) → ((k : ℕ) → row k ≡ (a + k * d) % p) → xor_below p (λ k. S (line p s (row k) u)) ≡ xor_below p S
    swept s a S row h =
        ext p _ _ (λ k l. ap S (ap (λ (x : ℕ). (x + s * u) % p) (h k) ∙ mod-add-mod (a + k * d) p (s * u) ∙ same p (omega arith)))
        ∙ stepped p d (a + s * u) S P d_pos
