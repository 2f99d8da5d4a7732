-- The sums along a row or a column, and the change in it that they ask for. Assumes nothing.
use Rattle.std.specs.Prelude.{◌≡◌, ℕ, ◌+◌, ◌-◌, ◌*◌, ◌%◌, ◌<◌}
use Rattle.std.proofs.Common.{ap, ap₂, ◌∙◌, arith}
use Rattle.xor.specs.Xor.{◌⊕◌}
use Rattle.code.specs.OneLine.{number, through, shifted}
use Rattle.code.specs.declared.Line.{Line}
use Rattle.walk.specs.Fill.{from_number}

-- x holds every weight-th of the sums A from `start` on, as the lines go round
abbrev pub Stepping : ℕ → ℕ → ℕ → (ℕ → ℕ) → (ℕ → ℕ) → Type 0
Stepping p start weight A x = (k : ℕ) → k < p → x k ≡ A ((start + weight * k) % p)

-- x holds the sums of the slope-1 lines through the cells of a line
abbrev pub Along : ℕ → (ℕ → ℕ) → Line → (ℕ → ℕ) → Type 0
Along p A a x = (k : ℕ) → k < p → x k ≡ A (through p 1 a k)

-- y is x with the byte at the added zero taken off
abbrev pub TakenOff : ℕ → (ℕ → ℕ) → (ℕ → ℕ) → Type 0
TakenOff p x y = (k : ℕ) → k < p → y k ≡ x k ⊕ x (p - 1)

-- x holds such sums with the last of them taken off
abbrev pub Changed : ℕ → ℕ → ℕ → (ℕ → ℕ) → (ℕ → ℕ) → Type 0
Changed p start weight A x = (k : ℕ) → k < p → x k ≡ A ((start + weight * k) % p) ⊕ A ((start + weight * (p - 1)) % p)

-- so they are made of the sums
pub changed : (p start weight : ℕ) (A x y : ℕ → ℕ) → 0 < p → Stepping p start weight A x → TakenOff p x y → Changed p start weight A y
changed p start weight A x y pos h off k l = off k l ∙ ap₂ ◌⊕◌ (h k l) (h (p - 1) (omega arith))

-- x is the line's change
abbrev pub Shifted : ℕ → (ℕ → ℕ) → Line → (ℕ → ℕ) → Type 0
Shifted p A a x = (k : ℕ) → k < p → x k ≡ shifted p A a k

-- the sums along a line are those from its number on, one after the other
pub along_line : (p : ℕ) (A : ℕ → ℕ) (a : Line) (x : ℕ → ℕ) → Stepping p (number a) 1 A x → Along p A a x
along_line p A a x h k l = h k l ∙ ap A (from_number p a k)

-- and so is its change
pub changed_line : (p : ℕ) (A : ℕ → ℕ) (a : Line) (x : ℕ → ℕ) → Changed p (number a) 1 A x → Shifted p A a x
changed_line p A a x h k l = h k l ∙ ap₂ ◌⊕◌ (ap A (from_number p a k)) (ap A (from_number p a (p - 1)))
