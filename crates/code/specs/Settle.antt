-- A change D settles sums A and B: added to a tile whose slope-1 sums are A and whose slope-l sums are B, it makes one byte of all
-- of them. So every question about a hurt tile is asked of the change that makes it good, and of the tile's sums alone. Assumes nothing.
use Rattle.std.specs.Prelude.{◌≡◌, ℕ, ◌<◌}
use Rattle.std.proofs.Common.{sym, ap, ◌∙◌}
use Rattle.xor.specs.Xor.{◌⊕◌, xors, zero_l, from₂}
use Rattle.code.specs.Tile.{Cells, sum, OneSum}
use Rattle.code.specs.Sums.{Same, plus, sum_plus, sum_ext}

pub record Settles (p l : ℕ) (A B : ℕ → ℕ) (D : Cells) : Type 0 where
  pub common : ℕ
  pub first : (t : ℕ) → t < p → A t ⊕ sum p 1 D t ≡ common
  pub second : (t : ℕ) → t < p → B t ⊕ sum p l D t ≡ common

-- the sums that are left once the change D is made
abbrev pub after : ℕ → ℕ → (ℕ → ℕ) → Cells → ℕ → ℕ
after p s S D t = S t ⊕ sum p s D t

-- D settles the sums of T exactly if T with D added is good
pub settles_good : (p l : ℕ) (T D : Cells) → Settles p l (sum p 1 T) (sum p l T) D → OneSum p l (plus T D)
settles_good p l T D g = record {
  common = g.common;
  first = λ t q. sum_plus p 1 t T D ∙ g.first t q;
  second = λ t q. sum_plus p l t T D ∙ g.second t q;
}

pub good_settles : (p l : ℕ) (T D : Cells) → OneSum p l (plus T D) → Settles p l (sum p 1 T) (sum p l T) D
good_settles p l T D g = record {
  common = g.common;
  first = λ t q. sym (sum_plus p 1 t T D) ∙ g.first t q;
  second = λ t q. sym (sum_plus p l t T D) ∙ g.second t q;
}

-- a good tile settles nothing, that is, sums that are all zero
pub good_settles_zero : (p l : ℕ) (D : Cells) → OneSum p l D → Settles p l (λ t. 0) (λ t. 0) D
good_settles_zero p l D g = record { common = g.common; first = λ t q. zero_l _ ∙ g.first t q; second = λ t q. zero_l _ ∙ g.second t q }

pub settles_ext : (p l : ℕ) (A B : ℕ → ℕ) (D E : Cells) → Same p D E → Settles p l A B D → Settles p l A B E
settles_ext p l A B D E h g = record {
  common = g.common;
  first = λ t q. ap (λ (x : ℕ). A t ⊕ x) (sym (sum_ext p 1 t D E h)) ∙ g.first t q;
  second = λ t q. ap (λ (x : ℕ). B t ⊕ x) (sym (sum_ext p l t D E h)) ∙ g.second t q;
}

-- only the sums of the lines 0 to p-1 count
pub settles_sums : (p l : ℕ) (A B A' B' : ℕ → ℕ) (D : Cells) → ((t : ℕ) → t < p → A t ≡ A' t) → ((t : ℕ) → t < p → B t ≡ B' t)
    → Settles p l A B D → Settles p l A' B' D
settles_sums p l A B A' B' D a b g = record {
  common = g.common;
  first = λ t q. ap (λ (x : ℕ). x ⊕ sum p 1 D t) (sym (a t q)) ∙ g.first t q;
  second = λ t q. ap (λ (x : ℕ). x ⊕ sum p l D t) (sym (b t q)) ∙ g.second t q;
}

-- two changes one after the other: E settles what D leaves exactly if D with E added settles all
pub settles_plus : (p l : ℕ) (A B : ℕ → ℕ) (D E : Cells) → Settles p l (after p 1 A D) (after p l B D) E → Settles p l A B (plus D E)
settles_plus p l A B D E g = record {
  common = g.common;
  first = λ t q. from₂ (sum_plus p 1 t D E) (g.first t q) (simp xors);
  second = λ t q. from₂ (sum_plus p l t D E) (g.second t q) (simp xors);
}

pub plus_settles : (p l : ℕ) (A B : ℕ → ℕ) (D E : Cells) → Settles p l A B (plus D E) → Settles p l (after p 1 A D) (after p l B D) E
plus_settles p l A B D E g = record {
  common = g.common;
  first = λ t q. from₂ (sum_plus p 1 t D E) (g.first t q) (simp xors);
  second = λ t q. from₂ (sum_plus p l t D E) (g.second t q) (simp xors);
}
